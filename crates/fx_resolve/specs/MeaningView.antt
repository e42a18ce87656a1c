-- What a place, and what a name means, are seen as.
use Rattle.std.specs.Prelude.{ℕ, List, Option, bytes_eq, option_map}
use Rattle.fx_types.specs.TypeView.{shape}
use Rattle.fx_core.specs.declared.sources.Source.TheVariants as source
use Rattle.fx_core.specs.declared.names.FormulaName.{FormulaName}
use Rattle.fx_core.specs.Term.{nil, of, read}
use Rattle.fx_typing.specs.Meaning as meaning
use Rattle.fx_typing.specs.declared.typed.Typed.{Typed}
use Rattle.fx_resolve.specs.declared.meanings.Meaning.{Meaning}
use Rattle.fx_resolve.specs.declared.meanings.Meaning.TheVariants.{Valued, Controlled, Screened}
use Rattle.fx_resolve.specs.declared.meanings.Meaning.TheVariants.{Enumerated}
use Rattle.fx_resolve.specs.declared.meanings.Place.{Place}

abbrev pub place_view : Place → meaning.Place
place_view p = record {
  names = p.names.now;
  screen = p.screen;
  gallery = p.gallery;
  settled = p.settled;
}

-- a value that a name means
abbrev pub as_valued : Typed → meaning.NameMeaning
as_valued t = meaning.valued t.core (shape t.ty)

-- a named formula, and what a name means among those
abbrev pub formula_meant : FormulaName → meaning.NameMeaning
formula_meant f = meaning.valued (of (read (source.Cell f.cell)) nil) (shape f.ty)

abbrev pub in_formulas : List FormulaName → List ℕ → Option meaning.NameMeaning
in_formulas fs x =
    option_map (λ (f : ℕ × FormulaName). formula_meant f.1)
    (meaning.first_match (λ (f : FormulaName). bytes_eq f.name x) 0 fs)

abbrev pub meaning_view : Meaning → meaning.NameMeaning
meaning_view (Valued t) = as_valued t
meaning_view (Controlled k c) = meaning.controlled k c.now
meaning_view Screened = meaning.screened
meaning_view (Enumerated e) = meaning.enumerated e
