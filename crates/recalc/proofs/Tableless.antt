-- The formulas of an app without tables read none.
use Rattle.std.proofs.Common.{◌≡◌, ℕ, List, [], ◌∷◌, false, None, Some, inl, inr, refl, sym, ap, ◌∙◌, slice_get}
use Rattle.std.specs.Prelude.{option_map}
use Rattle.app_semantics.specs.app_cells.declared.app.App.{App}
use Rattle.app_semantics.proofs.Typings.{typed_read}
use Rattle.app_semantics.specs.Fresh.{reads_table}
use Rattle.app_semantics.specs.Sound.{IsSoundApp, context_at}
use Rattle.fx_types.specs.TypeView.{shape}
use Rattle.fx_types.specs.Types.{Shape, tables}
use Rattle.fx_core.specs.Reads.{IsAmong}
use Rattle.fx_core.specs.SourceTypes.{columns_of, sources}
use Rattle.fx_core.specs.declared.names.Names.{Names}
use Rattle.fx_core.specs.declared.schema.TableShape.{TableShape}
use Rattle.fx_core.specs.declared.sources.Source.{Source}
use Rattle.fx_core.specs.declared.sources.Source.TheVariants as source
use Rattle.recalc.specs.Asking.{ReadsNone}

-- no table has a type there
untyped : (n : Names) (k : ℕ) (t : Shape) → n.schema.tables ≡ [] → sources n (source.Table k) ≡ Some t → ⊥
untyped n k t e f =
    let none : sources n (source.Table k) ≡ None = ap (λ (ts : List TableShape). option_map (λ (x : TableShape). tables (columns_of x)) (slice_get ts k)) e in
    let no : None ≡ Some t = sym none ∙ f in cc

abbrev HasType : Names → Source → Type 0
HasType n s = (t : Shape) × (sources n s ≡ Some t)

none_read : (n : Names) → n.schema.tables ≡ [] → (reads : List Source) → ((s : Source) → IsAmong s reads → HasType n s) → reads_table reads ≡ false
none_read n e [] typed = refl
none_read n e (source.Table k ∷ rs) typed = let it = typed (source.Table k) (inl refl) in absurd (untyped n k it.0 e it.1)
none_read n e (source.Cell k ∷ rs) typed = none_read n e rs (λ s a. typed s (inr a))
none_read n e (source.Global k ∷ rs) typed = none_read n e rs (λ s a. typed s (inr a))
none_read n e (source.Context k ∷ rs) typed = none_read n e rs (λ s a. typed s (inr a))
none_read n e (source.Gathered k ∷ rs) typed = none_read n e rs (λ s a. typed s (inr a))
none_read n e (source.Input k ∷ rs) typed = none_read n e rs (λ s a. typed s (inr a))
none_read n e (source.Chosen k ∷ rs) typed = none_read n e rs (λ s a. typed s (inr a))
none_read n e (source.Today ∷ rs) typed = none_read n e rs (λ s a. typed s (inr a))

-- what a formula reads has a type
pub reads_none : (a : App) → IsSoundApp a → a.names.schema.tables ≡ [] → ReadsNone a
reads_none a sound e k c there =
    let cell = sound.cells k c there in
    none_read a.names e c.reads (λ s among. typed_read c.core (context_at a.names c.cell.item) (shape c.ty) s cell.typed ((cell.reads s).0 among))
