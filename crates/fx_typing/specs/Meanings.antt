-- What a name means where it stands: one case for each kind of name.
use Rattle.std.specs.Prelude.{◌≡◌, ℕ, suc, List, ◌∷◌, Bool, true, false, codes, bytes_eq}
use Rattle.std.specs.Prelude.{encode_utf8_all, Option, Some, None}
use Rattle.fx_types.specs.TypeView.{shape}
use Rattle.fx_types.specs.Types.{Shape, tables}
use Rattle.fx_core.specs.declared.literals.Enumeration.{Enumeration}
use Rattle.fx_core.specs.declared.sources.Source.TheVariants as source
use Rattle.fx_core.specs.Literals.{enumeration_of}
use Rattle.fx_core.specs.declared.names.Collection.{Collection}
use Rattle.fx_core.specs.declared.names.ControlName.{ControlName}
use Rattle.fx_core.specs.declared.names.FormulaName.{FormulaName}
use Rattle.fx_core.specs.declared.names.Names.{Names}
use Rattle.fx_core.specs.declared.names.Variable.{Variable}
use Rattle.fx_core.specs.declared.schema.TableShape.{TableShape}
use Rattle.fx_core.specs.SourceTypes.{columns_of}
use Rattle.fx_core.specs.Term.{of, nil, cons, read, row, caught, dot}
use Rattle.fx_typing.specs.Columns.{field_shape, fault_type}
use Rattle.fx_typing.specs.Meaning.{Place, Scope, NameMeaning, valued, controlled, screened}
use Rattle.fx_typing.specs.Meaning.{enumerated, in_scopes, this_record, this_item, first_match}
use Rattle.fx_typing.specs.Meaning.{reserved}
use Rattle.fx_typing.specs.Targets.{global_variable, screen_variable, collection_named, table_named}
use Rattle.fx_typing.specs.Targets.{screen_named, control_named}

-- the named formula of this name, with its place
abbrev pub placed_formula_named : Names → List ℕ → Option (ℕ × FormulaName)
placed_formula_named n x = first_match (λ (f : FormulaName). bytes_eq f.name x) 0 n.formulas

-- in the scopes from the inside out: with an alias the alias alone, which is the whole row; else a
-- field
pub data InScopes (x : List ℕ) : ℕ → List Scope → NameMeaning → Type 0 where
  further_in : {k : ℕ} {r : Scope} {ss : List Scope} {m : NameMeaning} → InScopes x (suc k) ss m
      → InScopes x k (r ∷ ss) m
  by_alias : {k : ℕ} {r : Scope} {ss : List Scope} {a : List ℕ} → in_scopes (suc k) x ss ≡ None
      → r.alias ≡ Some a → bytes_eq a x ≡ true →
      InScopes x k (r ∷ ss) (valued (of (row k) nil) r.row_type)
  by_field : {k : ℕ} {r : Scope} {ss : List Scope} {t : Shape} → in_scopes (suc k) x ss ≡ None
      → r.alias ≡ None → field_shape x r.row_type ≡ Some t →
      InScopes x k (r ∷ ss) (valued (of (dot x) (cons (of (row k) nil) nil)) t)

-- among the global names: a name is of the first of these kinds that has it, and in a lawful app of
-- one
pub data IsGlobal (n : Names) (x : List ℕ) : NameMeaning → Type 0 where
  a_variable : {k : ℕ} {v : Variable} → global_variable n x ≡ Some (k, v)
      → IsGlobal n x (valued (of (read (source.Global k)) nil) (shape v.ty))
  a_collection : {k : ℕ} {c : Collection} → global_variable n x ≡ None
      → collection_named n x ≡ Some (k, c) →
      IsGlobal n x (valued (of (read (source.Gathered k)) nil) (shape c.ty))
  a_formula : {k : ℕ} {f : FormulaName} → global_variable n x ≡ None → collection_named n x ≡ None
      → placed_formula_named n x ≡ Some (k, f) →
      IsGlobal n x (valued (of (read (source.Cell f.cell)) nil) (shape f.ty))
  a_table : {k : ℕ} {t : TableShape} → global_variable n x ≡ None → collection_named n x ≡ None
      → placed_formula_named n x ≡ None →
      table_named n x ≡ Some (k, t) → IsGlobal n x
      (valued (of (read (source.Table k)) nil) (tables (columns_of t)))
  a_control : {k : ℕ} {c : ControlName} → global_variable n x ≡ None → collection_named n x ≡ None
      → placed_formula_named n x ≡ None →
      table_named n x ≡ None → control_named n x ≡ Some (k, c) → IsGlobal n x (controlled k c)
  a_screen : {k : ℕ} {s : List ℕ} → global_variable n x ≡ None → collection_named n x ≡ None
      → placed_formula_named n x ≡ None →
      table_named n x ≡ None → control_named n x ≡ None → screen_named n x ≡ Some (k, s)
      → IsGlobal n x screened

-- names that no app declares
pub data IsReserved (p : Place) (scopes : List Scope) (catches : Bool) (x : List ℕ) : NameMeaning
    → Type 0 where
  the_record : {m : NameMeaning} → bytes_eq x (codes "ThisRecord") ≡ true
      → this_record 0 scopes ≡ Some m → IsReserved p scopes catches x m
  the_item : {m : NameMeaning} → bytes_eq x (codes "ThisRecord") ≡ false
      → bytes_eq x (codes "ThisItem") ≡ true →
      this_item p.names p.gallery ≡ Some m → IsReserved p scopes catches x m
  the_error : bytes_eq x (codes "ThisRecord") ≡ false → bytes_eq x (codes "ThisItem") ≡ false
      → bytes_eq x (codes "FirstError") ≡ true →
      catches ≡ true → IsReserved p scopes catches x (valued (of caught nil) fault_type)
  an_enumeration : {e : Enumeration} → bytes_eq x (codes "ThisRecord") ≡ false
      → bytes_eq x (codes "ThisItem") ≡ false →
      bytes_eq x (codes "FirstError") ≡ false → enumeration_of (encode_utf8_all x) ≡ Some e
      → IsReserved p scopes catches x (enumerated e)

-- in the scopes, else as a name that no app declares, else as a variable of the formula's screen,
-- else among the global names
pub data NameMeans (p : Place) (scopes : List Scope) (catches : Bool) (x : List ℕ) : NameMeaning
    → Type 0 where
  of_a_scope : {m : NameMeaning} → InScopes x 0 scopes m → NameMeans p scopes catches x m
  of_the_language : {m : NameMeaning} → in_scopes 0 x scopes ≡ None
      → IsReserved p scopes catches x m → NameMeans p scopes catches x m
  of_the_screen : {k : ℕ} {v : Variable} → in_scopes 0 x scopes ≡ None
      → reserved p scopes catches x ≡ None → screen_variable p.names p.screen x ≡ Some (k, v) →
      NameMeans p scopes catches x (valued (of (read (source.Context k)) nil) (shape v.ty))
  of_the_app : {m : NameMeaning} → in_scopes 0 x scopes ≡ None → reserved p scopes catches x ≡ None
      → screen_variable p.names p.screen x ≡ None →
      IsGlobal p.names x m → NameMeans p scopes catches x m
