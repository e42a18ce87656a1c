-- What the functions that change state are, of their parts.
use Rattle.std.specs.Prelude.{◌≡◌, ℕ, List, [], ◌∷◌, Bool, true, codes, Option, Some, None}
use Rattle.fx_types.specs.TypeView.{shape}
use Rattle.fx_types.specs.Types.{Shape, blanks, numbers, texts, records, tables, ColumnList}
use Rattle.fx_types.specs.Types.{no_columns, column}
use Rattle.fx_core.specs.declared.deeds.Deed.TheVariants as deed
use Rattle.fx_core.specs.declared.deeds.Target.{Target}
use Rattle.fx_core.specs.declared.deeds.Target.TheVariants as rows
use Rattle.fx_core.specs.declared.functions.Acting.{Acting}
use Rattle.fx_core.specs.declared.functions.Acting.TheVariants as acts
use Rattle.fx_core.specs.declared.functions.Fun.TheVariants as fun
use Rattle.fx_core.specs.declared.sources.Source.{Source}
use Rattle.fx_core.specs.declared.sources.Source.TheVariants as source
use Rattle.fx_core.specs.Controls.{input_type}
use Rattle.fx_core.specs.declared.names.Collection.{Collection}
use Rattle.fx_core.specs.declared.names.ControlName.{ControlName}
use Rattle.fx_core.specs.declared.names.Names.{Names}
use Rattle.fx_core.specs.declared.names.Variable.{Variable}
use Rattle.fx_core.specs.Term.{Term, of, nil, all, read, act}
use Rattle.fx_core.specs.ColumnLists.{field_in}
use Rattle.fx_typing.specs.Local.{value, coerced, firsts}
use Rattle.fx_typing.specs.Meaning.{Place}
use Rattle.fx_typing.specs.WellTyped.{target_source}
use Rattle.fx_typing.specs.Ways.{way}
use Rattle.fx_typing.specs.Builds.{is_bounded}
use Rattle.fx_typing.specs.Deeds.{as_rows, done_by, nothing_done, joins_to, given_sources}
use Rattle.fx_typing.specs.Deeds.{given_terms, rows_collected, leaves_id, row_of_one}
use Rattle.fx_typing.specs.Parts.{JudgedPart, target, assigned, pieces}
use Rattle.fx_typing.specs.Targets.{AreRows, global_variable, screen_variable, collection_named}
use Rattle.fx_typing.specs.Targets.{screen_named, control_named, rows_named}
use Rattle.fx_typing.specs.Functions.{Becomes, Calls}
use Rattle.fx_typing.specs.Records.{AreValueParts}

-- a value that a variable of this type is given: it joins to exactly this type
pub data IsAssignable (t : Shape) : Term × Shape → Term × Shape → Type 0 where
  given_as : {c d : Term} {u : Shape} → joins_to t u ≡ true → Becomes (way u t) c t d
      → IsAssignable t (c, u) (d, t)

-- a variable of a type that keeps to the limits
abbrev pub IsWithinLimits : Option (ℕ × Variable) → Type 0
IsWithinLimits (Some v) = is_bounded (shape v.1.ty) ≡ true
IsWithinLimits None = ⊥

-- names of such variables of a screen
abbrev pub AreOnScreen : Names → Option ℕ → List (List ℕ) → Type 0
AreOnScreen n s [] = Unit {0}
AreOnScreen n s (m ∷ ms) = IsWithinLimits (screen_variable n s m) × AreOnScreen n s ms

-- variables of a screen with their values, in the order in which they are written
pub data GivenAll (n : Names) (s : Option ℕ) : List (List ℕ) → List (Term × Shape)
    → List (Source × Term) → Type 0 where
  no_names : {xs : List (Term × Shape)} → GivenAll n s [] xs []
  no_values_left : {m : List ℕ} {ms : List (List ℕ)} → GivenAll n s (m ∷ ms) [] []
  one_given : {m : List ℕ} {ms : List (List ℕ)} {x y : Term × Shape} {xs : List (Term × Shape)}
      {k : ℕ} {v : Variable} {gs : List (Source × Term)} →
      screen_variable n s m ≡ Some (k, v) → IsAssignable (shape v.ty) x y → GivenAll n s ms xs gs →
      GivenAll n s (m ∷ ms) (x ∷ xs) ((source.Context k, y.0) ∷ gs)

-- collected values as rows that join to the collection's type
pub data Collected (t : Shape) : List (Term × Shape) → List (Term × Shape) → Type 0 where
  none_collected : Collected t [] []
  one_collected : {x y : Term × Shape} {xs ys : List (Term × Shape)}
      → IsAssignable t (rows_collected x) y → Collected t xs ys → Collected t (x ∷ xs) (y ∷ ys)

-- a row that is named for a change: on a table by its ID, in a collection by all that it has. One
-- of type Blank is a blank record.
pub data NamedRow (cs : ColumnList) : Target → Term × Shape → Term × Shape → Type 0 where
  by_number : {k : ℕ} {c : Term} {ds : ColumnList} → field_in (codes "ID") ds ≡ Some numbers →
      NamedRow cs (rows.Table k) (c, records ds) (c, records ds)
  by_blank : {k : ℕ} {c : Term} {ds : ColumnList} → field_in (codes "ID") ds ≡ Some blanks →
      NamedRow cs (rows.Table k) (c, records ds) (c, records ds)
  no_row_of_table : {k : ℕ} {c : Term} →
      NamedRow cs (rows.Table k) (c, blanks) (
        coerced c
            (records (column (codes "ID") numbers no_columns)),
        records (column (codes "ID") numbers no_columns),
      )
  by_all : {k : ℕ} {c d : Term} {ds : ColumnList} → joins_to (records cs) (records ds) ≡ true
      → Becomes (way (records ds) (records cs)) c (records cs) d →
      NamedRow cs (rows.Gathered k) (c, records ds) (d, records cs)
  no_row_of_collection : {k : ℕ} {c : Term} → NamedRow cs (rows.Gathered k) (c, blanks)
      (coerced c (records cs), records cs)

-- a change: a record of some of the columns, ID of a table aside. One of type Blank has no fields.
pub data Change (cs : ColumnList) (t : Target) : Term × Shape → Term × Shape → Type 0 where
  some_columns : {c : Term} {ds : ColumnList} → joins_to (records cs) (records ds) ≡ true
      → leaves_id t ds ≡ true → Change cs t (c, records ds) (row_of_one c ds)
  no_change : {c : Term} → Change cs t (c, blanks)
      (row_of_one (coerced c (records no_columns)) no_columns)

-- each of some things as the one at its place among others
pub data Each {A B : Type 0} (R : A → B → Type 0) : List A → List B → Type 0 where
  none_each : Each R [] []
  one_each : {x : A} {y : B} {xs : List A} {ys : List B} → R x y → Each R xs ys
      → Each R (x ∷ xs) (y ∷ ys)

-- the rows of a table or a collection that meet conditions in the scope of each row
abbrev pub Filtered : Target → ColumnList → Option (List ℕ) → List JudgedPart → Term × Shape
    → Type 0
Filtered t cs a qs y = Calls fun.Filter (value a (of (read (target_source t)) nil) (tables cs)
    ∷ pieces qs) y

-- an acting call of these parts. But for Patch it answers true. On a collection of type Blank
-- nothing is done.
pub data ActingCallHasType (p : Place) : Acting → List JudgedPart → Term × Shape → Type 0 where
  set : {x : List ℕ} {qs : List JudgedPart} {v y : Term × Shape} {k : ℕ} {g : Variable}
      → AreValueParts qs (v ∷ []) →
      global_variable p.names x ≡ Some (k, g) → is_bounded (shape g.ty) ≡ true
      → IsAssignable (shape g.ty) v y → ActingCallHasType p acts.Set (target None x ∷ qs)
      (done_by (deed.Set k) (y.0 ∷ []))
  update_context : {s : ℕ} {ms : List (List ℕ)} {xs : List (Term × Shape)}
      {gs : List (Source × Term)} → p.screen ≡ Some s → AreOnScreen p.names p.screen ms →
      GivenAll p.names p.screen ms xs gs →
      ActingCallHasType p acts.UpdateContext (assigned ms xs ∷ [])
      (done_by (deed.UpdateContext (given_sources gs)) (given_terms gs))
  collect : {x : List ℕ} {qs : List JudgedPart} {v : Term × Shape} {vs ys : List (Term × Shape)}
      {k : ℕ} {c : Collection} → AreValueParts qs (v ∷ vs) →
      collection_named p.names x ≡ Some (k, c) → is_bounded (shape c.ty) ≡ true
      → Collected (shape c.ty) (v ∷ vs) ys
      → ActingCallHasType p acts.Collect (target None x ∷ qs)
      (done_by (deed.Collect k) (firsts ys))
  clear : {x : List ℕ} {qs : List JudgedPart} {k : ℕ} {c : Collection} {cs : ColumnList}
      → collection_named p.names x ≡ Some (k, c) →
      shape c.ty ≡ tables cs → ActingCallHasType p acts.Clear (target None x ∷ qs)
      (done_by (deed.Clear k) [])
  clear_nothing : {x : List ℕ} {qs : List JudgedPart} {k : ℕ} {c : Collection}
      → collection_named p.names x ≡ Some (k, c) →
      shape c.ty ≡ blanks → ActingCallHasType p acts.Clear (target None x ∷ qs) nothing_done
  clear_collect : {x : List ℕ} {qs : List JudgedPart} {v : Term × Shape}
      {vs ys : List (Term × Shape)} {k : ℕ} {c : Collection} → AreValueParts qs (v ∷ vs) →
      collection_named p.names x ≡ Some (k, c) → is_bounded (shape c.ty) ≡ true
      → Collected (shape c.ty) (v ∷ vs) ys
      → ActingCallHasType p acts.ClearCollect (target None x ∷ qs)
      (done_by (deed.ClearCollect k) (firsts ys))
  patch : {x : List ℕ} {qs : List JudgedPart} {t : Target} {cs : ColumnList} {blank : Bool}
      {base b : Term × Shape} {vs ys : List (Term × Shape)} → AreValueParts qs (base ∷ vs) →
      AreRows (rows_named p.names x) t cs blank → NamedRow cs t base b → Each (Change cs t) vs ys →
      ActingCallHasType p acts.Patch (target None x ∷ qs)
      (as_rows blank (of (act (deed.Patch t)) (all (b.0 ∷ firsts ys)), records cs))
  remove : {x : List ℕ} {qs : List JudgedPart} {t : Target} {cs : ColumnList} {blank : Bool}
      {vs ys : List (Term × Shape)} → AreValueParts qs vs →
      AreRows (rows_named p.names x) t cs blank → Each (NamedRow cs t) vs ys
      → ActingCallHasType p acts.Remove (target None x ∷ qs)
      (as_rows blank (done_by (deed.Remove t) (firsts ys)))
  remove_if : {a : Option (List ℕ)} {x : List ℕ} {qs : List JudgedPart} {t : Target}
      {cs : ColumnList} {blank : Bool} {f : Term × Shape} →
      AreRows (rows_named p.names x) t cs blank → Filtered t cs a qs f
      → ActingCallHasType p acts.RemoveIf (target a x ∷ qs)
      (as_rows blank (done_by (deed.RemoveIf t) (f.0 ∷ [])))
  update_if : {a : Option (List ℕ)} {x : List ℕ} {q : JudgedPart} {qs : List JudgedPart}
      {t : Target} {cs : ColumnList} {blank : Bool} {f v y : Term × Shape}
      → AreValueParts qs (v ∷ []) →
      AreRows (rows_named p.names x) t cs blank → Filtered t cs a (q ∷ []) f → Change cs t v y →
      ActingCallHasType p acts.UpdateIf (target a x ∷ q ∷ qs)
      (as_rows blank (done_by (deed.UpdateIf t) (f.0 ∷ y.0 ∷ [])))
  navigate : {x name : List ℕ} {qs : List JudgedPart} {k : ℕ}
      → screen_named p.names x ≡ Some (k, name)
      → ActingCallHasType p acts.Navigate (target None x ∷ qs) (done_by (deed.Navigate k) [])
  notify : {qs : List JudgedPart} {c d : Term} {u : Shape} → AreValueParts qs ((c, u) ∷ [])
      → Becomes (way u texts) c texts d → ActingCallHasType p acts.Notify qs
      (done_by deed.Notify (d ∷ []))
  reset : {x : List ℕ} {qs : List JudgedPart} {k : ℕ} {c : ControlName} {t : Shape}
      → control_named p.names x ≡ Some (k, c) → input_type c.kind ≡ Some t →
      ActingCallHasType p acts.Reset (target None x ∷ qs) (done_by (deed.Reset k) [])
  reset_nothing : {x : List ℕ} {qs : List JudgedPart} {k : ℕ} {c : ControlName}
      → control_named p.names x ≡ Some (k, c) → input_type c.kind ≡ None →
      ActingCallHasType p acts.Reset (target None x ∷ qs) nothing_done
