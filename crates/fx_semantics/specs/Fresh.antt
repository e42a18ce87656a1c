-- The value of a typed tree, by recursion on the tree: what a node means is made of what its parts
-- mean.
use Rattle.std.specs.Prelude.{◌≡◌, ℕ, List, [], ◌∷◌, Some, slice_get}
use Rattle.fx_types.specs.Types.{tables}
use Rattle.fx_types.specs.Values.{Data, blank, rec, fault, FieldList, no_fields, field}
use Rattle.fx_core.specs.declared.functions.Fun.{Fun}
use Rattle.fx_core.specs.declared.functions.Fun.TheVariants as fun
use Rattle.fx_scalar.specs.ScalarFunctions.{IsAnswer}
use Rattle.fx_tables.specs.Unions.{union_of}
use Rattle.fx_core.specs.Term.{Term, Terms, of, nil, cons, Top}
use Rattle.fx_core.specs.Term as top
use Rattle.fx_core.specs.ColumnLists.{row_columns}
use Rattle.fx_value.specs.Coercion.{IsCoerced, field_or_blank}
use Rattle.fx_scalar.specs.LazyForms.{ErrorOr}
use Rattle.fx_semantics.specs.Around.{Around, Meaning, AreValues, inside}
use Rattle.fx_semantics.specs.Errors.{IsCaught}
use Rattle.fx_semantics.specs.Forms.{IsCoalesced, IsFormed}
use Rattle.fx_semantics.specs.Rows.{IsTableCall}

-- R holds of the value of the one part
abbrev pub OfOne : List Meaning → Around → (Data → Type 0) → Type 0
OfOne (P ∷ []) a R = (d : Data) × P a d × R d
OfOne Ps a R = ⊥

-- R holds of the values of all parts
abbrev pub OfAll : List Meaning → Around → (List Data → Type 0) → Type 0
OfAll Ps a R = (ds : List Data) × AreValues Ps a ds × R ds

-- a field of a record; of a blank record blank, and of an error the error
abbrev pub field_of : List ℕ → Data → Data
field_of n (rec fs) = field_or_blank n fs
field_of n (fault k cs) = fault k cs
field_of n d = blank

-- the fields of a record: errors stay in them
abbrev pub fields_by : List (List ℕ) → List Data → FieldList
fields_by (n ∷ ns) (d ∷ ds) = field n d (fields_by ns ds)
fields_by ns ds = no_fields

-- a function of values: all its arguments are evaluated, but those that `Coalesce` doesn't reach
abbrev pub IsCalled : Fun → List Meaning → Meaning
IsCalled fun.Coalesce Ps a v = IsCoalesced Ps a v
IsCalled f Ps a v = OfAll Ps a (λ ds. IsAnswer f ds v)

-- `With`: a formula in the scope of a record; an error in the record's place is the answer
abbrev pub IsWithin : List Meaning → Meaning
IsWithin (P ∷ F ∷ []) a v = (w : Data) × P a w × ErrorOr w (F (inside a w) v) v
IsWithin Ps a v = ⊥

-- what a node means, by its head and the meanings of its parts. A part that acts has no value here,
-- and neither has a call of a function of the app's own, which is expanded before anything is
-- evaluated.
abbrev pub IsNode : Top → List Meaning → Meaning
IsNode (top.const d) Ps a v = v ≡ d
IsNode (top.read s) Ps a v = a.gives s v
IsNode (top.row k) Ps a v = slice_get a.rows k ≡ Some v
IsNode top.item Ps a v = a.item ≡ Some v
IsNode top.caught Ps a v = IsCaught a.caught v
IsNode (top.dot n) Ps a v = OfOne Ps a (λ d. v ≡ field_of n d)
IsNode (top.call f) Ps a v = IsCalled f Ps a v
IsNode (top.over f) Ps a v = IsTableCall f Ps a v
IsNode (top.user f) Ps a v = ⊥
IsNode (top.form f) Ps a v = IsFormed f Ps a v
IsNode top.within Ps a v = IsWithin Ps a v
IsNode (top.rec ns) Ps a v = OfAll Ps a (λ ds. v ≡ rec (fields_by ns ds))
IsNode (top.list t) Ps a v = OfAll Ps a (λ ds. v ≡ union_of (tables (row_columns t)) ds)
IsNode (top.coerce t) Ps a v = OfOne Ps a (λ d. IsCoerced d t v)
IsNode top.chain Ps a v = ⊥
IsNode (top.act d) Ps a v = ⊥

abbrev mutual
  -- what a tree means
  pub meaning : Term → Meaning
  meaning (of h ts) = IsNode h (meanings ts)

  pub meanings : Terms → List Meaning
  meanings nil = []
  meanings (cons t ts) = meaning t ∷ meanings ts

-- THE value of a tree where it stands
abbrev pub IsValue : Around → Term → Data → Type 0
IsValue a t v = meaning t a v
