-- THE relation: which formulas have which typed trees and types. It judges a tree, and makes none.
use Rattle.std.specs.Prelude.{ℕ, suc, List, [], ◌∷◌, Bool, true, false, Option, Some, None}
use Rattle.fx_types.specs.Types.{Shape, tables, ColumnList, no_columns}
use Rattle.fx_core.specs.Tree.{Tree, node, Forest, none, more, Head}
use Rattle.fx_core.specs.Term.{Term}
use Rattle.fx_typing.specs.Local.{value}
use Rattle.fx_typing.specs.Meaning.{Place, or_else}
use Rattle.fx_typing.specs.Ways.{way}
use Rattle.fx_typing.specs.Parts.{Grant, nothing, acting, JudgedPart, piece, Setting, part_count}
use Rattle.fx_typing.specs.Functions.{Becomes}
use Rattle.fx_typing.specs.Nodes.{Node}
use Rattle.fx_typing.specs.Places.{part_setting}

mutual
  -- a formula, where it stands, is this: its parts are, each where it stands, and so is the node
  pub data Elaborates (p : Place) : Setting → Tree → JudgedPart → Type 0 where
    a_node : {s : Setting} {at : ℕ} {h : Head} {ts : Forest} {qs : List JudgedPart} {q : JudgedPart}
        →
        PartsElaborate p s h (part_count ts) 0 None ts qs → Node p s h qs q
        → Elaborates p s (node at h ts) q

  -- the parts of a head from a place on, of so many, behind the first part if it is one of those
  -- before
  pub data PartsElaborate (p : Place) : Setting → Head → ℕ → ℕ → Option JudgedPart → Forest
      → List JudgedPart → Type 0 where
    no_more : {s : Setting} {h : Head} {n i : ℕ} {first : Option JudgedPart}
        → PartsElaborate p s h n i first none []
    one_more : {s : Setting} {h : Head} {n i : ℕ} {first : Option JudgedPart} {k : Tree}
        {ks : Forest} {q : JudgedPart} {qs : List JudgedPart} →
        Elaborates p (part_setting p.names s h n i first) k q
        → PartsElaborate p s h n (suc i) (or_else first (Some q)) ks qs →
        PartsElaborate p s h n i first (more k ks) (q ∷ qs)

mutual
  -- a broken node, here or among the parts: all its parts are something, and it is nothing
  pub data IsNothing (p : Place) : Setting → Tree → ℕ → Type 0 where
    here : {s : Setting} {at : ℕ} {h : Head} {ts : Forest} {qs : List JudgedPart}
        → PartsElaborate p s h (part_count ts) 0 None ts qs →
        ((q : JudgedPart) → Elaborates p s (node at h ts) q → ⊥) → IsNothing p s (node at h ts) at
    among_parts : {s : Setting} {at w : ℕ} {h : Head} {ts : Forest}
        → HasNothing p s h (part_count ts) 0 None ts w → IsNothing p s (node at h ts) w

  pub data HasNothing (p : Place) : Setting → Head → ℕ → ℕ → Option JudgedPart → Forest → ℕ
      → Type 0 where
    this_part : {s : Setting} {h : Head} {n i w : ℕ} {first : Option JudgedPart} {k : Tree}
        {ks : Forest} →
        IsNothing p (part_setting p.names s h n i first) k w
        → HasNothing p s h n i first (more k ks) w
    later_part : {s : Setting} {h : Head} {n i w : ℕ} {first : Option JudgedPart} {k : Tree}
        {ks : Forest} {q : JudgedPart} →
        Elaborates p (part_setting p.names s h n i first) k q
        → HasNothing p s h n (suc i) (or_else first (Some q)) ks w →
        HasNothing p s h n i first (more k ks) w

-- a table, where every table is wanted
abbrev pub IsOneOfAll : Shape → Shape → Type 0
IsOneOfAll (tables no_columns) (tables cs) = Unit {0}
IsOneOfAll t u = ⊥

-- what is wanted of a whole formula: nothing; any table, by a table type without columns; or just
-- this type
pub data MeetsWanted : Option Shape → Term × Shape → Term × Shape → Type 0 where
  anything : {x : Term × Shape} → MeetsWanted None x x
  any_table : {c : Term} {cs : ColumnList} → MeetsWanted (Some (tables no_columns)) (c, tables cs)
      (c, tables cs)
  this_type : {c d : Term} {t u : Shape} → (IsOneOfAll t u → ⊥) → Becomes (way u t) c t d
      → MeetsWanted (Some t) (c, u) (d, t)

-- a whole formula stands in no scope, and may act or not
abbrev pub grant_of_whole : Bool → Grant
grant_of_whole true = acting
grant_of_whole false = nothing

abbrev pub whole_setting : Bool → Setting
whole_setting b = record { scopes = []; catches = false; grant = grant_of_whole b }

-- a whole formula, which stands in no scope and may act or not, has this tree and type
pub data FormulaElaborates (p : Place) (may_act : Bool) (wanted : Option Shape) (e : Tree) : Term
    × Shape → Type 0 where
  a_formula : {a : Option (List ℕ)} {c : Term} {t : Shape} {x : Term × Shape}
      → Elaborates p (whole_setting may_act) e (piece (value a c t)) →
      MeetsWanted wanted (c, t) x → FormulaElaborates p may_act wanted e x

-- where a formula begins
abbrev pub formula_begin : Tree → ℕ
formula_begin (node at h ts) = at

-- a whole formula that is nothing as it is wanted: a node of it is broken, or it is something that
-- isn't wanted
pub data FormulaIsNothing (p : Place) (may_act : Bool) (wanted : Option Shape) (e : Tree) : ℕ
    → Type 0 where
  at_a_node : {w : ℕ} → IsNothing p (whole_setting may_act) e w
      → FormulaIsNothing p may_act wanted e w
  as_wanted : {q : JudgedPart} → Elaborates p (whole_setting may_act) e q
      → ((x : Term × Shape) → FormulaElaborates p may_act wanted e x → ⊥) →
      FormulaIsNothing p may_act wanted e (formula_begin e)
