-- The constants of query expressions: the types that they have, where a tree is well typed.
use Rattle.std.specs.Prelude.{◌≡◌, ℕ, ◌++◌, List, [], ◌∷◌, length, Some, slice_get, false}
use Rattle.std.specs.List.{All}
use Rattle.fx_types.specs.Types.{Shape, records, tables}
use Rattle.fx_types.specs.Values.{Data}
use Rattle.fx_core.specs.declared.schema.TableShape.{TableShape}
use Rattle.fx_core.specs.declared.sources.Source.TheVariants as source
use Rattle.fx_core.specs.Lawful.{IsLawfulTable}
use Rattle.fx_core.specs.SourceTypes.{columns_of}
use Rattle.fx_core.specs.Term.{Term}
use Rattle.fx_typing.specs.Acts.{acts}
use Rattle.fx_typing.specs.WellTyped.{Context, IsTyped}
use Rattle.fx_plan.specs.declared.plans.Sketch.{Sketch}
use Rattle.fx_plan.specs.Plans.{CanPlan}
use Rattle.fx_plan.specs.QueryExpressions.{sketch_of}
use Rattle.fx_semantics.specs.Sound.{AreFit, IsLawfulTyping}

-- the type of a table's row
abbrev pub row_shape : TableShape → Shape
row_shape t = records (columns_of t)

-- inside one more scope, that of a table's row
abbrev pub in_row : Context → TableShape → Context
in_row c t = record c { rows = c.rows ++ row_shape t ∷ [] }

-- each table may be read, at its type
abbrev pub ReadsTables : List TableShape → Context → Type 0
ReadsTables ts c = (n : ℕ) (t : TableShape) → slice_get ts n ≡ Some t
    → c.sources (source.Table n) ≡ Some (tables (columns_of t))

-- a typing in which the columns of all types rise
abbrev pub HasType : Context → Term → Shape → Type 0
HasType c t u = (w : IsTyped c t u) × IsLawfulTyping c t u w

-- trees of these types, which don't act
abbrev pub HaveTypes : Context → List Term → List Shape → Type 0
HaveTypes c [] [] = Unit {0}
HaveTypes c (t ∷ ts) (u ∷ us) = HasType c t u × (acts t ≡ false) × HaveTypes c ts us
HaveTypes c ts us = ⊥

-- what a well typed query expression is, with its sketch: a table of its table's rows, whose
-- constants have types in the scope of a row, and whose sketch can be planned with values that fit
-- these
pub record IsSketched (c : Context) (ts : List TableShape) (u : Shape) (s : Sketch) : Type 0 where
  pub table : TableShape
  pub is_table : slice_get ts s.table ≡ Some table
  pub type : u ≡ tables (columns_of table)
  pub types : List Shape
  pub constants : HaveTypes (in_row c table) s.constants types
  pub plans : (ds : List Data) → AreFit ds types → CanPlan ts s ds

-- THE law: a well typed query expression is so
abbrev pub SketchesCanPlan : Type 0
SketchesCanPlan =
    (c : Context) (ts : List TableShape) (q : Term) (u : Shape) (s : Sketch) → All IsLawfulTable ts
    → ReadsTables ts c → HasType c q u →
    sketch_of ts (length c.rows) q ≡ Some s → IsSketched c ts u s
