-- Plans: the query of a sketch, with constants in their places.
use Rattle.std.specs.Prelude.{◌≡◌, ℕ, ◌≤◌, Bool, true, false, List, length, Option, Some, IfSome}
use Rattle.std.specs.Prelude.{slice_get}
use Rattle.std.specs.List.{list_any}
use Rattle.fx_types.specs.Types.{Shape, booleans, texts}
use Rattle.fx_types.specs.Values.{Data, fault}
use Rattle.fx_core.specs.declared.schema.TableShape.{TableShape}
use Rattle.fx_core.specs.Lawful.{IsLawfulTable}
use Rattle.fx_plan.specs.declared.plans.Sketch.{Sketch}
use Rattle.fx_plan.specs.declared.ranges.Reach.{Reach}
use Rattle.fx_plan.specs.Outlines.{IsWithin, filled}
use Rattle.fx_plan.specs.Ranges.{Compares, IsReach, column_type, everything}
use Rattle.fx_value.specs.Fits.{fits_in}
use Rattle.row_queries.specs.Conditions.{Condition, ConditionList, always, flag, constant, compares}
use Rattle.row_queries.specs.Conditions.{is_blank, starts, contains, all_of, any_of, opposite}
use Rattle.row_queries.specs.Conditions.{no_conditions, also}
use Rattle.row_queries.specs.declared.queries.Query.{Query}

abbrev pub is_fault : Data → Bool
is_fault (fault k cs) = true
is_fault d = false

-- columns are there and of the types that tests take, and constants fit them; a constant may be an
-- error
abbrev mutual
  pub Suits : TableShape → Condition → Type 0
  Suits t always = Unit {0}
  Suits t (flag k) = column_type t k ≡ Some booleans
  Suits t (constant d) = fits_in d booleans ≡ true
  Suits t (compares op k d) = (u : Shape) × (column_type t k ≡ Some u) × Compares op u
      × (fits_in d u ≡ true)
  Suits t (is_blank k) = (u : Shape) × (column_type t k ≡ Some u)
  Suits t (starts k d) = (column_type t k ≡ Some texts) × (fits_in d texts ≡ true)
  Suits t (contains k d) = (column_type t k ≡ Some texts) × (fits_in d texts ≡ true)
  Suits t (all_of cs) = AllSuit t cs
  Suits t (any_of cs) = AllSuit t cs
  Suits t (opposite c) = Suits t c

  pub AllSuit : TableShape → ConditionList → Type 0
  AllSuit t no_conditions = Unit {0}
  AllSuit t (also c cs) = Suits t c × AllSuit t cs

-- a sketch of a query of one of these tables, with a value for each of its constants
pub record CanPlan (tables : List TableShape) (s : Sketch) (ds : List Data) : Type 0 where
  pub table : TableShape
  pub is_table : slice_get tables s.table ≡ Some table
  pub lawful : IsLawfulTable table
  pub has_order : IfSome s.order (λ o. o.0 ≤ length table.columns)
  pub count : length ds ≡ length s.constants
  pub within : IsWithin (length ds) s.test
  pub suits : Suits table (filled ds s.test)

-- the ranges are everything where a constant is an error, and else those of the test
abbrev pub IsReachBy : Bool → TableShape → Condition → Reach → Type 0
IsReachBy true t test r = (r.column ≡ 0) × (r.ranges ≡ everything)
IsReachBy false t test r = IsReach t test r

abbrev pub reach_in : Query → Reach
reach_in q = record { column = q.column; ranges = q.ranges }

-- THE query of a sketch with these constants, which takes at most so many rows
pub record IsPlan (tables : List TableShape) (s : Sketch) (ds : List Data) (take : Option ℕ)
    (q : Query) : Type 0 where
  pub table : q.table ≡ s.table
  pub test : q.test ≡ filled ds s.test
  pub order : q.order ≡ s.order
  pub takes : q.take ≡ take
  pub ranges : (t : TableShape) → slice_get tables s.table ≡ Some t
      → IsReachBy (list_any is_fault ds) t (filled ds s.test) (reach_in q)
