-- The query of a plan gives the rows of its query expression.
use Rattle.std.specs.Prelude.{◌≡◌, ℕ, List, length, map, Option, None, Some, slice_get, false}
use Rattle.std.specs.List.{All, list_any}
use Rattle.fx_types.specs.Values.{Data}
use Rattle.fx_core.specs.declared.schema.TableShape.{TableShape}
use Rattle.fx_core.specs.declared.sources.Source.TheVariants as source
use Rattle.fx_core.specs.Lawful.{IsLawfulTable}
use Rattle.fx_core.specs.Term.{Term, all}
use Rattle.fx_plan.specs.declared.plans.Sketch.{Sketch}
use Rattle.fx_plan.specs.Plans.{IsPlan, is_fault}
use Rattle.fx_plan.specs.QueryExpressions.{sketch_of}
use Rattle.fx_semantics.specs.Around.{Around, AreValues, inside}
use Rattle.fx_semantics.specs.Fresh.{IsValue, meanings}
use Rattle.row_queries.specs.declared.queries.Query.{Query}
use Rattle.row_queries.specs.declared.rows.Row.{Row}
use Rattle.row_queries.specs.Queries.{AreAsked, IsQuery, first_outcome_fault, first_of, given_of}
use Rattle.row_queries.specs.Queries.{outcome_on}
use Rattle.row_queries.specs.TableRows.{AreHeldRows, IsRowOf, rows_table}
use Rattle.fx_plan.specs.Settings.{EvalSetting, setting_around}

-- a query planned of a query expression that stands here, over the rows of its table: its table's
-- source gives these rows, its constants have values in whatever stands in the row's place, and
-- none of them is an error
pub record IsPlanned (a : EvalSetting) (ts : List TableShape) (t : TableShape) (q : Term)
    (s : Sketch) (take : Option ℕ) (query : Query) (rows : List Row) : Type 0 where
  pub lawful : IsLawfulTable t
  pub is_table : slice_get ts s.table ≡ Some t
  pub held : AreHeldRows t rows
  pub gives : (setting_around a).gives (source.Table s.table) (rows_table t rows)
  pub sketched : sketch_of ts (length a.rows) q ≡ Some s
  pub place : Data
  pub constants : List Data
  pub values : AreValues (meanings (all s.constants)) (inside (setting_around a) place) constants
  pub faultless : list_any is_fault constants ≡ false
  pub plan : IsPlan ts s constants take query
  pub can : IsQuery ts query

-- what a query gives of the rows that it asks are the first so many of a query expression's rows,
-- and its test is no error on any of them
pub record GivesWhole (t : TableShape) (a : Around) (q : Term) (take : Option ℕ) (query : Query)
    (asked : List Row) : Type 0 where
  pub whole : List Row
  pub is_whole : IsValue a q (rows_table t whole)
  pub fit : All (IsRowOf t) whole
  pub given : given_of query asked ≡ first_of take whole
  pub sound : first_outcome_fault (map (outcome_on query) asked) ≡ None

-- THE law: a planned query gives the rows of its query expression, layer by layer from the inside,
-- in their order, or the first `take` of them
abbrev pub PlansAreWhole : Type 0
PlansAreWhole =
    (a : EvalSetting) (ts : List TableShape) (t : TableShape) (q : Term) (s : Sketch)
    (take : Option ℕ) (query : Query) (rows asked : List Row) →
    IsPlanned a ts t q s take query rows → AreAsked query rows asked
    → GivesWhole t (setting_around a) q take query asked
