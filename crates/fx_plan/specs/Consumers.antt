-- What the functions are worth that a keeper answers over all rows of a query expression.
use Rattle.std.specs.Prelude.{◌≡◌, ℕ, ℤ, List, length, map, None, Some}
use Rattle.fx_primitives.specs.Folds.{average_of}
use Rattle.fx_types.specs.Values.{Data}
use Rattle.fx_types.specs.declared.aggregates.Totals.{Totals}
use Rattle.fx_plan.specs.declared.plans.Sketch.{Sketch}
use Rattle.fx_plan.specs.QueryExpressions.{column_of}
use Rattle.fx_semantics.specs.Around.{Around}
use Rattle.fx_semantics.specs.Fresh.{IsValue, meaning}
use Rattle.fx_semantics.specs.Rows.{IsOfFound}
use Rattle.fx_tables.specs.AggregateCalls.{IsNumberOrBlank, IsSumValue, number_or_blank}
use Rattle.fx_value.specs.Aggregates.{IsGreatest, IsLeast, SumsUp}
use Rattle.fx_tables.specs.RowCalls.{IsCountValue}
use Rattle.fx_tables.specs.RowCalls.{first_row_record as first_row}
use Rattle.fx_core.specs.declared.functions.Fun.{Fun}
use Rattle.fx_core.specs.declared.functions.Fun.TheVariants as fun
use Rattle.fx_core.specs.declared.rows.Scalar.TheVariants.{Number}
use Rattle.fx_core.specs.declared.schema.TableShape.{TableShape}
use Rattle.fx_core.specs.Term.{Term, Terms, of, nil, cons}
use Rattle.fx_core.specs.Term as top
use Rattle.fx_plan.specs.Limited.{first_rows_of}
use Rattle.fx_plan.specs.Settings.{EvalSetting, setting_around}
use Rattle.fx_plan.specs.Wholes.{IsPlanned}
use Rattle.row_queries.specs.Answers.{table_or_fault}
use Rattle.row_queries.specs.declared.queries.Query.{Query}
use Rattle.row_queries.specs.declared.rows.Row.{Row}
use Rattle.row_queries.specs.declared.rows.RowList.{RowList}
use Rattle.row_queries.specs.Queries.{IsCounted, IsScanned, IsTotalled}
use Rattle.row_queries.specs.TableRows.{record_of_row}

-- a call over a query expression
abbrev pub over_query : Fun → Term → Terms → Term
over_query f q cs = of (top.over f) (cons q cs)

-- a scan of all rows is the value of the query expression
abbrev pub ScansAreValues : Type 0
ScansAreValues =
    (a : EvalSetting) (ts : List TableShape) (t : TableShape) (q : Term) (s : Sketch)
    (query : Query) (rows : List Row) (answer : RowList) →
    IsPlanned a ts t q s None query rows → IsScanned query rows answer
    → IsValue (setting_around a) q (table_or_fault t answer.rows answer.fault)

-- a scan of so many is that of its first rows
abbrev pub ScansAreFirstRows : Type 0
ScansAreFirstRows =
    (a : EvalSetting) (ts : List TableShape) (t : TableShape) (q : Term) (s : Sketch) (n : ℕ)
    (query : Query) (rows : List Row) (answer : RowList) →
    IsPlanned a ts t q s (Some n) query rows → IsScanned query rows answer
    → IsValue (setting_around a) (first_rows_of n q) (table_or_fault t answer.rows answer.fault)

-- a count is that of `CountRows`
abbrev pub CountsAreValues : Type 0
CountsAreValues =
    (a : EvalSetting) (ts : List TableShape) (t : TableShape) (q : Term) (s : Sketch)
    (query : Query) (rows : List Row) (n : ℕ) (v : Data) →
    IsPlanned a ts t q s None query rows → IsCounted query rows n → IsCountValue n v
    → IsValue (setting_around a) (over_query fun.CountRows q nil) v

-- the row of a scan of one, or blank where there is none, is that of `First`
abbrev pub FirstsAreValues : Type 0
FirstsAreValues =
    (a : EvalSetting) (ts : List TableShape) (t : TableShape) (q : Term) (s : Sketch)
    (query : Query) (rows : List Row) (answer : RowList) →
    IsPlanned a ts t q s (Some 1) query rows → IsScanned query rows answer
    → IsValue (setting_around a) (over_query fun.First q nil)
    (first_row (map (record_of_row t) answer.rows))

-- with the condition as one more filter it is what `LookUp` finds, and the scope of its formula
abbrev pub FoundAreValues : Type 0
FoundAreValues =
    (a : EvalSetting) (ts : List TableShape) (t : TableShape) (q c : Term) (s : Sketch)
    (query : Query) (rows : List Row) (answer : RowList) →
    IsPlanned a ts t (over_query fun.Filter q (cons c nil)) s (Some 1) query rows
    → IsScanned query rows answer →
    IsValue (setting_around a) (over_query fun.LookUp q (cons c nil))
    (first_row (map (record_of_row t) answer.rows))
    × ((f : Term) (v : Data) → IsOfFound (first_row (map (record_of_row t) answer.rows)) (meaning f)
    (setting_around a) v → IsValue (setting_around a)
    (over_query fun.LookUp q (cons c (cons f nil))) v)

-- what totals of numbers say of `Sum`, `Min`, `Max` and `Average` of a formula over a query
-- expression
pub record AreTotalsOf (a : Around) (q f : Term) (zs : List ℤ) : Type 0 where
  pub sum : (v : Data) → IsSumValue zs v → IsValue a (over_query fun.SumRows q (cons f nil)) v
  pub least : (v : Data) → IsNumberOrBlank (IsLeast zs) v
      → IsValue a (over_query fun.MinRows q (cons f nil)) v
  pub greatest : (v : Data) → IsNumberOrBlank (IsGreatest zs) v
      → IsValue a (over_query fun.MaxRows q (cons f nil)) v
  pub average : IsValue a (over_query fun.AverageRows q (cons f nil))
      (number_or_blank (average_of zs))

-- the totals of a column of numbers are these
abbrev pub TotalsAreValues : Type 0
TotalsAreValues =
    (a : EvalSetting) (ts : List TableShape) (t : TableShape) (q f : Term) (s : Sketch)
    (query : Query) (rows : List Row) (column : ℕ) (totals : Totals) →
    IsPlanned a ts t q s None query rows → column_of t (length a.rows) Number f ≡ Some column
    → IsTotalled query rows column totals →
    (zs : List ℤ) × SumsUp zs totals × AreTotalsOf (setting_around a) q f zs
