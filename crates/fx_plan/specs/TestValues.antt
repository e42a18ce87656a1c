-- What a row test says of the condition that it was made from.
use Rattle.std.specs.Prelude.{◌≡◌, List, [], length, Some}
use Rattle.fx_types.specs.Values.{Data}
use Rattle.fx_core.specs.declared.schema.TableShape.{TableShape}
use Rattle.fx_core.specs.Lawful.{IsLawfulTable}
use Rattle.fx_core.specs.Term.{Term, all}
use Rattle.fx_plan.specs.Outlines.{Outline, filled}
use Rattle.fx_plan.specs.QueryExpressions.{pattern_of}
use Rattle.fx_semantics.specs.Around.{Around, AreValues, inside}
use Rattle.fx_semantics.specs.Around.{record_of as row_record}
use Rattle.fx_semantics.specs.Fresh.{IsValue, meanings}
use Rattle.row_queries.specs.declared.rows.Row.{Row}
use Rattle.row_queries.specs.RowTests.{Outcome, decided_by, outcome}
use Rattle.row_queries.specs.TableRows.{IsRowOf, record_of_row, values_of}
use Rattle.fx_plan.specs.Settings.{EvalSetting, setting_around}

-- the scope of a row of a table
abbrev pub in_scope : Around → TableShape → Row → Around
in_scope a t r = inside a (row_record (record_of_row t r))

-- the condition has a value in the scope of the row, and the test comes to what that value decides:
-- true meets it, false and blank don't, and an error is the outcome
abbrev pub TestComesTo : Around → Term → Outcome → Type 0
TestComesTo a x o = (v : Data) × IsValue a x v × (o ≡ decided_by v)

-- THE law: where the constants of a condition have values, in whatever stands in the row's place,
-- the test of the condition's pattern with these constants comes to what the condition's value
-- decides, on each row
abbrev pub TestsAreConditions : Type 0
TestsAreConditions =
    (s : EvalSetting) (t : TableShape) (x : Term) (o : Outline) (cs : List Term) (d : Data)
    (ds : List Data) (r : Row) →
    IsLawfulTable t → pattern_of t (length s.rows) x [] ≡ Some (o, cs)
    → AreValues (meanings (all cs)) (inside (setting_around s) d) ds → IsRowOf t r →
    TestComesTo (in_scope (setting_around s) t r) x (outcome (values_of r) (filled ds o))
