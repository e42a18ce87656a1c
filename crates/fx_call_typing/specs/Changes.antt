-- Rows that change.
use Rattle.std.specs.Prelude.{ℕ, Bool, true, false, List, [], ◌∷◌, Option, Some, None, Result, Ok}
use Rattle.std.specs.Prelude.{Err}
use Rattle.fx_types.specs.Types.{Shape, blanks, tables, ColumnList, no_columns, column_list}
use Rattle.fx_core.specs.declared.deeds.Target.{Target}
use Rattle.fx_core.specs.declared.names.Names.{Names}
use Rattle.fx_core.specs.Rules.{rule_number}
use Rattle.fx_core.specs.declared.rule.Rule.{Rule}
use Rattle.fx_core.specs.Term.{Term}
use Rattle.fx_core.specs.declared.deeds.Deed.TheVariants as deed
use Rattle.fx_core.specs.Rules as rules
use Rattle.fx_core.specs.ColumnLists.{and_then}
use Rattle.fx_typing.specs.Local.{firsts}
use Rattle.fx_typing.specs.Deeds.{as_rows, filter_of, done_by, row_typed, rows_named_by, changes_of}
use Rattle.fx_typing.specs.Parts.{JudgedPart, lowest}
use Rattle.fx_typing.specs.Targets.{rows_named}
use Rattle.fx_call_typing.specs.declared.changing.Changing.{Changing}

abbrev pub changing_view : Changing → Target × ColumnList
changing_view r = (r.target, column_list r.columns)

abbrev pub found_view : Changing × Bool → (Target × ColumnList) × Bool
found_view r = (changing_view r.0, r.1)

-- rows with their columns, and whether they are those of a collection of type Blank, which has no
-- rows
abbrev pub rows_with_columns : Option (Target × Shape) → Result ((Target × ColumnList) × Bool) ℕ
rows_with_columns (Some (t, tables cs)) = Ok ((t, cs), false)
rows_with_columns (Some (t, blanks)) = Ok ((t, no_columns), true)
rows_with_columns (Some r) = Err rules.wrong_type
rows_with_columns None = Err rules.not_a_variable

-- what is made of them
abbrev pub settled : Bool → Result (Term × Shape) ℕ → Result (Term × Shape) ℕ
settled b r = and_then r (λ y. Ok (as_rows b y))

abbrev pub rows_to_change : Names → List ℕ → Result ((Target × ColumnList) × Bool) ℕ
rows_to_change n x = rows_with_columns (rows_named n x)

-- what comes behind a test, or the rule that the test found broken
abbrev pub unless_broken : Option Rule → Result (Term × Shape) ℕ → Result (Term × Shape) ℕ
unless_broken None r = r
unless_broken (Some rule) r = Err (rule_number rule)

-- the trees of a row that is patched and of what changes in it
abbrev pub patched : Target × ColumnList → Term × Shape → List (Term × Shape) → Result (List Term) ℕ
patched r base changes = lowest (λ b ys. b.0 ∷ firsts ys) (row_typed r.0 r.1 base)
    (changes_of r.0 r.1 changes)

-- the rows that are removed
abbrev pub removed : Target × ColumnList → List (Term × Shape) → Result (Term × Shape) ℕ
removed r xs = and_then (rows_named_by r.0 r.1 xs)
    (λ ys. Ok (done_by (deed.Remove r.0) (firsts ys)))

-- the filtered rows of a table that are taken away
abbrev pub removed_from : Target × ColumnList → Option (List ℕ) → List JudgedPart
    → Result (Term × Shape) ℕ
removed_from r a qs = and_then (filter_of r a qs) (λ f. Ok (done_by (deed.RemoveIf r.0) (f.0 ∷ [])))
