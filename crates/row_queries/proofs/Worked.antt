-- Worked rows of what row tests come to, and of ranges.
use Rattle.std.proofs.Common.{◌≡◌, ℕ, pos, negsuc, List, [], ◌∷◌, true, false, Some, refl}
use Rattle.fx_types.specs.declared.comparisons.Cmp.TheVariants.{Eq, Lt, Gt}
use Rattle.fx_types.specs.declared.faults.Kind.TheVariants.{Div0, Custom}
use Rattle.fx_types.specs.Values.{Data, blank, number, text, fault}
use Rattle.fx_value.specs.Keys.{key_bytes}
use Rattle.row_queries.specs.Conditions.{Condition, flag, constant, compares, is_blank, all_of, any_of, opposite, no_conditions, also}
use Rattle.row_queries.specs.Queries.{first_outcome_fault, first_of}
use Rattle.row_queries.specs.Ranges.{in_ranges}
use Rattle.row_queries.specs.RowTests.{outcome, met, unmet, failed}
use Rattle.row_queries.specs.TableRows.{id_value}
use Rattle.row_queries.specs.declared.ranges.KeyRange.{KeyRange}

abbrev one : Data
one = number (pos 10000)

abbrev two : Data
two = number (pos 20000)

-- the third row of a table, with one cell
abbrev third : Data → List Data
third d = id_value 3 ∷ d ∷ []

abbrev division_by_zero : Data
division_by_zero = fault Div0 []

-- A = 1 && 1/0
abbrev one_and_error : Condition
one_and_error = all_of (also (compares Eq 1 one) (also (constant division_by_zero) no_conditions))

where_one_differs : outcome (third two) one_and_error ≡ unmet
where_one_differs = refl

where_it_is_one : outcome (third one) one_and_error ≡ failed Div0 []
where_it_is_one = refl

-- A = 1 || 1/0
or_ends_at_true : outcome (third one) (any_of (also (compares Eq 1 one) (also (constant division_by_zero) no_conditions))) ≡ met
or_ends_at_true = refl

first_error_stands : outcome (third one) (all_of (also (compares Lt 1 (fault Custom [])) (also (constant division_by_zero) no_conditions))) ≡ failed Custom []
first_error_stands = refl

blank_is_not_true : outcome (third blank) (flag 1) ≡ unmet
blank_is_not_true = refl

not_blank_is_true : outcome (third blank) (opposite (flag 1)) ≡ met
not_blank_is_true = refl

-- in `< <= > >=` a blank number is 0, and by `=` it equals blank alone
blank_is_below_one : outcome (third blank) (compares Lt 1 one) ≡ met
blank_is_below_one = refl

blank_is_no_zero : outcome (third blank) (compares Eq 1 (number (pos 0))) ≡ unmet
blank_is_no_zero = refl

ids_are_numbers : outcome (third blank) (compares Gt 0 two) ≡ met
ids_are_numbers = refl

empty_texts_are_blank : outcome (third (text [])) (is_blank 1) ≡ met
empty_texts_are_blank = refl

no_tests_are_met : outcome (third blank) (all_of no_conditions) ≡ met
no_tests_are_met = refl

none_of_no_tests_is_met : outcome (third blank) (any_of no_conditions) ≡ unmet
none_of_no_tests_is_met = refl

-- from 1 up to but without 2
abbrev ones : List KeyRange
ones = record { from = key_bytes one; upto = Some (key_bytes two) } ∷ []

one_is_in : in_ranges ones (key_bytes one) ≡ true
one_is_in = refl

two_is_behind : in_ranges ones (key_bytes two) ≡ false
two_is_behind = refl

below_zero_is_before : in_ranges ones (key_bytes (number (negsuc 0))) ≡ false
below_zero_is_before = refl

blank_is_before : in_ranges ones (key_bytes blank) ≡ false
blank_is_before = refl

the_first_error : first_outcome_fault (met ∷ unmet ∷ failed Div0 [] ∷ failed Custom [] ∷ []) ≡ Some (record { kind = Div0; message = [] })
the_first_error = refl

at_most_two : first_of {A = ℕ} (Some 2) (7 ∷ 8 ∷ 9 ∷ []) ≡ 7 ∷ 8 ∷ []
at_most_two = refl
