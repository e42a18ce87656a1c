use Rattle.std.proofs.Common.{◌≡◌, drop, bytes_eq}
use Rattle.app_names.specs.Decided.{are_distinct, function_names}
use Rattle.app_names.proofs.distinct.are_distinct_functions.Given as goal

abbrev pub invariant-loop-place : goal.invariant-loop-place
invariant-loop-place l = are_distinct bytes_eq (function_names (drop l.place l.functions)) ≡ are_distinct bytes_eq (function_names l.functions)
