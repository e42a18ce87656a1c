use Rattle.std.proofs.Common.{◌≡◌, drop, bytes_eq}
use Rattle.app_names.specs.Decided.{is_new, function_names}
use Rattle.app_names.proofs.distinct.is_no_function.Given as goal

abbrev pub invariant-loop-function : goal.invariant-loop-function
invariant-loop-function l = is_new bytes_eq l.name (function_names (drop l.function-index l.functions)) ≡ is_new bytes_eq l.name (function_names l.functions)
