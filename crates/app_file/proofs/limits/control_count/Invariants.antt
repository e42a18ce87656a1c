use Rattle.std.proofs.Common.{◌≡◌, ◌++◌, drop, length, map}
use Rattle.std.specs.List.{flat_map}
use Rattle.app_file.specs.Limits.{names_of_controls}
use Rattle.app_file.proofs.limits.control_count.Given as goal

abbrev pub invariant-loop-screen : goal.invariant-loop-screen
invariant-loop-screen l = l.names.items ++ map length (flat_map names_of_controls (drop l.screen-index l.screen-items)) ≡ map length (flat_map names_of_controls l.screen-items)
