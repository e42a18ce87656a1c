use Rattle.std.proofs.Common.{◌≡◌, ◌++◌, drop, length, map}
use Rattle.std.specs.List.{flat_map}
use Rattle.app_file.specs.Limits.{names_of_screen, names_of_table}
use Rattle.app_file.proofs.limits.name_counts.Given as goal

abbrev pub invariant-loop-shape : goal.invariant-loop-shape
invariant-loop-shape l = l.counts.items ++ map length (flat_map names_of_table (drop l.shape-index l.shape-items)) ≡ map length (flat_map names_of_table l.shape-items)

abbrev pub invariant-loop-screen : goal.invariant-loop-screen
invariant-loop-screen l =
    l.counts.items ++ map length (flat_map names_of_screen (drop l.screen-index l.screen-items)) ≡ l.initial.counts.items ++ map length (flat_map names_of_screen l.screen-items)
