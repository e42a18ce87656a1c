use Rattle.std.proofs.Common.{◌≡◌, ◌++◌, drop, map}
use Rattle.std.specs.List.{flat_map}
use Rattle.app_file.specs.Limits.{utf8_length, screen_texts}
use Rattle.app_file.proofs.limits.text_counts.Given as goal

abbrev pub invariant-loop-screen : goal.invariant-loop-screen
invariant-loop-screen l =
    l.counts.items ++ map utf8_length (flat_map screen_texts (drop l.screen-index l.screen-items)) ≡ l.initial.counts.items ++ map utf8_length (flat_map screen_texts l.screen-items)
