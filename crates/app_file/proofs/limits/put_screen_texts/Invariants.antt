use Rattle.std.proofs.Common.{◌≡◌, ◌++◌, drop, map}
use Rattle.std.specs.List.{flat_map}
use Rattle.app_file.specs.Limits.{utf8_length, control_texts}
use Rattle.app_file.proofs.limits.put_screen_texts.Given as goal

abbrev pub invariant-loop-control : goal.invariant-loop-control
invariant-loop-control l =
    l.counts.items ++ map utf8_length (flat_map control_texts (drop l.control-index l.control-items)) ≡ l.initial.counts.items ++ map utf8_length (flat_map control_texts l.control-items)
