use Rattle.std.proofs.Common.{◌≡◌, string_bytes, flat_map, take}
use Rattle.fx_core.specs.BrokenText.{ended_line}
use Rattle.fx_core.proofs.broken_text.lines.Given as goal

abbrev pub invariant-loop-broken : goal.invariant-loop-broken
invariant-loop-broken l = string_bytes l.text ≡ flat_map ended_line (take l.broken-index l.all)
