use Rattle.std.proofs.Common.{◌≡◌, ◌+◌, drop}
use Rattle.std.specs.List.{prefix_len}
use Rattle.fx_primitives.proofs.spacing.skip_spaces.Given as goal
use Rattle.fx_number.specs.Reading.{is_space}

abbrev pub invariant-loop-i : goal.invariant-loop-i
invariant-loop-i l = prefix_len is_space l.characters ≡ l.i + prefix_len is_space (drop l.i l.characters)
