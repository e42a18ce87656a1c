use Rattle.std.proofs.Common.{◌≡◌, ◌++◌, drop}
use Rattle.fx_primitives.specs.Texts.{single_spaced}
use Rattle.fx_primitives.proofs.spacing.collapse_spaces.Given as goal

abbrev pub invariant-loop-i : goal.invariant-loop-i
invariant-loop-i l = l.kept.items ++ single_spaced (drop l.i l.characters) ≡ single_spaced l.characters
