use Rattle.std.proofs.Common.{◌≡◌, ◌++◌, drop, length}
use Rattle.fx_primitives.specs.Substitution.{AreSeparate, replaced_at}
use Rattle.fx_primitives.proofs.substitution.splice_at.Given as goal

abbrev pub invariant-loop-place : goal.invariant-loop-place
invariant-loop-place l =
    AreSeparate l.count (length l.text) l.from (drop l.place-index l.places)
    × (l.made.items ++ drop l.from (replaced_at l.count l.new l.text (drop l.place-index l.places)) ≡ replaced_at l.count l.new l.text l.places)
