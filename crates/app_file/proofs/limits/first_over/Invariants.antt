use Rattle.std.proofs.Common.{◌≡◌, drop, nat_lt}
use Rattle.std.specs.Prelude.{find}
use Rattle.app_file.proofs.limits.first_over.Given as goal

abbrev pub invariant-loop-count : goal.invariant-loop-count
invariant-loop-count l = find (nat_lt l.most) (drop l.count-index l.counts) ≡ find (nat_lt l.most) l.counts
