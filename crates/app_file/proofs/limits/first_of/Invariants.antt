use Rattle.std.proofs.Common.{◌≡◌, drop}
use Rattle.app_file.specs.Limits.{first_passed}
use Rattle.app_file.proofs.limits.first_of.Given as goal

abbrev pub invariant-loop-limit : goal.invariant-loop-limit
invariant-loop-limit l = first_passed (drop l.limit-index l.limits) l.app ≡ first_passed l.limits l.app
