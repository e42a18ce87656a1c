use Rattle.std.proofs.Common.{◌≡◌, [], replicate}
use Rattle.app_loader.proofs.supports.no_supports.Given as goal

abbrev pub invariant-loop : goal.invariant-loop
invariant-loop l = l.supports.items ≡ replicate l.counter []
