use Rattle.app_loader.proofs.Supporting.{ArePut}
use Rattle.app_loader.proofs.supports.with_supports.Given as goal

abbrev pub invariant-loop-info : goal.invariant-loop-info
invariant-loop-info l = ArePut l.fn.infos l.fn.supports.items l.all l.info-iterator.a.rest.items l.info-iterator.b.rest.items
