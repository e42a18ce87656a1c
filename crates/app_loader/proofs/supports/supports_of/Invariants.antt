use Rattle.app_loader.proofs.Supporting.{AreSoFar}
use Rattle.app_loader.proofs.supports.supports_of.Given as goal

abbrev pub invariant-loop-number : goal.invariant-loop-number
invariant-loop-number l = AreSoFar l.names l.infos l.order l.number-index l.supports.items
