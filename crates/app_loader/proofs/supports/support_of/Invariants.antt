use Rattle.std.proofs.Common.{take}
use Rattle.app_loader.proofs.Supporting.{IsSoFar}
use Rattle.app_loader.proofs.supports.support_of.Given as goal

abbrev pub invariant-loop-source : goal.invariant-loop-source
invariant-loop-source l = IsSoFar l.names l.reads (take l.source-index l.reads) l.supports l.support.items
