use Rattle.std.proofs.Common.{drop}
use Rattle.app_loader.specs.Types.{HaveLawfulTrees}
use Rattle.app_loader.proofs.infos.look_at_infos.Given as goal

abbrev pub invariant-loop-info : goal.invariant-loop-info
invariant-loop-info l = HaveLawfulTrees (drop l.info-index l.infos) → HaveLawfulTrees l.infos
