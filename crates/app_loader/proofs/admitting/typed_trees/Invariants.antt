use Rattle.std.proofs.Common.{take}
use Rattle.app_loader.proofs.BreakLists.{AreJudgedSo}
use Rattle.app_loader.proofs.admitting.typed_trees.Given as goal

abbrev pub invariant-loop-cell : goal.invariant-loop-cell
invariant-loop-cell l = AreJudgedSo l.names (take l.cell-index l.cells) l.trees.items l.breaks.items
