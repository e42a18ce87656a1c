use Rattle.std.proofs.Common.{◌≡◌, ◌++◌, drop}
use Rattle.app_loader.proofs.Merging.{others}
use Rattle.app_loader.proofs.supports.without_cells.Given as goal

abbrev pub invariant-loop-source : goal.invariant-loop-source
invariant-loop-source l = l.others.items ++ others (drop l.source-index l.sources) ≡ others l.sources
