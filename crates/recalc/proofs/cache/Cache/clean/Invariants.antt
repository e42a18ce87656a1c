use Rattle.recalc.specs.Kept.{IsClean}
use Rattle.recalc.proofs.Listing.{AreListed}
use Rattle.recalc.proofs.cache.Cache.clean.Given as goal

abbrev pub invariant-loop-cell : goal.invariant-loop-cell
invariant-loop-cell l = AreListed (IsClean l.app l.self) l.cell l.cells.items
