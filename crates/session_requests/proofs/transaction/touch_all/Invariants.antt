use Rattle.std.proofs.Common.{drop}
use Rattle.recalc.specs.app_cells.declared.app.App.{App}
use Rattle.session_requests.specs.Caching.{AreSources}
use Rattle.session_requests.proofs.Undone.{AreTouchedTo}
use Rattle.session_requests.proofs.transaction.touch_all.Given as goal

abbrev pub invariant-loop-source : goal.invariant-loop-source
invariant-loop-source l = (a : App) → AreSources a.names l.sources → AreTouchedTo a l.sources (drop l.source-index l.sources) l.fn.cache l.cache
