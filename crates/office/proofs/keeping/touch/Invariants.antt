use Rattle.office.proofs.Rounds.{IsAt}
use Rattle.office.proofs.keeping.touch.Given as goal

abbrev pub invariant-loop-source : goal.invariant-loop-source
invariant-loop-source l = IsAt l.app l.wrote l.source-index l.fn.cache l.cache
