use Rattle.test_keeper.specs.Played.{AreInStep}
use Rattle.test_keeper.proofs.main.Given as goal

abbrev pub invariant-loop-line : goal.invariant-loop-line
invariant-loop-line l = AreInStep l.played
