use Rattle.fx_grammar.proofs.Doubling.{more}
use Rattle.fx_grammar.proofs.marks.undouble.Goals as goal

pub loop-next-preserved : goal.loop-next-preserved
loop-next-preserved c = more _ _ _ _ _ _ _ _ c.loop-next.invariant c.in-Some.ensures.value c.in-Some-next.is c.in_ok-push-in-Some-next.ensures.items
