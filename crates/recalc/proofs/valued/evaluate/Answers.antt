use Rattle.recalc.proofs.valued.evaluate.Goals as goal

pub returns-clause-fresh : goal.returns-clause-fresh
returns-clause-fresh g c = λ tables heard. c.in_ok-values.ensures.fresh c.args.moment tables c.in_ok-day.ensures heard
