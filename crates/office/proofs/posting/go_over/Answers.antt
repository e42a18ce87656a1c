use Rattle.office.proofs.posting.go_over.Goals as goal

pub returns-clause-kept : goal.returns-clause-kept
returns-clause-kept c = c.in_ok-carry_over.ensures.kept

pub returns-clause-over : goal.returns-clause-over
returns-clause-over c = c.in_ok-carry_over.ensures.over

pub returns-in_err-carry_over-clause-kept : goal.returns-in_err-carry_over-clause-kept
returns-in_err-carry_over-clause-kept c = c.in_err-carry_over.ensures.stayed

pub returns-in_err-carry_over-clause-over : goal.returns-in_err-carry_over-clause-over
returns-in_err-carry_over-clause-over c = c.in_err-carry_over.ensures.left
