use Rattle.std.proofs.Common.{◌∙◌, sym}
use Rattle.row_keeper.specs.declared.rows.Put.TheVariants.{Refused}
use Rattle.store_rows.specs.Puts.{OverRow}
use Rattle.store_rows.proofs.PutLemmas.{answers_so, is_there, itself}
use Rattle.store_rows.proofs.changing.change_unless.Goals as goal

pub returns-in-Some-clause-told : goal.returns-in-Some-clause-told
returns-in-Some-clause-told c = λ kept all n h there rule.
    let columns = c.args.shape.now.columns in
    answers_so kept columns c.args.changes.now c.args.changes.now n (itself c.args.changes.now) h (OverRow columns all c.args.id c.args.cells.now) (Refused c.in-Some.refusal)
    (λ e. (is_there kept columns c.args.changes.now c.args.changes.now n c.args.id c.args.was.now h there, sym rule ∙ c.in-Some.is, e))

pub returns-in-None-clause-told : goal.returns-in-None-clause-told
returns-in-None-clause-told c = λ kept all n h there rule. c.change_row.ensures.told kept all n h there (sym rule ∙ c.in-None.is)
