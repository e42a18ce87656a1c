use Rattle.std.proofs.Common.{◌∙◌, sym}
use Rattle.row_keeper.specs.declared.rows.Put.TheVariants.{Refused}
use Rattle.store_rows.specs.Puts.{NewRow}
use Rattle.store_rows.proofs.PutLemmas.{answers_so, itself}
use Rattle.store_rows.proofs.changing.add_unless.Goals as goal

pub returns-in-Some-clause-told : goal.returns-in-Some-clause-told
returns-in-Some-clause-told c = λ kept all h rule.
    let columns = c.args.shape.now.columns in
    answers_so kept columns c.args.changes.now c.args.changes.now c.args.count.now (itself c.args.changes.now) h (NewRow columns all c.args.cells.now) (Refused c.in-Some.refusal) (λ e. (sym rule ∙ c.in-Some.is, e))

pub returns-in-None-clause-told : goal.returns-in-None-clause-told
returns-in-None-clause-told c = λ kept all h rule. c.add_row.ensures.told kept all h (sym rule ∙ c.in-None.is)
