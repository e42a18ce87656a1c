use Rattle.std.proofs.Common.{◌∙◌, Some, ap, false, sym}
use Rattle.row_changes.specs.Overlay.{bytes_in}
use Rattle.store_rows.specs.Puts.{LessRow}
use Rattle.store_rows.proofs.PutLemmas.{answers_so, itself, missing_so}
use Rattle.store_rows.proofs.changing.take_if_there.Goals as goal

pub returns-in-None : goal.returns-in-None
returns-in-None c = λ kept columns h body.
    answers_so kept columns c.args.changes.now c.args.changes.now c.args.count.now (itself c.args.changes.now) h (LessRow c.args.id) false (λ e. (missing_so kept columns c.args.changes.now c.args.id (sym body ∙ ap bytes_in c.in-None.is), e))

pub returns-in-Some : goal.returns-in-Some
returns-in-Some c = λ kept columns h body. c.take_row.ensures kept columns h (sym body ∙ ap bytes_in c.in-Some.is ∙ ap Some (sym c.deref.ensures.value))
