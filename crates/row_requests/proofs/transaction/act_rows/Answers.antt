use Rattle.std.proofs.Common.{◌∙◌, ap, sym}
use Rattle.row_keeper.specs.Shaped.{gone_back, steady}
use Rattle.row_requests.proofs.Transactions.{settled}
use Rattle.row_requests.proofs.transaction.act_rows.Goals as goal

pub returns-in-Ok-settle-clause-done : goal.returns-in-Ok-settle-clause-done
returns-in-Ok-settle-clause-done g c =
    let told = g.K.Keeper.told in
    let began = g.K.Keeper.began in
    let marks = g.K.Keeper.marks in
    settled c.args.schema.now.tables c.args.posted.now.changes c.in-Ok-prepare_rows.prepared.outcome
    (marks c.args.keeper.now) (marks c.begin.new.self) (marks c.prepare_rows.new.keeper) (marks c.settle.new.keeper)
    c.in-Ok.ensures.cause.later c.in-Ok-prepare_rows.ensures.cause.later c.in-Ok-settle.ensures.cause.later
    (told c.args.keeper.now) (told c.begin.new.self) (began c.begin.new.self) (told c.prepare_rows.new.keeper) (began c.prepare_rows.new.keeper) (told c.settle.new.keeper)
    c.in-Ok.ensures.tables c.in-Ok.ensures.ok.1 c.in-Ok-prepare_rows.ensures.done c.in-Ok-prepare_rows.ensures.began
    (λ e. (g.met.K.Keeper.quiet c.prepare_rows.new.keeper e).0)
    c.is_ok.result c.is_ok.ensures.value c.in-Ok-settle.ensures.kept c.in-Ok-settle.ensures.undone

pub prepare_rows-requires-clause-shaped : goal.prepare_rows-requires-clause-shaped
prepare_rows-requires-clause-shaped g c = c.in-Ok.ensures.shaped ∙ ap steady c.requires.shaped

pub settle-requires-clause-shaped : goal.settle-requires-clause-shaped
settle-requires-clause-shaped g c = (c.args.schema.now, c.prepare_rows.ensures.shaped ∙ c.in-Ok.ensures.shaped ∙ ap steady c.requires.shaped)

pub returns-in-Ok-settle-clause-shaped : goal.returns-in-Ok-settle-clause-shaped
returns-in-Ok-settle-clause-shaped g c = c.settle.ensures.shaped ∙ c.prepare_rows.ensures.shaped ∙ c.in-Ok.ensures.shaped ∙ ap steady c.requires.shaped ∙ sym c.requires.shaped

pub returns-in-Err-settle-clause-shaped : goal.returns-in-Err-settle-clause-shaped
returns-in-Err-settle-clause-shaped g c = c.settle.ensures.shaped ∙ c.prepare_rows.ensures.shaped ∙ c.in-Ok.ensures.shaped ∙ ap steady c.requires.shaped ∙ sym c.requires.shaped

pub returns-in-Err-prepare_rows-clause-shaped : goal.returns-in-Err-prepare_rows-clause-shaped
returns-in-Err-prepare_rows-clause-shaped g c =
    c.back.ensures.shaped ∙ ap gone_back (c.prepare_rows.ensures.shaped ∙ c.in-Ok.ensures.shaped ∙ ap steady c.requires.shaped) ∙ sym c.requires.shaped
