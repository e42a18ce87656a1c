use Rattle.std.proofs.Common.{◌∙◌, ap, subst, sym}
use Rattle.row_keeper.specs.Shaped.{Shaped, gone_back, steady}
use Rattle.row_keeper.specs.Tables.{shapes_of}
use Rattle.row_imports.specs.Lines.{IsHeading}
use Rattle.csv_requests.proofs.Whole.{settled}
use Rattle.csv_requests.proofs.transaction.act_import.Goals as goal

pub returns-in-Ok-settle-clause-done : goal.returns-in-Ok-settle-clause-done
returns-in-Ok-settle-clause-done g c =
    let told = g.K.Keeper.told in
    let began = g.K.Keeper.began in
    let marks = g.K.Keeper.marks in
    settled c.args.shape.now.columns c.args.heading.now c.args.lines.now c.in-Ok-prepare_import.prepared.outcome
    (marks c.args.keeper.now) (marks c.begin.new.self) (marks c.prepare_import.new.keeper) (marks c.settle.new.keeper)
    c.in-Ok.ensures.cause.later c.in-Ok-prepare_import.ensures.cause.later c.in-Ok-settle.ensures.cause.later
    (told c.args.keeper.now) (told c.begin.new.self) (began c.begin.new.self) (told c.prepare_import.new.keeper) (began c.prepare_import.new.keeper) (told c.settle.new.keeper)
    c.in-Ok.ensures.tables c.in-Ok.ensures.ok.1 c.in-Ok-prepare_import.ensures.done c.in-Ok-prepare_import.ensures.began
    (λ e. (g.met.K.Keeper.quiet c.prepare_import.new.keeper e).0)
    c.is_ok.result c.is_ok.ensures.value c.in-Ok-settle.ensures.kept c.in-Ok-settle.ensures.undone

pub prepare_import-requires-clause-heading : goal.prepare_import-requires-clause-heading
prepare_import-requires-clause-heading g c =
    subst (λ (x : Shaped). IsHeading (shapes_of x.now) c.args.shape.now c.args.heading.now) (sym (c.in-Ok.ensures.shaped ∙ ap steady c.requires.shaped.shaped)) c.requires.shaped.heading

pub settle-requires-clause-shaped : goal.settle-requires-clause-shaped
settle-requires-clause-shaped g c = (c.requires.shaped.schema, c.prepare_import.ensures.shaped ∙ c.in-Ok.ensures.shaped ∙ ap steady c.requires.shaped.shaped)

pub returns-in-Ok-settle-clause-shaped : goal.returns-in-Ok-settle-clause-shaped
returns-in-Ok-settle-clause-shaped g c = c.settle.ensures.shaped ∙ c.prepare_import.ensures.shaped ∙ c.in-Ok.ensures.shaped ∙ ap steady c.requires.shaped.shaped ∙ sym c.requires.shaped.shaped

pub returns-in-Err-settle-clause-shaped : goal.returns-in-Err-settle-clause-shaped
returns-in-Err-settle-clause-shaped g c = c.settle.ensures.shaped ∙ c.prepare_import.ensures.shaped ∙ c.in-Ok.ensures.shaped ∙ ap steady c.requires.shaped.shaped ∙ sym c.requires.shaped.shaped

pub returns-in-Err-prepare_import-clause-shaped : goal.returns-in-Err-prepare_import-clause-shaped
returns-in-Err-prepare_import-clause-shaped g c =
    c.back.ensures.shaped ∙ ap gone_back (c.prepare_import.ensures.shaped ∙ c.in-Ok.ensures.shaped ∙ ap steady c.requires.shaped.shaped) ∙ sym c.requires.shaped.shaped
