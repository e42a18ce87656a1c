use Rattle.std.proofs.Common.{◌∙◌, None, Some, ap, refl}
use Rattle.std.proofs.lemmas.Result.{IfOk-weaker}
use Rattle.fx_base.specs.Silence.{SilenceCause}
use Rattle.row_requests.specs.Changes.{table_index}
use Rattle.row_requests.specs.Steps.{said_of}
use Rattle.row_requests.proofs.AnyKeepers.{placed_may}
use Rattle.row_requests.proofs.Rows.{placed_goes, unplaced_goes}
use Rattle.row_requests.proofs.changes.change_one.Goals as goal

pub returns-in-Some-clause-done : goal.returns-in-Some-clause-done
returns-in-Some-clause-done g c =
    IfOk-weaker c.change_table.result _ _
    (λ r h. placed_goes c.args.schema.now.tables c.args.at c.args.change.now (Some c.in-Some.table) r
    (SilenceCause (g.K.Keeper.marks c.args.keeper.now) (g.K.Keeper.marks c.change_table.new.keeper)) (g.K.Keeper.told c.args.keeper.now) (g.K.Keeper.told c.change_table.new.keeper)
    (c.in-Some.ensures.place ∙ ap (λ n. table_index n c.args.schema.now.tables) c.table.ensures) h)
    c.change_table.ensures.done

pub returns-in-None-clause-done : goal.returns-in-None-clause-done
returns-in-None-clause-done g c =
    unplaced_goes c.args.schema.now.tables c.args.at c.args.change.now None c.refuse.result
    (SilenceCause (g.K.Keeper.marks c.args.keeper.now) (g.K.Keeper.marks c.args.keeper.now)) (g.K.Keeper.told c.args.keeper.now)
    (c.in-None.ensures.place ∙ ap (λ n. table_index n c.args.schema.now.tables) c.table.ensures) refl c.refuse.ensures

pub returns-in-Some-clause-may : goal.returns-in-Some-clause-may
returns-in-Some-clause-may g c =
    IfOk-weaker c.change_table.result _ _
    (λ r h. placed_may c.args.schema.now.tables c.args.at c.args.change.now (Some c.in-Some.table) (said_of r) (c.in-Some.ensures.place ∙ ap (λ n. table_index n c.args.schema.now.tables) c.table.ensures) h)
    c.change_table.ensures.may

pub returns-in-None-clause-may : goal.returns-in-None-clause-may
returns-in-None-clause-may g c =
    placed_may c.args.schema.now.tables c.args.at c.args.change.now None (said_of c.refuse.result) (c.in-None.ensures.place ∙ ap (λ n. table_index n c.args.schema.now.tables) c.table.ensures) (ap said_of c.refuse.ensures)
