use Rattle.std.proofs.Common.{Err, ap, map, ◌∙◌}
use Rattle.fx_infer.specs.CellView.{cell}
use Rattle.app_loader.proofs.Ended.{final_by, still_fit, unsettled_by}
use Rattle.app_loader.proofs.judging.final_names.Goals as goal

pub returns-in-Ok-clause-fit : goal.returns-in-Ok-clause-fit
returns-in-Ok-clause-fit c =
    still_fit c.args.cells.now c.args.first c.in-Ok.names c.requires
    (final_by (map cell c.deref.result.now) c.args.cells.now c.args.first c.in-Ok.names (ap (map cell) c.deref.ensures.value ∙ c.in_ok-written.ensures.cells) c.in-Ok.ensures.types) c.in-Ok.ensures.lawful

pub returns-in-Err-Broken-clause-unsettled : goal.returns-in-Err-Broken-clause-unsettled
returns-in-Err-Broken-clause-unsettled c =
    let b = c.in-Err-Broken.broken in
    unsettled_by (map cell c.deref.result.now) c.args.cells.now c.args.first b (ap (map cell) c.deref.ensures.value ∙ c.in_ok-written.ensures.cells) (c.in-Err-Broken.ensures.broken b (ap Err c.in-Err-Broken.field-0-is))
    (c.in-Err-Broken.ensures.told b (ap Err c.in-Err-Broken.field-0-is)) c.only.result c.only.ensures
