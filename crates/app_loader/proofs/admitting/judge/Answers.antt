use Rattle.std.proofs.Common.{Err, ap, sym, ◌∙◌}
use Rattle.app_loader.proofs.Writes.{same_judged, told}
use Rattle.app_loader.proofs.admitting.judge.Goals as goal

pub returns-in-Ok : goal.returns-in-Ok
returns-in-Ok c = sym (same_judged c.args.names.now c.args.cell.now c.in_ok-written.written c.in_ok-written.ensures) ∙ c.in-Ok.ensures.admitted

pub returns-in-Err-Broken : goal.returns-in-Err-Broken
returns-in-Err-Broken c =
    let b = c.in-Err-Broken.broken in
    told c.args.names.now c.args.cell.now c.in_ok-written.written b _ c.in_ok-written.ensures (c.in-Err-Broken.ensures.broken b (ap Err c.in-Err-Broken.field-0-is)) (c.in-Err-Broken.ensures.told b (ap Err c.in-Err-Broken.field-0-is)) (c.in-Err-Broken.ensures.cell b (ap Err c.in-Err-Broken.field-0-is))
    (λ i. record { cell = b.cell; rule = b.rule; at = c.saturating_sub.ensures i; detail = b.detail })
