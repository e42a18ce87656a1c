use Rattle.app_texts.proofs.ReadSteps.{put_broken, put_cell}
use Rattle.app_texts.proofs.reading.put_text.Goals as goal

pub returns-in_ok-push-in-Ok : goal.returns-in_ok-push-in-Ok
returns-in_ok-push-in-Ok c =
    put_cell c.args.frame.now c.args.text c.args.cells.now.items c.push.new.self.items c.args.breaks.now.items c.in-Ok.cell c.in_ok-push-in-Ok.ensures.items c.in-Ok.ensures.cell

pub returns-in_ok-push-in-Err-Refused : goal.returns-in_ok-push-in-Err-Refused
returns-in_ok-push-in-Err-Refused c =
    let told = rw c.in-Err-Refused.field-0-is at c.in-Err-Refused.ensures.unread in
    put_broken c.args.frame.now c.args.text c.args.cells.now.items c.args.breaks.now.items c.push-in-Err-Refused.new.self.items c.in-Err-Refused.broken c.in_ok-push-in-Err-Refused.ensures.items told
