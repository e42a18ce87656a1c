use Rattle.app_texts.proofs.GivenTexts.{read_so, unread_so}
use Rattle.app_texts.proofs.edits.read_cell.Goals as goal

pub returns-in-Ok-clause-given : goal.returns-in-Ok-clause-given
returns-in-Ok-clause-given c =
    read_so c.args.frame.now c.args.spot.now c.in_ok-copy_spot.field-0 c.args.text.now c.in_ok-copy.field-0 c.in-Ok.cell c.in_ok-copy_spot.ensures c.in_ok-copy.ensures c.requires.formula c.in-Ok.ensures.cell

pub returns-in-Err-clause-unread : goal.returns-in-Err-clause-unread
returns-in-Err-clause-unread c =
    unread_so c.args.frame.now c.args.spot.now c.in_ok-copy_spot.field-0 c.args.text.now c.in_ok-copy.field-0 c.in-Err.end c.in_ok-copy_spot.ensures c.in_ok-copy.ensures c.requires.formula c.in-Err.ensures.unread
