use Rattle.std.proofs.lemmas.Result.{on_ok_weaker}
use Rattle.app_texts.proofs.ReadSteps.{put_unnamed}
use Rattle.app_texts.proofs.reading.put_formulas.Goals as goal

pub returns-in-Err : goal.returns-in-Err
returns-in-Err c =
    on_ok_weaker c.put_unread.result
    (put_unnamed c.args.frame.now c.args.source.now c.in-Err.end c.args.cells.now.items c.args.breaks.now.items c.put_unread.new.breaks.items c.in-Err.ensures.end)
    c.put_unread.ensures
