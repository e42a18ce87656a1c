use Rattle.std.proofs.Common.{◌∙◌, ap}
use Rattle.row_queries.specs.Queries.{first_of}
use Rattle.row_keeper.proofs.AnswerLemmas.{judged_rows, no_faults}
use Rattle.row_keeper.proofs.answers.give_rows.Goals as goal

pub returns : goal.returns
returns c =
    let q = c.args.query.now in
    let sound = no_faults q c.args.asked.items c.requires.asks c.requires.sound in
    c.first_rows.ensures ∙ ap (first_of q.take) (judged_rows q c.args.asked.items c.in_ok-judged.judged.rows.items c.in_ok-judged.judged.fault sound c.in_ok-judged.ensures)
