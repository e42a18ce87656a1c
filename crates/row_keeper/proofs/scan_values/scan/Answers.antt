use Rattle.std.proofs.Common.{arith}
use Rattle.fx_types.specs.ValueView.{view}
use Rattle.row_keeper.proofs.Records.{no_more}
use Rattle.row_keeper.proofs.scan_values.scan.Goals as goal

pub returns-clause-least : goal.returns-clause-least
returns-clause-least g c =
    let few = no_more c.in-Some.shape.now c.in_ok-answer.answer.rows c.in_ok-answer.answer.fault (view c.in_ok-answer_value-in-Some.field-0) c.in_ok-answer_value-in-Some.ensures in
    let least = c.in_ok-answer.ensures.least in
    omega (arith, few, least)
