use Rattle.app_texts.proofs.Numbered.{numbered_more}
use Rattle.app_texts.proofs.numbers.numbers_of.Goals as goal

pub loop-number-preserved : goal.loop-number-preserved
loop-number-preserved c =
    numbered_more c.loop-number.numbers c.note.new.numbers c.args.cells.now c.loop-number.number c.index-cells-number.result c.in_ok-place_of.field-0
    c.loop-number-test.true c.index-cells-number.is c.in_ok-place_of.ensures c.loop-number.invariant c.in_ok-note.ensures
