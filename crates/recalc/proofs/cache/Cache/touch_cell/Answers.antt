use Rattle.recalc.proofs.Cleared.{touched_cell}
use Rattle.recalc.proofs.cache.Cache.touch_cell.Goals as goal

pub returns : goal.returns
returns c = λ sound order.
    let made = c.make_numbers.ensures.numbers c.args.app.now in
    touched_cell c.args.app.now c.args.cell c.args.self.now c.make_numbers.new.self c.clear.new.self order made (c.clear.ensures sound (made.order order) c.make_numbers.ensures.room)
