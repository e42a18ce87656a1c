use Rattle.std.proofs.Common.{refl}
use Rattle.recalc.proofs.cache.Cache.turn.Goals as goal

pub returns : goal.returns
returns c = (c.tell.new.self, (λ a. c.tell.ensures a refl), c.set_day.ensures)
