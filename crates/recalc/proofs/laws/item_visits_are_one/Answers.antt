use Rattle.recalc.proofs.OneNumber.{one_item_visits}
use Rattle.recalc.proofs.laws.item_visits_are_one.Goals as goal

pub returns : goal.returns
returns c = one_item_visits c.one_value.ensures c.one_fresh_at.ensures
