use Rattle.fx_group.proofs.Back.{come_back}
use Rattle.fx_group.proofs.laws.groups_come_back.Goals as goal

pub returns : goal.returns
returns c = come_back c.compare_is_total.ensures.total c.compare_is_total.ensures.tells
