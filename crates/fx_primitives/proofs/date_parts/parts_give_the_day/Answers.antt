use Rattle.fx_primitives.proofs.MonthLemmas.{parts_give_day}
use Rattle.fx_primitives.proofs.date_parts.parts_give_the_day.Goals as goal

pub returns : goal.returns
returns c = parts_give_day
