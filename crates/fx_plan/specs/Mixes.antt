-- What the mix of a filter is seen as.
use Rattle.fx_plan.specs.declared.mixing.Mix.{Mix}
use Rattle.fx_plan.specs.Mixed.{MixOf}

abbrev pub mix_view : Mix → MixOf
mix_view m = record { table = m.table; marks = m.marks.items }
