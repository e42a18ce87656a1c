use Rattle.std.proofs.Common.{sym, subst}
use Rattle.std.proofs.lemmas.List.{nil_from_length}
use Rattle.fx_types.specs.Rising.{AreNamesRising}
use Rattle.fx_deeds.proofs.RowSteps.{blank_ends, blanks_rise}
use Rattle.fx_deeds.proofs.collections.blank_row.Goals as goal

pub from_rising-requires : goal.from_rising-requires
from_rising-requires c =
    subst AreNamesRising (sym (blank_ends c.loop-column.rest.now c.loop-column.items.items _ (nil_from_length _ c.in_default.ensures.cases) c.loop-column.invariant)) (blanks_rise c.args.columns.now c.as_slice-rest.ensures.rising)
