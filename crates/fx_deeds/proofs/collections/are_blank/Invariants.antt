use Rattle.std.proofs.Common.{◌↔◌, length}
use Rattle.fx_types.specs.ValueView.{fields_view}
use Rattle.fx_deeds.specs.Collections.{AreBlank}
use Rattle.fx_deeds.proofs.collections.are_blank.Given as goal

abbrev pub invariant-loop-field : goal.invariant-loop-field
invariant-loop-field l = AreBlank (fields_view l.rest) ↔ AreBlank l.row

abbrev pub decreases-loop-field : goal.decreases-loop-field
decreases-loop-field l = length l.rest
