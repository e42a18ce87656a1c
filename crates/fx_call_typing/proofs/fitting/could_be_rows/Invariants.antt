use Rattle.std.proofs.Common.{◌≡◌, drop, map}
use Rattle.fx_typing.specs.Breaks.{all_could, could_be_row}
use Rattle.fx_resolve.specs.PartView.{judged_part}
use Rattle.fx_call_typing.proofs.fitting.could_be_rows.Given as goal

abbrev pub invariant-loop-one : goal.invariant-loop-one
invariant-loop-one l = all_could could_be_row (map judged_part (drop l.one-index l.all)) ≡ all_could could_be_row (map judged_part l.all)
