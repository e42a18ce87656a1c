use Rattle.std.proofs.Common.{◌≡◌, drop, map}
use Rattle.fx_typing.specs.Breaks.{all_could, could_be_condition}
use Rattle.fx_resolve.specs.PartView.{judged_part}
use Rattle.fx_call_typing.proofs.fitting.could_be_conditions.Given as goal

abbrev pub invariant-loop-one : goal.invariant-loop-one
invariant-loop-one l = all_could could_be_condition (map judged_part (drop l.one-index l.all)) ≡ all_could could_be_condition (map judged_part l.all)
