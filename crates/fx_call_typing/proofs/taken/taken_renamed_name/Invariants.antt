use Rattle.std.proofs.Common.{◌≡◌, length, map}
use Rattle.fx_typing.specs.Breaks.{taken_renamed}
use Rattle.fx_resolve.specs.PartView.{judged_part}
use Rattle.fx_call_typing.proofs.taken.taken_renamed_name.Given as goal

abbrev pub invariant-loop-more : goal.invariant-loop-more
invariant-loop-more l = taken_renamed (map judged_part l.more) (map (λ w. w.now) l.names.items) ≡ taken_renamed (map judged_part l.fn.all) (map (λ w. w.now) l.fn.names.items)

abbrev pub decreases-loop-more : goal.decreases-loop-more
decreases-loop-more l = length l.more
