use Rattle.std.proofs.Common.{◌≡◌, drop, map}
use Rattle.fx_core.specs.ColumnLists.{is_one_of}
use Rattle.fx_call_typing.proofs.taken.is_one_of.Given as goal

abbrev pub invariant-loop-other : goal.invariant-loop-other
invariant-loop-other l = is_one_of l.name (map (λ w. w.now) (drop l.other-index l.names)) ≡ is_one_of l.name (map (λ w. w.now) l.names)
