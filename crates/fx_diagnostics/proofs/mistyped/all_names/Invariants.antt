use Rattle.std.proofs.Common.{◌≡◌, ◌++◌, drop, map}
use Rattle.fx_typing.specs.Details.{all_names}
use Rattle.fx_resolve.specs.PartView.{judged_part}
use Rattle.fx_diagnostics.proofs.mistyped.all_names.Given as goal

abbrev pub invariant-loop-one : goal.invariant-loop-one
invariant-loop-one l = l.found.items ++ all_names l.names (map judged_part (drop l.one-index l.all)) ≡ all_names l.names (map judged_part l.all)
