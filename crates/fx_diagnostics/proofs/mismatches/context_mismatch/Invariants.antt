use Rattle.std.proofs.Common.{◌≡◌, drop, map}
use Rattle.fx_typing.specs.Details.{misassigned}
use Rattle.fx_typing.specs.TypedView.{typed}
use Rattle.fx_diagnostics.proofs.mismatches.context_mismatch.Given as goal

abbrev pub invariant-loop-place : goal.invariant-loop-place
invariant-loop-place l =
    misassigned l.names l.screen (drop l.place l.variables) (map typed (drop l.place l.values)) ≡ misassigned l.names l.screen l.variables (map typed l.values)
