use Rattle.std.proofs.Common.{◌≡◌, drop, map}
use Rattle.fx_types.specs.TypeView.{shape}
use Rattle.fx_typing.specs.Details.{misgiven}
use Rattle.fx_typing.specs.TypedView.{typed}
use Rattle.fx_diagnostics.proofs.mismatches.first_mismatch.Given as goal

abbrev pub invariant-loop-value : goal.invariant-loop-value
invariant-loop-value l =
    misgiven l.name (shape l.ty) (map (λ v. typed v.now) (drop l.value-index l.values)) ≡ misgiven l.name (shape l.ty) (map (λ v. typed v.now) l.values)
