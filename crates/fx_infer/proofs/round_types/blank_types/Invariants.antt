use Rattle.std.proofs.Common.{◌≡◌, map, replicate}
use Rattle.fx_types.specs.TypeView.{shape}
use Rattle.fx_types.specs.Types.{blanks}
use Rattle.fx_infer.proofs.round_types.blank_types.Given as goal

abbrev pub invariant-loop : goal.invariant-loop
invariant-loop l = map shape l.types.items ≡ replicate l.counter blanks
