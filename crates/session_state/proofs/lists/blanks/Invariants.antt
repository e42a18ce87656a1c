use Rattle.std.proofs.Common.{◌≡◌, map}
use Rattle.std.specs.Prelude.{replicate}
use Rattle.fx_types.specs.Values.{blank}
use Rattle.fx_types.specs.ValueView.{view}
use Rattle.session_state.proofs.lists.blanks.Given as goal

abbrev pub invariant-loop : goal.invariant-loop
invariant-loop l = map view l.all.items ≡ replicate l.counter blank
