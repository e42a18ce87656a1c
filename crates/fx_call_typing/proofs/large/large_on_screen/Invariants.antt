use Rattle.std.proofs.Common.{◌≡◌, drop}
use Rattle.fx_typing.specs.Breaks.{large_on_screen}
use Rattle.fx_call_typing.proofs.large.large_on_screen.Given as goal

abbrev pub invariant-loop-name : goal.invariant-loop-name
invariant-loop-name l = large_on_screen l.names l.screen (drop l.name-index l.variables) ≡ large_on_screen l.names l.screen l.variables
