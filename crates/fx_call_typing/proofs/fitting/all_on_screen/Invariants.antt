use Rattle.std.proofs.Common.{◌≡◌, drop}
use Rattle.fx_typing.specs.Breaks.{all_on_screen}
use Rattle.fx_call_typing.proofs.fitting.all_on_screen.Given as goal

abbrev pub invariant-loop-name : goal.invariant-loop-name
invariant-loop-name l = all_on_screen l.names l.screen (drop l.name-index l.variables) ≡ all_on_screen l.names l.screen l.variables
