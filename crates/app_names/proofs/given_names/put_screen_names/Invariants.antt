use Rattle.std.proofs.Common.{◌≡◌, ◌++◌, drop, map}
use Rattle.app_names.proofs.given_names.put_screen_names.Given as goal

abbrev pub invariant-loop-name : goal.invariant-loop-name
invariant-loop-name l = l.names.items ++ (drop l.name-index l.frame.screens) ≡ l.fn.names.items ++ l.frame.screens
