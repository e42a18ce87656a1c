use Rattle.std.proofs.Common.{◌≡◌, ◌≤◌, length, map, take}
use Rattle.fx_typing.specs.Meaning.{in_scopes}
use Rattle.fx_resolve.specs.ScopeView.{scope}
use Rattle.fx_resolve.proofs.scoped.in_scopes.Given as goal

-- no scope from here inwards says what the name means
abbrev pub invariant-loop-number : goal.invariant-loop-number
invariant-loop-number l = record {
  fits : l.number ≤ length l.items;
  value : in_scopes 0 l.name (map scope (take l.number l.items)) ≡ in_scopes 0 l.name l.scopes;
}

abbrev pub decreases-loop-number : goal.decreases-loop-number
decreases-loop-number l = l.number
