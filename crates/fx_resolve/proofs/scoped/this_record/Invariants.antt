use Rattle.std.proofs.Common.{◌≡◌, ◌≤◌, length, map, take}
use Rattle.fx_typing.specs.Meaning.{this_record}
use Rattle.fx_resolve.specs.ScopeView.{scope}
use Rattle.fx_resolve.proofs.scoped.this_record.Given as goal

-- all scopes from here inwards have an alias
abbrev pub invariant-loop-number : goal.invariant-loop-number
invariant-loop-number l = record {
  fits : l.number ≤ length l.items;
  value : this_record 0 (map scope (take l.number l.items)) ≡ this_record 0 l.scopes;
}

abbrev pub decreases-loop-number : goal.decreases-loop-number
decreases-loop-number l = l.number
