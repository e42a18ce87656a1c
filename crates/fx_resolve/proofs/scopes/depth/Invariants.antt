use Rattle.std.proofs.Common.{◌≡◌, ◌+◌, ◌≤◌, drop, map}
use Rattle.fx_typing.specs.Plans.{depth_of}
use Rattle.fx_resolve.specs.ScopeView.{scope}
use Rattle.fx_resolve.proofs.scopes.depth.Given as goal

-- those that are counted, with those that are left, are all
abbrev pub invariant-loop-inner : goal.invariant-loop-inner
invariant-loop-inner l = record {
  below : l.depth ≤ l.inner-index;
  value : l.depth + depth_of (map scope (drop l.inner-index l.scopes)) ≡ depth_of (map scope l.scopes);
}
