use Rattle.std.proofs.Common.{arith, sym, ◌≡◌, ◌⊎◌, inl, inr, [], drop}
use Rattle.std.proofs.lemmas.List.{drop_all}
use Rattle.std.proofs.lemmas.Map.Lookups.{exact_bytes}
use Rattle.fx_value.proofs.JoinSteps.{at_less, at_greater, at_equal, at_equal_named, at_none, joined_all, joined_turned, joined_rises}
use Rattle.fx_value.proofs.Unions.{above, below, alike}
use Rattle.fx_value.proofs.joining.+join.Goals as goal
use Rattle.fx_value.proofs.joining.+join.Goals.{join_columns-then-merge-test+else-j-ys, join_columns-else-merge-test}

pub join_columns-merge-preserved-in-Less : goal.join_columns-merge-preserved-in-Less
join_columns-merge-preserved-in-Less t c =
    let e = c.in_ok-push_copy-in-Less.ensures in
    let h = sym c.in-Less.ensures in
    let is = c.merge.invariant in
    record {
      value = rw e (at_less _ _ _ _ _ _ c.merge-test.true c.if-j-ys.true c.index-xs-i.is c.index-ys-j.is is.value h);
      turned = rw e (at_greater _ _ _ _ _ _ c.if-j-ys.true c.merge-test.true c.index-ys-j.is c.index-xs-i.is is.turned (above c.index-xs-i.result.0 c.index-ys-j.result.0 h));
      first = omega arith;
      second = omega (arith, is.second);
    }

pub join_columns-merge-preserved-in-Greater : goal.join_columns-merge-preserved-in-Greater
join_columns-merge-preserved-in-Greater t c =
    let e = c.in_ok-push_copy-in-Greater.ensures in
    let h = sym c.in-Greater.ensures in
    let is = c.merge.invariant in
    record {
      value = rw e (at_greater _ _ _ _ _ _ c.merge-test.true c.if-j-ys.true c.index-xs-i.is c.index-ys-j.is is.value h);
      turned = rw e (at_less _ _ _ _ _ _ c.if-j-ys.true c.merge-test.true c.index-ys-j.is c.index-xs-i.is is.turned (below c.index-ys-j.result.0 c.index-xs-i.result.0 h));
      first = omega (arith, is.first);
      second = omega arith;
    }

pub join_columns-returns-in_default-clause-value : goal.join_columns-returns-in_default-clause-value
join_columns-returns-in_default-clause-value t c =
    let e = c.in_ok-ty-in-Equal.ensures.value in
    at_none _ _ _ _ _ _ c.merge-test.true c.if-j-ys.true c.index-xs-i.is c.index-ys-j.is c.merge.invariant.value (sym c.in-Equal.ensures) (rw c.in_default.is at e)

pub join_columns-returns-in_default-clause-turned : goal.join_columns-returns-in_default-clause-turned
join_columns-returns-in_default-clause-turned t c =
    let e = c.in_ok-ty-in-Equal.ensures.turned in
    at_none _ _ _ _ _ _ c.if-j-ys.true c.merge-test.true c.index-ys-j.is c.index-xs-i.is c.merge.invariant.turned (alike c.index-xs-i.result.0 c.index-ys-j.result.0 (sym c.in-Equal.ensures)) (rw c.in_default.is at e)

pub join_columns-merge-preserved : goal.join_columns-merge-preserved
join_columns-merge-preserved t c =
    let e = c.in_ok-ty-in-Equal.ensures.value in
    let f = c.in_ok-ty-in-Equal.ensures.turned in
    let p = c.in_ok-push-in-Equal.ensures.items in
    let n = c.in_ok-copy-in-Equal.ensures in
    let h = sym c.in-Equal.ensures in
    let is = c.merge.invariant in
    record {
      value = rw (p, n) (at_equal _ _ _ _ _ _ c.merge-test.true c.if-j-ys.true c.index-xs-i.is c.index-ys-j.is is.value c.in-Some.ty h (rw c.in-Some.is at e));
      turned = rw (p, n) (at_equal_named _ _ _ _ _ _ c.if-j-ys.true c.merge-test.true c.index-ys-j.is c.index-xs-i.is is.turned _ c.in-Some.ty (exact_bytes c.index-xs-i.result.0 c.index-ys-j.result.0 h) (alike c.index-xs-i.result.0 c.index-ys-j.result.0 h) (rw c.in-Some.is at f));
      first = omega arith;
      second = omega arith;
    }

pub join_columns-from_rising-requires : goal.join_columns-from_rising-requires
join_columns-from_rising-requires t c =
    let p = c.in_ok-push_rest.ensures in
    let q = c.in_ok-push_rest-2.ensures in
    let some_end : (drop c.merge.i c.as_slice-xs.result.now ≡ []) ⊎ (drop c.merge.j c.as_slice-ys.result.now ≡ []) =
    elim c.merge-test.branch [ join_columns-then-merge-test+else-j-ys w ↦ inr (drop_all _ _ w.if-j-ys.false) | join_columns-else-merge-test w ↦ inl (drop_all _ _ w.merge-test.false) ] in
    joined_rises c.args.a.now c.args.b.now _ c.as_slice-xs.ensures.rising (rw (q, p) (joined_all _ _ some_end c.merge.invariant.value))

pub join_columns-returns-clause-value : goal.join_columns-returns-clause-value
join_columns-returns-clause-value t c =
    let p = c.in_ok-push_rest.ensures in
    let q = c.in_ok-push_rest-2.ensures in
    let some_end : (drop c.merge.i c.as_slice-xs.result.now ≡ []) ⊎ (drop c.merge.j c.as_slice-ys.result.now ≡ []) =
    elim c.merge-test.branch [ join_columns-then-merge-test+else-j-ys w ↦ inr (drop_all _ _ w.if-j-ys.false) | join_columns-else-merge-test w ↦ inl (drop_all _ _ w.merge-test.false) ] in
    rw (c.from_rising.ensures, q, p) (joined_all _ _ some_end c.merge.invariant.value)

pub join_columns-returns-clause-turned : goal.join_columns-returns-clause-turned
join_columns-returns-clause-turned t c =
    let p = c.in_ok-push_rest.ensures in
    let q = c.in_ok-push_rest-2.ensures in
    let some_end : (drop c.merge.i c.as_slice-xs.result.now ≡ []) ⊎ (drop c.merge.j c.as_slice-ys.result.now ≡ []) =
    elim c.merge-test.branch [ join_columns-then-merge-test+else-j-ys w ↦ inr (drop_all _ _ w.if-j-ys.false) | join_columns-else-merge-test w ↦ inl (drop_all _ _ w.merge-test.false) ] in
    rw (c.from_rising.ensures, q, p) (joined_turned some_end c.merge.invariant.turned)
