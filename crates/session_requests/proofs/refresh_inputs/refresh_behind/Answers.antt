use Rattle.std.proofs.Common.{◌≡◌, ℕ, List, arith, length, subst, sym}
use Rattle.std.proofs.lemmas.Bool.Decides.{nat_tests}
use Rattle.fx_core.specs.Reads.{IsAmong}
use Rattle.std.specs.List.{Contains}
use Rattle.recalc.specs.app_semantics.Present.{present}
use Rattle.recalc.specs.Kept.{cached_value}
use Rattle.session_requests.proofs.Readying.{fresh_behind}
use Rattle.session_requests.proofs.refresh_inputs.refresh_behind.Goals as goal

-- none is among none
none_there : (xs : List ℕ) (k : ℕ) → length xs ≡ 0 → Contains xs k → ⊥
none_there xs k none there = let low = there.1 in absurd (omega (arith, none, low))

pub returns-then-is_empty-clause-fresh : goal.returns-then-is_empty-clause-fresh
returns-then-is_empty-clause-fresh g c = λ right tables x heard among.
    fresh_behind (present c.args.app.now c.args.session.now tables c.args.moment) (cached_value c.args.cache.now) x c.requires.order.bare
    (λ k behind alone. absurd (none_there c.in_ok-cells.cells.items k (grind (arith, nat_tests))
    (c.in_ok-cells.ensures.behind x k (subst (IsAmong x) (sym c.as_slice.ensures.value) ((c.in_ok-reads.ensures.exact x).1 among)) behind alone)))

pub returns-in-Ok-clause-fresh : goal.returns-in-Ok-clause-fresh
returns-in-Ok-clause-fresh g c = λ right tables x heard among.
    fresh_behind (present c.args.app.now c.args.session.now tables c.args.moment) (cached_value c.refresh.new.self) x c.in-Ok.ensures.order.bare
    (λ k behind alone. c.in-Ok.ensures.fresh right tables k heard
    (subst (λ (xs : List ℕ). Contains xs k) (sym c.as_slice-roots.ensures.value)
    (c.in_ok-cells.ensures.behind x k (subst (IsAmong x) (sym c.as_slice.ensures.value) ((c.in_ok-reads.ensures.exact x).1 among)) behind alone)))
