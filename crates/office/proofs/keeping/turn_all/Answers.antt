use Rattle.std.proofs.Common.{◌≡◌, ◌<◌, ◌≤◌, ◌+◌, ◌∙◌, List, [], ◌∷◌, length, ap, refl, sym, subst, arith}
use Rattle.std.specs.List.{AllByRecursion}
use Rattle.std.proofs.lemmas.List.{length-append}
use Rattle.fx_types.specs.ValueView.{view}
use Rattle.fx_types.specs.declared.values.Value.{Value}
use Rattle.fx_scalar.specs.ScalarFunctions.{IsToday}
use Rattle.recalc.specs.Kept.{CacheState}
use Rattle.office.specs.Caches.{IsTurned}
use Rattle.office.proofs.Places.{item_at}
use Rattle.office.proofs.Rounds.{every_front, every_last, so_far_all, so_far_here, so_far_more}
use Rattle.office.proofs.keeping.turn_all.Goals as goal

pub turn-requires : goal.turn-requires
turn-requires c =
    let within : c.loop-at.at < length c.loop-at.caches.items = omega (arith, c.loop-at-test.true, c.len-at-end.ensures, c.args.caches.now.ok.0, c.loop-at.invariant.done.long) in
    let there = item_at c.loop-at.caches.items c.loop-at.at c.index_mut.result.now within c.index_mut.ensures.value in
    c.requires c.loop-at.at c.index_mut.result.now (so_far_here (λ k. IsTurned c.args.moment) c.loop-at.at c.args.caches.now.items c.loop-at.caches.items c.index_mut.result.now c.loop-at.invariant.done there)

pub loop-at-preserved : goal.loop-at-preserved
loop-at-preserved c =
    let P : Value → Type 0 = λ d. IsToday c.args.moment (view d) in
    let item = c.index_mut.result.now in
    let day = c.in-Some.day in
    let within : c.loop-at.at < length c.loop-at.caches.items = omega (arith, c.loop-at-test.true, c.len-at-end.ensures, c.args.caches.now.ok.0, c.loop-at.invariant.done.long) in
    let there = item_at c.loop-at.caches.items c.loop-at.at item within c.index_mut.ensures.value in
    let days = subst (λ (l : List Value). AllByRecursion P l) c.in-Some.ensures.items c.loop-at.invariant.days in
    let counted : length c.loop-at.days.items ≡ length c.pop.new.self.items + 1 = ap length c.in-Some.ensures.items ∙ length-append c.pop.new.self.items (day ∷ []) in
    let turned = c.turn.ensures in
    record {
      done = so_far_more (λ k. IsTurned c.args.moment) c.loop-at.at c.args.caches.now.items c.loop-at.caches.items _ item (record { name = item.name; it = c.turn.new.self }) c.loop-at.invariant.done there refl
          (record { told = turned.0; day = view day; touched = turned.1; today = every_last P c.pop.new.self.items day days; is = turned.2 }) refl;
      left = omega (arith, counted, c.loop-at.invariant.left);
      days = every_front P c.pop.new.self.items day days;
    }

pub returns-clause-turned : goal.returns-clause-turned
returns-clause-turned c =
    let all : length c.args.caches.now.items ≤ c.loop-at.at = omega (arith, c.loop-at-test.false, c.len-at-end.ensures, c.args.caches.now.ok.0) in
    so_far_all (λ k. IsTurned c.args.moment) c.loop-at.at c.args.caches.now.items c.loop-at.caches.items all c.loop-at.invariant.done
