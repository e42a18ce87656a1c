use Rattle.std.proofs.Common.{◌≡◌, ◌<◌, ◌+◌, ◌∙◌, length, ap, refl, sym, subst, arith, true, false, Vec, vec_capacity}
use Rattle.std.specs.declared.alloc.Global.{Global}
use Rattle.recalc.specs.Kept.{CacheState}
use Rattle.numbered_requests.specs.declared.directory.Named.{Named}
use Rattle.office.specs.Caches.{IsToldAside, is_other_place, tables_in}
use Rattle.office.proofs.Places.{item_at}
use Rattle.office.proofs.Rounds.{IsSoFar, so_far_here, so_far_more, so_far_skip}
use Rattle.office.proofs.keeping.touch_others.Goals.{then-is_other, else-is_other}
use Rattle.office.proofs.keeping.touch_others.Goals as goal

pub touch-requires-clause-order : goal.touch-requires-clause-order
touch-requires-clause-order c =
    let within : c.loop-at.at < length c.loop-at.caches.items = omega (arith, c.loop-at-test.true, c.len-at-end.ensures, c.args.caches.now.ok.0, c.loop-at.invariant.told.long) in
    let there = item_at c.loop-at.caches.items c.loop-at.at c.index_mut.result.now within c.index_mut.ensures.value in
    c.requires.order c.loop-at.at c.index_mut.result.now
    (so_far_here (IsToldAside c.args.app.now c.args.place (tables_in c.args.wrote.now)) c.loop-at.at c.args.caches.now.items c.loop-at.caches.items c.index_mut.result.now c.loop-at.invariant.told there)

pub loop-at-preserved : goal.loop-at-preserved
loop-at-preserved c =
    let R = IsToldAside c.args.app.now c.args.place (tables_in c.args.wrote.now) in
    let at = c.loop-at.at in
    let old = c.args.caches.now.items in
    let now = c.loop-at.caches.items in
    let within : at < length now = omega (arith, c.loop-at-test.true, c.len-at-end.ensures, c.args.caches.now.ok.0, c.loop-at.invariant.told.long) in
    elim c.if-is_other.branch [
      | then-is_other w ↦
          let other = sym c.is_other.ensures ∙ w.if-is_other.true in
          let item = w.index_mut.result.now in
          let there = item_at now at item within w.index_mut.ensures.value in
          record {
            told = so_far_more R at old now c.if-is_other.caches.items item (record { name = item.name; it = w.touch.new.cache }) c.loop-at.invariant.told there refl
                (record { same = λ here. absurd (let no : true ≡ false = sym other ∙ here in cc); told = λ far. w.touch.ensures }) (ap (λ (v : Vec (Named CacheState) Global). v.items) w.caches-is);
            capacity = ap (λ (v : Vec (Named CacheState) Global). vec_capacity v) w.caches-is ∙ c.loop-at.invariant.capacity;
          }
      | else-is_other w ↦
          let here = sym c.is_other.ensures ∙ w.if-is_other.false in
          record {
            told = subst (λ (v : Vec (Named CacheState) Global). IsSoFar R (at + 1) old v.items) (sym w.caches-is)
                (so_far_skip R at old now c.loop-at.invariant.told within (λ k. record { same = λ e. refl; told = λ far. absurd (let no : true ≡ false = sym far ∙ here in cc) }));
            capacity = ap (λ (v : Vec (Named CacheState) Global). vec_capacity v) w.caches-is ∙ c.loop-at.invariant.capacity;
          }
    ]
