use Rattle.std.proofs.Common.{◌≡◌, ◌∙◌, List, Option, None, ap, arith, get_or, length, refl, subst}
use Rattle.std.proofs.lemmas.List.{with_items_is}
use Rattle.std.specs.Vec.{with_items}
use Rattle.recalc.specs.Kept.{CacheState}
use Rattle.recalc.specs.Outcomes.{IsForgotten}
use Rattle.recalc.specs.declared.stamps.Stamp.{Stamp}
use Rattle.recalc.proofs.cache.Cache.forget.Goals as goal

pub returns : goal.returns
returns c =
    let len : length c.drop_stamps.new.stamps ≡ c.self.inside.stamps.len = omega (arith, c.drop_stamps.ensures.long, c.deref_mut.ensures.len) in
    let items : (with_items c.self.inside.stamps c.drop_stamps.new.stamps).items ≡ c.drop_stamps.new.stamps = with_items_is c.self.inside.stamps c.drop_stamps.new.stamps len in
    let new : CacheState = record { emptied = c.self.inside.emptied; last = c.self.inside.last; versions = c.self.inside.versions.items; stamps = (with_items c.self.inside.stamps c.drop_stamps.new.stamps).items; values = c.self.inside.valued; room = record { versions = length c.self.inside.spare_versions.items; stamps = length c.self.inside.spare_stamps.items; values = length c.self.inside.spare_values.items } } in
    subst (λ (w : CacheState). IsForgotten w new) c.self.view_is (record {
      emptied = refl;
      last = refl;
      versions = refl;
      stamps = λ k. ap (λ (xs : List (Option Stamp)). get_or xs k None) items ∙ c.drop_stamps.ensures.none k;
      values = refl;
      cells = ap length items ∙ c.drop_stamps.ensures.long ∙ ap length c.deref_mut.ensures.value;
    })
