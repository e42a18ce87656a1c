use Rattle.std.proofs.Common.{◌≡◌, ◌∙◌, ℕ, List, Option, None, ap, arith, get_or, length, refl, subst}
use Rattle.std.proofs.lemmas.List.{with_items_is}
use Rattle.std.specs.Vec.{with_items}
use Rattle.recalc.specs.Kept.{CacheState}
use Rattle.recalc.specs.Outcomes.{IsOneMore, IsEmptied}
use Rattle.recalc.specs.declared.stamps.Stamp.{Stamp}
use Rattle.recalc.proofs.cache.Cache.empty.Goals as goal

pub returns : goal.returns
returns c =
    let len : length c.drop_stamps.new.stamps ≡ c.self.inside.stamps.len = omega (arith, c.drop_stamps.ensures.long, c.deref_mut.ensures.len) in
    let items : (with_items c.self.inside.stamps c.drop_stamps.new.stamps).items ≡ c.drop_stamps.new.stamps = with_items_is c.self.inside.stamps c.drop_stamps.new.stamps len in
    let long : length c.drop_versions.new.versions ≡ c.self.inside.versions.len = omega (arith, c.drop_versions.ensures.long, c.deref_mut-2.ensures.len) in
    let versions : (with_items c.self.inside.versions c.drop_versions.new.versions).items ≡ c.drop_versions.new.versions = with_items_is c.self.inside.versions c.drop_versions.new.versions long in
    let sum = c.saturating_add-self-inside.ensures in
    let counted : IsOneMore c.self.inside.emptied c.saturating_add-self-inside.result = record { more = λ end. omega (arith, sum, end); never_less = omega (arith, sum) } in
    let new : CacheState = record { emptied = c.saturating_add-self-inside.result; last = 0; versions = (with_items c.self.inside.versions c.drop_versions.new.versions).items; stamps = (with_items c.self.inside.stamps c.drop_stamps.new.stamps).items; values = c.self.inside.valued; room = record { versions = length c.self.inside.spare_versions.items; stamps = length c.self.inside.spare_stamps.items; values = length c.self.inside.spare_values.items } } in
    subst (λ (w : CacheState). IsEmptied w new) c.self.view_is (record {
      emptied = counted;
      last = refl;
      versions = λ p. ap (λ (xs : List ℕ). get_or xs p 0) versions ∙ c.drop_versions.ensures.zero p;
      stamps = λ k. ap (λ (xs : List (Option Stamp)). get_or xs k None) items ∙ c.drop_stamps.ensures.none k;
      values = refl;
      places = ap length versions ∙ c.drop_versions.ensures.long ∙ ap length c.deref_mut-2.ensures.value;
      cells = ap length items ∙ c.drop_stamps.ensures.long ∙ ap length c.deref_mut.ensures.value;
    })
