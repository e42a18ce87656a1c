use Rattle.std.proofs.Common.{◌+◌, ◌∙◌, ℕ, ap, length, set}
use Rattle.recalc.specs.Changes.{raised}
use Rattle.recalc.specs.Kept.{CacheState}
use Rattle.recalc.proofs.cache.Cache.raise.Goals as goal

pub returns : goal.returns
returns c =
    let made : ℕ → CacheState = λ p. record { emptied = c.self.inside.emptied; last = c.self.inside.last + 1; versions = set c.self.inside.versions.items p (c.self.inside.last + 1); stamps = c.self.inside.stamps.items; values = c.self.inside.valued; room = record { versions = length c.self.inside.spare_versions.items; stamps = length c.self.inside.spare_stamps.items; values = length c.self.inside.spare_values.items } } in
    ap made c.place.ensures ∙ ap (λ (w : CacheState). raised w c.args.source) c.self.view_is
