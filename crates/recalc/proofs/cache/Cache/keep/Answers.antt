use Rattle.std.proofs.Common.{◌∙◌, ◌+◌, ap, length}
use Rattle.fx_types.specs.ValueView.{view}
use Rattle.recalc.specs.Values.{CellValues}
use Rattle.recalc.specs.Kept.{CacheState}
use Rattle.recalc.specs.Steps.{confirmed, kept_with}
use Rattle.recalc.proofs.cache.Cache.keep.Goals as goal

pub returns : goal.returns
returns c =
    let made : CellValues → CacheState = λ v. confirmed (record { emptied = c.self.inside.emptied; last = c.self.inside.last + 1; versions = c.self.inside.versions.items; stamps = c.self.inside.stamps.items; values = v; room = record { versions = length c.self.inside.spare_versions.items; stamps = length c.self.inside.spare_stamps.items; values = length c.self.inside.spare_values.items } }) c.args.cell c.args.moved in
    c.confirm.ensures ∙ ap made c.put.ensures ∙ ap (λ (w : CacheState). kept_with w c.args.cell (view c.args.value) c.args.moved) c.self.view_is
