use Rattle.std.proofs.Common.{◌∙◌, ap, map, sym, take}
use Rattle.std.proofs.lemmas.List.{take-map}
use Rattle.fx_resolve.specs.ScopeView.{scope}
use Rattle.fx_resolve.proofs.scopes.Scopes.cut.Goals as goal

pub returns : goal.returns
returns c =
    ap (map scope) c.truncate.ensures.items ∙ sym (take-map scope c.args.count c.self.inside.items.items)
    ∙ ap (take c.args.count) c.self.view_is
