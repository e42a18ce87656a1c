use Rattle.std.proofs.Common.{◌≤◌, length, subst}
use Rattle.fx_core.specs.declared.names.Names.{Names}
use Rattle.fx_deeds.proofs.Deeding.{not_beyond}
use Rattle.fx_deeds.proofs.collections.collection_columns.Goals as goal

pub unreachable-requires : goal.unreachable-requires
unreachable-requires g c =
    let w = c.args.world.now in
    not_beyond (g.W.Env.fixed w).types (g.W.World.names w) c.args.collection (g.met.W.World.typed w) c.requires.0 c.requires.1
    (subst (λ (n : Names). length n.collections ≤ c.args.collection) c.names.ensures c.in_default.ensures)
