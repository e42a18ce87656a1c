use Rattle.std.proofs.Common.{sym, subst}
use Rattle.fx_core.specs.Lawful.{IsLawfulSchema}
use Rattle.fx_behave.proofs.perform.limit_queries.Goals as goal

pub limit_queries_under-requires : goal.limit_queries_under-requires
limit_queries_under-requires g c = subst IsLawfulSchema (sym c.schema.ensures) (g.met.W.World.lawful c.args.world.now)
