use Rattle.std.proofs.Common.{arith, subst}
use Rattle.recalc.specs.Outcomes.{IsRestarted}
use Rattle.recalc.proofs.Filling.{begun_anew}
use Rattle.recalc.proofs.cache.Cache.begin_anew.Goals as goal

pub restart-kept-requires-clause-stamps : goal.restart-kept-requires-clause-stamps
restart-kept-requires-clause-stamps c = let room = c.requires.stamps in let long = c.len.ensures in omega (arith, room, long)

pub restart-kept-requires-clause-values : goal.restart-kept-requires-clause-values
restart-kept-requires-clause-values c = let room = c.requires.values in let long = c.len.ensures in omega (arith, room, long)

pub returns : goal.returns
returns c = begun_anew c.args.app.now c.args.self.now c.restart-kept.new.self c.requires (subst (λ n. IsRestarted n c.args.self.now c.restart-kept.new.self) c.len.ensures c.restart-kept.ensures.new)
