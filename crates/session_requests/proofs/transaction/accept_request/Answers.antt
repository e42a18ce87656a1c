use Rattle.std.proofs.Common.{List, subst, sym}
use Rattle.fx_core.specs.declared.sources.Source.{Source}
use Rattle.recalc.specs.Changes.{StaysCleanExcept}
use Rattle.session_requests.specs.Caching.{AreSources, IsPending}
use Rattle.session_requests.proofs.Transactions.{ended_touched}
use Rattle.session_requests.proofs.Undone.{pending_touched}
use Rattle.session_requests.proofs.transaction.accept_request.Goals as goal

pub touch_all-requires : goal.touch_all-requires
touch_all-requires g c = (c.args.app.now, c.in-Err.ensures.pending.order, subst (AreSources c.args.app.now.names) (sym c.as_slice.ensures.value) c.transact.ensures.ended.sources)

pub returns-in-Err-clause-undone : goal.returns-in-Err-clause-undone
returns-in-Err-clause-undone g c =
    let told = g.K.Keeper.told c.transact.new.keeper in
    pending_touched c.args.app.now c.as_slice.result.now c.args.before.now told c.args.moment c.transact.new.cache c.touch_all.new.cache
    (c.touch_all.ensures c.args.app.now (subst (AreSources c.args.app.now.names) (sym c.as_slice.ensures.value) c.transact.ensures.ended.sources))
    (subst (λ (ws : List Source). IsPending c.args.app.now c.args.before.now told c.args.moment ws c.transact.new.cache) (sym c.as_slice.ensures.value) c.in-Err.ensures.pending)

pub returns-in-Err-clause-ended : goal.returns-in-Err-clause-ended
returns-in-Err-clause-ended g c =
    let own = subst (AreSources c.args.app.now.names) (sym c.as_slice.ensures.value) c.transact.ensures.ended.sources in
    ended_touched g.K.Keeper c.args.app.now c.args.cache.now c.transact.new.cache c.touch_all.new.cache c.args.keeper.now c.transact.new.keeper c.args.wrote.now.items c.transact.new.wrote.items c.transact.ensures.ended
    (subst (λ (xs : List Source). StaysCleanExcept c.args.app.now xs c.transact.new.cache c.touch_all.new.cache) c.as_slice.ensures.value (c.touch_all.ensures c.args.app.now own).but)
