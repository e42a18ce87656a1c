use Rattle.session_requests.proofs.Written.{opened_written}
use Rattle.std.proofs.lemmas.Result.{on_ok_weaker}
use Rattle.session_requests.proofs.Transactions.{goes_on_then}
use Rattle.session_requests.proofs.running.open.Goals as goal

pub returns-clause-wrote : goal.returns-clause-wrote
returns-clause-wrote g c =
    let told = g.K.Keeper.told in
    let marks = g.K.Keeper.marks in
    on_ok_weaker c.show.result (λ shows.
    opened_written (marks c.args.keeper.now) (marks c.act.new.keeper) (marks c.show.new.keeper) c.args.app.now c.args.moment c.args.session.now c.act.new.session c.show.new.session _
    c.args.wrote.now.items c.act.new.wrote.items c.show.new.wrote.items (told c.args.keeper.now) (told c.act.new.keeper) (told c.show.new.keeper) c.act.ensures.cause.later c.show.ensures.cause.later
    c.act.ensures.goes_on.prefix c.show.ensures.goes_on.prefix c.in_ok-act.ensures.wrote shows) c.show.ensures.wrote

pub returns-clause-goes_on : goal.returns-clause-goes_on
returns-clause-goes_on g c =
    goes_on_then g.K.Keeper c.args.app.now c.args.cache.now c.act.new.cache c.show.new.cache c.args.keeper.now c.act.new.keeper c.show.new.keeper c.args.wrote.now.items c.act.new.wrote.items c.show.new.wrote.items
    c.act.ensures.cause.later c.show.ensures.cause.later c.act.ensures.goes_on c.show.ensures.goes_on
