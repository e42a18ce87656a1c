use Rattle.std.proofs.Common.{Result, Err, refl}
use Rattle.std.specs.Prelude.{Vec}
use Rattle.std.specs.declared.alloc.Global.{Global}
use Rattle.sqlite.specs.Order.{Row}
use Rattle.row_keeper.specs.declared.keeper.KeeperEnd.{KeeperEnd}
use Rattle.sqlite.specs.Held.{state}
use Rattle.sql_contents.specs.Contents.{lasts_in}
use Rattle.store_asking.proofs.RestLemmas.{asked, refused}
use Rattle.store_asking.proofs.asking.ask_lasts.Goals as goal

pub returns-in-Ok-clause-stays : goal.returns-in-Ok-clause-stays
returns-in-Ok-clause-stays g c = asked (state g.S.Store c.args.conn.now) (state g.S.Store c.read_lasts.new.conn) c.read_lasts.ensures.later (λ clean has. c.in-Ok.ensures.same clean has)

pub returns-in-Ok-clause-answer : goal.returns-in-Ok-clause-answer
returns-in-Ok-clause-answer g c = λ clean rest.
    let s = state g.S.Store c.args.conn.now in
    c.in-Ok.ensures.answer clean rest.ready.schema (lasts_in s.now.trees) rest.held.lasts

pub returns-in-Err-clause-stays : goal.returns-in-Err-clause-stays
returns-in-Err-clause-stays g c =
    let r : Result (Vec Row Global) KeeperEnd = Err c.refusal.result in
    refused r (state g.S.Store c.args.conn.now) (state g.S.Store c.read_lasts.new.conn) (state g.S.Store c.refusal.new.conn) c.refusal.result refl c.read_lasts.ensures.later c.read_lasts.ensures.runs c.refusal.ensures.later c.refusal.ensures.same
