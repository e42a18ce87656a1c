use Rattle.std.proofs.Common.{◌∙◌, arith}
use Rattle.sqlite.specs.Held.{state}
use Rattle.sqlite.specs.State.{HasCleanDisk}
use Rattle.sql_meanings.proofs.CallLemmas.{inside_then}
use Rattle.sql_shaping.proofs.NewLemmas.{new_at, no_lasts, on_ok}
use Rattle.sql_shaping.proofs.keeping.insert_all.Goals as goal

pub returns-clause-ok : goal.returns-clause-ok
returns-clause-ok g c = λ clean empty.
    let old = state g.S.Store c.args.tx.now.conn.now in
    let mid = state g.S.Store c.insert_body.new.tx.conn.now in
    let new = state g.S.Store c.insert_lasts.new.tx.conn.now in
    let early : HasCleanDisk mid = omega (arith, clean, c.insert_lasts.ensures.runs.survives.clean) in
    let one = c.in_ok-insert_body.ensures.ok early empty.goes_on in
    on_ok c.insert_lasts.result (λ then. new_at old mid new c.args.body.now c.args.count _ empty one then) (c.insert_lasts.ensures.ok clean one.goes_on (no_lasts mid.now.trees (one.tabs ∙ empty.empty.tabs)))

pub returns-clause-on : goal.returns-clause-on
returns-clause-on g c = λ clean begun.
    let mid = state g.S.Store c.insert_body.new.tx.conn.now in
    let early : HasCleanDisk mid = omega (arith, clean, c.insert_lasts.ensures.runs.survives.clean) in
    let one = c.in_ok-insert_body.ensures.on early begun in
    on_ok c.insert_lasts.result (λ then. (then.0, then.1 ∙ one.committed)) (c.insert_lasts.ensures.on clean one.under_way)

pub returns-clause-runs : goal.returns-clause-runs
returns-clause-runs g c =
    inside_then (state g.S.Store c.args.tx.now.conn.now) (state g.S.Store c.insert_body.new.tx.conn.now) (state g.S.Store c.insert_lasts.new.tx.conn.now) c.in_ok-insert_body.ensures.on c.insert_body.ensures.runs c.insert_lasts.ensures.runs
