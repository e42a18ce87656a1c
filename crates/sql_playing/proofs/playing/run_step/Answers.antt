use Rattle.std.proofs.Common.{sym, subst}
use Rattle.sqlite.specs.Held.{state}
use Rattle.sql_playing.proofs.RunLemmas.{Runs, line_inserted, line_replaced, line_removed, mark_inserted, mark_removed, last_replaced}
use Rattle.sql_playing.proofs.playing.run_step.Goals as goal

pub returns-in-InsertLine-clause-ok : goal.returns-in-InsertLine-clause-ok
returns-in-InsertLine-clause-ok g c = λ clean.
    let old = state g.S.Store c.args.tx.now.conn.now in
    let new = state g.S.Store c.insert_line.new.tx.conn.now in
    subst (Runs old new c.insert_line.result) (sym c.in-InsertLine.is) (λ k here can. line_inserted old new k here c.insert_line.result c.in-InsertLine.tab c.in-InsertLine.id c.in-InsertLine.body.now can (c.insert_line.ensures.ok clean))

pub returns-in-ReplaceLine-clause-ok : goal.returns-in-ReplaceLine-clause-ok
returns-in-ReplaceLine-clause-ok g c = λ clean.
    let old = state g.S.Store c.args.tx.now.conn.now in
    let new = state g.S.Store c.replace_line.new.tx.conn.now in
    subst (Runs old new c.replace_line.result) (sym c.in-ReplaceLine.is) (λ k here can. line_replaced old new k here c.replace_line.result c.in-ReplaceLine.tab c.in-ReplaceLine.id c.in-ReplaceLine.body.now (c.replace_line.ensures.ok clean))

pub returns-in-RemoveLine-clause-ok : goal.returns-in-RemoveLine-clause-ok
returns-in-RemoveLine-clause-ok g c = λ clean.
    let old = state g.S.Store c.args.tx.now.conn.now in
    let new = state g.S.Store c.remove_line.new.tx.conn.now in
    subst (Runs old new c.remove_line.result) (sym c.in-RemoveLine.is) (λ k here can. line_removed old new k here c.remove_line.result c.in-RemoveLine.tab c.in-RemoveLine.id (c.remove_line.ensures.ok clean))

pub returns-in-InsertMark-clause-ok : goal.returns-in-InsertMark-clause-ok
returns-in-InsertMark-clause-ok g c = λ clean.
    let old = state g.S.Store c.args.tx.now.conn.now in
    let new = state g.S.Store c.insert_mark.new.tx.conn.now in
    subst (Runs old new c.insert_mark.result) (sym c.in-InsertMark.is) (λ k here can. mark_inserted old new k here c.insert_mark.result c.in-InsertMark.tab c.in-InsertMark.column c.in-InsertMark.key.now c.in-InsertMark.id can (c.insert_mark.ensures.ok clean))

pub returns-in-RemoveMark-clause-ok : goal.returns-in-RemoveMark-clause-ok
returns-in-RemoveMark-clause-ok g c = λ clean.
    let old = state g.S.Store c.args.tx.now.conn.now in
    let new = state g.S.Store c.remove_mark.new.tx.conn.now in
    subst (Runs old new c.remove_mark.result) (sym c.in-RemoveMark.is) (λ k here can. mark_removed old new k here c.remove_mark.result c.in-RemoveMark.tab c.in-RemoveMark.column c.in-RemoveMark.key.now c.in-RemoveMark.id (c.remove_mark.ensures.ok clean))

pub returns-in-ReplaceLast-clause-ok : goal.returns-in-ReplaceLast-clause-ok
returns-in-ReplaceLast-clause-ok g c = λ clean.
    let old = state g.S.Store c.args.tx.now.conn.now in
    let new = state g.S.Store c.replace_last.new.tx.conn.now in
    subst (Runs old new c.replace_last.result) (sym c.in-ReplaceLast.is) (λ k here can. last_replaced old new k here c.replace_last.result c.in-ReplaceLast.tab c.in-ReplaceLast.last (c.replace_last.ensures.ok clean))
