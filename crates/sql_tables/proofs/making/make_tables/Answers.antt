use Rattle.std.proofs.Common.{arith}
use Rattle.sqlite.specs.Held.{state}
use Rattle.sqlite.specs.State.{HasCleanDisk}
use Rattle.sql_meanings.proofs.CallLemmas.{inside_then}
use Rattle.sql_tables.proofs.MadeLemmas.{four, made_all, on_four, three}
use Rattle.sql_tables.proofs.making.make_tables.Goals as goal

pub returns-in_err-make_tabs-clause-runs : goal.returns-in_err-make_tabs-clause-runs
returns-in_err-make_tabs-clause-runs g c = inside_then (state g.S.Store c.args.tx.now.conn.now) (state g.S.Store c.make_shape.new.tx.conn.now) (state g.S.Store c.make_tabs.new.tx.conn.now) c.in_ok-make_shape.ensures.on c.make_shape.ensures.runs c.make_tabs.ensures.runs

pub returns-in_err-make_lines-clause-runs : goal.returns-in_err-make_lines-clause-runs
returns-in_err-make_lines-clause-runs g c = three (state g.S.Store c.args.tx.now.conn.now) (state g.S.Store c.make_shape.new.tx.conn.now) (state g.S.Store c.make_tabs.new.tx.conn.now) (state g.S.Store c.make_lines.new.tx.conn.now) c.in_ok-make_shape.ensures.on c.in_ok-make_tabs.ensures.on c.make_shape.ensures.runs c.make_tabs.ensures.runs c.make_lines.ensures.runs

pub returns-in_err-make_marks-clause-runs : goal.returns-in_err-make_marks-clause-runs
returns-in_err-make_marks-clause-runs g c = four (state g.S.Store c.args.tx.now.conn.now) (state g.S.Store c.make_shape.new.tx.conn.now) (state g.S.Store c.make_tabs.new.tx.conn.now) (state g.S.Store c.make_lines.new.tx.conn.now) c.in_ok-make_shape.ensures.on c.in_ok-make_tabs.ensures.on c.make_shape.ensures.runs c.make_tabs.ensures.runs c.make_lines.ensures.runs (state g.S.Store c.make_marks.new.tx.conn.now) c.in_ok-make_lines.ensures.on c.make_marks.ensures.runs

pub returns-clause-runs : goal.returns-clause-runs
returns-clause-runs g c = four (state g.S.Store c.args.tx.now.conn.now) (state g.S.Store c.make_shape.new.tx.conn.now) (state g.S.Store c.make_tabs.new.tx.conn.now) (state g.S.Store c.make_lines.new.tx.conn.now) c.in_ok-make_shape.ensures.on c.in_ok-make_tabs.ensures.on c.make_shape.ensures.runs c.make_tabs.ensures.runs c.make_lines.ensures.runs (state g.S.Store c.make_marks.new.tx.conn.now) c.in_ok-make_lines.ensures.on c.make_marks.ensures.runs

pub returns-clause-on : goal.returns-clause-on
returns-clause-on g c = on_four (state g.S.Store c.args.tx.now.conn.now) (state g.S.Store c.make_shape.new.tx.conn.now) (state g.S.Store c.make_tabs.new.tx.conn.now) (state g.S.Store c.make_lines.new.tx.conn.now) c.in_ok-make_shape.ensures.on c.in_ok-make_tabs.ensures.on c.make_shape.ensures.runs c.make_tabs.ensures.runs c.make_lines.ensures.runs (state g.S.Store c.make_marks.new.tx.conn.now) c.in_ok-make_lines.ensures.on c.make_marks.ensures.runs c.in_ok-make_marks.ensures.on

pub returns-clause-ok : goal.returns-clause-ok
returns-clause-ok g c clean begun =
    let at-3 : HasCleanDisk (state g.S.Store c.make_lines.new.tx.conn.now) = omega (arith, c.make_marks.ensures.runs.survives.clean) in
    let at-2 : HasCleanDisk (state g.S.Store c.make_tabs.new.tx.conn.now) = omega (arith, c.make_lines.ensures.runs.survives.clean) in
    let at-1 : HasCleanDisk (state g.S.Store c.make_shape.new.tx.conn.now) = omega (arith, c.make_tabs.ensures.runs.survives.clean) in
    let first = c.in_ok-make_shape.ensures.ok at-1 begun in
    let second = c.in_ok-make_tabs.ensures.ok at-2 first.goes_on in
    let third = c.in_ok-make_lines.ensures.ok at-3 second.goes_on in
    made_all (state g.S.Store c.args.tx.now.conn.now) (state g.S.Store c.make_shape.new.tx.conn.now) (state g.S.Store c.make_tabs.new.tx.conn.now) (state g.S.Store c.make_lines.new.tx.conn.now) (state g.S.Store c.make_marks.new.tx.conn.now) first second third (c.in_ok-make_marks.ensures.ok clean third.goes_on)
