use Rattle.std.proofs.Common.{◌∙◌, ap}
use Rattle.sqlite.specs.Held.{state}
use Rattle.sql_contents.specs.Contents.{lines_in}
use Rattle.row_keeper.specs.RowRules.{first_broken, lacks}
use Rattle.store_reading.proofs.StayLemmas.{stays_itself}
use Rattle.store_rows.specs.Puts.{state_over}
use Rattle.store_rows.proofs.RuleLemmas.{required_first, rule_behind}
use Rattle.store_rows.proofs.rules.broken_rule.Goals as goal

pub returns-in-Some-clause-stays : goal.returns-in-Some-clause-stays
returns-in-Some-clause-stays g c = stays_itself (state g.S.Store c.args.conn.now) _

pub returns-in-Some-clause-rule : goal.returns-in-Some-clause-rule
returns-in-Some-clause-rule g c = λ clean rest are room.
    let columns = c.args.table.now.columns in
    let s = state_over (lines_in (state g.S.Store c.args.conn.now).now.trees c.args.tab) columns c.args.changes.now in
    required_first columns s c.args.room c.args.id c.args.cells.now c.in-Some.column (c.in-Some.ensures.first ∙ ap (λ cs. first_broken lacks 1 cs c.args.cells.now) c.as_slice.ensures)

pub returns-in-Ok-clause-rule : goal.returns-in-Ok-clause-rule
returns-in-Ok-clause-rule g c = λ clean rest are room.
    let columns = c.args.table.now.columns in
    let s = state_over (lines_in (state g.S.Store c.args.conn.now).now.trees c.args.tab) columns c.args.changes.now in
    rule_behind columns s c.args.room c.args.id c.args.cells.now c.in-Ok.repeated c.broken_behind.result (c.in_default.ensures.first ∙ ap (λ cs. first_broken lacks 1 cs c.args.cells.now) c.as_slice.ensures) (c.in-Ok.ensures.first clean rest are) room c.broken_behind.ensures.rule
