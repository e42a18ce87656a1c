use Rattle.std.proofs.Common.{◌∙◌, ap, sym}
use Rattle.std.specs.List.{list_any}
use Rattle.fx_core.specs.declared.schema.Column.{Column}
use Rattle.sqlite.specs.Held.{state}
use Rattle.sql_contents.specs.Contents.{lines_in}
use Rattle.row_keeper.specs.RowRules.{first_broken, others, repeats}
use Rattle.store_reading.proofs.StayLemmas.{stays_itself}
use Rattle.store_rows.specs.Puts.{state_over}
use Rattle.store_rows.proofs.RuleLemmas.{none_unique}
use Rattle.store_rows.proofs.rules.first_in_others.Goals as goal

pub returns-then-not-have_unique-clause-stays : goal.returns-then-not-have_unique-clause-stays
returns-then-not-have_unique-clause-stays g c = stays_itself (state g.S.Store c.args.conn.now) _

pub returns-then-not-have_unique-clause-first : goal.returns-then-not-have_unique-clause-first
returns-then-not-have_unique-clause-first g c = λ clean rest are.
    let kept = lines_in (state g.S.Store c.args.conn.now).now.trees c.args.tab in
    let rows = (state_over kept c.args.table.now.columns c.args.changes.now).rows in
    let none = sym c.have_unique.ensures ∙ c.if-not-have_unique.true in
    none_unique (others c.args.id rows) 1 c.args.table.now.columns c.args.cells.now (ap (λ cs. list_any (λ (x : Column). x.unique) cs) (sym c.as_slice-columns.ensures) ∙ none)

pub returns-in-Ok-clause-first : goal.returns-in-Ok-clause-first
returns-in-Ok-clause-first g c = λ clean rest are.
    c.first_repeated.ensures.first ∙ ap (λ cs. first_broken (repeats (others c.args.id c.deref.result.now)) 1 cs c.args.cells.now) c.as_slice-columns.ensures
    ∙ ap (λ rows. first_broken (repeats (others c.args.id rows)) 1 c.args.table.now.columns c.args.cells.now) (c.deref.ensures.value ∙ c.in-Ok.ensures.rows clean rest are)
