use Rattle.std.proofs.Common.{◌≡◌, ◌⊎◌, ◌∙◌, ap, filter, subst, sym, true, false}
use Rattle.std.specs.Result.{IfOk}
use Rattle.row_queries.specs.Ranges.{HoldEveryKey}
use Rattle.row_keeper.specs.Covered.{covered_of, covers}
use Rattle.row_keeper.specs.Sound.{lies_among}
use Rattle.row_keeper.specs.TableView.{TableView}
use Rattle.row_keeper.proofs.SoundLemmas.{found, unfound}
use Rattle.row_keeper.proofs.table.Table.ask.Goals as goal

pub returns-in_ok-ids : goal.returns-in_ok-ids
returns-in_ok-ids c =
    let has : covers c.self.inside.covered.items c.args.column ≡ true = ap (λ v. covers v c.args.column) (sym c.deref.ensures.value) ∙ sym c.if-contains.ensures.value in
    let same = found c.self.inside.columns c.self.inside.covered.items c.args.column c.args.ranges.now c.self.inside.slots.by_id.entries c.self.inside.index.entries.entries c.self.inside.last c.self.inside.count c.self.inside.first c.self.inside.first_count
    c.in_ok-ids.ids.keys c.self.invariant has c.rows_at.ensures.rows c.hits.ensures.ordered c.rows_at.ensures.ids c.in_ok-ids.ensures.hits in
    subst (λ xs. IfOk c.rows_at.result (λ rows. rows.items ≡ xs)) (same ∙ ap (λ (w : TableView). filter (lies_among c.args.column c.args.ranges.now) w.now.rows) c.self.view_is) c.rows_at.ensures.found

pub returns-else-contains : goal.returns-else-contains
returns-else-contains c =
    let no : covers c.self.inside.covered.items c.args.column ≡ false = ap (λ v. covers v c.args.column) (sym c.deref.ensures.value) ∙ sym c.if-contains.ensures.value in
    let reaches = subst (λ (w : TableView). (covers (covered_of w.columns) c.args.column ≡ true) ⊎ HoldEveryKey c.args.ranges.now) (sym c.self.view_is) c.requires.reaches in
    let same = unfound c.self.inside.columns c.self.inside.covered.items c.args.column c.args.ranges.now c.self.inside.slots.by_id.entries c.self.inside.index.entries.entries c.self.inside.last c.self.inside.count c.self.inside.first c.self.inside.first_count
    c.self.invariant c.all_rows.ensures.rows no reaches in
    subst (λ xs. IfOk c.all_rows.result (λ rows. rows.items ≡ xs)) (sym same ∙ ap (λ (w : TableView). filter (lies_among c.args.column c.args.ranges.now) w.now.rows) c.self.view_is) c.all_rows.ensures.found
