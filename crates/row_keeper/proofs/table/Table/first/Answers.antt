use Rattle.std.proofs.Common.{◌≡◌, ◌⊎◌, ◌<◌, ◌^◌, ◌∙◌, ap, filter, rules, subst, sym, take, true}
use Rattle.std.specs.Result.{IfOk}
use Rattle.row_queries.specs.Ranges.{HoldEveryKey}
use Rattle.row_keeper.specs.Covered.{covered_of, covers}
use Rattle.row_keeper.specs.Entries.{ids_in}
use Rattle.row_keeper.specs.Found.{rows_of_ids}
use Rattle.row_keeper.specs.Sound.{lies_among}
use Rattle.row_keeper.specs.TableView.{TableView}
use Rattle.row_keeper.proofs.PageLemmas.{goes_covered, goes_rise, ids_are_hits, ids_there, keyed, rows_taken}
use Rattle.row_keeper.proofs.SoundLemmas.{found}
use Rattle.row_keeper.proofs.table.Table.first.Goals as goal

pub returns : goal.returns
returns c =
    let rows = c.self.inside.slots.by_id.entries in
    let es = c.self.inside.index.entries.entries in
    let covered = c.self.inside.covered.items in
    let column = c.args.column in
    let rs = c.args.ranges.now in
    let ids = ids_in column rs es in
    let agrees = c.self.invariant.agrees in
    let sorted = c.first_hits.ensures.ordered in
    let few : c.self.inside.last < 2 ^ 32 = search rules in
    let keys = keyed covered rows es c.self.inside.last agrees c.self.invariant.tallied.above few sorted in
    let reaches = subst (λ (w : TableView). (covers (covered_of w.columns) column ≡ true) ⊎ HoldEveryKey rs) (sym c.self.view_is) c.requires.reaches in
    let has : covers covered column ≡ true = ap (λ v. covers v column) c.self.invariant.covered_is ∙ goes_covered c.self.inside.columns column rs c.requires.goes reaches in
    let same = found c.self.inside.columns covered column rs rows es c.self.inside.last c.self.inside.count c.self.inside.first c.self.inside.first_count ids c.self.invariant has c.rows_of.ensures.rows sorted
    (goes_rise c.keys_order.ensures.order rows column rs es c.requires.goes c.requires.rises sorted keys) (ids_are_hits column rs es) in
    subst (λ xs. IfOk c.rows_of.result (λ found. found.items ≡ xs))
    (ap (rows_of_ids rows) (c.deref.ensures.value ∙ c.in_ok-ids.ensures.hits) ∙ rows_taken rows ids c.args.most (ids_there covered column rows es rs has agrees sorted) ∙ ap (take c.args.most) same
    ∙ ap (λ (w : TableView). take c.args.most (filter (lies_among column rs) w.now.rows)) c.self.view_is)
    c.rows_of.ensures.found
