use Rattle.std.proofs.Common.{Option, subst, sym, ℕ}
use Rattle.row_keeper.specs.Kept.{columns_kept}
use Rattle.row_keeper.specs.MovedTables.{AreSources, IsFrom, columns_from}
use Rattle.row_keeper.specs.TableView.{TableView}
use Rattle.std.specs.Prelude.{IsSomeAnd, slice_get}
use Rattle.row_keeper.proofs.MovedLemmas.{source_at}
use Rattle.row_keeper.proofs.moved.moved_table.Goals as goal

pub moved_from_place-requires-clause-sources : goal.moved_from_place-requires-clause-sources
moved_from_place-requires-clause-sources c =
    let tables = c.args.tables.now in
    let m = c.args.source.now in
    let there = subst (IsFrom (columns_kept tables)) c.in-Some.is c.requires.moves.from in
    let sources = subst (λ (o : Option ℕ). AreSources (columns_from (columns_kept tables) o) c.args.shape.now.columns m.columns) c.in-Some.is c.requires.moves.sources in
    let at = source_at tables c.in-Some.place c.args.shape.now.columns m.columns there sources in
    subst (λ cs. IsSomeAnd (slice_get tables c.in-Some.place) (λ (t : TableView). AreSources t.columns cs c.as_slice-from.result.now)) (sym c.in_ok-columns.ensures)
    (subst (λ from. IsSomeAnd (slice_get tables c.in-Some.place) (λ (t : TableView). AreSources t.columns c.args.shape.now.columns from)) (sym c.as_slice-from.ensures) at)
