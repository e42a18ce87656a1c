use Rattle.std.proofs.Common.{◌≡◌, ℕ, List, [], Option, Some, length, refl, subst, sym}
use Rattle.std.specs.Prelude.{slice_get, unwrap_or}
use Rattle.std.proofs.lemmas.Option.{slice_get_read}
use Rattle.fx_core.specs.declared.schema.Column.{Column}
use Rattle.fx_core.specs.declared.schema.TableShape.{TableShape}
use Rattle.row_keeper.specs.Kept.{columns_shaped}
use Rattle.row_keeper.specs.MovedTables.{AreSources, columns_from}
use Rattle.row_keeper.proofs.StoreLemmas.{at_map}
use Rattle.sql_keeper.proofs.moving.moved_table.Goals as goal

source_shape : (olds : List TableShape) (k : ℕ) (t : TableShape) (news : List Column) (from : List (Option ℕ)) → slice_get olds k ≡ Some t → AreSources (columns_from (columns_shaped olds) (Some k)) news from → AreSources t.columns news from
source_shape olds k t news from there s = subst (λ (o : Option (List Column)). AreSources (unwrap_or o []) news from) (at_map (λ (x : TableShape). x.columns) olds k t there) s

pub table_from-requires-clause-sources : goal.table_from-requires-clause-sources
table_from-requires-clause-sources c =
    let olds = c.args.olds.now in
    let tab = c.in-Some.tab in
    let t = c.in-Some-get.table.now in
    let m = c.args.source.now in
    let there : slice_get olds tab ≡ Some t = slice_get_read olds (length olds) tab t refl c.in-Some-get.ensures.lookup.3.0 c.in-Some-get.ensures.lookup.1 in
    let sources = subst (λ (o : Option ℕ). AreSources (columns_from (columns_shaped olds) o) c.args.shape.now.columns m.columns) c.in-Some.is c.requires.moves.sources in
    let at = source_shape olds tab t c.args.shape.now.columns m.columns there sources in
    subst (λ cs. AreSources t.columns cs c.as_slice-from.result.now) (sym c.in_ok-columns.ensures)
    (subst (λ from. AreSources t.columns c.args.shape.now.columns from) (sym c.as_slice-from.ensures) at)
