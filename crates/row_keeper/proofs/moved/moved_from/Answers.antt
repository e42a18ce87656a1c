use Rattle.std.proofs.Common.{◌∙◌, map, subst, sym}
use Rattle.std.specs.List.{AllByRecursion}
use Rattle.row_queries.specs.TableRows.{AreCellsOf, AreInIdOrder, IsBelowAll}
use Rattle.row_queries.specs.declared.rows.Row.{Row}
use Rattle.row_keeper.specs.MovedTables.{moved_cell}
use Rattle.row_keeper.proofs.MovedLemmas.{from_one, rows_fit}
use Rattle.row_keeper.proofs.moved.moved_from.Goals as goal

pub table_of-requires-clause-fit : goal.table_of-requires-clause-fit
table_of-requires-clause-fit c =
    subst (AllByRecursion (λ (r : Row). AreCellsOf c.args.columns (map (moved_cell r) c.args.from.now))) (sym (c.deref.ensures.value ∙ c.in_ok-rows.ensures))
    (rows_fit c.args.source.now.columns c.args.columns c.args.from.now c.requires.sources c.args.source.now.now.rows c.is_sound.ensures.now.rows)

pub table_of-requires-clause-rising : goal.table_of-requires-clause-rising
table_of-requires-clause-rising c =
    subst (λ l. IsBelowAll 0 l × AreInIdOrder l) (sym (c.deref.ensures.value ∙ c.in_ok-rows.ensures))
    (from_one c.args.source.now.columns c.args.source.now.now.rows c.is_sound.ensures.now.rows, c.is_sound.ensures.now.rising)
