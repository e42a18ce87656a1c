use Rattle.std.proofs.Common.{◌∙◌, ap, sym}
use Rattle.row_keeper.specs.MovedTables.{AreSources, moved_from}
use Rattle.row_keeper.specs.TableView.{TableView}
use Rattle.row_keeper.proofs.MovedLemmas.{at_some, source_state}
use Rattle.row_keeper.proofs.moved.moved_from_place.Goals as goal

pub returns-clause-now : goal.returns-clause-now
returns-clause-now c =
    let there = at_some (λ (t : TableView). AreSources t.columns c.args.columns c.args.from.now) c.args.tables.now c.args.place c.index-tables-place.result c.requires.sources c.index-tables-place.is in
    c.in_ok-moved_from.ensures.now ∙ ap (moved_from c.args.from.now) (sym (source_state c.args.tables.now c.args.place c.index-tables-place.result there))
