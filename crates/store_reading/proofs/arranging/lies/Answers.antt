use Rattle.row_keeper.proofs.WholeLemmas.{scalar_at}
use Rattle.store_reading.proofs.arranging.lies.Goals as goal

pub key_in-requires : goal.key_in-requires
key_in-requires c = scalar_at c.args.table.now.columns c.args.row.now.cells c.requires.1
