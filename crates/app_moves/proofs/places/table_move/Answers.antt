use Rattle.std.proofs.Common.{◌∙◌, sym}
use Rattle.app_moves.proofs.Fits.{source_narrow}
use Rattle.app_moves.proofs.places.table_move.Goals as goal

pub column_moves-requires : goal.column_moves-requires
column_moves-requires c = λ t e. source_narrow c.args.olds.now c.args.moves.now c.args.new.now.name c.requires.narrow t (sym c.source_of-source.ensures ∙ e)
