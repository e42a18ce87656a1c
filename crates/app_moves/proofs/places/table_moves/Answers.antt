use Rattle.app_moves.proofs.Fits.{moves_fit}
use Rattle.app_moves.proofs.places.table_moves.Goals as goal

pub returns-in_err-table_move-clause-fit : goal.returns-in_err-table_move-clause-fit
returns-in_err-table_move-clause-fit c = λ e. moves_fit c.args.olds.now c.args.news.now c.args.moves.now c.requires.news e

pub returns-in_err-push-clause-fit : goal.returns-in_err-push-clause-fit
returns-in_err-push-clause-fit c = λ e. moves_fit c.args.olds.now c.args.news.now c.args.moves.now c.requires.news e

pub returns-clause-fit : goal.returns-clause-fit
returns-clause-fit c = λ e. moves_fit c.args.olds.now c.args.news.now c.args.moves.now c.requires.news e
