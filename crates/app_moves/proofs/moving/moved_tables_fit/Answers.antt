use Rattle.app_moves.proofs.Moved.{each_fits}
use Rattle.app_moves.proofs.moving.moved_tables_fit.Goals as goal

pub returns : goal.returns
returns c = λ olds news moves states m h. each_fits olds states news moves h m.each
