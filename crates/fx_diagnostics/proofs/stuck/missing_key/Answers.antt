use Rattle.fx_typing.specs.TypedView.{piece_view}
use Rattle.fx_typing.proofs.GroupNames.{keys_before}
use Rattle.fx_diagnostics.proofs.stuck.missing_key.Goals as goal

pub returns-in-len1-up : goal.returns-in-len1-up
returns-in-len1-up c = rw (keys_before (λ p. piece_view p.now) c.args.pieces.now) c.missing_column.ensures
