use Rattle.std.proofs.Common.{◌≡◌}
use Rattle.row_lines.specs.FromBytes.{behind_pieces}
use Rattle.row_lines.proofs.pieces.piece_at.Given as goal

abbrev pub invariant-loop-passed : goal.invariant-loop-passed
invariant-loop-passed l = l.rest ≡ behind_pieces l._passed l.body
