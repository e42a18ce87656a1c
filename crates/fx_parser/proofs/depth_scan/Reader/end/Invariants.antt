use Rattle.std.proofs.Common.{vec_len}
use Rattle.fx_parser.proofs.depth_scan.Reader.end.Given as goal

abbrev pub decreases-loop-part : goal.decreases-loop-part
decreases-loop-part l = vec_len l.self.open
