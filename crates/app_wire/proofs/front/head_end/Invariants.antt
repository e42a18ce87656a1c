use Rattle.app_wire.specs.Framing.{HasNoBlank}
use Rattle.app_wire.proofs.front.head_end.Given as goal

abbrev pub invariant-loop-k : goal.invariant-loop-k
invariant-loop-k l = HasNoBlank l.bytes l.k
