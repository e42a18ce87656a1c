use Rattle.std.proofs.Common.{arith}
use Rattle.app_wire.specs.Doorway.{with_hang_up}
use Rattle.app_wire.proofs.ListsInMemory.{set_last}
use Rattle.app_wire.proofs.talk.hang_up_last.Goals as goal

pub returns-then-count-gt0 : goal.returns-then-count-gt0
returns-then-count-gt0 c = set_last with_hang_up c.args.talks.now c.hang_up.new.self c.index-talks-count.result _ (omega arith)
    c.hang_up.ensures
