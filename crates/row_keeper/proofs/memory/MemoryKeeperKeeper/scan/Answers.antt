use Rattle.std.proofs.Common.{ap, arith}
use Rattle.row_keeper.specs.InMemory.{InMemory}
use Rattle.row_keeper.proofs.memory.MemoryKeeperKeeper.scan.Goals as goal

pub returns-clause-least : goal.returns-clause-least
returns-clause-least c =
    let counted = c.in_ok-answer.ensures.least in
    let least = counted.least in
    let rise = counted.counted in
    let before = ap (λ (w : InMemory). w.visited) c.self.view_is in
    omega (arith, least, rise, before)
