use Rattle.std.proofs.Common.{◌∙◌, ◌<◌, [], ◌∷◌, ◌++◌, length, ap, arith}
use Rattle.std.proofs.lemmas.Bool.Decides.{nat_tests}
use Rattle.app_wire.specs.DoorsInMemory.{DoorsInMemory}
use Rattle.app_wire.proofs.ListsInMemory.{comes, first_taken}
use Rattle.app_wire.proofs.memory.MemoryDoorsDoors.next.Goals as goal

pub returns-clause-ok : goal.returns-clause-ok
returns-clause-ok c =
    let some : 0 < length c.self.inside.coming.items = grind (arith, nat_tests) in
    comes _ c.remove.result.items _ _ c.args.self.now.way (ap (λ (m : DoorsInMemory). m.way) c.self.view_is)
    (first_taken (λ v. v.items) c.self.inside.coming.items c.remove.new.self.items c.remove.result some c.remove.ensures.value c.remove.ensures.items)
    (c.in-Ok.ensures.items ∙ ap (λ z. c.self.inside.talks.items ++ z ∷ []) c.new.ensures)
