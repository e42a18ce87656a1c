use Rattle.std.proofs.Common.{arith}
use Rattle.std.proofs.lemmas.Bool.{OnTrue_at, OnTrue_from}
use Rattle.app_wire.specs.Doorway.{with_taken}
use Rattle.app_wire.proofs.ListsInMemory.{set_last}
use Rattle.app_wire.proofs.talk.take_of_last.Goals as goal

pub returns-else-count-eq0-clause-yes : goal.returns-else-count-eq0-clause-yes
returns-else-count-eq0-clause-yes c = OnTrue_from c.take.result _ (λ e.
    set_last (with_taken c.args.bytes.now) c.args.talks.now c.take.new.self c.index-talks-count.result _ (grind arith)
    (OnTrue_at e c.take.ensures.yes))
