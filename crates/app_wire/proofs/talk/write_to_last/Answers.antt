use Rattle.std.proofs.Common.{arith}
use Rattle.std.proofs.lemmas.Bool.{OnTrue_at, OnTrue_from}
use Rattle.app_wire.specs.Doorway.{with_written}
use Rattle.app_wire.proofs.ListsInMemory.{set_last}
use Rattle.app_wire.proofs.talk.write_to_last.Goals as goal

pub returns-then-count-gt0-clause-yes : goal.returns-then-count-gt0-clause-yes
returns-then-count-gt0-clause-yes c = OnTrue_from c.write.result _ (λ e.
    set_last (with_written c.args.bytes.now) c.args.talks.now c.write.new.self c.index-talks-count.result _ (omega arith)
    (OnTrue_at e c.write.ensures.yes))
