use Rattle.std.proofs.Common.{◌≡◌}
use Rattle.std.proofs.Common.{arith}
use Rattle.std.proofs.lemmas.Grind.{common_steps}
use Rattle.fx_core.proofs.Placed.{noted}
use Rattle.fx_core.proofs.formulas.note.Goals as goal

pub returns-in_ok-insert-clause-ok : goal.returns-in_ok-insert-clause-ok
returns-in_ok-insert-clause-ok c = noted c.args.places.now c.insert.new.self c.args.name c.args.place (grind (arith, common_steps)) c.in_ok-insert.ensures.updates.0
