use Rattle.app_loader.proofs.Arrows.{no_arrow, some_arrow}
use Rattle.app_loader.proofs.cycles.arrow.Goals as goal

pub returns-then-place-gt0 : goal.returns-then-place-gt0
returns-then-place-gt0 c = some_arrow c.args.place c.if-place-gt0.true

pub returns-else-place-gt0 : goal.returns-else-place-gt0
returns-else-place-gt0 c = no_arrow c.args.place c.if-place-gt0.false
