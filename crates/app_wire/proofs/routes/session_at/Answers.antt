use Rattle.app_wire.proofs.RoutePlaces.{reads_begin, reads_end}
use Rattle.app_wire.proofs.routes.session_at.Goals as goal

pub returns-in-Delete : goal.returns-in-Delete
returns-in-Delete c = reads_end c.args.path.now c.in_ok-name.name c.args.method c.requires c.in-Delete.is c.in_ok-name.ensures

pub returns-in_default : goal.returns-in_default
returns-in_default c = reads_begin c.args.path.now c.in_ok-name.name c.args.method c.requires c.in_default.not-Delete c.in_ok-name.ensures
