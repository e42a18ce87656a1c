use Rattle.app_wire.proofs.RoutePlaces.{one_route}
use Rattle.app_wire.proofs.route.one_route.Goals as goal

pub returns : goal.returns
returns c = one_route
