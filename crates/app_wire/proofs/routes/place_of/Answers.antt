use Rattle.std.proofs.Common.{arith}
use Rattle.app_wire.proofs.RoutePaths.{are_bytes}
use Rattle.app_wire.proofs.RoutePlaces.{placed}
use Rattle.app_wire.proofs.routes.place_of.Goals as goal

pub returns-in-Ok : goal.returns-in-Ok
returns-in-Ok c = placed c.args.path.now (are_bytes c.args.path.now (λ i. omega (arith, c.type_inv.path i))) _ (rw c.requires at c.in-Ok.ensures.found)

pub returns-in-Err : goal.returns-in-Err
returns-in-Err c = placed c.args.path.now (are_bytes c.args.path.now (λ i. omega (arith, c.type_inv.path i))) _ (rw c.requires at c.in-Err.ensures.missing)
