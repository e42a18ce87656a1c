use Rattle.std.proofs.Common.{inl, inr, refl}
use Rattle.fx_base.specs.Telling.{Stays}
use Rattle.fx_base.proofs.Chains.{told}
use Rattle.app_wire.specs.Doorway.{Listens}
use Rattle.fx_cli.specs.Conversations.{office_at, service_at}
use Rattle.fx_cli.proofs.replay.hold_on_port.Goals as goal

pub returns-in-Ok-clause-served : goal.returns-in-Ok-clause-served
returns-in-Ok-clause-served g c =
    let tells = g.D.Doors.told in
    inl (record {
      between = service_at g.D.Doors g.C.Clock (office_at c.args.office.now) c.listen.new.self c.args.clock.now;
      listens = (c.in-Ok.ensures.cause.later, told (Listens c.args.port) (tells c.args.doors.now) (tells c.listen.new.self) c.in-Ok.ensures.ok, refl, refl, c.in-Ok.ensures.single);
      replayed = c.replay.ensures.replayed;
    })

pub returns-in-Err-clause-served : goal.returns-in-Err-clause-served
returns-in-Err-clause-served g c = inr (record {
  has_port = refl;
  ended = refl;
  rose = c.in-Err.ensures.cause.failed;
  office_stays = refl;
  clock_stays = refl;
  doors_stay = told Stays (g.D.Doors.told c.args.doors.now) (g.D.Doors.told c.listen.new.self) c.in-Err.ensures.err;
})
