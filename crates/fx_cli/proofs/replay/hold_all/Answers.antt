use Rattle.std.proofs.Common.{None, inl, refl, subst, sym}
use Rattle.fx_cli.specs.Conversations.{Serves, office_at, service_at}
use Rattle.fx_cli.proofs.replay.hold_all.Goals as goal

pub returns-in-None-clause-served : goal.returns-in-None-clause-served
returns-in-None-clause-served g c =
    subst (λ port. Serves port c.args.service.most (service_at g.D.Doors g.C.Clock (office_at c.args.office.now) c.args.doors.now c.args.clock.now) (service_at g.D.Doors g.C.Clock (office_at c.replay.new.office) c.replay.new.doors c.replay.new.clock) c.replay.result)
    (sym c.in-None.is) (inl (record {
      between = service_at g.D.Doors g.C.Clock (office_at c.args.office.now) c.args.doors.now c.args.clock.now;
      listens = refl;
      replayed = c.replay.ensures.replayed;
    }))
