use Rattle.std.proofs.Common.{◌≡◌, ◌∙◌, List, ap, map, subst, string_bytes}
use Rattle.std.specs.Prelude.{IfOk}
use Rattle.app_wire.specs.Framing.{Asked, asked}
use Rattle.office.specs.State.{OfficeState, started}
use Rattle.fx_cli.specs.Sampled.{IsSampled}
use Rattle.fx_cli.proofs.Samples.{told_ends}
use Rattle.fx_cli.proofs.sampling.put_app.Goals as goal

pub returns-in-Ok-None-clause-ends : goal.returns-in-Ok-None-clause-ends
returns-in-Ok-None-clause-ends g c =
    let told = g.K.Keeper.told in
    let marks = g.K.Keeper.marks in
    let opened = c.open_keeper.new.keeper in
    let new = c.put_over.new.keeper in
    let sampled = subst (λ (all : List Asked). IfOk c.put_over.result (λ text. (state : OfficeState) × (state.tables ≡ told new)
    × IsSampled all (record { state = started c.args.app (told opened); marks = marks opened }) (record { state = state; marks = marks new }) (string_bytes text)))
    (ap (map asked) c.deref.ensures.value ∙ c.in-Ok-requests.ensures) c.put_over.ensures.sampled in
    told_ends g.K.Keeper c.args.n c.args.keeper.now opened new c.args.app c.put_over.result c.report_of.result
    c.requires.app c.requires.opens (rw c.in-Ok-None.field-0-is at c.in-Ok-None.ensures.asked) sampled c.put_over.ensures.cause c.in-Ok-None.ensures.later c.report_of.ensures
