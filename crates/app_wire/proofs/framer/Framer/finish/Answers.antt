use Rattle.std.proofs.Common.{sym, ◌∙◌, subst}
use Rattle.app_wire.specs.Framing.{IsRequestBegun}
use Rattle.app_wire.proofs.OneThing.{begun_needs, cut_begun}
use Rattle.app_wire.proofs.framer.Framer.finish.Goals as goal

pub returns-in_default : goal.returns-in_default
returns-in_default c = (
  λ never. (cc),
  λ cut. absurd (c.in_default.not-Need (begun_needs c.deref.result.now c.look_at.result c.look_at.ensures
      (subst IsRequestBegun (sym c.self.view_is ∙ sym c.deref.ensures.value) (cut_begun c.args.self.now cut)))),
)
