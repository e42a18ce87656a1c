use Rattle.std.proofs.Common.{All, List, arith, subst}
use Rattle.std.proofs.lemmas.List.{take_all}
use Rattle.std.proofs.lemmas.List.Elements.{All-more}
use Rattle.fx_types.specs.TypeView.{shape}
use Rattle.fx_semantics.specs.Sound.{IsLawfulType}
use Rattle.fx_core.specs.declared.names.ControlName.{ControlName}
use Rattle.app_loader.proofs.types.look_at_controls.Goals as goal

pub loop-control-preserved : goal.loop-control-preserved
loop-control-preserved c =
    All-more (λ (x : ControlName). IsLawfulType (shape x.items)) c.args.controls.now c.loop-control.control-index c.control-item.result c.loop-control-test.true c.loop-control.invariant
    (subst (λ (x : ControlName). IsLawfulType (shape x.items)) c.control-item.is c.look_at_type.ensures)

pub returns : goal.returns
returns c =
    subst (λ (xs : List ControlName). All (λ (x : ControlName). IsLawfulType (shape x.items)) xs) (take_all c.loop-control.control-index c.args.controls.now (omega arith)) c.loop-control.invariant
