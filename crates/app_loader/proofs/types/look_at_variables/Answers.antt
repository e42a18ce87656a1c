use Rattle.std.proofs.Common.{All, List, arith, subst}
use Rattle.std.proofs.lemmas.List.{take_all}
use Rattle.std.proofs.lemmas.List.Elements.{All-more}
use Rattle.fx_types.specs.TypeView.{shape}
use Rattle.fx_semantics.specs.Sound.{IsLawfulType}
use Rattle.fx_core.specs.declared.names.Variable.{Variable}
use Rattle.app_loader.proofs.types.look_at_variables.Goals as goal

pub loop-variable-preserved : goal.loop-variable-preserved
loop-variable-preserved c =
    All-more (λ (x : Variable). IsLawfulType (shape x.ty)) c.args.variables.now c.loop-variable.variable-index c.variable-item.result c.loop-variable-test.true c.loop-variable.invariant
    (subst (λ (x : Variable). IsLawfulType (shape x.ty)) c.variable-item.is c.look_at_type.ensures)

pub returns : goal.returns
returns c =
    subst (λ (xs : List Variable). All (λ (x : Variable). IsLawfulType (shape x.ty)) xs) (take_all c.loop-variable.variable-index c.args.variables.now (omega arith)) c.loop-variable.invariant
