use Rattle.std.proofs.Common.{All, List, arith, subst}
use Rattle.std.proofs.lemmas.List.{take_all}
use Rattle.std.proofs.lemmas.List.Elements.{All-more}
use Rattle.fx_types.specs.TypeView.{shape}
use Rattle.fx_semantics.specs.Sound.{IsLawfulType}
use Rattle.fx_core.specs.declared.names.FormulaName.{FormulaName}
use Rattle.app_loader.proofs.types.look_at_formulas.Goals as goal

pub loop-formula-preserved : goal.loop-formula-preserved
loop-formula-preserved c =
    All-more (λ (x : FormulaName). IsLawfulType (shape x.ty)) c.args.formulas.now c.loop-formula.formula-index c.formula-item.result c.loop-formula-test.true c.loop-formula.invariant
    (subst (λ (x : FormulaName). IsLawfulType (shape x.ty)) c.formula-item.is c.look_at_type.ensures)

pub returns : goal.returns
returns c =
    subst (λ (xs : List FormulaName). All (λ (x : FormulaName). IsLawfulType (shape x.ty)) xs) (take_all c.loop-formula.formula-index c.args.formulas.now (omega arith)) c.loop-formula.invariant
