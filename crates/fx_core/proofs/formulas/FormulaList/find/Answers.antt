use Rattle.std.proofs.Common.{◌≡◌, Some, refl, sym, ap, ◌∙◌, arith, option_map, bytes_eq}
use Rattle.std.proofs.lemmas.Grind.{common_steps}
use Rattle.fx_core.proofs.Placed.{find_none, find_some}
use Rattle.fx_core.specs.declared.names.FormulaName.{FormulaName}
use Rattle.fx_core.proofs.formulas.FormulaList.find.Goals as goal

pub returns-in_err-place : goal.returns-in_err-place
returns-in_err-place c =
    let none = find_none (λ (f : FormulaName). bytes_eq f.name c.args.name.now) c.self.inside.items.items
    (sym (c.self.invariant c.args.name.now) ∙ sym c.get.ensures.value ∙ ap (option_map (λ k. k.now)) c.in_err-place.was) in
    cc

pub returns : goal.returns
returns c =
    let found = find_some (λ (f : FormulaName). bytes_eq f.name c.args.name.now) c.self.inside.items.items c.in_ok-place.place.now
    (sym (c.self.invariant c.args.name.now) ∙ sym c.get.ensures.value ∙ ap (option_map (λ k. k.now)) c.in_ok-place.was) in
    grind (arith, common_steps, found)
