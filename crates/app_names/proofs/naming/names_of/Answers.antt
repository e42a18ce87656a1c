use Rattle.std.proofs.Common.{◌<◌, All, arith, length, subst, sym}
use Rattle.std.proofs.lemmas.Result.{IfOk-weaker}
use Rattle.fx_core.specs.declared.names.FormulaName.{FormulaName}
use Rattle.fx_core.specs.declared.names.Property.{Property}
use Rattle.app_names.proofs.LawfulNames.{both_ok, formulas_below, lawful_names, properties_below, unbroken}
use Rattle.app_names.proofs.naming.names_of.Goals as goal

pub first_names-requires : goal.first_names-requires
first_names-requires c = record { functions = c.requires.functions; few = (unbroken c.args.functions.now c.args.frame c.args.cells.now c.requires.unbroken).1.0 }

pub returns-clause-lawful : goal.returns-clause-lawful
returns-clause-lawful c =
    IfOk-weaker c.first_names.result _ _ (λ n h.
    lawful_names c.args.functions.now c.args.frame c.args.cells.now n c.requires.frame c.requires.placed h.0 h.1 c.requires.unbroken)
    (both_ok c.first_names.result _ _ c.first_names.ensures.names c.first_names.ensures.functions)

pub returns-clause-formulas : goal.returns-clause-formulas
returns-clause-formulas c =
    let cs = c.args.cells.now in
    IfOk-weaker c.first_names.result _ _ (λ n h. subst (All (λ (f : FormulaName). f.cell < length cs)) (sym h.formulas) (formulas_below (length cs) 0 cs (omega arith))) c.first_names.ensures.names

pub returns-clause-properties : goal.returns-clause-properties
returns-clause-properties c =
    let cs = c.args.cells.now in
    IfOk-weaker c.first_names.result _ _ (λ n h. subst (All (λ (p : Property). p.cell < length cs)) (sym h.properties) (properties_below (length cs) 0 cs (omega arith))) c.first_names.ensures.names
