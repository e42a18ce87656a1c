use Rattle.std.proofs.Common.{◌≡◌, arith}
use Rattle.std.proofs.lemmas.Grind.{common_steps}
use Rattle.fx_resolve.proofs.Formulas.{formula_found}
use Rattle.fx_resolve.proofs.meanings.in_formulas.Goals as goal

pub returns-in-None : goal.returns-in-None
returns-in-None c =
    let found = formula_found c.args.names.now.formulas c.args.name.now in
    grind (arith, common_steps, found)

pub returns-in_ok-found-in-Some : goal.returns-in_ok-found-in-Some
returns-in_ok-found-in-Some c =
    let found = formula_found c.args.names.now.formulas c.args.name.now in
    grind (arith, common_steps, found)
