use Rattle.std.proofs.Common.{◌≡◌, ◌∙◌, subst, sym, true}
use Rattle.fx_core.specs.contracts.functions.FunPartialEq.TheImpl as of_fun
use Rattle.fx_core.specs.declared.functions.Fun.{Fun}
use Rattle.recalc.proofs.Functions.{fun_itself, fun_tells}
use Rattle.recalc.proofs.trees.is_same_function.Goals as goal

pub returns : goal.returns
returns c = (
  λ t. fun_tells c.args.a c.args.b (sym c.eq.ensures ∙ t),
  λ e. c.eq.ensures ∙ subst (λ (f : Fun). of_fun.ghosts.eq c.args.a f ≡ true) e (fun_itself c.args.a),
)
