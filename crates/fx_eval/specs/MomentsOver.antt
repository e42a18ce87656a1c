-- What an evaluation finds and leaves, by the ghost members of its environment as one argument.
use Rattle.std.specs.Prelude.{ℕ}
use Rattle.fx_env.specs.Scopes.{ScopeValues}
use Rattle.fx_env.specs.declared.environment.Env.{Ghosts}
use Rattle.fx_eval.specs.EvalSteps.{Moment, moment}

-- what an evaluation sees of an environment, with what the scope holds and all steps
abbrev pub moment_of : {E : Type 0} (g : Ghosts E) → E → ScopeValues → ℕ → Moment g.Beside
moment_of g env scope steps = moment (g.fixed env) (g.told env) (g.marks env) (g.ticked env)
    (g.visited env) scope steps
