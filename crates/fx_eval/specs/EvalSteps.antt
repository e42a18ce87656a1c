-- What an evaluation finds and leaves.
use Rattle.std.specs.Prelude.{◌≡◌, ℕ, ◌+◌, ◌≤◌, Option, Some}
use Rattle.fx_base.specs.Silence.{MayFallSilent, IsLater, SilenceCause, Marks}
use Rattle.fx_base.specs.Telling.{Stays}
use Rattle.fx_env.specs.Scopes.{Fixed, ScopeValues, around}
use Rattle.fx_env.specs.Telling.{EnvState}
use Rattle.fx_eval.specs.Visits.{AskedTables, AtMost, Visiting, asked_tables}

-- what the environment leaves as it is, what it tells, its marks, the steps that its reads took,
-- the rows that were visited, what the scope holds, and all steps
pub record Moment (B : Type 0) : Type 0 where
  pub fixed : Fixed
  pub told : Option (EnvState B)
  pub marks : Marks
  pub ticked : ℕ
  pub visited : ℕ
  pub scope : ScopeValues
  pub steps : ℕ

abbrev pub moment : {B : Type 0} → Fixed → Option (EnvState B) → Marks → ℕ → ℕ → ScopeValues → ℕ
    → Moment B
moment fixed told marks ticked visited scope steps =
    record {
      fixed = fixed;
      told = told;
      marks = marks;
      ticked = ticked;
      visited = visited;
      scope = scope;
      steps = steps;
    }

-- from one moment to another nothing has changed but faults that were counted, doubts that came up,
-- steps that reads took and rows that were visited; and it tells what it told, or nothing where a
-- fault or a doubt is why
pub record Went {B : Type 0} (a b : Moment B) : Type 0 where
  pub fixed : b.fixed ≡ a.fixed
  pub scope : b.scope ≡ a.scope
  pub told : MayFallSilent (SilenceCause a.marks b.marks) Stays a.told b.told
  pub later : IsLater a.marks b.marks
  pub ticks : b.steps + a.ticked ≡ a.steps + b.ticked
  pub visited : a.visited ≤ b.visited

-- no more rows were visited from one moment to another than by this where it stands, if it is told
-- in the end
abbrev pub HasVisited : {B : Type 0} → (AskedTables → Visiting) → Moment B → Moment B → Type 0
HasVisited {B} V a b =
    (w : EnvState B) → b.told ≡ Some w → AtMost
    (V (asked_tables a.fixed w) (around a.fixed.types (Some w.values) a.scope)) a.visited b.visited
