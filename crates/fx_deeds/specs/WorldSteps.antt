-- What a performing finds and leaves.
use Rattle.std.specs.Prelude.{◌≡◌, ℕ, ◌≤◌, Option}
use Rattle.fx_base.specs.Silence.{MayFallSilent, IsLater, SilenceCause, Marks}
use Rattle.fx_base.specs.Telling.{Stays}
use Rattle.fx_env.specs.Scopes.{Fixed}
use Rattle.fx_core.specs.declared.sources.Source.{Source}
use Rattle.fx_deeds.specs.State.{WorldState}
use Rattle.fx_deeds.specs.Within.{Within}
use Rattle.fx_deeds.specs.Writable.{WritesOnly}

-- what stays, the state where it is told, the marks, and the rows that were visited
pub record Stage (A : Type 0) : Type 0 where
  pub fixed : Fixed
  pub state : Option (WorldState A)
  pub marks : Marks
  pub visited : ℕ

abbrev pub stage : {A : Type 0} → Fixed → Option (WorldState A) → Marks → ℕ → Stage A
stage fixed state marks visited = record {
  fixed = fixed;
  state = state;
  marks = marks;
  visited = visited;
}

-- types and schema are as they were, and what has changed was written; it falls silent only where a
-- fault or a doubt is why
pub record Passed {A : Type 0} (a b : Stage A) : Type 0 where
  pub fixed : b.fixed ≡ a.fixed
  pub state : MayFallSilent (SilenceCause a.marks b.marks) Within a.state b.state
  pub later : IsLater a.marks b.marks
  pub visited : a.visited ≤ b.visited

-- WHAT A DEED OR A FORMULA LEAVES, whole or cut off: what has changed was written, and no source
-- was but allowed ones
pub record Attempt {A : Type 0} (a b : Stage A) (allowed : Source → Type 0) : Type 0 where
  pub passed : Passed a b
  pub only : MayFallSilent (SilenceCause a.marks b.marks) (WritesOnly allowed) a.state b.state

-- what a call leaves that looks at the state and changes nothing
pub record Look {A : Type 0} (a b : Stage A) : Type 0 where
  pub passed : Passed a b
  pub stays : MayFallSilent (SilenceCause a.marks b.marks) Stays a.state b.state
