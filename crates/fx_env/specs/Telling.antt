-- What an environment tells, and what is heard of it.
use Rattle.std.specs.Prelude.{◌≡◌, List, Option, Some, None, option_map}
use Rattle.fx_base.specs.Silence.{Marks}
use Rattle.fx_types.specs.Values.{Data}
use Rattle.fx_core.specs.declared.sources.Source.{Source}
use Rattle.row_queries.specs.declared.rows.Row.{Row}

-- no fault is counted, and no doubt comes up
abbrev pub no_marks : Marks
no_marks = record { faults = 0; doubt = 0 }

-- the value of each source, the rows of each table by rising ID, and what an environment of its
-- kind tells besides
pub record EnvState (B : Type 0) : Type 0 where
  pub values : Source → Data
  pub tables : List (List Row)
  pub beside : B

-- the value of each source, where it is told
abbrev pub values_told : {B : Type 0} → Option (EnvState B) → Option (Source → Data)
values_told told = option_map (λ t. t.values) told

-- the rows of each table, where they are told
abbrev pub tables_told : {B : Type 0} → Option (EnvState B) → Option (List (List Row))
tables_told told = option_map (λ t. t.tables) told

-- nothing is taken as told, or what is told
abbrev pub IsHeard : {A : Type 0} → Option A → Option A → Type 0
IsHeard told None = Unit {0}
IsHeard told (Some a) = told ≡ Some a

-- P holds over what is told, and where nothing is taken as told
abbrev pub Heard : {A : Type 0} → Option A → (Option A → Type 0) → Type 0
Heard {A} told P = (a : Option A) → IsHeard told a → P a
