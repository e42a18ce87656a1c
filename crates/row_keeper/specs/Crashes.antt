-- What a crash may leave, and what a call makes of that.
use Rattle.std.specs.Prelude.{◌≡◌, ◌⊎◌, List, [], ◌∷◌, ◌++◌, Option, Some, None, option_to_list}
use Rattle.std.specs.List.{AllByRecursion}
use Rattle.fx_base.specs.Silence.{MayFallSilent}
use Rattle.row_keeper.specs.Tables.{Tables}

-- these tables are one of several
abbrev pub IsOneOf : List Tables → Tables → Type 0
IsOneOf [] t = ⊥
IsOneOf (u ∷ us) t = (u ≡ t) ⊎ IsOneOf us t

-- each of the second is one of the first
abbrev pub AreAmong : List Tables → List Tables → Type 0
AreAmong these those = AllByRecursion (IsOneOf these) those

-- nothing new may be left
abbrev pub LeavesNoMore : Type 0 → Option (List Tables) → Option (List Tables) → Type 0
LeavesNoMore lost a b = MayFallSilent lost AreAmong a b

-- what might be left before, or these tables
abbrev pub MayLeave : Type 0 → Option Tables → Option (List Tables) → Option (List Tables) → Type 0
MayLeave lost told a b = MayFallSilent lost (λ these those. AreAmong (option_to_list told ++ these)
    those) a b

-- the tables as they are told, and no others
abbrev pub LeavesThese : Option Tables → Option (List Tables) → Type 0
LeavesThese told None = Unit {0}
LeavesThese told (Some ts) = AllByRecursion (λ t. told ≡ Some t) ts
