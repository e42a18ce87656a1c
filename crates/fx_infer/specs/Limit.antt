-- Whether the types come to an end, and what is said where they don't.
use Rattle.std.specs.Prelude.{◌≡◌, List, codes}
use Rattle.fx_typing.specs.Rounds.{Cell, StillChanges}
use Rattle.fx_core.specs.declared.names.Names.{Names}
use Rattle.fx_core.specs.declared.broken.Broken.{Broken}
use Rattle.fx_core.specs.declared.rule.Rule.TheVariants as rule

-- not each of 256 rounds changes a type
abbrev pub Settles : List Cell → Names → Type 0
Settles cs n = StillChanges cs n → ⊥

-- the rule LimitPassed, of the app as a whole
abbrev pub IsRoundsLimit : Broken → Type 0
IsRoundsLimit b = (b.cell ≡ codes "App") × (b.rule ≡ rule.LimitPassed) × (b.at ≡ 0)
    × (b.detail ≡ codes "rounds 256")
