-- What files and sinks tell of themselves.
use Rattle.std.specs.Prelude.{◌≡◌, ℕ, ◌<◌, ◌≤◌, ◌++◌, [], ◌∷◌, List, Option, Some, Result, Ok, Err}
use Rattle.std.specs.Prelude.{option_map, length, take}
use Rattle.fx_base.specs.Faults.{Rose}
use Rattle.fx_cli.specs.declared.files.FileEnd.{FileEnd}
use Rattle.fx_cli.specs.declared.files.FileEnd.TheVariants.{Memory, Failed}

-- the bytes of each name, if there is such a file
abbrev pub Contents : Type 0
Contents = List ℕ → Option (List ℕ)

-- these are the first bytes of the file of this name, where that is told
abbrev pub AreFirstBytes : Option Contents → List ℕ → ℕ → List ℕ → Type 0
AreFirstBytes told name most bytes = (contents : Contents) → told ≡ Some contents
    → option_map (take most) (contents name) ≡ Some bytes

-- the names asked for, after a call for this one
abbrev pub asked_after : {T : Type 0} → Result T FileEnd → List (List ℕ) → List ℕ → List (List ℕ)
asked_after (Ok bytes) asked name = asked ++ name ∷ []
asked_after (Err Failed) asked name = asked ++ name ∷ []
asked_after (Err Memory) asked name = asked

-- a fault is counted where a call fails, and none where memory runs out
abbrev pub CountsFault : {T : Type 0} → Result T FileEnd → ℕ → ℕ → Type 0
CountsFault (Ok bytes) before now = before ≤ now
CountsFault (Err Failed) before now = Rose before now
CountsFault (Err Memory) before now = now ≡ before

-- what was written grows by these bytes
abbrev pub Grows : List ℕ → List ℕ → List ℕ → Type 0
Grows bytes old new = new ≡ old ++ bytes

-- what was written grows by a front part of the text, and not by all of it
pub record GrowsInPart (text old new : List ℕ) : Type 0 where
  pub part : List ℕ
  pub rest : List ℕ
  pub is : text ≡ part ++ rest
  pub short : 0 < length rest
  pub grown : new ≡ old ++ part
