-- Texts without case: the full default folding of the one is compared with that of the other.
use Rattle.std.specs.Prelude.{◌≡◌, ℕ, ◌+◌, List, length}
use Rattle.caseless.specs.Caseless.{default_case_fold}
use Rattle.fx_primitives.specs.Search.{StandsAt}

-- the text begins with the part
abbrev pub BeginsWith : List ℕ → List ℕ → Type 0
BeginsWith text part = StandsAt part text 0

-- the text ends with the part
abbrev pub EndsWith : List ℕ → List ℕ → Type 0
EndsWith text part = (place : ℕ) × StandsAt part text place × (place + length part ≡ length text)

-- the part stands somewhere in the text
abbrev pub HasPart : List ℕ → List ℕ → Type 0
HasPart text part = (place : ℕ) × StandsAt part text place

-- the same without case
abbrev pub BeginsWithoutCase : List ℕ → List ℕ → Type 0
BeginsWithoutCase text part = BeginsWith (default_case_fold text) (default_case_fold part)

abbrev pub EndsWithoutCase : List ℕ → List ℕ → Type 0
EndsWithoutCase text part = EndsWith (default_case_fold text) (default_case_fold part)

abbrev pub HasPartWithoutCase : List ℕ → List ℕ → Type 0
HasPartWithoutCase text part = HasPart (default_case_fold text) (default_case_fold part)
