-- What stands under a name.
use Rattle.std.specs.Prelude.{ℕ, List, [], ◌∷◌, Option, Some, None, bytes_eq, if◌then◌else◌}

-- the first item of this name, if there is one
abbrev pub item_named : {A : Type 0} → List ℕ → List (List ℕ × A) → Option A
item_named n [] = None
item_named n (f ∷ fs) = if bytes_eq f.0 n then Some f.1 else item_named n fs
