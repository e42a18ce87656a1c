-- Things by their names.
use Rattle.std.specs.Prelude.{ℕ, Bool, bytes_eq, is_some, List, [], ◌∷◌, ◌++◌, Option, Some, None}
use Rattle.std.specs.Prelude.{option_map, slice_get, slice_set}
use Rattle.std.specs.List.{position}
use Rattle.numbered_requests.specs.declared.directory.Named.{Named}

abbrev pub is_named : {T : Type 0} → List ℕ → Named T → Bool
is_named name n = bytes_eq n.name name

abbrev pub is_in_directory : {T : Type 0} → List ℕ → List (Named T) → Bool
is_in_directory name list = is_some (position (is_named name) list)

-- the thing at a place
abbrev pub it_at : {T : Type 0} → Option ℕ → List (Named T) → Option T
it_at (Some k) list = option_map (λ n. n.it) (slice_get list k)
it_at None list = None

-- the thing of this name
abbrev pub find : {T : Type 0} → List ℕ → List (Named T) → Option T
find name list = it_at (position (is_named name) list) list

-- with this thing at a place, or at the end
abbrev pub put_at : {T : Type 0} → Option ℕ → Named T → List (Named T) → List (Named T)
put_at (Some k) x list = slice_set list k x
put_at None x list = list ++ x ∷ []

-- with this thing under its name
abbrev pub put_named : {T : Type 0} → List ℕ → T → List (Named T) → List (Named T)
put_named name it list = put_at (position (is_named name) list) (record { name = name; it = it })
    list
