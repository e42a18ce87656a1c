-- The keys of the objects of an app file.
use Rattle.std.specs.Prelude.{ℕ, List, [], ◌∷◌, Bool, bytes_eq, codes}
use Rattle.std.specs.List.{list_any}
use Rattle.app_file.specs.declared.keys.Object.{Object}
use Rattle.app_file.specs.declared.keys.Object.TheVariants as object
use Rattle.app_file.specs.FormOfApp.{property_names}

abbrev pub keys_of : Object → List (List ℕ)
keys_of object.App = codes "format" ∷ codes "rowLimit" ∷ codes "tables" ∷ codes "formulas"
    ∷ codes "onStart" ∷ codes "screens" ∷ []
keys_of object.Table = codes "name" ∷ codes "columns" ∷ []
keys_of object.Column = codes "name" ∷ codes "type" ∷ codes "required" ∷ codes "unique"
    ∷ codes "indexed" ∷ []
keys_of object.Screen = codes "name" ∷ codes "onVisible" ∷ codes "controls" ∷ []
keys_of object.Control = codes "name" ∷ codes "kind" ∷ codes "in" ∷ codes "properties" ∷ []
keys_of (object.Properties kind) = property_names kind

-- a key is one of these
abbrev pub is_known_key : List (List ℕ) → List ℕ → Bool
is_known_key keys key = list_any (bytes_eq key) keys
