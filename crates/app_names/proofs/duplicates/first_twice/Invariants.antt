use Rattle.std.proofs.Common.{◌≡◌, ℕ, List, drop}
use Rattle.app_names.specs.Declarations.{is_name_among}
use Rattle.app_names.specs.NameRules.{first_twice}
use Rattle.app_names.specs.Tops.{is_name_in_set}
use Rattle.app_names.proofs.duplicates.first_twice.Given as goal

abbrev pub invariant-loop-name : goal.invariant-loop-name
invariant-loop-name l = (xs : List (List ℕ)) × (is_name_in_set l.seen ≡ is_name_among xs) × (first_twice xs (drop l.name-index l.names) ≡ first_twice l.before l.names)
