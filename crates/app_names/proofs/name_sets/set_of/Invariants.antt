use Rattle.std.proofs.Common.{◌≡◌, take}
use Rattle.app_names.specs.Declarations.{is_name_among}
use Rattle.app_names.specs.Tops.{is_name_in_set}
use Rattle.app_names.proofs.name_sets.set_of.Given as goal

abbrev pub invariant-loop-name : goal.invariant-loop-name
invariant-loop-name l = is_name_in_set l.names ≡ is_name_among (take l.name-index l.all)
