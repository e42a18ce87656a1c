use Rattle.std.proofs.Common.{◌≡◌, ◌++◌, drop, take}
use Rattle.app_names.specs.NameRules.{first_taken}
use Rattle.app_names.proofs.name_clashes.first_taken_thing.Given as goal

abbrev pub invariant-loop-place : goal.invariant-loop-place
invariant-loop-place l = first_taken (l.before ++ take l.place l.new) (drop l.place l.new) ≡ first_taken l.before l.new
