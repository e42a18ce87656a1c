-- Values of the kinds that a form takes.
use Rattle.fx_types.specs.Values.{Data}
use Rattle.fx_eval.specs.Courses.{Going, matches}
use Rattle.fx_scalar.specs.LazyForms.{CanMatch}

-- the value that a part may have where a form stands so: a match is compared with the value of
-- `Switch`
abbrev pub CanTurn : Going → Data → Type 0
CanTurn (matches w) d = CanMatch w d
CanTurn g d = Unit {0}
