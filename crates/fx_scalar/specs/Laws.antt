-- What holds of all functions of values.
use Rattle.std.specs.Prelude.{◌≡◌, List}
use Rattle.fx_types.specs.Values.{Data}
use Rattle.fx_core.specs.declared.functions.Fun.{Fun}
use Rattle.fx_scalar.specs.ScalarFunctions.{IsAnswer}

-- a function has at most one answer to its arguments
abbrev pub OneAnswer : Type 0
OneAnswer = (f : Fun) (a : List Data) (r s : Data) → IsAnswer f a r → IsAnswer f a s → r ≡ s
