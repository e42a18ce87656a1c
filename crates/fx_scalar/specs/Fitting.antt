-- Arguments that fit the places of a function's row, and answers that fit its type.
use Rattle.std.specs.Prelude.{◌≡◌, ℕ, ◌<◌, Bool, true, List, length, All, IsTrue}
use Rattle.fx_types.specs.Types.{Shape}
use Rattle.fx_types.specs.Values.{Data}
use Rattle.fx_value.specs.Fits.{fits_in}
use Rattle.fx_core.specs.declared.functions.Fun.{Fun}
use Rattle.fx_core.specs.declared.rows.Answer.{Answer}
use Rattle.fx_core.specs.declared.rows.Answer.TheVariants as answer
use Rattle.fx_core.specs.declared.rows.Takes.{Takes}
use Rattle.fx_core.specs.declared.rows.Takes.TheVariants as takes
use Rattle.fx_core.specs.Rows.{row_of, shape_of, takes_at}
use Rattle.fx_scalar.specs.Arguments.{argument_at}
use Rattle.fx_scalar.specs.ScalarFunctions.{CanApply, IsAnswer, is_value}

-- whether a value fits what a place takes: its type, where that has no parts
abbrev pub fits_place : Takes → Data → Bool
fits_place (takes.Scalar s) d = fits_in d (shape_of s)
fits_place (takes.Exact s) d = fits_in d (shape_of s)
fits_place t d = true

-- each argument fits its place
abbrev pub FitPlaces : Fun → List Data → Type 0
FitPlaces f a = (i : ℕ) → i < length a → fits_place (takes_at (row_of f) (length a) i)
    (argument_at a i) ≡ true

-- the answer fits its type; a common one is each type that all arguments fit, and that of the first
-- each that this fits
abbrev pub FitsAnswer : Answer → List Data → Data → Type 0
FitsAnswer (answer.Scalar s) a r = fits_in r (shape_of s) ≡ true
FitsAnswer answer.Common a r = (t : Shape) → All (λ d. fits_in d t ≡ true) a → fits_in r t ≡ true
FitsAnswer answer.Same a r = (t : Shape) → fits_in (argument_at a 0) t ≡ true → fits_in r t ≡ true
FitsAnswer q a r = Unit {0}

-- a function of values can be applied to arguments that fit its places
abbrev pub FittingCanApply : Type 0
FittingCanApply = (f : Fun) (a : List Data) → IsTrue (is_value (row_of f).first) → FitPlaces f a
    → CanApply f a

-- what it answers to arguments that fit its places fits its type
abbrev pub AnswersFit : Type 0
AnswersFit = (f : Fun) (a : List Data) (r : Data) → FitPlaces f a → IsAnswer f a r
    → FitsAnswer (row_of f).answer a r
