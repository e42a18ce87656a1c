-- Functions of numbers, each seen as its count of ten-thousandths.
use Rattle.std.specs.Prelude.{◌≡◌, ◌/◌, ℤ, Result, Ok, Err}
use Rattle.fx_number.specs.Decimal.{by_magnitude}
use Rattle.fx_number.specs.declared.NumErr.{NumErr}
use Rattle.fx_number.specs.declared.NumErr.TheVariants.{Overflow, DivZero, BadArgument}
use Rattle.fx_types.specs.declared.faults.Kind.{Kind}
use Rattle.fx_types.specs.declared.faults.Kind.TheVariants.{Div0, Numeric, InvalidArgument}

-- the kind of an error of arithmetic
abbrev pub kind_of_number_error : NumErr → Kind
kind_of_number_error Overflow = Numeric
kind_of_number_error DivZero = Div0
kind_of_number_error BadArgument = InvalidArgument

-- an answer of arithmetic, with the kind of its error
abbrev pub with_kind : Result ℤ NumErr → Result ℤ Kind
with_kind (Ok z) = Ok z
with_kind (Err e) = Err (kind_of_number_error e)

-- an answer of which P holds, with the kind of its error
abbrev pub AsKind : (Result ℤ NumErr → Type 0) → Result ℤ Kind → Type 0
AsKind P r = (q : Result ℤ NumErr) × P q × (r ≡ with_kind q)

-- the whole number that is left where the decimals are cut off, towards zero
abbrev pub whole_part_of : ℤ → ℤ
whole_part_of z = by_magnitude (λ n. n / 10000) z
