-- Values that are the rows of a list.
use Rattle.std.specs.Prelude.{◌≡◌, true, List}
use Rattle.std.specs.List.{All}
use Rattle.fx_types.specs.Types.{Shape}
use Rattle.fx_types.specs.Values.{Data}
use Rattle.fx_tables.specs.RowCalls.{CanBeRowType}
use Rattle.fx_value.specs.Fits.{fits_in}

-- each fits one type, which is no table's
abbrev pub CanList : Shape → List Data → Type 0
CanList r ds = CanBeRowType r × All (λ d. fits_in d r ≡ true) ds
