-- Values of one type can be the rows of its list.
use Rattle.std.proofs.Common.{◌≡◌, List, [], ◌∷◌, true, refl, subst}
use Rattle.std.specs.List.{All}
use Rattle.std.specs.Str.{chars}
use Rattle.std.proofs.lemmas.List.Elements.{All-cons, All-head, All-nil, All-tail}
use Rattle.fx_types.specs.Types.{Shape, numbers, texts, booleans, dates, records, tables}
use Rattle.fx_types.specs.Values.{Data, blank, number, text, boolean, date, rec, fault}
use Rattle.fx_semantics.specs.Sound.{AreFit}
use Rattle.fx_tables.specs.RowCalls.{CanBeRowType}
use Rattle.fx_eval.specs.Lists.{CanList}
use Rattle.fx_tables.specs.Unions.{CanBeRow, CanBeRows}
use Rattle.fx_core.specs.ColumnLists.{row_columns}
use Rattle.fx_typing.specs.WellTyped.{AreAllOfShape}
use Rattle.fx_value.specs.Coercion.{same}
use Rattle.fx_value.specs.Fits.{fits_in}

can_be_row : (r : Shape) (d : Data) → CanBeRowType r → fits_in d r ≡ true → CanBeRow (row_columns r) d
unfolding chars
can_be_row r blank n f = tt
can_be_row r (fault k m) n f = tt
can_be_row (tables cs) d n f = absurd n
can_be_row (records cs) (rec fs) n f = record { from = records cs; fitting = f; widens = same }
can_be_row numbers (number z) n f = (numbers, refl, refl)
can_be_row texts (text x) n f = (texts, refl, refl)
can_be_row booleans (boolean b) n f = (booleans, refl, refl)
can_be_row dates (date z) n f = (dates, refl, refl)
can_be_row r d n f = absurd cc

all_rows : (r : Shape) (ds : List Data) → CanBeRowType r → All (λ d. fits_in d r ≡ true) ds → All (CanBeRow (row_columns r)) ds
all_rows r [] n h = All-nil (CanBeRow (row_columns r))
all_rows r (d ∷ ds) n h =
    All-cons (CanBeRow (row_columns r)) d ds (can_be_row r d n (All-head (λ e. fits_in e r ≡ true) d ds h)) (all_rows r ds n (All-tail (λ e. fits_in e r ≡ true) d ds h))

pub can_be_rows : (r : Shape) (ds : List Data) → CanList r ds → CanBeRows (tables (row_columns r)) ds
can_be_rows r ds h = all_rows r ds h.0 h.1

-- values that fit types which are all one
all_of : (r : Shape) (ds : List Data) (us : List Shape) → AreAllOfShape r us → AreFit ds us → All (λ d. fits_in d r ≡ true) ds
all_of r [] [] a f = All-nil (λ d. fits_in d r ≡ true)
all_of r (d ∷ ds) (u ∷ us) a f =
    let P : Shape → Type 0 = λ z. fits_in d z ≡ true in
    All-cons (λ e. fits_in e r ≡ true) d ds (subst P a.0 f.0) (all_of r ds us a.1 f.1)
all_of r [] (u ∷ us) a f = absurd f
all_of r (d ∷ ds) [] a f = absurd f

pub can_list : (r : Shape) (ds : List Data) (us : List Shape) → CanBeRowType r → AreAllOfShape r us → AreFit ds us → CanList r ds
can_list r ds us n a f = (n, all_of r ds us a f)
