-- Fields and records that fit.
use Rattle.std.proofs.Common.{◌≡◌, ℕ, List, [], ◌∷◌, length, Bool, true, false, Some, None, refl, subst, if◌then◌else◌}
use Rattle.std.specs.Prelude.{◌&&◌, bytes_eq}
use Rattle.std.specs.List.{find}
use Rattle.std.proofs.lemmas.Bool.{and_from}
use Rattle.fx_types.specs.Types.{Shape, records, ColumnList, no_columns, column}
use Rattle.fx_types.specs.Values.{Data, blank, number, text, boolean, date, rec, tab, fault, FieldList, no_fields, field}
use Rattle.fx_types.proofs.Utf8Order.{and_second, and_first}
use Rattle.fx_tables.specs.Unions.{fault_or, is_fault}
use Rattle.fx_core.specs.ColumnLists.{field_in}
use Rattle.fx_typing.specs.Columns as columns
use Rattle.fx_typing.specs.WellTyped.{columns_by}
use Rattle.fx_value.proofs.Widenings.{own_name, same_name}
use Rattle.fx_value.specs.Coercion.{field_or_blank}
use Rattle.fx_value.specs.Fits.{fits_in, fields_fit}
use Rattle.fx_semantics.specs.Fresh.{field_of, fields_by}
use Rattle.fx_semantics.specs.Sound.{AreFit}

-- what fits a field and columns, by its parts
pub name_fits : (n m : List ℕ) (d : Data) (t : Shape) (fs : FieldList) (cs : ColumnList) → fields_fit (field n d fs) (column m t cs) ≡ true → n ≡ m
name_fits n m d t fs cs h = same_name n m (and_first (bytes_eq n m) (fits_in d t && fields_fit fs cs) h)

pub first_fits : (n m : List ℕ) (d : Data) (t : Shape) (fs : FieldList) (cs : ColumnList) → fields_fit (field n d fs) (column m t cs) ≡ true → fits_in d t ≡ true
first_fits n m d t fs cs h = and_first (fits_in d t) (fields_fit fs cs) (and_second (bytes_eq n m) (fits_in d t && fields_fit fs cs) h)

pub rest_fits : (n m : List ℕ) (d : Data) (t : Shape) (fs : FieldList) (cs : ColumnList) → fields_fit (field n d fs) (column m t cs) ≡ true → fields_fit fs cs ≡ true
rest_fits n m d t fs cs h = and_second (fits_in d t) (fields_fit fs cs) (and_second (bytes_eq n m) (fits_in d t && fields_fit fs cs) h)

pub all_fit : (n : List ℕ) (d : Data) (t : Shape) (fs : FieldList) (cs : ColumnList) → fits_in d t ≡ true → fields_fit fs cs ≡ true → fields_fit (field n d fs) (column n t cs) ≡ true
all_fit n d t fs cs f g = and_from (bytes_eq n n) (fits_in d t && fields_fit fs cs) (own_name n) (and_from (fits_in d t) (fields_fit fs cs) f g)

-- the value under a column's name fits its type
pub field_fits : (n : List ℕ) (fs : FieldList) (cs : ColumnList) (t : Shape) → fields_fit fs cs ≡ true → field_in n cs ≡ Some t → fits_in (field_or_blank n fs) t ≡ true
field_fits n no_fields no_columns t f h = cc
field_fits n no_fields (column m u cs) t f h = cc
field_fits n (field m d fs) no_columns t f h = cc
field_fits n (field m d fs) (column k u cs) t f h =
    let P : List ℕ → Type 0 = λ z. (if bytes_eq z n then Some u else field_in n cs) ≡ Some t → fits_in (if bytes_eq m n then d else field_or_blank n fs) t ≡ true in
    subst P (name_fits m k d u fs cs f) (by (bytes_eq m n) (λ q. field_fits n fs cs t (rest_fits m k d u fs cs f) q)) h
  where
    by : (b : Bool) → (field_in n cs ≡ Some t → fits_in (field_or_blank n fs) t ≡ true) → (if b then Some u else field_in n cs) ≡ Some t → fits_in (if b then d else field_or_blank n fs) t ≡ true
    by true r q = let e : u ≡ t = cc in let R : Shape → Type 0 = λ z. fits_in d z ≡ true in subst R e (first_fits m k d u fs cs f)
    by false r q = r q

-- a field of a value of a record's type
pub dot_fits : (n : List ℕ) (u t : Shape) (d : Data) → columns.field_shape n u ≡ Some t → fits_in d u ≡ true → fits_in (field_of n d) t ≡ true
dot_fits n (records cs) t (rec fs) h f = field_fits n fs cs t f h
dot_fits n (records cs) t d h f = refl
dot_fits n u t d h f = cc

-- a record of values
pub record_fits : (ns : List (List ℕ)) (us : List Shape) (ds : List Data) → length ns ≡ length us → AreFit ds us → fields_fit (fields_by ns ds) (columns_by ns us) ≡ true
record_fits [] [] [] e f = refl
record_fits (n ∷ ns) (u ∷ us) (d ∷ ds) e f =
    let q : length ns ≡ length us = cc in
    all_fit n d u (fields_by ns ds) (columns_by ns us) f.0 (record_fits ns us ds q f.1)
record_fits [] (u ∷ us) ds e f = absurd cc
record_fits (n ∷ ns) [] ds e f = absurd cc
record_fits [] [] (d ∷ ds) e f = absurd f
record_fits (n ∷ ns) (u ∷ us) [] e f = absurd f

-- an error fits, so that the first one among values does, where what else would be the answer fits
pub fault_or_fits : (ds : List Data) (d : Data) (t : Shape) → (find is_fault ds ≡ None → fits_in d t ≡ true) → fits_in (fault_or ds d) t ≡ true
fault_or_fits [] d t f = f refl
fault_or_fits (fault k cs ∷ ds) d t f = refl
fault_or_fits (blank ∷ ds) d t f = fault_or_fits ds d t f
fault_or_fits (number z ∷ ds) d t f = fault_or_fits ds d t f
fault_or_fits (text cs ∷ ds) d t f = fault_or_fits ds d t f
fault_or_fits (boolean b ∷ ds) d t f = fault_or_fits ds d t f
fault_or_fits (date z ∷ ds) d t f = fault_or_fits ds d t f
fault_or_fits (rec fs ∷ ds) d t f = fault_or_fits ds d t f
fault_or_fits (tab rs ∷ ds) d t f = fault_or_fits ds d t f
