-- Coercions.
use Rattle.std.specs.Prelude.{◌≡◌, not, true, false, ℕ, ℤ, pos, Bool, List, [], Some, codes}
use Rattle.std.specs.Prelude.{bytes_eq, encode_utf8_all, if◌then◌else◌, ◌==◌}
use Rattle.std.specs.List.{list_all}
use Rattle.std.specs.Ordering.{int_eq}
use Rattle.fx_number.specs.Decimal.{IsInRange}
use Rattle.fx_number.specs.Spelling.{Spells, text_of}
use Rattle.fx_types.specs.DateText.{date_text}
use Rattle.fx_types.specs.Words.{scalars_of}
use Rattle.fx_types.specs.declared.faults.Kind.TheVariants.{InvalidArgument}
use Rattle.fx_types.specs.Types.{Shape, blanks, numbers, texts, booleans, dates, records, tables}
use Rattle.fx_types.specs.Types.{ColumnList, no_columns, column}
use Rattle.fx_types.specs.Values.{Data, blank, number, text, boolean, date, rec, tab, fault}
use Rattle.fx_types.specs.Values.{FieldList, no_fields, field, RowList, no_rows, row}
use Rattle.fx_value.specs.Fits.{fits_in}
use Rattle.fx_value.specs.Join.{join_of}

-- the value under a name, and blank where it is missing
abbrev pub field_or_blank : List ℕ → FieldList → Data
field_or_blank n no_fields = blank
field_or_blank n (field m d fs) = if bytes_eq m n then d else field_or_blank n fs

-- each row of a table as f makes it
abbrev pub rows_mapped : (FieldList → FieldList) → RowList → RowList
rows_mapped f no_rows = no_rows
rows_mapped f (row fs rs) = row (f fs) (rows_mapped f rs)

-- a value as one of a wider type: a record has a field for each column, blank where it is missing,
-- and so has each row of a table, and each record and table in them
abbrev mutual
  pub widened : Data → Shape → Data
  widened (rec fs) (records cs) = rec (widened_fields fs cs)
  widened (tab rs) (tables cs) = tab (rows_mapped (λ fs. widened_fields fs cs) rs)
  widened d t = d

  pub widened_fields : FieldList → ColumnList → FieldList
  widened_fields fs no_columns = no_fields
  widened_fields fs (column n t cs) = field n (widened (field_or_blank n fs) t)
      (widened_fields fs cs)

-- the second type is the first one as it is joined with one type after another
pub data Widens (s : Shape) : Shape → Type 0 where
  same : Widens s s
  joined : (t u v : Shape) → Widens s t → join_of t u ≡ Some v → Widens s v

-- the pairs of types that have a coercion
abbrev pub HasCoercion : Shape → Shape → Type 0
HasCoercion blanks t = Unit {0}
HasCoercion s blanks = Unit {0}
HasCoercion numbers texts = Unit {0}
HasCoercion numbers booleans = Unit {0}
HasCoercion booleans texts = Unit {0}
HasCoercion booleans numbers = Unit {0}
HasCoercion dates texts = Unit {0}
HasCoercion texts numbers = Unit {0}
HasCoercion s t = Widens s t

-- a value of a type that widens to the second type
pub record CanWiden (d : Data) (t : Shape) : Type 0 where
  pub from : Shape
  pub fitting : fits_in d from ≡ true
  pub widens : Widens from t

-- a value of a type that has a coercion to the second type
pub record CanCoerce (d : Data) (t : Shape) : Type 0 where
  pub from : Shape
  pub fitting : fits_in d from ≡ true
  pub coercion : HasCoercion from t

-- whether a text is empty or of spaces alone
abbrev pub are_spaces : List ℕ → Bool
are_spaces = list_all (λ b. b == 32)

-- what the bytes of a text are read as: blank where there are spaces alone, the number that they
-- spell, and else InvalidArgument without a message
abbrev pub IsReadAs : List ℕ → Data → Type 0
IsReadAs bs blank = are_spaces bs ≡ true
IsReadAs bs (number z) = Spells bs z × IsInRange z
IsReadAs bs (fault k cs) =
    (k ≡ InvalidArgument) × (cs ≡ []) × (are_spaces bs ≡ false)
    × ((z : ℤ) → IsInRange z → ¬ Spells bs z)
IsReadAs bs _ = ⊥

-- what a value is coerced to. Blank and errors stay, and all else is blank as a value of type
-- Blank.
abbrev pub IsCoerced : Data → Shape → Data → Type 0
IsCoerced blank t w = w ≡ blank
IsCoerced (fault k cs) t w = w ≡ fault k cs
IsCoerced d blanks w = w ≡ blank
IsCoerced (number z) texts w = w ≡ text (scalars_of (text_of z))
IsCoerced (number z) booleans w = w ≡ boolean (not (int_eq z (pos 0)))
IsCoerced (boolean b) texts w = w ≡ text (scalars_of (if b then codes "true" else codes "false"))
IsCoerced (boolean b) numbers w = w ≡ number (if b then pos 10000 else pos 0)
IsCoerced (date z) texts w = w ≡ text (scalars_of (date_text z))
IsCoerced (text cs) numbers w = IsReadAs (encode_utf8_all cs) w
IsCoerced d t w = w ≡ widened d t

-- a value that fits either of two types can be coerced to their join
abbrev pub JoinTakesBoth : Type 0
JoinTakesBoth = (s u t : Shape) → join_of s u ≡ Some t → (d : Data) → fits_in d s ≡ true
    → CanCoerce d t
