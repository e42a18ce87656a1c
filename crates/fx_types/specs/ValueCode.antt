-- A code of the values, by which proofs tell them apart.
use Rattle.std.specs.Prelude.{◌≡◌, refl, ℕ, zero, suc, ℤ, pos, negsuc, Bool, true, false, List, []}
use Rattle.std.specs.Prelude.{◌∷◌}
use Rattle.std.proofs.Common.{ap}
use Rattle.std.specs.Coded.{Coded, code_by, coded_list, coded×, coded_ℕ}
use base.Stored.{Gv, gnil, gnum, gcons}
use denote.Struct.Codes.{itself}
use Rattle.fx_types.specs.Values.{Data, blank, number, text, boolean, date, rec, tab, fault}
use Rattle.fx_types.specs.Values.{FieldList, no_fields, field, RowList, no_rows, row}
use Rattle.fx_types.specs.declared.faults.Kind.{Kind}
use Rattle.fx_types.specs.declared.faults.Kind.TheVariants.{Div0, Numeric, InvalidArgument}
use Rattle.fx_types.specs.declared.faults.Kind.TheVariants.{NotFound, MissingRequired}
use Rattle.fx_types.specs.declared.faults.Kind.TheVariants.{ConstraintViolated, QuotaExceeded}
use Rattle.fx_types.specs.declared.faults.Kind.TheVariants.{Validation, Custom}

abbrev pub of_kind : Kind → ℕ
of_kind Div0 = 0
of_kind Numeric = 1
of_kind InvalidArgument = 2
of_kind NotFound = 3
of_kind MissingRequired = 4
of_kind ConstraintViolated = 5
of_kind QuotaExceeded = 6
of_kind Validation = 7
of_kind Custom = 8

abbrev pub to_kind : ℕ → Kind
to_kind zero = Div0
to_kind (suc zero) = Numeric
to_kind (suc (suc zero)) = InvalidArgument
to_kind (suc (suc (suc zero))) = NotFound
to_kind (suc (suc (suc (suc zero)))) = MissingRequired
to_kind (suc (suc (suc (suc (suc zero))))) = ConstraintViolated
to_kind (suc (suc (suc (suc (suc (suc zero)))))) = QuotaExceeded
to_kind (suc (suc (suc (suc (suc (suc (suc zero))))))) = Validation
to_kind (suc (suc (suc (suc (suc (suc (suc (suc n)))))))) = Custom

kind_back : (k : Kind) → to_kind (of_kind k) ≡ k
kind_back Div0 = refl
kind_back Numeric = refl
kind_back InvalidArgument = refl
kind_back NotFound = refl
kind_back MissingRequired = refl
kind_back ConstraintViolated = refl
kind_back QuotaExceeded = refl
kind_back Validation = refl
kind_back Custom = refl

abbrev pub of_text : List ℕ → Gv
of_text [] = gnil
of_text (c ∷ cs) = gcons (gnum c) (of_text cs)

abbrev pub to_text : Gv → List ℕ
to_text (gcons (gnum c) cs) = c ∷ to_text cs
to_text _ = []

pub text_back : (cs : List ℕ) → to_text (of_text cs) ≡ cs
text_back [] = refl
text_back (c ∷ cs) = ap (λ t. c ∷ t) (text_back cs)

abbrev pub of_int : ℤ → Gv
of_int (pos n) = gnum n
of_int (negsuc n) = gcons (gnum n) gnil

abbrev pub to_int : Gv → ℤ
to_int (gnum n) = pos n
to_int (gcons (gnum n) _) = negsuc n
to_int _ = pos 0

pub int_back : (z : ℤ) → to_int (of_int z) ≡ z
int_back (pos n) = refl
int_back (negsuc n) = refl

abbrev pub of_bool : Bool → Gv
of_bool true = gnil
of_bool false = gnum 0

abbrev pub to_bool : Gv → Bool
to_bool gnil = true
to_bool _ = false

bool_back : (b : Bool) → to_bool (of_bool b) ≡ b
bool_back true = refl
bool_back false = refl

abbrev mutual
  of_data : Data → Gv
  of_data blank = gnil
  of_data (number z) = gcons (gnum 0) (of_int z)
  of_data (text cs) = gcons (gnum 1) (of_text cs)
  of_data (boolean b) = gcons (gnum 2) (of_bool b)
  of_data (date z) = gcons (gnum 3) (of_int z)
  of_data (rec fs) = gcons (gnum 4) (of_fields fs)
  of_data (tab rs) = gcons (gnum 5) (of_rows rs)
  of_data (fault k cs) = gcons (gnum 6) (gcons (gnum (of_kind k)) (of_text cs))

  of_fields : FieldList → Gv
  of_fields no_fields = gnil
  of_fields (field n d fs) = gcons (gcons (of_text n) (of_data d)) (of_fields fs)

  of_rows : RowList → Gv
  of_rows no_rows = gnil
  of_rows (row fs rs) = gcons (of_fields fs) (of_rows rs)

abbrev pub to_fault : Gv → Data
to_fault (gcons (gnum k) cs) = fault (to_kind k) (to_text cs)
to_fault _ = blank

abbrev mutual
  to_data : Gv → Data
  to_data (gcons (gnum zero) g) = number (to_int g)
  to_data (gcons (gnum (suc zero)) g) = text (to_text g)
  to_data (gcons (gnum (suc (suc zero))) g) = boolean (to_bool g)
  to_data (gcons (gnum (suc (suc (suc zero)))) g) = date (to_int g)
  to_data (gcons (gnum (suc (suc (suc (suc zero))))) g) = rec (to_fields g)
  to_data (gcons (gnum (suc (suc (suc (suc (suc zero)))))) g) = tab (to_rows g)
  to_data (gcons (gnum (suc (suc (suc (suc (suc (suc n))))))) g) = to_fault g
  to_data _ = blank

  to_fields : Gv → FieldList
  to_fields (gcons (gcons n d) fs) = field (to_text n) (to_data d) (to_fields fs)
  to_fields _ = no_fields

  to_rows : Gv → RowList
  to_rows (gcons fs rs) = row (to_fields fs) (to_rows rs)
  to_rows _ = no_rows

mutual
  pub data_back : (d : Data) → to_data (of_data d) ≡ d
  data_back blank = refl
  data_back (number z) = ap number (int_back z)
  data_back (text cs) = ap text (text_back cs)
  data_back (boolean b) = ap boolean (bool_back b)
  data_back (date z) = ap date (int_back z)
  data_back (rec fs) = ap rec (fields_back fs)
  data_back (tab rs) = ap tab (rows_back rs)
  data_back (fault k cs) = λ i. fault (kind_back k i) (text_back cs i)

  fields_back : (fs : FieldList) → to_fields (of_fields fs) ≡ fs
  fields_back no_fields = refl
  fields_back (field n d fs) = λ i. field (text_back n i) (data_back d i) (fields_back fs i)

  rows_back : (rs : RowList) → to_rows (of_rows rs) ≡ rs
  rows_back no_rows = refl
  rows_back (row fs rs) = λ i. row (fields_back fs i) (rows_back rs i)

abbrev pub data_code : Coded Data
data_code = code_by Gv itself of_data to_data data_back

abbrev pub fields_code : Coded (List (List ℕ × Data))
fields_code = coded_list (coded× (coded_list coded_ℕ) data_code)

abbrev pub rows_code : Coded (List (List (List ℕ × Data)))
rows_code = coded_list fields_code
