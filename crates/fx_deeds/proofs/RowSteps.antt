-- Rows that are made field by field.
use Rattle.std.proofs.Common.{◌≡◌, ℕ, List, [], ◌∷◌, ◌++◌, true, Option, Some, None, refl, ap, sym, subst, ◌∙◌, append_assoc, bytes_eq}
use Rattle.std.specs.Prelude.{◌&&◌, option_map, unwrap_or}
use Rattle.std.specs.Option.{option_or}
use Rattle.std.specs.List.{find}
use Rattle.std.proofs.lemmas.List.Folds.{find-append}
use Rattle.std.proofs.lemmas.List.{append-nil, map-append}
use Rattle.std.proofs.lemmas.Bool.{and_from}
use Rattle.fx_types.proofs.Utf8Order.{and_second, and_first}
use Rattle.fx_types.specs.declared.types.Ty.{Ty}
use Rattle.fx_types.specs.declared.values.Value.{Value}
use Rattle.fx_types.specs.Lookup.{item_named}
use Rattle.fx_types.specs.Rising.{AreNamesRising, IsNameBelowAll}
use Rattle.fx_types.specs.Types.{Shape, column_list}
use Rattle.fx_types.specs.TypeView.{columns_view, shape}
use Rattle.fx_types.specs.Values.{Data, blank, field_list}
use Rattle.fx_types.specs.ValueView.{fields_view, view}
use Rattle.fx_value.specs.Columns.{Row}
use Rattle.fx_tables.specs.Unions.{is_fault}
use Rattle.fx_value.proofs.Widenings.{own_name, rises_by_fit}
use Rattle.fx_value.specs.Coercion.{widened}
use Rattle.fx_value.specs.Fits.{fields_fit, fits_in}
use Rattle.fx_deeds.specs.Fitting.{CanChange}
use Rattle.fx_deeds.specs.RowValues.{blank_row, changed_row, changed_value, values_among, field_values}
use Rattle.fx_deeds.proofs.Steps.{none_is}

-- one field more
fields_more : (xs ys : List (List ℕ × Value)) (m : List ℕ) (v : Value) → ys ≡ xs ++ (m, v) ∷ [] → fields_view ys ≡ fields_view xs ++ (m, view v) ∷ []
fields_more xs ys m v e = ap fields_view e ∙ map-append (λ (x : List ℕ × Value). (x.0, view x.1)) xs ((m, v) ∷ [])

one_on : (xs ys : List (List ℕ × Value)) (m n : List ℕ) (v : Value) (d : Data) (more : Row) → ys ≡ xs ++ (m, v) ∷ [] → m ≡ n → view v ≡ d → fields_view ys ++ more ≡ fields_view xs ++ (n, d) ∷ more
one_on xs ys m n v d more e f g =
    ap (λ z. z ++ more) (fields_more xs ys m v e) ∙ append_assoc (fields_view xs) ((m, view v) ∷ []) more ∙ (λ i. fields_view xs ++ (f i, g i) ∷ more)

-- ---- a row of blanks

pub blank_ends : (cs : List (List ℕ × Ty)) (xs : List (List ℕ × Value)) (whole : Row) → cs ≡ [] → fields_view xs ++ blank_row (column_list (columns_view cs)) ≡ whole → fields_view xs ≡ whole
blank_ends cs xs whole e w = sym (append-nil (fields_view xs)) ∙ ap (λ (z : List (List ℕ × Ty)). fields_view xs ++ blank_row (column_list (columns_view z))) (sym e) ∙ w

below_blanks : (n : List ℕ) (cs : List (List ℕ × Shape)) → IsNameBelowAll n cs → IsNameBelowAll n (blank_row (column_list cs))
below_blanks n [] h = tt
below_blanks n (c ∷ cs) h = (h.0, below_blanks n cs h.1)

pub blanks_rise : (cs : List (List ℕ × Shape)) → AreNamesRising cs → AreNamesRising (blank_row (column_list cs))
blanks_rise [] h = tt
blanks_rise (c ∷ cs) h = (below_blanks c.0 cs h.0, blanks_rise cs h.1)

-- ---- a row after changes

fit_more : (xs : List (List ℕ × Data)) (cs : List (List ℕ × Shape)) (n : List ℕ) (d : Data) (t : Shape) → fields_fit (field_list xs) (column_list cs) ≡ true → fits_in d t ≡ true →
    fields_fit (field_list (xs ++ (n, d) ∷ [])) (column_list (cs ++ (n, t) ∷ [])) ≡ true
fit_more [] [] n d t h k = and_from (bytes_eq n n) _ (own_name n) (and_from (fits_in d t) true k refl)
fit_more [] (c ∷ cs) n d t h k = absurd cc
fit_more (x ∷ xs) [] n d t h k = absurd cc
fit_more (x ∷ xs) (c ∷ cs) n d t h k =
    let rest = fields_fit (field_list xs) (column_list cs) in
    let more = and_second (bytes_eq x.0 c.0) (fits_in x.1 c.1 && rest) h in
    and_from (bytes_eq x.0 c.0) _ (and_first (bytes_eq x.0 c.0) (fits_in x.1 c.1 && rest) h)
    (and_from (fits_in x.1 c.1) _ (and_first (fits_in x.1 c.1) rest more) (fit_more xs cs n d t (and_second (fits_in x.1 c.1) rest more) k))

-- the fields so far fit the columns before, and those that are left follow
pub record IsChanging (columns : List (List ℕ × Shape)) (changes : List Row) (r : Row) (items : List (List ℕ × Value)) (rest : List (List ℕ × Ty)) : Type 0 where
  pub made : fields_view items ++ changed_row (column_list (columns_view rest)) changes r ≡ changed_row (column_list columns) changes r
  pub can : CanChange (column_list (columns_view rest)) changes r
  pub before : List (List ℕ × Shape)
  pub parted : columns ≡ before ++ columns_view rest
  pub fits : fields_fit (field_list (fields_view items)) (column_list before) ≡ true

first_can : (changes : List Row) (r : Row) (c : List ℕ × Ty) (rest others : List (List ℕ × Ty)) → rest ≡ c ∷ others → CanChange (column_list (columns_view rest)) changes r → CanChange (column_list (columns_view (c ∷ others))) changes r
first_can changes r c rest others e h = subst (λ (z : List (List ℕ × Ty)). CanChange (column_list (columns_view z)) changes r) e h

pub change_goes : (columns : List (List ℕ × Shape)) (changes : List Row) (r : Row) (items now : List (List ℕ × Value)) (rest others : List (List ℕ × Ty)) (c : List ℕ × Ty) (m : List ℕ) (v : Value) (old new : Data) →
    IsChanging columns changes r items rest → rest ≡ c ∷ others → now ≡ items ++ (m, v) ∷ [] → m ≡ c.0 →
    old ≡ unwrap_or (item_named c.0 r) blank → new ≡ changed_value c.0 changes old → view v ≡ widened new (shape c.1) → fits_in (view v) (shape c.1) ≡ true → IsChanging columns changes r now others
change_goes columns changes r items now rest others c m v old new h e f g p q w fit =
    let is : view v ≡ widened (changed_value c.0 changes (unwrap_or (item_named c.0 r) blank)) (shape c.1) = w ∙ ap (λ z. widened z (shape c.1)) (q ∙ ap (changed_value c.0 changes) p) in
    let more : changed_row (column_list (columns_view rest)) changes r ≡ changed_row (column_list (columns_view (c ∷ others))) changes r = ap (λ (z : List (List ℕ × Ty)). changed_row (column_list (columns_view z)) changes r) e in
    record {
      made = one_on items now m c.0 v _ (changed_row (column_list (columns_view others)) changes r) f g is ∙ ap (λ z. fields_view items ++ z) (sym more) ∙ h.made;
      can = (first_can changes r c rest others e h.can).1;
      before = h.before ++ (c.0, shape c.1) ∷ [];
      parted = h.parted ∙ ap (λ (z : List (List ℕ × Ty)). h.before ++ columns_view z) e ∙ sym (append_assoc h.before ((c.0, shape c.1) ∷ []) (columns_view others));
      fits = subst (λ z. fields_fit (field_list z) (column_list (h.before ++ (c.0, shape c.1) ∷ [])) ≡ true) (sym (fields_more items now m v f ∙ ap (λ n. fields_view items ++ (n, view v) ∷ []) g))
          (fit_more (fields_view items) h.before c.0 (view v) (shape c.1) h.fits fit);
    }

pub changed_fits : (columns : List (List ℕ × Shape)) (changes : List Row) (r : Row) (items : List (List ℕ × Value)) (rest : List (List ℕ × Ty)) → IsChanging columns changes r items rest → rest ≡ [] →
    fields_fit (field_list (fields_view items)) (column_list columns) ≡ true
changed_fits columns changes r items rest h e =
    let whole : columns ≡ h.before = h.parted ∙ ap (λ (z : List (List ℕ × Ty)). h.before ++ columns_view z) e ∙ append-nil h.before in
    subst (λ z. fields_fit (field_list (fields_view items)) (column_list z) ≡ true) (sym whole) h.fits

pub changed_rises : (columns : List (List ℕ × Shape)) (changes : List Row) (r : Row) (items : List (List ℕ × Value)) (rest : List (List ℕ × Ty)) → IsChanging columns changes r items rest → rest ≡ [] → AreNamesRising columns →
    AreNamesRising (fields_view items)
changed_rises columns changes r items rest h e rise = rises_by_fit (fields_view items) columns (changed_fits columns changes r items rest h e) rise

-- ---- errors among rows

among_parts : (rest others : List Row) (q : Row) → rest ≡ q ∷ others → find is_fault (values_among rest) ≡ option_or (find is_fault (field_values q)) (find is_fault (values_among others))
among_parts rest others q e = ap (λ (z : List Row). find is_fault (values_among z)) e ∙ find-append is_fault (field_values q) (values_among others)

pub among_first : (rest others : List Row) (q : Row) (o : Option Value) (e : Value) (whole : Option Data) → find is_fault (values_among rest) ≡ whole → rest ≡ q ∷ others → option_map view o ≡ find is_fault (field_values q) → o ≡ Some e →
    Some (view e) ≡ whole
among_first rest others q o e whole h p f is =
    let found : find is_fault (field_values q) ≡ Some (view e) = sym f ∙ ap (option_map view) is in
    sym (among_parts rest others q p ∙ ap (λ z. option_or z (find is_fault (values_among others))) found) ∙ h

pub among_more : (rest others : List Row) (q : Row) (o : Option Value) (whole : Option Data) → find is_fault (values_among rest) ≡ whole → rest ≡ q ∷ others → option_map view o ≡ find is_fault (field_values q) → ((e : Value) → o ≡ Some e → ⊥) →
    find is_fault (values_among others) ≡ whole
among_more rest others q o whole h p f none =
    let found : find is_fault (field_values q) ≡ None = sym f ∙ ap (option_map view) (none_is o none) in
    sym (among_parts rest others q p ∙ ap (λ z. option_or z (find is_fault (values_among others))) found) ∙ h
