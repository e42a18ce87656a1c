-- Fields by rising names are put at the end of an object.
use Rattle.std.proofs.Common.{◌≡◌, ℕ, ◌+◌, ◌<◌, List, [], ◌∷◌, ◌++◌, true, refl, ap, sym, ◌∙◌, length, take, get_or, map, encode_utf8_all}
use Rattle.std.proofs.lemmas.List.{take_more}
use Rattle.std.specs.Cmp.Lexicographic.{slice_cmp, nat_list_cmp_total}
use Rattle.std.specs.Ordering.{nat_cmp, ordering_reverse}
use Rattle.std.specs.declared.cmp.Ordering.TheVariants.{Greater}
use Rattle.std.specs.Str.{all_scalars}
use Rattle.serde_json.specs.Data as json
use Rattle.serde_json.specs.Data.{put, member, item, object}
use Rattle.serde_json.specs.View.{items_of}
use Rattle.fx_types.specs.Values.{Data, field_list, row_list}
use Rattle.fx_types.specs.ValueView.{view, fields_view}
use Rattle.fx_types.specs.Rising.{AreNamesRising, IsAboveAll}
use Rattle.fx_types.specs.declared.values.Value.{Value}
use Rattle.fx_types.proofs.Risings.{names_of, rising_names, above_before}
use Rattle.fx_types.proofs.Utf8Order.{slice_cmp-encodes}
use Rattle.view_text.specs.JsonText.{value_data, fields_data, rows_data}

-- each name is a text of scalar values
abbrev pub AreTexts : List (List ℕ × Value) → Type 0
AreTexts [] = Unit {0}
AreTexts (f ∷ fs) = (all_scalars f.0 ≡ true) × AreTexts fs

texts_push : (fs : List (List ℕ × Value)) (f : List ℕ × Value) → AreTexts fs → all_scalars f.0 ≡ true → AreTexts (fs ++ f ∷ [])
texts_push [] f t s = (s, tt)
texts_push (g ∷ fs) f t s = (t.0, texts_push fs f t.1 s)

names_view : (fs : List (List ℕ × Value)) → names_of (fields_view fs) ≡ names_of fs
names_view [] = refl
names_view (f ∷ fs) = ap (λ ns. f.0 ∷ ns) (names_view fs)

put_last : (fs : List (List ℕ × Value)) (f : List ℕ × Value) → AreTexts fs → all_scalars f.0 ≡ true → IsAboveAll f.0 fs
    → put (encode_utf8_all f.0) (value_data (view f.1)) (fields_data (field_list (fields_view fs))) ≡ fields_data (field_list (fields_view (fs ++ f ∷ [])))
put_last [] f t s a = refl
put_last (g ∷ fs) f t s a =
    let order : slice_cmp nat_cmp (encode_utf8_all f.0) (encode_utf8_all g.0) ≡ Greater = slice_cmp-encodes f.0 g.0 s t.0 ∙ nat_list_cmp_total.antisymm f.0 g.0 ∙ ap ordering_reverse a.0 in
    rw order (ap (λ ms. member (encode_utf8_all g.0) (value_data (view g.1)) ms) (put_last fs f t.1 s a.1))

-- one more field of a record is put at the end of those before it
pub record IsMore (fs : List (List ℕ × Value)) (i : ℕ) (f : List ℕ × Value) : Type 0 where
  pub texts : AreTexts (take (i + 1) fs)
  pub members : put (encode_utf8_all f.0) (value_data (view f.1)) (fields_data (field_list (fields_view (take i fs)))) ≡ fields_data (field_list (fields_view (take (i + 1) fs)))

pub one_more : (fs : List (List ℕ × Value)) (i : ℕ) (f : List ℕ × Value) → i < length fs → f ≡ get_or fs i f → AreNamesRising (fields_view fs)
    → AreTexts (take i fs) → all_scalars f.0 ≡ true → IsMore fs i f
one_more fs i f h e r t s =
    let more : take (i + 1) fs ≡ take i fs ++ f ∷ [] = take_more fs i f h ∙ ap (λ g. take i fs ++ g ∷ []) (sym e) in
    let above : IsAboveAll f.0 (take i fs) = above_before fs i f h e (rising_names (fields_view fs) fs (names_view fs) r) in
    record { texts = rw more (texts_push (take i fs) f t s); members = rw more (put_last (take i fs) f t s above) }

-- a row is an object of its fields
abbrev pub row_data : List (List ℕ × Data) → json.Data
row_data r = object (fields_data (field_list r))

pub rows_are : (rs : List (List (List ℕ × Data))) → items_of (map row_data rs) ≡ rows_data (row_list rs)
rows_are [] = refl
rows_are (r ∷ rs) = ap (λ ds. item (row_data r) ds) (rows_are rs)
