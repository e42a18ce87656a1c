-- The steps by which records are widened.
use Rattle.std.proofs.Common.{slice_set, slice_index_or, append-nil, if◌then◌else◌, ◌≡◌, ℕ, zero, suc, ◌+◌, ◌<◌, List, [], ◌∷◌, ◌++◌, length, get_or, take, drop, Bool, true, false, bytes_eq, refl, sym, ap, subst, ◌∙◌, arith}
use Rattle.std.specs.Prelude.{◌&&◌, ◌≢◌}
use Rattle.std.specs.Ordering.{nat_cmp}
use Rattle.std.specs.Cmp.Lexicographic.{slice_cmp}
use Rattle.std.specs.declared.cmp.Ordering.TheVariants.{Less}
use Rattle.std.specs.Cmp.{tied_itself}
use Rattle.std.proofs.lemmas.Cmp.{nat_list_cmp_total}
use Rattle.std.proofs.lemmas.List.{take_more, take_all, drop_all, length-set}
use Rattle.std.proofs.lemmas.Bool.{and_from}
use Rattle.fx_types.specs.Rising.{IsBelow, IsNameBelowAll, AreNamesRising}
use Rattle.fx_types.specs.Types.{ColumnList, column_list}
use Rattle.fx_types.specs.TypeView.{shape, columns_view}
use Rattle.fx_types.specs.Values.{Data, FieldList, no_fields, field, field_list, no_rows, row, row_list}
use Rattle.fx_types.specs.ValueView.{view, fields_view}
use Rattle.fx_types.specs.declared.types.Ty.{Ty}
use Rattle.fx_types.specs.declared.values.Value.{Value}
use Rattle.fx_types.proofs.Utf8Order.{and_second, and_first}
use Rattle.fx_value.specs.Coercion.{field_or_blank, widened, widened_fields, rows_mapped}
use Rattle.fx_value.specs.Fits.{fits_in, fields_fit, rows_fit}
use Rattle.fx_value.proofs.JoinSteps.{left}
use Rattle.fx_value.proofs.Widenings.{own_name, same_name}

apart : (n m : List ℕ) → n ≢ m → bytes_eq n m ≡ false
apart n m d = by (bytes_eq n m) refl
  where
    by : (b : Bool) → bytes_eq n m ≡ b → b ≡ false
    by true e = absurd (d (same_name n m e))
    by false e = refl

-- the values under the names of these columns still stand
abbrev pub Stand : FieldList → FieldList → List (List ℕ × Ty) → Type 0
Stand old new [] = Unit {0}
Stand old new (c ∷ cs) = (field_or_blank c.0 new ≡ field_or_blank c.0 old) × Stand old new cs

pub stand_at_first : (old : FieldList) (cs : List (List ℕ × Ty)) → Stand old old cs
stand_at_first old [] = tt
stand_at_first old (c ∷ cs) = (refl, stand_at_first old cs)

other_name : (n m : List ℕ) → IsBelow n m → m ≢ n
other_name n m h e =
    let P : List ℕ → Type 0 = λ z. slice_cmp nat_cmp n z ≡ Less in
    let own : slice_cmp nat_cmp n n ≡ Less = subst P e h in
    let tied = tied_itself nat_list_cmp_total n in
    cc

stand_others : (old new newer : FieldList) (n : List ℕ) (cs : List (List ℕ × Ty)) → Stand old new cs → ((m : List ℕ) → m ≢ n → field_or_blank m newer ≡ field_or_blank m new) → IsNameBelowAll n (columns_view cs) → Stand old newer cs
stand_others old new newer n [] s o l = tt
stand_others old new newer n (c ∷ cs) s o l = (o c.0 (other_name n c.0 l.0) ∙ s.0, stand_others old new newer n cs s.1 o l.1)

rising_left : (i : ℕ) (cs : List (List ℕ × Ty)) → AreNamesRising (columns_view cs) → AreNamesRising (columns_view (drop i cs))
rising_left zero cs r = r
rising_left (suc i) [] r = tt
rising_left (suc i) (c ∷ cs) r = rising_left i cs r.1

module _ (old new : FieldList) (cs : List (List ℕ × Ty)) (i : ℕ) (c : List ℕ × Ty) (h : i < length cs) (e : c ≡ get_or cs i c) (s : Stand old new (drop i cs)) where
  abbrev here : Stand old new (c ∷ drop (i + 1) cs)
  here = let P : List (List ℕ × Ty) → Type 0 = Stand old new in subst P (left cs i c h e) s

  -- the value of the next column
  pub stands_next : field_or_blank c.0 new ≡ field_or_blank c.0 old
  stands_next = here.0

  -- the others, once it is taken
  pub stands_after : (newer : FieldList) → AreNamesRising (columns_view cs) → ((m : List ℕ) → m ≢ c.0 → field_or_blank m newer ≡ field_or_blank m new) → Stand old newer (drop (i + 1) cs)
  stands_after newer r o =
      let P : List (List ℕ × Ty) → Type 0 = λ z. AreNamesRising (columns_view z) in
      let q : AreNamesRising (columns_view (c ∷ drop (i + 1) cs)) = subst P (left cs i c h e) (rising_left i cs r) in
      stand_others old new newer c.0 (drop (i + 1) cs) here.1 o q.0

-- one field more
value_push : (ws : List (List ℕ × Value)) (cs : List (List ℕ × Ty)) (c : List ℕ × Ty) (w : Value) (fs : FieldList) → field_list (fields_view ws) ≡ widened_fields fs (column_list (columns_view cs)) → view w ≡ widened (field_or_blank c.0 fs) (shape c.1) → field_list (fields_view (ws ++ (c.0, w) ∷ [])) ≡ widened_fields fs (column_list (columns_view (cs ++ c ∷ [])))
value_push [] [] c w fs h e = ap (λ d. field c.0 d no_fields) e
value_push [] (d ∷ cs) c w fs h e = cc
value_push (x ∷ ws) [] c w fs h e = cc
value_push (x ∷ ws) (d ∷ cs) c w fs h e =
    let a : x.0 ≡ d.0 = cc in
    let b : view x.1 ≡ widened (field_or_blank d.0 fs) (shape d.1) = cc in
    let r : field_list (fields_view ws) ≡ widened_fields fs (column_list (columns_view cs)) = cc in
    λ i. field (a i) (b i) (value_push ws cs c w fs r e i)

fit_push : (ws : List (List ℕ × Value)) (cs : List (List ℕ × Ty)) (c : List ℕ × Ty) (w : Value) → fields_fit (field_list (fields_view ws)) (column_list (columns_view cs)) ≡ true → fits_in (view w) (shape c.1) ≡ true → fields_fit (field_list (fields_view (ws ++ (c.0, w) ∷ []))) (column_list (columns_view (cs ++ c ∷ []))) ≡ true
fit_push [] [] c w h f = and_from (bytes_eq c.0 c.0) (fits_in (view w) (shape c.1) && true) (own_name c.0) (and_from (fits_in (view w) (shape c.1)) true f refl)
fit_push [] (d ∷ cs) c w h f = cc
fit_push (x ∷ ws) [] c w h f = cc
fit_push (x ∷ ws) (d ∷ cs) c w h f =
    let rest = fields_fit (field_list (fields_view ws)) (column_list (columns_view cs)) in
    let name = and_first (bytes_eq x.0 d.0) (fits_in (view x.1) (shape d.1) && rest) h in
    let more = and_second (bytes_eq x.0 d.0) (fits_in (view x.1) (shape d.1) && rest) h in
    and_from (bytes_eq x.0 d.0) _ name (and_from (fits_in (view x.1) (shape d.1)) _ (and_first (fits_in (view x.1) (shape d.1)) rest more) (fit_push ws cs c w (and_second (fits_in (view x.1) (shape d.1)) rest more) f))

-- one column more is done
taken : (cs : List (List ℕ × Ty)) (i : ℕ) (c : List ℕ × Ty) → i < length cs → c ≡ get_or cs i c → take (i + 1) cs ≡ take i cs ++ c ∷ []
taken cs i c h e = take_more cs i c h ∙ ap (λ z. take i cs ++ z ∷ []) (sym e)

module _ (ws : List (List ℕ × Value)) (cs : List (List ℕ × Ty)) (i : ℕ) (c : List ℕ × Ty) (w : Value) (h : i < length cs) (e : c ≡ get_or cs i c) where
  pub next_value : (fs : FieldList) → field_list (fields_view ws) ≡ widened_fields fs (column_list (columns_view (take i cs))) → view w ≡ widened (field_or_blank c.0 fs) (shape c.1) → field_list (fields_view (ws ++ (c.0, w) ∷ [])) ≡ widened_fields fs (column_list (columns_view (take (i + 1) cs)))
  next_value fs v d = rw (taken cs i c h e) (value_push ws (take i cs) c w fs v d)

  pub next_fits : fields_fit (field_list (fields_view ws)) (column_list (columns_view (take i cs))) ≡ true → fits_in (view w) (shape c.1) ≡ true → fields_fit (field_list (fields_view (ws ++ (c.0, w) ∷ []))) (column_list (columns_view (take (i + 1) cs))) ≡ true
  next_fits v f = rw (taken cs i c h e) (fit_push ws (take i cs) c w v f)

-- one row more
pub rows_push : (f : FieldList → FieldList) (ws rs : List (List (List ℕ × Data))) (w r : List (List ℕ × Data)) → row_list ws ≡ rows_mapped f (row_list rs) → field_list w ≡ f (field_list r) → row_list (ws ++ w ∷ []) ≡ rows_mapped f (row_list (rs ++ r ∷ []))
rows_push f [] [] w r h e = ap (λ z. row z no_rows) e
rows_push f [] (y ∷ rs) w r h e = cc
rows_push f (x ∷ ws) [] w r h e = cc
rows_push f (x ∷ ws) (y ∷ rs) w r h e =
    let a : field_list x ≡ f (field_list y) = cc in
    let b : row_list ws ≡ rows_mapped f (row_list rs) = cc in
    λ i. row (a i) (rows_push f ws rs w r b e i)

pub rows_fit_push : (cs : ColumnList) (ws : List (List (List ℕ × Data))) (w : List (List ℕ × Data)) → rows_fit (row_list ws) cs ≡ true → fields_fit (field_list w) cs ≡ true → rows_fit (row_list (ws ++ w ∷ [])) cs ≡ true
rows_fit_push cs [] w h f = and_from (fields_fit (field_list w) cs) true f refl
rows_fit_push cs (x ∷ ws) w h f =
    and_from (fields_fit (field_list x) cs) _ (and_first (fields_fit (field_list x) cs) (rows_fit (row_list ws) cs) h) (rows_fit_push cs ws w (and_second (fields_fit (field_list x) cs) (rows_fit (row_list ws) cs) h) f)

-- what is taken out is missing under its name alone
set_elsewhere : (xs : List (List ℕ × Value)) (i : ℕ) (x : List ℕ × Value) (w : Value) → i < length xs → x ≡ get_or xs i x → (m : List ℕ) → m ≢ x.0 → field_or_blank m (field_list (fields_view (slice_set xs i (x.0, w)))) ≡ field_or_blank m (field_list (fields_view xs))
set_elsewhere [] i x w h e m d = absurd (omega arith)
set_elsewhere (y ∷ xs) zero x w h e m d =
    let n : x.0 ≡ y.0 = ap (λ z. z.0) e in
    let P : Bool → Type 0 = λ b. (if b then view w else field_or_blank m (field_list (fields_view xs))) ≡ field_or_blank m (field_list (fields_view xs)) in
    let Q : Bool → Type 0 = λ b. field_or_blank m (field_list (fields_view xs)) ≡ (if b then view y.1 else field_or_blank m (field_list (fields_view xs))) in
    subst P (sym (apart x.0 m (λ q. d (sym q)))) refl
    ∙ subst Q (sym (apart y.0 m (λ q. d (sym q ∙ sym n)))) refl
set_elsewhere (y ∷ xs) (suc i) x w h e m d =
    ap (λ z. if bytes_eq y.0 m then view y.1 else z) (set_elsewhere xs i x w (omega arith) e m d)

pub taken_out : (xs ys : List (List ℕ × Value)) (i : ℕ) (x : List ℕ × Value) (w : Value) (len : ℕ) (n : List ℕ) → ys ≡ xs → len ≡ length xs → i < length ys → x ≡ get_or ys i x → (get_or ys i x).0 ≡ n → (m : List ℕ) → m ≢ n → field_or_blank m (field_list (fields_view (take len (slice_set ys i ((slice_index_or ys i x).0, w) ++ drop (length (slice_set ys i ((slice_index_or ys i x).0, w))) xs)))) ≡ field_or_blank m (field_list (fields_view xs))
taken_out xs ys i x w len n e l h k q m d =
    let set_at : List (List ℕ × Value) = slice_set ys i (x.0, w) in
    let long : length set_at ≡ len = length-set ys i (x.0, w) ∙ ap length e ∙ sym l in
    let name : (slice_index_or ys i x).0 ≡ x.0 = ap (λ z. z.0) (sym k) in
    let all : take len set_at ≡ set_at = take_all len set_at (omega (arith, long)) in
    let none : drop (length set_at) xs ≡ [] = drop_all (length set_at) xs (omega (arith, long, l)) in
    rw (name, none, append-nil, all) (set_elsewhere ys i x w h k m (λ z. d (z ∙ ap (λ w. w.0) k ∙ q)) ∙ ap (λ z. field_or_blank m (field_list (fields_view z))) e)
