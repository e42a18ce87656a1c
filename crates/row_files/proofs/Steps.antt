-- Steps over the parts of batches.
use Rattle.std.proofs.Common.{◌≡◌, ◌∙◌, ℕ, zero, suc, ◌+◌, ◌<◌, ◌≤◌, ◌&&◌, Bool, true, false, not, cond, List, [], ◌∷◌, ◌++◌, length, map, get_or, take, drop, Some, None, is_some, refl, sym, ap, ap₂, append_assoc, arith}
use Rattle.std.specs.Prelude.{option_map, slice_get, unwrap_or, Result, Ok, Err}
use Rattle.std.specs.List.{position}
use Rattle.std.proofs.lemmas.List.{append-nil, drop_all, drop_more, take_more}
use Rattle.std.proofs.lemmas.Option.{slice_get-get_or, slice_get_within, slice_get_read, get_or_from_slice_get}
use Rattle.csv.specs.Records.{field_at}
use Rattle.fx_types.specs.Values.{Data, blank}
use Rattle.fx_core.specs.declared.schema.Column.{Column}
use Rattle.row_queries.specs.TableRows.{value_at}
use Rattle.row_files.specs.Batches.{bad_name, cell_of, cells_of, column_at, is_among, line_of, lines_of, name_at, number_of}
use Rattle.row_files.specs.Ends.{and_then}
use Rattle.row_files.specs.Records.{Fields}
use Rattle.row_files.specs.declared.ends.BatchEnd.{BatchEnd}
use Rattle.row_files.proofs.Places.{position_here, position_past}

-- ---- places in lists

pub field_slice : (fs : List (List ℕ)) (i : ℕ) → field_at fs i ≡ slice_get fs i
unfolding field_at
field_slice [] i = refl
field_slice (f ∷ fs) zero = refl
field_slice (f ∷ fs) (suc i) = field_slice fs i

pub at_place : {X : Type 0} (xs : List X) (i : ℕ) (x : X) → i < length xs → x ≡ get_or xs i x → slice_get xs i ≡ Some x
at_place xs i x h e = slice_get_read xs (length xs) i x refl h e

pub here_at : (xs : List ℕ) (i : ℕ) → i < length xs → slice_get xs i ≡ Some (get_or xs i 0)
here_at xs i h = slice_get-get_or xs i 0 h

pub drop_at : {X : Type 0} (xs : List X) (i : ℕ) (x : X) → slice_get xs i ≡ Some x → drop i xs ≡ x ∷ drop (i + 1) xs
drop_at xs i x e = drop_more xs i x (slice_get_within xs i x e) ∙ ap (λ y. y ∷ drop (i + 1) xs) (get_or_from_slice_get xs i x x e)

pub take_at : {X : Type 0} (xs : List X) (i : ℕ) (x : X) → slice_get xs i ≡ Some x → take (i + 1) xs ≡ take i xs ++ x ∷ []
take_at xs i x e = take_more xs i x (slice_get_within xs i x e) ∙ ap (λ y. take i xs ++ y ∷ []) (get_or_from_slice_get xs i x x e)

drop_past : {X : Type 0} (xs : List X) (i : ℕ) → slice_get xs i ≡ None → drop i xs ≡ []
drop_past [] i e = drop_all i [] (omega arith)
drop_past (x ∷ xs) zero e = absurd cc
drop_past (x ∷ xs) (suc i) e = drop_past xs i e

pub position_map : {X Y : Type 0} (p : Y → Bool) (f : X → Y) (xs : List X) → position p (map f xs) ≡ position (λ x. p (f x)) xs
position_map p f [] = refl
position_map p f (x ∷ xs) = by (p (f x)) refl (position_map p f xs)
  where
    by : (b : Bool) → p (f x) ≡ b → position p (map f xs) ≡ position (λ y. p (f y)) xs → position p (map f (x ∷ xs)) ≡ position (λ x. p (f x)) (x ∷ xs)
    by true e m = position_here p (f x) (map f xs) e ∙ sym (position_here (λ y. p (f y)) x xs e)
    by false e m = position_past p (f x) (map f xs) e ∙ ap (option_map suc) m ∙ sym (position_past (λ y. p (f y)) x xs e)

pub no_value : (ds : List Data) (i : ℕ) → length ds ≤ i → value_at ds i ≡ blank
no_value [] i h = refl
no_value (d ∷ ds) zero h = absurd (omega (arith, h))
no_value (d ∷ ds) (suc i) h = no_value ds i (omega (arith, h))

-- ---- columns

pub name_is : (columns : List Column) (k : ℕ) (c : Column) → Some c ≡ column_at columns k → c.name ≡ name_at columns k
name_is columns k c e = ap (λ o. unwrap_or (option_map (λ (x : Column). x.name) o) []) e

pub no_name : (columns : List Column) (k : ℕ) → None ≡ column_at columns k → [] ≡ name_at columns k
no_name columns k e = ap (λ o. unwrap_or (option_map (λ (x : Column). x.name) o) []) e

-- ---- the names of a header

pub name_fine : (columns : List Column) (names : List (List ℕ)) (i : ℕ) (n : List ℕ) → slice_get names i ≡ Some n → (is_some (number_of n columns) && not (is_among n (take i names))) ≡ true
    → bad_name columns (take i names) (drop i names) ≡ bad_name columns (take (i + 1) names) (drop (i + 1) names)
name_fine columns names i n at fine =
    ap (bad_name columns (take i names)) (drop_at names i n at)
    ∙ ap (λ b. cond b (bad_name columns (take i names ++ n ∷ []) (drop (i + 1) names)) (Some n)) fine
    ∙ ap (λ ns. bad_name columns ns (drop (i + 1) names)) (sym (take_at names i n at))

pub name_bad : (columns : List Column) (names : List (List ℕ)) (i : ℕ) (n : List ℕ) → slice_get names i ≡ Some n → (is_some (number_of n columns) && not (is_among n (take i names))) ≡ false
    → bad_name columns (take i names) (drop i names) ≡ Some n
name_bad columns names i n at bad =
    ap (bad_name columns (take i names)) (drop_at names i n at)
    ∙ ap (λ b. cond b (bad_name columns (take i names ++ n ∷ []) (drop (i + 1) names)) (Some n)) bad

-- ---- cells

-- values in front of those of an answer
abbrev pub behind : List Data → Result (List Data) BatchEnd → Result (List Data) BatchEnd
behind ds r = and_then r (λ es. Ok (ds ++ es))

behind_one : (ds : List Data) (d : Data) (r : Result (List Data) BatchEnd) → behind ds (and_then r (λ es. Ok (d ∷ es))) ≡ behind (ds ++ d ∷ []) r
behind_one ds d (Ok es) = ap Ok (sym (append_assoc ds (d ∷ []) es))
behind_one ds d (Err e) = refl

module _ (columns : List Column) (at : ℕ) (ks : List ℕ) (fs : Fields) (i k : ℕ) (key_here : slice_get ks i ≡ Some k) where
  pub cell_fine : (f : List ℕ) (ds : List Data) (d : Data) → slice_get fs i ≡ Some f → cell_of (column_at columns k) at f ≡ Ok d
      → behind ds (cells_of columns at (drop i ks) (drop i fs)) ≡ behind (ds ++ d ∷ []) (cells_of columns at (drop (i + 1) ks) (drop (i + 1) fs))
  cell_fine f ds d here fine =
      ap₂ (λ xs ys. behind ds (cells_of columns at xs ys)) (drop_at ks i k key_here) (drop_at fs i f here)
      ∙ ap (λ r. behind ds (and_then r (λ x. and_then (cells_of columns at (drop (i + 1) ks) (drop (i + 1) fs)) (λ xs. Ok (x ∷ xs))))) fine
      ∙ behind_one ds d (cells_of columns at (drop (i + 1) ks) (drop (i + 1) fs))

  pub cell_bad : (f : List ℕ) (ds : List Data) (e : BatchEnd) → slice_get fs i ≡ Some f → cell_of (column_at columns k) at f ≡ Err e
      → behind ds (cells_of columns at (drop i ks) (drop i fs)) ≡ Err e
  cell_bad f ds e here bad =
      ap₂ (λ xs ys. behind ds (cells_of columns at xs ys)) (drop_at ks i k key_here) (drop_at fs i f here)
      ∙ ap (λ r. behind ds (and_then r (λ x. and_then (cells_of columns at (drop (i + 1) ks) (drop (i + 1) fs)) (λ xs. Ok (x ∷ xs))))) bad

  pub cells_short : (ds : List Data) → slice_get fs i ≡ None → behind ds (cells_of columns at (drop i ks) (drop i fs)) ≡ Ok ds
  cells_short ds none =
      ap₂ (λ xs ys. behind ds (cells_of columns at xs ys)) (drop_at ks i k key_here) (drop_past fs i none) ∙ ap Ok (append-nil ds)

pub cells_whole : (columns : List Column) (at : ℕ) (ks : List ℕ) (fs : Fields) (i : ℕ) (ds : List Data) → length ks ≤ i → behind ds (cells_of columns at (drop i ks) (drop i fs)) ≡ Ok ds
cells_whole columns at ks fs i ds h =
    ap (λ xs. behind ds (cells_of columns at xs (drop i fs))) (drop_all i ks h) ∙ ap Ok (append-nil ds)

-- ---- lines

module _ {R : Type 0} (fields : R → Fields) (columns : List Column) (key : ℕ) (numbers : List ℕ) (rs : List R) (i : ℕ) (r : R) (here : slice_get rs i ≡ Some r) (before : List (List Data)) where
  pub line_fine : (l : List Data) → line_of columns key numbers before (fields r) ≡ Ok l
      → lines_of columns key numbers before (map fields (drop i rs)) ≡ lines_of columns key numbers (before ++ l ∷ []) (map fields (drop (i + 1) rs))
  line_fine l fine =
      ap (λ xs. lines_of columns key numbers before (map fields xs)) (drop_at rs i r here)
      ∙ ap (λ x. and_then x (λ y. lines_of columns key numbers (before ++ y ∷ []) (map fields (drop (i + 1) rs)))) fine

  pub line_bad : (e : BatchEnd) → line_of columns key numbers before (fields r) ≡ Err e → lines_of columns key numbers before (map fields (drop i rs)) ≡ Err e
  line_bad e bad =
      ap (λ xs. lines_of columns key numbers before (map fields xs)) (drop_at rs i r here)
      ∙ ap (λ x. and_then x (λ y. lines_of columns key numbers (before ++ y ∷ []) (map fields (drop (i + 1) rs)))) bad
