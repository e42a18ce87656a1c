-- What an index says of rules on columns.
use Rattle.std.proofs.Common.{◌≡◌, ℕ, zero, suc, ◌+◌, ◌==◌, ◌<◌, List, [], ◌∷◌, ◌++◌, filter, length, drop, get_or, refl, sym, ap, ap₂, ◌∙◌, arith, Bool, true, false, not, cond, ◌&&◌, ◌||◌, Option, None, Some, subst}
use Rattle.std.specs.List.{AllByRecursion, list_any}
use Rattle.std.specs.Prelude.{map, slice_get, sum_by, take}
use Rattle.std.proofs.lemmas.List.{take_more}
use Rattle.std.proofs.lemmas.List.Sums.{sum_by-cons}
use Rattle.std.proofs.lemmas.Bool.{eq-eqb, or_right}
use Rattle.std.specs.Ordering.{is_le, is_eq}
use Rattle.std.specs.Cmp.Lexicographic.{nat_list_cmp_total}
use Rattle.fx_types.specs.TypeView.{shape}
use Rattle.fx_types.specs.Types.{Shape, blanks, numbers, texts, booleans, dates, records, tables}
use Rattle.fx_types.specs.Values.{Data, blank, number, text, boolean, date, rec, tab, fault}
use Rattle.fx_core.specs.declared.schema.Column.{Column}
use Rattle.fx_value.specs.Keys.{IsProper, KeysOrder, key_bytes}
use Rattle.fx_value.specs.Order.{AreOfOneType, IsScalar}
use Rattle.fx_value.specs.Fits.{fits_in}
use Rattle.fx_value.proofs.ByteOrder.{R, before_after, both_reversed}
use Rattle.row_queries.specs.Ranges.{in_range}
use Rattle.row_queries.specs.TableRows.{AreCellsOf, value_at}
use Rattle.row_queries.specs.declared.rows.Row.{Row}
use Rattle.row_keeper.specs.Covered.{covered_of, covers, indexed_from}
use Rattle.row_keeper.specs.RowRules.{first_broken, has_value, others}
use Rattle.row_keeper.specs.Rules.{FitsColumn, is_other_row, only_key}
use Rattle.row_keeper.specs.Sound.{IsSoundRow, lies_among}
use Rattle.row_keeper.specs.Tables.{has_id}

-- ---- one key alone
pub one_key : (key k : List ℕ) → in_range k (only_key key) ≡ is_eq (R k key)
one_key key k = ap₂ (λ x y. x && y) (ap is_le (nat_list_cmp_total.antisymm key k)) (before_after k key) ∙ both_reversed (R k key)

-- ---- values of one column are of one type
number_shape : (z : _) (t : Shape) → fits_in (number z) t ≡ true → t ≡ numbers
number_shape z blanks h = absurd cc
number_shape z numbers h = refl
number_shape z texts h = absurd cc
number_shape z booleans h = absurd cc
number_shape z dates h = absurd cc
number_shape z (records cs) h = absurd cc
number_shape z (tables cs) h = absurd cc

text_shape : (cs : List ℕ) (t : Shape) → fits_in (text cs) t ≡ true → t ≡ texts
text_shape z blanks h = absurd cc
text_shape z numbers h = absurd cc
text_shape z texts h = refl
text_shape z booleans h = absurd cc
text_shape z dates h = absurd cc
text_shape z (records cs) h = absurd cc
text_shape z (tables cs) h = absurd cc

boolean_shape : (b : Bool) (t : Shape) → fits_in (boolean b) t ≡ true → t ≡ booleans
boolean_shape z blanks h = absurd cc
boolean_shape z numbers h = absurd cc
boolean_shape z texts h = absurd cc
boolean_shape z booleans h = refl
boolean_shape z dates h = absurd cc
boolean_shape z (records cs) h = absurd cc
boolean_shape z (tables cs) h = absurd cc

date_shape : (z : _) (t : Shape) → fits_in (date z) t ≡ true → t ≡ dates
date_shape z blanks h = absurd cc
date_shape z numbers h = absurd cc
date_shape z texts h = absurd cc
date_shape z booleans h = absurd cc
date_shape z dates h = refl
date_shape z (records cs) h = absurd cc
date_shape z (tables cs) h = absurd cc

one_type : (a b : Data) (t : Shape) → IsScalar a → IsScalar b → fits_in a t ≡ true → fits_in b t ≡ true → AreOfOneType a b
one_type (rec fs) b t p q h k = absurd p
one_type (tab rs) b t p q h k = absurd p
one_type (fault e cs) b t p q h k = absurd p
one_type blank b t p q h k = q
one_type (number z) b t p q h k = by b q (subst (λ s. fits_in b s ≡ true) (number_shape z t h) k)
  where
    by : (b : Data) → IsScalar b → fits_in b numbers ≡ true → AreOfOneType (number z) b
    by blank q k = tt
    by (number w) q k = tt
    by (text w) q k = absurd cc
    by (boolean w) q k = absurd cc
    by (date w) q k = absurd cc
    by (rec w) q k = absurd q
    by (tab w) q k = absurd q
    by (fault e w) q k = absurd q
one_type (text z) b t p q h k = by b q (subst (λ s. fits_in b s ≡ true) (text_shape z t h) k)
  where
    by : (b : Data) → IsScalar b → fits_in b texts ≡ true → AreOfOneType (text z) b
    by blank q k = tt
    by (number w) q k = absurd cc
    by (text w) q k = tt
    by (boolean w) q k = absurd cc
    by (date w) q k = absurd cc
    by (rec w) q k = absurd q
    by (tab w) q k = absurd q
    by (fault e w) q k = absurd q
one_type (boolean z) b t p q h k = by b q (subst (λ s. fits_in b s ≡ true) (boolean_shape z t h) k)
  where
    by : (b : Data) → IsScalar b → fits_in b booleans ≡ true → AreOfOneType (boolean z) b
    by blank q k = tt
    by (number w) q k = absurd cc
    by (text w) q k = absurd cc
    by (boolean w) q k = tt
    by (date w) q k = absurd cc
    by (rec w) q k = absurd q
    by (tab w) q k = absurd q
    by (fault e w) q k = absurd q
one_type (date z) b t p q h k = by b q (subst (λ s. fits_in b s ≡ true) (date_shape z t h) k)
  where
    by : (b : Data) → IsScalar b → fits_in b dates ≡ true → AreOfOneType (date z) b
    by blank q k = tt
    by (number w) q k = absurd cc
    by (text w) q k = absurd cc
    by (boolean w) q k = absurd cc
    by (date w) q k = tt
    by (rec w) q k = absurd q
    by (tab w) q k = absurd q
    by (fault e w) q k = absurd q

-- the cells of two rows at one place
of_column : (columns : List Column) (cells : List Data) (place : ℕ) (d : Data) → AreCellsOf columns cells → AllByRecursion IsProper cells → FitsColumn columns place d → AreOfOneType (value_at cells place) d × IsProper (value_at cells place)
of_column [] cells place d fit proper f = absurd f
of_column (c ∷ cs) [] place d fit proper f = absurd fit
of_column (c ∷ cs) (x ∷ xs) zero d fit proper f = (one_type x d (shape c.ty) fit.0 f.0 fit.1 f.1, proper.0)
of_column (c ∷ cs) (x ∷ xs) (suc place) d fit proper f = of_column cs xs place d fit.2 proper.1 f

lies_is : KeysOrder → (columns : List Column) (place : ℕ) (d : Data) (r : Row) → IsSoundRow columns r → FitsColumn columns place d → IsProper d → lies_among (suc place) (only_key (key_bytes d) ∷ []) r ≡ has_value (suc place) d r
lies_is law columns place d r sound fits proper =
    let both = of_column columns r.cells place d sound.fit sound.proper fits in
    right (in_range (key_bytes (value_at r.cells place)) (only_key (key_bytes d))) ∙ one_key (key_bytes d) (key_bytes (value_at r.cells place)) ∙ ap is_eq (law (value_at r.cells place) d both.0 both.1 proper)
  where
    right : (b : Bool) → (b || false) ≡ b
    right true = refl
    right false = refl

-- a value stands in another row exactly where one of those of its key is another
pub repeated : KeysOrder → (columns : List Column) (place : ℕ) (d : Data) (id : Option ℕ) → FitsColumn columns place d → IsProper d → (rows : List Row) → AllByRecursion (IsSoundRow columns) rows
    → list_any (is_other_row id) (filter (lies_among (suc place) (only_key (key_bytes d) ∷ [])) rows) ≡ list_any (has_value (suc place) d) (others id rows)
repeated law columns place d id fits proper [] h = none id
  where
    none : (id : Option ℕ) → false ≡ list_any (has_value (suc place) d) (others id [])
    none None = refl
    none (Some n) = refl
repeated law columns place d id fits proper (r ∷ rows) h = by id (lies_is law columns place d r h.0 fits proper) (repeated law columns place d id fits proper rows h.1)
  where
    found : List Row
    found = filter (lies_among (suc place) (only_key (key_bytes d) ∷ [])) rows

    by : (id : Option ℕ) → lies_among (suc place) (only_key (key_bytes d) ∷ []) r ≡ has_value (suc place) d r → list_any (is_other_row id) found ≡ list_any (has_value (suc place) d) (others id rows)
        → list_any (is_other_row id) (cond (lies_among (suc place) (only_key (key_bytes d) ∷ []) r) (r ∷ found) found) ≡ list_any (has_value (suc place) d) (others id (r ∷ rows))
    by None e ih = ap (λ b. list_any (is_other_row None) (cond b (r ∷ found) found)) e ∙ go (has_value (suc place) d r) ∙ ap (λ t. has_value (suc place) d r || t) ih
      where
        go : (b : Bool) → list_any (is_other_row None) (cond b (r ∷ found) found) ≡ (b || list_any (is_other_row None) found)
        go true = refl
        go false = refl
    by (Some n) e ih = ap (λ b. list_any (is_other_row (Some n)) (cond b (r ∷ found) found)) e ∙ more (has_value (suc place) d r) refl (has_id n r) refl ih
      where
        tail : List Row
        tail = others (Some n) rows

        more : (v : Bool) → has_value (suc place) d r ≡ v → (t : Bool) → has_id n r ≡ t → list_any (is_other_row (Some n)) found ≡ list_any (has_value (suc place) d) tail
            → list_any (is_other_row (Some n)) (cond v (r ∷ found) found) ≡ list_any (has_value (suc place) d) (cond (not t) (r ∷ tail) tail)
        more false g true f ih = ih
        more true g true f ih = ap (λ t. not t || list_any (is_other_row (Some n)) found) f ∙ ih
        more false g false f ih = ih ∙ ap (λ b. b || list_any (has_value (suc place) d) tail) (sym g)
        more true g false f ih = ap (λ t. not t || list_any (is_other_row (Some n)) found) f ∙ sym (ap (λ b. b || list_any (has_value (suc place) d) tail) g)

-- ---- an indexed or unique column is covered
pub indexed_covered : (columns : List Column) (place k : ℕ) (c : Column) → slice_get columns place ≡ Some c → (c.indexed || c.unique) ≡ true → covers (indexed_from k columns) (k + place) ≡ true
indexed_covered [] place k c e u = absurd cc
indexed_covered (x ∷ xs) zero k c e u =
    let same : x ≡ c = cc in
    ap (λ b. covers (cond b (k ∷ indexed_from (k + 1) xs) (indexed_from (k + 1) xs)) (k + 0)) (ap (λ (y : Column). y.indexed || y.unique) same ∙ u)
    ∙ ap (λ t. t || covers (indexed_from (k + 1) xs) (k + 0)) (eq-eqb k (k + 0) (omega arith))
indexed_covered (x ∷ xs) (suc place) k c e u = by (x.indexed || x.unique) (subst (λ n. covers (indexed_from (k + 1) xs) n ≡ true) (let q : k + 1 + place ≡ k + suc place = omega arith in q) (indexed_covered xs place (k + 1) c e u))
  where
    by : (b : Bool) → covers (indexed_from (k + 1) xs) (k + suc place) ≡ true → covers (cond b (k ∷ indexed_from (k + 1) xs) (indexed_from (k + 1) xs)) (k + suc place) ≡ true
    by true h = or_right (k == (k + suc place)) (covers (indexed_from (k + 1) xs) (k + suc place)) h
    by false h = h

pub covered_at : (columns : List Column) (place : ℕ) (c : Column) → slice_get columns place ≡ Some c → c.unique ≡ true → covers (covered_of columns) (place + 1) ≡ true
covered_at columns place c e u = or_right (0 == (place + 1)) (covers (indexed_from 1 columns) (place + 1)) (subst (λ n. covers (indexed_from 1 columns) n ≡ true) (let q : 1 + place ≡ place + 1 = omega arith in q) (indexed_covered columns place 1 c e (or_right c.indexed c.unique u)))

pub repeated_at : KeysOrder → (columns : List Column) (place : ℕ) (d : Data) (id : Option ℕ) → FitsColumn columns place d → IsProper d → (rows : List Row) → AllByRecursion (IsSoundRow columns) rows
    → list_any (is_other_row id) (filter (lies_among (place + 1) (only_key (key_bytes d) ∷ [])) rows) ≡ list_any (has_value (place + 1) d) (others id rows)
repeated_at law columns place d id fits proper rows h =
    subst (λ n. list_any (is_other_row id) (filter (lies_among n (only_key (key_bytes d) ∷ [])) rows) ≡ list_any (has_value n d) (others id rows)) (let q : suc place ≡ place + 1 = omega arith in q) (repeated law columns place d id fits proper rows h)

pub scalar_of : (columns : List Column) (place : ℕ) (d : Data) → FitsColumn columns place d → IsScalar d
scalar_of [] place d h = absurd h
scalar_of (c ∷ cs) zero d h = h.0
scalar_of (c ∷ cs) (suc place) d h = scalar_of cs place d h

pub at_slice : {X : Type 0} (xs : List X) (i : ℕ) (x : X) → i < length xs → x ≡ get_or xs i x → slice_get xs i ≡ Some x
at_slice [] i x l h = absurd (omega (arith, l))
at_slice (y ∷ ys) zero x l h = ap Some (sym h)
at_slice (y ∷ ys) (suc i) x l h = at_slice ys i x (omega (arith, l)) h

-- ---- sums
module _ {X Y : Type 0} (g : X → Y) (f : Y → ℕ) where
  sum_push : (xs : List X) (x : X) → sum_by f (map g (xs ++ x ∷ [])) ≡ sum_by f (map g xs) + f (g x)
  sum_push [] x = sum_by-cons f (g x) [] ∙ (let q : f (g x) + 0 ≡ 0 + f (g x) = omega arith in q)
  sum_push (y ∷ xs) x = let e = sum_push xs x in let a = sum_by-cons f (g y) (map g (xs ++ x ∷ [])) in let b = sum_by-cons f (g y) (map g xs) in omega (arith, e, a, b)

  pub sum_more : (xs : List X) (i : ℕ) (x : X) → i < length xs → x ≡ get_or xs i x → sum_by f (map g (take (i + 1) xs)) ≡ sum_by f (map g (take i xs)) + f (g x)
  sum_more xs i x l e = ap (λ l. sum_by f (map g l)) (take_more xs i x l ∙ ap (λ y. take i xs ++ y ∷ []) (sym e)) ∙ sum_push (take i xs) x

-- ---- the first column that breaks a rule
pub next_of : {X : Type 0} (xs : List X) (i : ℕ) (x : X) → slice_get xs i ≡ Some x → drop i xs ≡ x ∷ drop (i + 1) xs
next_of [] i x h = absurd cc
next_of (y ∷ ys) zero x h = let e : y ≡ x = cc in let z : drop (0 + 1) (y ∷ ys) ≡ ys = refl in ap (λ w. w ∷ ys) e
next_of (y ∷ ys) (suc i) x h = next_of ys i x h ∙ ap (λ n. x ∷ drop n (y ∷ ys)) (let e : suc (i + 1) ≡ suc i + 1 = omega arith in e)

pub broken_step : (b : Column → ℕ → Data → Bool) (columns : List Column) (cells : List Data) (place : ℕ) (c : Column) (d : Data) → slice_get columns place ≡ Some c → slice_get cells place ≡ Some d
    → first_broken b (place + 1) (drop place columns) (drop place cells) ≡ cond (b c (place + 1) d) (Some (place + 1)) (first_broken b (place + 1 + 1) (drop (place + 1) columns) (drop (place + 1) cells))
broken_step b columns cells place c d e f = ap₂ (λ x y. first_broken b (place + 1) x y) (next_of columns place c e) (next_of cells place d f)

-- the cell at a place fits its column
pub fits_at : (columns : List Column) (cells : List Data) (place : ℕ) (d : Data) → AreCellsOf columns cells → slice_get cells place ≡ Some d → FitsColumn columns place d
fits_at [] [] place d h e = absurd cc
fits_at [] (x ∷ xs) place d h e = absurd h
fits_at (c ∷ cs) [] place d h e = absurd h
fits_at (c ∷ cs) (x ∷ xs) zero d h e = let same : x ≡ d = cc in subst (λ y. IsScalar y × (fits_in y (shape c.ty) ≡ true)) same (h.0, h.1)
fits_at (c ∷ cs) (x ∷ xs) (suc place) d h e = fits_at cs xs place d h.2 e
