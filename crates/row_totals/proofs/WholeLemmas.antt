-- What queries of whole tables answer.
use Rattle.std.proofs.Common.{◌≡◌, ℕ, zero, suc, ◌+◌, ◌*◌, ◌^◌, ◌<◌, ◌≤◌, ◌==◌, ℤ, pos, List, [], ◌∷◌, length, map, filter, Bool, true, false, cond, Option, Some, None, refl, sym, ap, ap₂, subst, ◌∙◌, arith}
use Rattle.std.specs.Prelude.{IfSome, IsSomeAnd, ◌≤ℤ◌, neg_ℤ, slice_get, sum_by, unwrap_or}
use Rattle.std.specs.Bool.{Decides}
use Rattle.std.specs.Cmp.{IsTotalOrder}
use Rattle.std.specs.List.{All, AllByRecursion, cons_option}
use Rattle.std.specs.List.Sorted.{IsPermutation}
use Rattle.std.specs.Ordering.{is_lt}
use Rattle.std.proofs.lemmas.Bool.Decides.{Decides-eqb}
use Rattle.std.proofs.lemmas.Int.{ints}
use Rattle.std.proofs.lemmas.List.{length-map}
use Rattle.std.proofs.lemmas.List.Elements.{All-cons, All-nil}
use Rattle.std.proofs.lemmas.List.Sorted.{length_permutation, ranks_by, sum_by-IsPermutation}
use Rattle.std.proofs.lemmas.List.Sums.{sum_by-cons}
use Rattle.fx_types.specs.TypeView.{shape}
use Rattle.fx_types.specs.Types.{numbers}
use Rattle.fx_types.specs.Values.{Data, blank, number}
use Rattle.fx_types.specs.declared.aggregates.Totals.{Totals}
use Rattle.fx_core.specs.declared.schema.Column.{Column}
use Rattle.fx_core.specs.declared.schema.TableShape.{TableShape}
use Rattle.fx_number.specs.Decimal.{IsInRange, greatest}
use Rattle.fx_value.specs.Aggregates.{SumsUp, number_if_one}
use Rattle.fx_value.specs.Fits.{fits_in}
use Rattle.fx_value.specs.Keys.{IsProper, key_bytes}
use Rattle.fx_value.specs.Order.{order}
use Rattle.number_bags.specs.Kept.{AreInRange}
use Rattle.number_bags.specs.Rising.{AreFrom, AreSame, IsRising, one_of, times}
use Rattle.number_bags.proofs.RisingLemmas.{there_once}
use Rattle.number_bags.proofs.CountLemmas.{number_itself}
use Rattle.number_bags.proofs.LeastLemmas.{sums_same}
use Rattle.row_queries.specs.Answers.{IsCountAnswer, IsTotalAnswer}
use Rattle.row_queries.specs.Queries.{AreAsked, IsCounted, IsOfNumbers, IsTotalled, first_of, given_of, lies, outcome_on, row_order}
use Rattle.row_queries.specs.RowTests.{is_met, outcome}
use Rattle.row_queries.specs.TableRows.{AreCellsOf, AreHeldRows, AreInIdOrder, IsBelowAll, IsHeldRow, id_value, rows_at, value_at, values_of}
use Rattle.row_queries.specs.declared.queries.Query.{Query}
use Rattle.row_queries.specs.declared.rows.Row.{Row}
use Rattle.row_queries.proofs.Asked.{row_total}
use Rattle.row_counts.specs.Columns.{column_of}
use Rattle.row_books.specs.Numbers.{row_number}
use Rattle.row_counts.specs.Right.{AreRowNumbers, row_of}
use Rattle.row_counts.specs.Whole.{IsOfAllRows}
use Rattle.row_counts.proofs.ColumnLemmas.{cell_of, column_cons}
use Rattle.row_totals.proofs.Sorting.{one_order}

-- ---- all rows lie in the ranges, and meet the test
every_row : (p : Row → Bool) → ((r : Row) → p r ≡ true) → (rows : List Row) → filter p rows ≡ rows
every_row p h [] = refl
every_row p h (r ∷ rows) = ap₂ (λ b l. cond b (r ∷ l) l) (h r) (every_row p h rows)

all_lie : (q : Query) → IsOfAllRows q → (rows : List Row) → filter (lies q) rows ≡ rows
all_lie q w rows = every_row (lies q) (λ r. w.ranges (key_bytes (value_at (values_of r) q.column))) rows

all_given : (q : Query) → IsOfAllRows q → (rows : List Row) → given_of q rows ≡ rows
all_given q w rows = ap (λ o. first_of o (filter (λ r. is_met (outcome_on q r)) rows)) w.take ∙ every_row (λ r. is_met (outcome_on q r)) (λ r. ap (λ t. is_met (outcome (values_of r) t)) w.test) rows

-- ---- the order of a query
times_sum : (q : ℤ) (j : ℕ) (rows : List Row) → times q (column_of rows j) ≡ sum_by (λ r. times q (one_of (cell_of j r))) rows
times_sum q j [] = refl
times_sum q j (r ∷ rows) = let a = column_cons q j r rows in let b = times_sum q j rows in let c = sum_by-cons (λ r. times q (one_of (cell_of j r))) r rows in omega (arith, a, b, c)

moved_column : (j : ℕ) (rows asked : List Row) → IsPermutation rows asked → AreSame (column_of rows j) (column_of asked j)
moved_column j rows asked p q = times_sum q j rows ∙ sym (sum_by-IsPermutation (λ r. times q (one_of (cell_of j r))) rows asked p) ∙ sym (times_sum q j asked)

asked_in_order : IsTotalOrder order → (q : Query) → IsOfAllRows q → (rows : List Row) → (asked : List Row) × IsPermutation rows asked × AreAsked q rows asked
asked_in_order t q w rows =
    let s = one_order (λ a b. is_lt (row_order q.order a b)) (ranks_by (row_total t q.order) (λ (r : Row). r)).one_way rows in
    (s.0, s.1, record { rearranged = subst (λ rs. IsPermutation rs s.0) (sym (all_lie q w rows)) s.1; sorted = s.2 })

pub counted_all : IsTotalOrder order → (q : Query) → IsOfAllRows q → (rows : List Row) (n : ℕ) → n ≡ length rows → IsCounted q rows n
counted_all t q w rows n e =
    let s = asked_in_order t q w rows in
    (s.0, s.2, e ∙ sym (length_permutation rows s.0 s.1) ∙ ap length (sym (all_given q w s.0)))

pub totalled_all : IsTotalOrder order → (q : Query) → IsOfAllRows q → (rows : List Row) (j : ℕ) (zs : List ℤ) (totals : Totals) → AreSame zs (column_of rows j) → SumsUp zs totals → IsTotalled q rows j totals
totalled_all t q w rows j zs totals same sums =
    let s = asked_in_order t q w rows in
    (s.0, s.2, subst (λ rs. SumsUp (column_of rs j) totals) (sym (all_given q w s.0)) (sums_same zs (column_of s.0 j) totals (λ z. same z ∙ moved_column j rows s.0 s.1 z) sums))

-- ---- rows where none are told
abbrev blanks : List Column → List Data
blanks cs = map (λ (c : Column). blank) cs

blanks_fit : (cs : List Column) → AreCellsOf cs (blanks cs)
blanks_fit [] = tt
blanks_fit (c ∷ cs) = (tt, refl, blanks_fit cs)

blanks_proper : (cs : List Column) → All IsProper (blanks cs)
blanks_proper [] = All-nil IsProper
blanks_proper (c ∷ cs) = All-cons IsProper blank (blanks cs) tt (blanks_proper cs)

-- blank but for a number in one column
abbrev cells_with : List Column → ℕ → ℤ → List Data
cells_with [] k z = []
cells_with (c ∷ cs) zero z = number z ∷ blanks cs
cells_with (c ∷ cs) (suc k) z = blank ∷ cells_with cs k z

fits_numbers : (z : ℤ) (c : Column) → shape c.ty ≡ numbers → fits_in (number z) (shape c.ty) ≡ true
fits_numbers z c e = ap (fits_in (number z)) e

cells_fit : (cs : List Column) (k : ℕ) (z : ℤ) → IsSomeAnd (slice_get cs k) (λ (c : Column). shape c.ty ≡ numbers) → AreCellsOf cs (cells_with cs k z)
cells_fit [] k z h = absurd h
cells_fit (c ∷ cs) zero z h = (tt, fits_numbers z c h, blanks_fit cs)
cells_fit (c ∷ cs) (suc k) z h = (tt, refl, cells_fit cs k z h)

cells_proper : (cs : List Column) (k : ℕ) (z : ℤ) → IsInRange z → All IsProper (cells_with cs k z)
cells_proper [] k z i = All-nil IsProper
cells_proper (c ∷ cs) zero z i = All-cons IsProper (number z) (blanks cs) i (blanks_proper cs)
cells_proper (c ∷ cs) (suc k) z i = All-cons IsProper blank (cells_with cs k z) tt (cells_proper cs k z i)

cell_there : (cs : List Column) (k : ℕ) (z : ℤ) → IsSomeAnd (slice_get cs k) (λ (c : Column). shape c.ty ≡ numbers) → number_if_one (unwrap_or (slice_get (cells_with cs k z) k) blank) ≡ Some z
cell_there [] k z h = absurd h
cell_there (c ∷ cs) zero z h = refl
cell_there (c ∷ cs) (suc k) z h = cell_there cs k z h

id_proper : (id : ℕ) → id < 2 ^ 33 → IsProper (id_value id)
id_proper id h = (below (id * 10000), upto (id * 10000) (omega (arith, h)))
  where
    below : (n : ℕ) → neg_ℤ (pos greatest) ≤ℤ pos n
    below n = omega (arith, ints)

    upto : (n : ℕ) → n ≤ greatest → pos n ≤ℤ pos greatest
    upto n l = omega (arith, ints, l)

held_row : (t : TableShape) (r : Row) → 1 ≤ r.id → r.id < 2 ^ 33 → AreCellsOf t.columns r.cells → All IsProper r.cells → IsHeldRow t r
held_row t r one few fit proper = ((one, fit), All-cons IsProper (id_value r.id) r.cells (id_proper r.id few) proper)

-- rows numbered from one on, each with its cells
abbrev made : ℕ → List (List Data) → List Row
made n [] = []
made n (ds ∷ dss) = record { id = n; cells = ds } ∷ made (suc n) dss

made_below : (m n : ℕ) (dss : List (List Data)) → m < n → IsBelowAll m (made n dss)
made_below m n [] h = tt
made_below m n (ds ∷ dss) h = (h, made_below m (suc n) dss (omega (arith, h)))

made_order : (n : ℕ) (dss : List (List Data)) → AreInIdOrder (made n dss)
made_order n [] = tt
made_order n (ds ∷ dss) = (made_below n (suc n) dss (omega arith), made_order (suc n) dss)

abbrev pub AllFit : TableShape → List (List Data) → Type 0
AllFit t dss = AllByRecursion (λ (ds : List Data). AreCellsOf t.columns ds × All IsProper ds) dss

made_rows_held : (t : TableShape) (n : ℕ) (dss : List (List Data)) → 1 ≤ n → n + length dss < 2 ^ 33 → AllFit t dss → All (IsHeldRow t) (made n dss)
made_rows_held t n [] one few h = All-nil (IsHeldRow t)
made_rows_held t n (ds ∷ dss) one few h =
    All-cons (IsHeldRow t) (record { id = n; cells = ds }) (made (suc n) dss) (held_row t (record { id = n; cells = ds }) one (omega (arith, few)) h.0.0 h.0.1) (made_rows_held t (suc n) dss (omega arith) (omega (arith, few)) h.1)

made_held : (t : TableShape) (dss : List (List Data)) → length dss < 2 ^ 32 → AllFit t dss → AreHeldRows t (made 1 dss)
made_held t dss few h = (made_order 1 dss, made_rows_held t 1 dss (omega arith) (omega (arith, few)) h)

made_length : (n : ℕ) (dss : List (List Data)) → length (made n dss) ≡ length dss
made_length n [] = refl
made_length n (ds ∷ dss) = ap suc (made_length (suc n) dss)

-- so many rows
abbrev many : List Column → ℕ → List (List Data)
many cs zero = []
many cs (suc n) = blanks cs ∷ many cs n

many_fit : (t : TableShape) (n : ℕ) → AllFit t (many t.columns n)
many_fit t zero = tt
many_fit t (suc n) = ((blanks_fit t.columns, blanks_proper t.columns), many_fit t n)

many_length : (cs : List Column) (n : ℕ) → length (many cs n) ≡ n
many_length cs zero = refl
many_length cs (suc n) = ap suc (many_length cs n)

-- rows with such numbers in a column
abbrev each_with : List Column → ℕ → List ℤ → List (List Data)
each_with cs k zs = map (cells_with cs k) zs

each_fit : (t : TableShape) (k : ℕ) (zs : List ℤ) → IsSomeAnd (slice_get t.columns k) (λ (c : Column). shape c.ty ≡ numbers) → AreInRange zs → AllFit t (each_with t.columns k zs)
each_fit t k [] h i = tt
each_fit t k (z ∷ zs) h i = ((cells_fit t.columns k z h, cells_proper t.columns k z (i z (there_once z zs))), each_fit t k zs h (λ q l. i q (omega (arith, l))))

each_numbers : (cs : List Column) (k n : ℕ) (zs : List ℤ) → IsSomeAnd (slice_get cs k) (λ (c : Column). shape c.ty ≡ numbers) → column_of (made n (each_with cs k zs)) (suc k) ≡ zs
each_numbers cs k n [] h = refl
each_numbers cs k n (z ∷ zs) h = ap₂ cons_option (cell_there cs k z h) (each_numbers cs k (suc n) zs h)

-- ---- rows of such numbers
below_all : (id : ℕ) (rows : List Row) → AreFrom (row_number id) (column_of rows 0) → times (row_number id) (column_of rows 0) ≡ 0 → IsBelowAll id rows
below_all id [] f none = tt
below_all id (r ∷ rows) f none = (above (r.id == id) (Decides-eqb r.id id), below_all id rows f.1 (omega (arith, none)))
  where
    further : (a b : ℕ) → pos a ≤ℤ pos b → a ≤ b
    further a b h = omega (arith, ints, h)

    above : (b : Bool) → Decides b (r.id ≡ id) → id < r.id
    above true d = absurd (let e = ap (λ n. times (row_number id) (row_number n ∷ column_of rows 0)) (d.0 refl) in let l = there_once (row_number id) (column_of rows 0) in omega (arith, e, l, none))
    above false d = let l = further (id * 10000) (r.id * 10000) f.0 in apart id r.id l (λ e. let k = d.1 (sym e) in cc)
      where
        apart : (a b : ℕ) → a * 10000 ≤ b * 10000 → (a ≡ b → ⊥) → a < b
        apart a b l n = go (a == b) (Decides-eqb a b)
          where
            strict : (a b : ℕ) → a * 10000 ≤ b * 10000 → (a ≡ b → ⊥) → a < b
            strict a b l n = grind (arith, l, n)

            go : (t : Bool) → Decides t (a ≡ b) → a < b
            go true e = absurd (n (e.0 refl))
            go false e = strict a b l n

later_numbers : (z : ℤ) (zs : List ℤ) → AreRowNumbers (z ∷ zs) → AreRowNumbers zs
later_numbers z zs h q l = let n = h q (omega (arith, l)) in let a = n.0 in (omega (arith, a, l), n.1)

abbrev NumberedRows : TableShape → List ℤ → Type 0
NumberedRows t zs = (rows : List Row) × AreHeldRows t rows × (column_of rows 0 ≡ zs)

numbered_rows : (t : TableShape) (zs : List ℤ) → IsRising zs → AreRowNumbers zs → NumberedRows t zs
numbered_rows t [] r h = ([], (tt, All-nil (IsHeldRow t)), refl)
numbered_rows t (z ∷ zs) r h =
    let n = h z (there_once z zs) in
    let id = row_of z in
    let is : z ≡ row_number id = n.1.exact in
    let later = numbered_rows t zs r.1 (later_numbers z zs h) in
    let row : Row = record { id = id; cells = blanks t.columns } in
    let none : times z zs ≡ 0 = let a = n.0 in let b = ap (λ c. cond c 1 0 + times z zs) (number_itself z) in omega (arith, a, b) in (
      row ∷ later.0,
      (
        (below_all id later.0 (subst (λ w. AreFrom w (column_of later.0 0)) is (subst (AreFrom z) (sym later.2) r.0)) (subst (λ w. times w (column_of later.0 0) ≡ 0) is (ap (times z) later.2 ∙ none)), later.1.0),
        All-cons (IsHeldRow t) row later.0 (held_row t row n.1.first (let b = n.1.few in omega (arith, b)) (blanks_fit t.columns) (blanks_proper t.columns)) later.1.1,
      ),
      ap₂ (λ w ws. w ∷ ws) (sym is) later.2,
    )

-- ---- the answers
pub count_answer : IsTotalOrder order → (shapes : List TableShape) (told : Option (List (List Row))) (q : Query) (t : TableShape) (n : ℕ) → IsOfAllRows q → slice_get shapes q.table ≡ Some t → n < 2 ^ 32
    → IfSome told (λ tables. AreHeldRows t (rows_at tables q.table) × (n ≡ length (rows_at tables q.table))) → IsCountAnswer shapes told q n
count_answer o shapes None q t n w there few h =
    let dss = many t.columns n in let e = many_length t.columns n in
    (t, made 1 dss, record { is_table = there; held = made_held t dss (subst (λ k. k < 2 ^ 32) (sym e) few) (many_fit t n); told_rows = tt }, counted_all o q w (made 1 dss) n (sym (made_length 1 dss ∙ e)))
count_answer o shapes (Some tables) q t n w there few h = (t, rows_at tables q.table, record { is_table = there; held = h.0; told_rows = refl }, counted_all o q w (rows_at tables q.table) n h.1)

pub total_answer : IsTotalOrder order → (shapes : List TableShape) (told : Option (List (List Row))) (q : Query) (t : TableShape) (j : ℕ) (zs : List ℤ) (totals : Totals) → IsOfAllRows q → slice_get shapes q.table ≡ Some t → IsOfNumbers t j
    → SumsUp zs totals → AreInRange zs → IsRising zs → length zs < 2 ^ 32 → (j ≡ 0 → AreRowNumbers zs)
    → IfSome told (λ tables. AreHeldRows t (rows_at tables q.table) × AreSame zs (column_of (rows_at tables q.table) j)) → IsTotalAnswer shapes told q j totals
total_answer o shapes None q t zero zs totals w there is sums range rising few ids h =
    let rows = numbered_rows t zs rising (ids refl) in
    (t, rows.0, record { is_table = there; held = rows.1; told_rows = tt }, totalled_all o q w rows.0 0 zs totals (λ z. ap (times z) (sym rows.2)) sums)
total_answer o shapes None q t (suc k) zs totals w there is sums range rising few ids h =
    let dss = each_with t.columns k zs in let rows = made 1 dss in let e = each_numbers t.columns k 1 zs is in
    (t, rows, record { is_table = there; held = made_held t dss (subst (λ n. n < 2 ^ 32) (sym (length-map zs (cells_with t.columns k))) few) (each_fit t k zs is range); told_rows = tt }, totalled_all o q w rows (suc k) zs totals (λ z. ap (times z) (sym e)) sums)
total_answer o shapes (Some tables) q t j zs totals w there is sums range rising few ids h =
    (t, rows_at tables q.table, record { is_table = there; held = h.0; told_rows = refl }, totalled_all o q w (rows_at tables q.table) j zs totals h.1 sums)
