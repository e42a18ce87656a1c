-- What is counted of the rows of a table as they are read.
use Rattle.std.proofs.Common.{◌≡◌, ℕ, zero, suc, ◌+◌, ◌<◌, ◌≤◌, ◌^◌, ◌==◌, ◌++◌, ℤ, List, [], ◌∷◌, length, map, take, drop, Bool, true, false, cond, Option, Some, None, refl, sym, ap, ap₂, subst, ◌∙◌, append_assoc, add-one, arith}
use Rattle.std.specs.Prelude.{IfSome, IsSome, IsSomeAnd, MatchOption, nat_lt, option_map, slice_get, unwrap_or}
use Rattle.std.specs.Bool.{Decides}
use Rattle.std.specs.List.{All}
use Rattle.std.proofs.lemmas.Bool.Decides.{Decides-eqb, nat_tests}
use Rattle.std.proofs.lemmas.List.Elements.{All-cons, All-head, All-nil, All-tail, recursion_from_All}
use Rattle.fx_base.specs.Silence.{MayFallSilent}
use Rattle.fx_base.specs.Telling.{Stays}
use Rattle.fx_types.specs.Values.{Data}
use Rattle.fx_core.specs.declared.schema.Schema.{Schema}
use Rattle.fx_core.specs.declared.schema.TableShape.{TableShape}
use Rattle.fx_value.specs.Keys.{IsProper}
use Rattle.number_bags.specs.Rising.{AreSame, times}
use Rattle.row_queries.specs.TableRows.{AreHeldRows, AreInIdOrder, IsBelowAll, IsHeldRow, IsRowOf, id_value}
use Rattle.row_queries.specs.declared.rows.Row.{Row}
use Rattle.row_keeper.specs.Tables.{AreStatesOf, IsStateOf, TableState, Tables, shapes_of, state_at}
use Rattle.row_counts.specs.Columns.{column_of}
use Rattle.row_counts.specs.Filling.{AreFilled, CountsMore, CountsPage, CountsThese, IsFilled, IsLastOf, IsReadOn, IsReadTo, IsReading, past}
use Rattle.row_counts.specs.Looking.{IsPage}
use Rattle.row_books.specs.Numbers.{AreEmpty, IsChanged, changed, column_in, fresh, now_of, number_at, numbers_of, row_number, then_of}
use Rattle.row_counts.specs.Right.{AreCounted, AreInRanges, AreOf, AreRowNumbers, HaveProperRows}
use Rattle.row_books.specs.declared.book.Book.{Book}
use Rattle.row_counts.proofs.ColumnLemmas.{fresh_is, number_differs, numbers_more}
use Rattle.row_books.proofs.Places.{there_at}
use Rattle.row_counts.proofs.Steps.{column_right, row_added, state_there}
use Rattle.row_counts.proofs.Telling.{stays_on}

-- ---- rows by rising numbers

-- the first of them do too
pub first_rise : (xs ys : List Row) → AreInIdOrder (xs ++ ys) → AreInIdOrder xs
first_rise [] ys h = tt
first_rise (x ∷ xs) ys h = (below xs h.0, first_rise xs ys h.1)
  where
    below : (rows : List Row) → IsBelowAll x.id (rows ++ ys) → IsBelowAll x.id rows
    below [] b = tt
    below (r ∷ rows) b = (b.0, below rows b.1)

-- the number of a row is none of those before it
not_among : (xs : List Row) (r : Row) → AreInIdOrder (xs ++ r ∷ []) → times (row_number r.id) (column_of xs 0) ≡ 0
not_among [] r h = refl
not_among (x ∷ xs) r h = ap₂ (λ (b : Bool) n. cond b 1 0 + n) (number_differs x.id r.id (last xs h.0)) (not_among xs r h.1)
  where
    last : (rows : List Row) → IsBelowAll x.id (rows ++ r ∷ []) → x.id < r.id
    last [] b = b.0
    last (y ∷ rows) b = last rows b.1

-- ---- one row more
same_many : {X : Type 0} (f : ℕ → X → X) (xs ys : List X) → ((k : ℕ) → slice_get ys k ≡ option_map (f k) (slice_get xs k)) → length ys ≡ length xs
same_many f [] [] h = refl
same_many f [] (y ∷ ys) h = absurd (let e = h 0 in cc)
same_many f (x ∷ xs) [] h = absurd (let e = h 0 in cc)
same_many f (x ∷ xs) (y ∷ ys) h = ap suc (same_many (λ k. f (suc k)) xs ys (λ k. h (suc k)))

pub counts_row : (row : Row) (ids : List ℤ) (old new : List (List ℤ)) → 1 ≤ row.id → row.id < 2 ^ 32 → slice_get old 0 ≡ Some ids
    → IsChanged (None ∷ []) (fresh (row_number row.id) ids ∷ numbers_of row.cells) old new → CountsMore (row ∷ []) old new
counts_row row ids old new one few first changes = record {
  these = λ seen ordered counts j.
      let is : fresh (row_number row.id) ids ≡ Some (row_number row.id) = fresh_is (row_number row.id) ids (column_of seen 0) (subst (λ o. IfSome o (λ zs. AreSame zs (column_of seen 0))) first (counts 0)) (not_among seen row ordered) in
      let now = subst (λ o. IsChanged (None ∷ []) (o ∷ numbers_of row.cells) old new) is changes in
      subst (λ o. IfSome o (λ zs. AreSame zs (column_of (seen ++ row ∷ []) j))) (sym (now j))
      (column_right (None ∷ []) (Some (row_number row.id) ∷ numbers_of row.cells) seen (seen ++ row ∷ []) (row_added row seen) j (slice_get old j) (counts j));
  numbers = λ h. subst (λ o. IfSome o AreRowNumbers) (sym (changes 0 ∙ ap (option_map (changed None (fresh (row_number row.id) ids))) first))
      (numbers_more ids row.id one few (subst (λ o. IfSome o AreRowNumbers) first h));
  columns = same_many (λ k. changed (number_at (None ∷ []) k) (number_at (fresh (row_number row.id) ids ∷ numbers_of row.cells) k)) old new changes;
}

-- the same, as a book carries it out
pub counts_put : (row : Row) (ids : List ℤ) (rest : List (List ℤ)) (outs cells : List (Option ℤ)) (number first : Option ℤ) (values : List Data) (mid new : List (List ℤ)) → 1 ≤ row.id → row.id < 2 ^ 32 → outs ≡ None ∷ []
    → first ∷ cells ≡ None ∷ numbers_of values → values ≡ row.cells → number ≡ fresh (row_number row.id) ids → mid ≡ ids ∷ rest → IsChanged outs (number ∷ cells) mid new → CountsMore (row ∷ []) (ids ∷ rest) new
counts_put row ids rest outs cells number first values mid new one few o c v f m changes =
    let same : cells ≡ numbers_of row.cells = tail first None cells (numbers_of values) c ∙ ap numbers_of v in
    counts_row row ids (ids ∷ rest) new one few refl
    (subst (λ zs. IsChanged (None ∷ []) (fresh (row_number row.id) ids ∷ numbers_of row.cells) zs new) m
    (subst (λ zs. IsChanged (None ∷ []) (fresh (row_number row.id) ids ∷ zs) mid new) same
    (subst (λ z. IsChanged (None ∷ []) (z ∷ cells) mid new) f
    (subst (λ zs. IsChanged zs (number ∷ cells) mid new) o changes))))
  where
    tail : (x y : Option ℤ) (xs ys : List (Option ℤ)) → x ∷ xs ≡ y ∷ ys → xs ≡ ys
    tail x y xs ys e = cc

append_none : (xs : List Row) → xs ++ [] ≡ xs
append_none [] = refl
append_none (x ∷ xs) = ap (λ l. x ∷ l) (append_none xs)

pub counts_none : (old : List (List ℤ)) → CountsMore [] old old
counts_none old = record {
  these = λ seen ordered counts. subst (λ rows. CountsThese rows old) (sym (append_none seen)) counts;
  numbers = λ h. h;
  columns = refl;
}

pub counts_then : (xs ys : List Row) (a b c : List (List ℤ)) → CountsMore xs a b → CountsMore ys b c → CountsMore (xs ++ ys) a c
counts_then xs ys a b c h k = record {
  these = λ seen ordered counts.
      let e : (seen ++ xs) ++ ys ≡ seen ++ (xs ++ ys) = append_assoc seen xs ys in
      let o = subst (λ rows. AreInIdOrder rows) (sym e) ordered in
      subst (λ rows. CountsThese rows c) e (k.these (seen ++ xs) o (h.these seen (first_rise (seen ++ xs) ys o) counts));
  numbers = λ n. k.numbers (h.numbers n);
  columns = k.columns ∙ h.columns;
}

-- one row more of a list
one_more : (rows : List Row) (i : ℕ) (r : Row) → slice_get rows i ≡ Some r → take (suc i) rows ≡ take i rows ++ r ∷ []
one_more [] i r e = absurd cc
one_more (x ∷ rows) zero r e = let same : x ≡ r = cc in ap (λ y. y ∷ []) same
one_more (x ∷ rows) (suc i) r e = ap (λ l. x ∷ l) (one_more rows i r e)

pub next_taken : (rows : List Row) (i : ℕ) (r : Row) → slice_get rows i ≡ Some r → take (i + 1) rows ≡ take i rows ++ r ∷ []
next_taken rows i r e = ap (λ n. take n rows) (add-one i) ∙ one_more rows i r e

-- ---- pages

-- rows of greater numbers than one of them are those behind it
past_it : (n : ℕ) (rows : List Row) → IsBelowAll n rows → past n rows ≡ rows
past_it n [] h = refl
past_it n (r ∷ rows) h = ap₂ (λ b l. cond b (r ∷ l) l) (above n r.id h.0) (past_it n rows h.1)
  where
    above : (a b : ℕ) → a < b → nat_lt a b ≡ true
    above a b l = grind (arith, nat_tests, l)

past_row : (xs : List Row) (r : Row) (ys : List Row) → AreInIdOrder (xs ++ r ∷ ys) → past r.id (xs ++ r ∷ ys) ≡ ys
past_row [] r ys h = ap₂ (λ b l. cond b (r ∷ l) l) (not_above r.id) (past_it r.id ys h.0)
  where
    not_above : (a : ℕ) → nat_lt a a ≡ false
    not_above a = grind (arith, nat_tests)
past_row (x ∷ xs) r ys h = ap₂ (λ b l. cond b (x ∷ l) l) (below r.id x.id (here xs h.0)) (past_row xs r ys h.1)
  where
    below : (a b : ℕ) → b < a → nat_lt a b ≡ false
    below a b l = grind (arith, nat_tests, l)

    here : (rows : List Row) → IsBelowAll x.id (rows ++ r ∷ ys) → x.id < r.id
    here [] b = b.0
    here (y ∷ rows) b = here rows b.1

split_last : (rows : List Row) (k : ℕ) (r : Row) → suc k ≡ length rows → slice_get rows k ≡ Some r → rows ≡ take k rows ++ r ∷ []
split_last [] k r l e = absurd cc
split_last (x ∷ []) zero r l e = let same : x ≡ r = cc in ap (λ y. y ∷ []) same
split_last (x ∷ y ∷ rows) zero r l e = absurd (omega (arith, l))
split_last (x ∷ rows) (suc k) r l e = ap (λ z. x ∷ z) (split_last rows k r (omega (arith, l)) e)

take_and_drop : (n : ℕ) (rows : List Row) → take n rows ++ drop n rows ≡ rows
take_and_drop zero rows = refl
take_and_drop (suc n) [] = refl
take_and_drop (suc n) (r ∷ rows) = ap (λ l. r ∷ l) (take_and_drop n rows)

short_page : (n : ℕ) (rows : List Row) → length (take n rows) < n → take n rows ≡ rows
short_page zero rows l = absurd (omega (arith, l))
short_page (suc n) [] l = refl
short_page (suc n) (r ∷ rows) l = ap (λ z. r ∷ z) (short_page n rows (omega (arith, l)))

-- no rows are read at first
pub read_none : (t : TableShape) (s : TableState) (counted : List (List ℤ)) → IsStateOf t s → AreEmpty counted → IsReadTo 0 s.rows counted
read_none t s counted st empty = record {
  seen = [];
  split = sym (all s.rows st.fit);
  counts = λ j. none (slice_get counted j) (empty j);
}
  where
    above : (n : ℕ) → 1 ≤ n → nat_lt 0 n ≡ true
    above n l = grind (arith, nat_tests, l)

    all : (rows : List Row) → All (IsRowOf t) rows → past 0 rows ≡ rows
    all [] h = refl
    all (r ∷ rows) h = ap₂ (λ b l. cond b (r ∷ l) l) (above r.id (All-head (IsRowOf t) r rows h).0) (all rows (All-tail (IsRowOf t) r rows h))

    none : (o : Option (List ℤ)) → IfSome o (λ zs. zs ≡ []) → IfSome o (λ zs. AreSame zs [])
    none None h = tt
    none (Some zs) h = λ q. ap (times q) h

-- a page more is read
pub read_more : (rows page : List Row) (after last : ℕ) (old new : List (List ℤ)) → AreInIdOrder rows → IsReadTo after rows old → page ≡ take 1000 (past after rows) → IsLastOf page last → CountsMore page old new → IsReadTo last rows new
read_more rows page after last old new ordered read is end more = record {
  seen = read.seen ++ page;
  split = whole ∙ ap (λ l. (read.seen ++ page) ++ l) (sym rest);
  counts = more.these read.seen (first_rise (read.seen ++ page) (drop 1000 (past after rows)) (subst (λ l. AreInIdOrder l) whole ordered)) read.counts;
}
  where
    whole : rows ≡ (read.seen ++ page) ++ drop 1000 (past after rows)
    whole = read.split ∙ ap (λ l. read.seen ++ l) (sym (take_and_drop 1000 (past after rows)) ∙ ap (λ l. l ++ drop 1000 (past after rows)) (sym is)) ∙ sym (append_assoc read.seen page (drop 1000 (past after rows)))

    apart : rows ≡ (read.seen ++ take end.before page) ++ (end.row ∷ drop 1000 (past after rows))
    apart =
        whole
        ∙ ap (λ l. (read.seen ++ l) ++ drop 1000 (past after rows)) (split_last page end.before end.row end.is_last end.is_there)
        ∙ ap (λ l. l ++ drop 1000 (past after rows)) (sym (append_assoc read.seen (take end.before page) (end.row ∷ [])))
        ∙ append_assoc (read.seen ++ take end.before page) (end.row ∷ []) (drop 1000 (past after rows))

    rest : past last rows ≡ drop 1000 (past after rows)
    rest =
        ap (λ n. past n rows) (sym end.numbered)
        ∙ ap (past end.row.id) apart
        ∙ past_row (read.seen ++ take end.before page) end.row (drop 1000 (past after rows)) (subst (λ l. AreInIdOrder l) apart ordered)

-- the last page is read
pub read_all : (rows page : List Row) (after : ℕ) (old new : List (List ℤ)) → AreInIdOrder rows → IsReadTo after rows old → page ≡ take 1000 (past after rows) → length page < 1000 → CountsMore page old new → CountsThese rows new
read_all rows page after old new ordered read is short more =
    let all : page ≡ past after rows = is ∙ short_page 1000 (past after rows) (subst (λ l. length l < 1000) is short) in
    let whole : rows ≡ read.seen ++ page = read.split ∙ ap (λ l. read.seen ++ l) (sym all) in
    subst (λ l. CountsThese l new) (sym whole) (more.these read.seen (subst (λ l. AreInIdOrder l) whole ordered) read.counts)

-- ---- all tables
filled_at : (books : List Book) (k : ℕ) (P : Book → Type 0) → IsSomeAnd (slice_get books k) P → (b : Book) × (slice_get books k ≡ Some b) × P b
filled_at [] k P h = absurd h
filled_at (b ∷ books) zero P h = (b, refl, h)
filled_at (b ∷ books) (suc k) P h = filled_at books k P h

column_there : (books : List Book) (table : ℕ) (b : Book) (j : ℕ) → slice_get books table ≡ Some b → column_in (map now_of books) table j ≡ slice_get (now_of b) j
column_there [] table b j e = absurd cc
column_there (c ∷ books) zero b j e = ap (λ (o : Option Book). slice_get (now_of (unwrap_or o c)) j) e
column_there (c ∷ books) (suc k) b j e = column_there books k b j e

column_absent : (books : List Book) (table j : ℕ) → slice_get books table ≡ None → column_in (map now_of books) table j ≡ None
column_absent [] table j e = refl
column_absent (c ∷ books) zero j e = absurd cc
column_absent (c ∷ books) (suc k) j e = column_absent books k j e

within : {X : Type 0} (xs : List X) (k : ℕ) (x : X) → slice_get xs k ≡ Some x → k < length xs
within [] k x e = absurd cc
within (y ∷ xs) zero x e = omega arith
within (y ∷ xs) (suc k) x e = let l = within xs k x e in omega (arith, l)

-- each column of each book is one of a table that is filled
each_column : (shapes : List TableShape) (told : Option Tables) (books : List Book) → AreFilled shapes told (length shapes) books → (Q : ℕ → ℕ → List ℤ → Type 0)
    → ((k : ℕ) (t : TableShape) (b : Book) → slice_get shapes k ≡ Some t → IsFilled (length t.columns) told k b → (j : ℕ) → IfSome (slice_get (now_of b) j) (Q k j))
    → (table j : ℕ) → IfSome (column_in (map now_of books) table j) (Q table j)
each_column shapes told books h Q step table j = go (slice_get books table) refl
  where
    go : (o : Option Book) → slice_get books table ≡ o → IfSome (column_in (map now_of books) table j) (Q table j)
    go None e = subst (λ o. IfSome o (Q table j)) (sym (column_absent books table j e)) tt
    go (Some b) e =
        let l : table < length shapes = subst (λ n. table < n) h.count (within books table b e) in
        let t = there_at shapes table l in
        let f = filled_at books table (IsFilled (length t.0.columns) told table) (h.each table t.0 l t.1) in
        let same : f.0 ≡ b = cc (f.1, e) in
        subst (λ o. IfSome o (Q table j)) (sym (column_there books table b j e)) (subst (λ (x : Book). IfSome (slice_get (now_of x) j) (Q table j)) same (step table t.0 f.0 t.1 f.2 j))

in_some : {A : Type 0} (P Q : A → Type 0) (o : Option A) → ((a : A) → P a → Q a) → IfSome o P → IfSome o Q
in_some P Q None f h = tt
in_some P Q (Some a) f h = f a h

pub all_counted : (s : Schema) (told : Option Tables) (books : List Book) → AreFilled s.tables told (length s.tables) books → AreCounted (Some s) (map now_of books) told
all_counted s told books h = record {
  right = right told h;
  rows = λ table. in_some (λ zs. 0 ≡ 0 → AreRowNumbers zs) AreRowNumbers (column_in (map now_of books) table 0) (λ zs k. k refl)
      (each_column s.tables told books h (λ k j zs. j ≡ 0 → AreRowNumbers zs) (λ k t b e f j. numbered b j f.numbers) table 0);
  complete = λ table t e j l.
      let f = filled_at books table (IsFilled (length t.columns) told table) (h.each table t (within s.tables table t e) e) in
      let y = there_at (now_of f.0) j (let k = f.2.columns in omega (arith, k, l)) in
      subst (λ o. IsSome o) (sym (column_there books table f.0 j f.1 ∙ y.1)) refl;
  proper = proper told h;
}
  where
    numbered : (b : Book) (j : ℕ) → IfSome (slice_get (now_of b) 0) AreRowNumbers → IfSome (slice_get (now_of b) j) (λ zs. j ≡ 0 → AreRowNumbers zs)
    numbered b zero h = λ e. h
    numbered b (suc k) h = other (slice_get (now_of b) (suc k))
      where
        other : (o : Option (List ℤ)) → IfSome o (λ zs. suc k ≡ 0 → AreRowNumbers zs)
        other None = tt
        other (Some zs) = λ e. absurd cc

    right : (o : Option Tables) → AreFilled s.tables o (length s.tables) books → IfSome o (AreOf (map now_of books))
    right None h = tt
    right (Some t) h = λ table j. each_column s.tables (Some t) books h (λ k i zs. AreSame zs (column_of (state_at t.states k).rows i)) (λ k shape b e f i. f.right i) table j

    proper : (o : Option Tables) → AreFilled s.tables o (length s.tables) books → IfSome o (HaveProperRows s.tables)
    proper None h = tt
    proper (Some t) h = λ table shape e. (filled_at books table (IsFilled (length shape.columns) (Some t) table) (h.each table shape (within s.tables table shape e) e)).2.proper

still_each : (books : List Book) → ((k : ℕ) (b : Book) → slice_get books k ≡ Some b → then_of b ≡ now_of b) → map then_of books ≡ map now_of books
still_each [] h = refl
still_each (b ∷ books) h = ap₂ (λ x xs. x ∷ xs) (h 0 b refl) (still_each books (λ k c e. h (suc k) c e))

pub all_still : (shapes : List TableShape) (told : Option Tables) (books : List Book) → AreFilled shapes told (length shapes) books → map then_of books ≡ map now_of books
all_still shapes told books h = still_each books one
  where
    one : (k : ℕ) (b : Book) → slice_get books k ≡ Some b → then_of b ≡ now_of b
    one k b e =
        let l : k < length shapes = subst (λ n. k < n) h.count (within books k b e) in
        let t = there_at shapes k l in
        let f = filled_at books k (IsFilled (length t.0.columns) told k) (h.each k t.0 l t.1) in
        let same : f.0 ≡ b = cc (f.1, e) in
        subst (λ (x : Book). then_of x ≡ now_of x) same f.2.still

pub filled_none : (shapes : List TableShape) (told : Option Tables) → AreFilled shapes told 0 []
filled_none shapes told = record { count = refl; each = λ k t l e. absurd (omega (arith, l)) }

pub filled_more : (shapes : List TableShape) (told : Option Tables) (i : ℕ) (t : TableShape) (b : Book) (books : List Book) → slice_get shapes i ≡ Some t → AreFilled shapes told i books → IsFilled (length t.columns) told i b → AreFilled shapes told (i + 1) (books ++ b ∷ [])
filled_more shapes told i t b books there h new = record {
  count = longer books ∙ ap (λ n. n + 1) h.count;
  each = λ k u l e. go (k == i) k (Decides-eqb k i) u l e;
}
  where
    longer : (xs : List Book) → length (xs ++ b ∷ []) ≡ length xs + 1
    longer [] = refl
    longer (x ∷ xs) = let l = longer xs in omega (arith, l)

    before : (xs : List Book) (k : ℕ) → k < length xs → slice_get (xs ++ b ∷ []) k ≡ slice_get xs k
    before [] k l = absurd (omega (arith, l))
    before (x ∷ xs) zero l = refl
    before (x ∷ xs) (suc k) l = before xs k (omega (arith, l))

    last : (xs : List Book) → slice_get (xs ++ b ∷ []) (length xs) ≡ Some b
    last [] = refl
    last (x ∷ xs) = last xs

    go : (d : Bool) (k : ℕ) → Decides d (k ≡ i) → (u : TableShape) → k < i + 1 → slice_get shapes k ≡ Some u → IsSomeAnd (slice_get (books ++ b ∷ []) k) (IsFilled (length u.columns) told k)
    go true k d u l e =
        let is : k ≡ i = d.0 refl in
        let same : t ≡ u = cc (there, e, is) in
        let here : slice_get (books ++ b ∷ []) k ≡ Some b = ap (λ n. slice_get (books ++ b ∷ []) n) (is ∙ sym h.count) ∙ last books in
        subst (λ o. IsSomeAnd o (IsFilled (length u.columns) told k)) (sym here)
        (subst (λ (w : TableShape). IsFilled (length w.columns) told k b) same (subst (λ n. IsFilled (length t.columns) told n b) (sym is) new))
    go false k d u l e =
        let less : k < i = strict k i l (λ f. let g = d.1 f in cc) in
        subst (λ o. IsSomeAnd o (IsFilled (length u.columns) told k)) (sym (before books k (subst (λ n. k < n) (sym h.count) less))) (h.each k u less e)
      where
        strict : (k i : ℕ) → k < i + 1 → (k ≡ i → ⊥) → k < i
        strict k i l n = grind (arith, l, n)

-- ---- tables that fall silent, or stay
pub filled_stays : (lost : Type 0) (shapes : List TableShape) (upto : ℕ) (books : List Book) (a b : Option Tables) → MayFallSilent lost Stays a b → AreFilled shapes a upto books → AreFilled shapes b upto books
filled_stays lost shapes upto books a b g h = record {
  count = h.count;
  each = λ k t l e.
      let f = filled_at books k (IsFilled (length t.columns) a k) (h.each k t l e) in
      subst (λ o. IsSomeAnd o (IsFilled (length t.columns) b k)) (sym f.1) (one k (length t.columns) f.0 f.2);
}
  where
    one : (k many : ℕ) (x : Book) → IsFilled many a k x → IsFilled many b k x
    one k many x f = record {
      right = stays_on lost (λ t. CountsThese (state_at t.states k).rows (now_of x)) a b g f.right;
      proper = stays_on lost (λ t. AreInRanges (state_at t.states k).rows) a b g f.proper;
      numbers = f.numbers;
      columns = f.columns;
      still = f.still;
    }

-- the cells of rows that a program can hold are in their ranges
pub proper_held : (t : TableShape) (rows : List Row) → All (IsHeldRow t) rows → AreInRanges rows
proper_held t [] h = tt
proper_held t (r ∷ rows) h = (recursion_from_All IsProper r.cells (All-tail IsProper (id_value r.id) r.cells (All-head (IsHeldRow t) r rows h).1), proper_held t rows (All-tail (IsHeldRow t) r rows h))

-- the numbers of rows of a table begin at 1
pub numbered_from_one : (t : TableShape) (rows : List Row) → All (IsRowOf t) rows → All (λ (r : Row). 1 ≤ r.id) rows
numbered_from_one t [] h = All-nil (λ (r : Row). 1 ≤ r.id)
numbered_from_one t (r ∷ rows) h = All-cons (λ (x : Row). 1 ≤ x.id) r rows (All-head (IsRowOf t) r rows h).0 (numbered_from_one t rows (All-tail (IsRowOf t) r rows h))

-- numbers up to the last one are of 32 bits
pub numbered_few : (last : ℕ) (rows : List Row) → last < 2 ^ 32 → All (λ (r : Row). r.id ≤ last) rows → All (λ (r : Row). r.id < 2 ^ 32) rows
numbered_few last [] few h = All-nil (λ (r : Row). r.id < 2 ^ 32)
numbered_few last (r ∷ rows) few h =
    let l = All-head (λ (x : Row). x.id ≤ last) r rows h in
    All-cons (λ (x : Row). x.id < 2 ^ 32) r rows (omega (arith, few, l)) (numbered_few last rows few (All-tail (λ (x : Row). x.id ≤ last) r rows h))

-- ---- a page is counted
pub page_numbered : (o : Option TableShape) (rows : List Row) → IsSomeAnd o (λ t. All (IsRowOf t) rows) → All (λ (r : Row). 1 ≤ r.id) rows
page_numbered None rows h = absurd h
page_numbered (Some t) rows h = numbered_from_one t rows h

pub proper_told : (o : Option TableShape) (told : Option Tables) (table : ℕ) → IfSome told (λ t. IsSomeAnd o (λ shape. AreHeldRows shape (state_at t.states table).rows)) → IfSome told (λ t. AreInRanges (state_at t.states table).rows)
proper_told o None table h = tt
proper_told None (Some t) table h = absurd h
proper_told (Some shape) (Some t) table h = proper_held shape (state_at t.states table).rows h.1

pub page_counted : (told : Option Tables) (table after : ℕ) (page : List Row) (last : Option ℕ) (old new : List (List ℤ)) → IsPage told table after page → IfSome told (λ t. AreInRanges (state_at t.states table).rows)
    → MatchOption last (length page < 1000) (λ n. IsLastOf page n) → CountsMore page old new → CountsPage told table after last old new
page_counted told table after page last old new found proper end more = record {
  reads = reads told found;
  proper = proper;
  numbers = more.numbers;
  columns = more.columns;
}
  where
    on : (o : Option ℕ) (rows : List Row) → MatchOption o (length page < 1000) (λ n. IsLastOf page n) → IsReading after rows old → page ≡ take 1000 (past after rows) → IsReadOn o rows new
    on None rows short r is = read_all rows page after old new r.rising r.read is short more
    on (Some n) rows behind r is = record { rising = r.rising; few = r.few; read = read_more rows page after n old new r.rising r.read is behind more }

    reads : (o : Option Tables) → IsPage o table after page → IfSome o (λ t. IsReading after (state_at t.states table).rows old → IsReadOn last (state_at t.states table).rows new)
    reads None h = tt
    reads (Some t) h = λ r. on last (state_at t.states table).rows end r (h r.rising r.few)

-- ---- the pages of a table
pub reading_none : (schema : Option Schema) (told : Option Tables) (table : ℕ) (counted : List (List ℤ)) → IfSome schema (λ s. IfSome told (λ (t : Tables). AreStatesOf s.tables t.states)) → IsSome (slice_get (shapes_of schema) table) → AreEmpty counted
    → IfSome told (λ t. IsReading 0 (state_at t.states table).rows counted)
reading_none None told table counted fits h e = absurd cc
reading_none (Some s) None table counted fits h e = tt
reading_none (Some s) (Some t) table counted fits h e = go (slice_get s.tables table) refl h
  where
    go : (o : Option TableShape) → slice_get s.tables table ≡ o → IsSome o → IsReading 0 (state_at t.states table).rows counted
    go None p k = absurd cc
    go (Some shape) p k =
        let st = state_there s.tables t table shape fits p in
        record { rising = st.rising; few = numbered_few (state_at t.states table).last (state_at t.states table).rows st.bounded st.given; read = read_none shape (state_at t.states table) counted st e }

pub reads_on : (lost : Type 0) (a b : Option Tables) (table after : ℕ) (last : Option ℕ) (old new : List (List ℤ)) → MayFallSilent lost Stays a b → IfSome a (λ t. IsReading after (state_at t.states table).rows old) → CountsPage b table after last old new
    → IfSome b (λ t. IsReadOn last (state_at t.states table).rows new)
reads_on lost a b table after last old new g h c = both b (stays_on lost (λ t. IsReading after (state_at t.states table).rows old) a b g h) c.reads
  where
    both : (o : Option Tables) → IfSome o (λ t. IsReading after (state_at t.states table).rows old) → IfSome o (λ t. IsReading after (state_at t.states table).rows old → IsReadOn last (state_at t.states table).rows new)
        → IfSome o (λ t. IsReadOn last (state_at t.states table).rows new)
    both None h k = tt
    both (Some t) h k = k h

-- no numbers at first
pub none_numbered : (counted : List (List ℤ)) → AreEmpty counted → IfSome (slice_get counted 0) AreRowNumbers
none_numbered counted e = go (slice_get counted 0) (e 0)
  where
    go : (o : Option (List ℤ)) → IfSome o (λ zs. zs ≡ []) → IfSome o AreRowNumbers
    go None h = tt
    go (Some zs) h = λ z l. absurd (let n = ap (times z) h in omega (arith, l, n))

pub filled_settled : (told : Option Tables) (table many : ℕ) (b c : Book) → now_of c ≡ now_of b → then_of c ≡ now_of b → IfSome told (λ t. CountsThese (state_at t.states table).rows (now_of b))
    → IfSome told (λ t. AreInRanges (state_at t.states table).rows) → IfSome (slice_get (now_of b) 0) AreRowNumbers → length (now_of b) ≡ suc many → IsFilled many told table c
filled_settled told table many b c e f right proper numbers columns = record {
  right = subst (λ zs. IfSome told (λ t. CountsThese (state_at t.states table).rows zs)) (sym e) right;
  proper = proper;
  numbers = subst (λ zs. IfSome (slice_get zs 0) AreRowNumbers) (sym e) numbers;
  columns = ap length e ∙ columns;
  still = f ∙ sym e;
}
