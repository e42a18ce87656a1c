-- What the statements on marks do.
use Rattle.std.proofs.Common.{◌≡◌, ◌≢◌, ◌⊎◌, inl, inr, ℕ, ℤ, pos, List, [], ◌∷◌, ◌++◌, length, map, filter, codes, Bool, true, false, not, ◌&&◌, ◌==◌, None, Ok, Err, Result, IfOk, refl, sym, ap, subst, ◌∙◌, arith, IsPermutation, Ordering, Less, Equal, Greater, is_eq}
use Rattle.std.specs.Prelude.{Vec}
use Rattle.std.specs.declared.alloc.Global.{Global}
use Rattle.std.specs.List.{AllByRecursion, list_all}
use Rattle.std.specs.Cmp.{IsTotalOrder}
use Rattle.std.specs.Ordering.{int_cmp, is_ge, is_lt, nat_cmp, ordering_then}
use Rattle.std.proofs.lemmas.Cmp.{int_cmp_total, nat_list_cmp_total, on_total, then_total}
use Rattle.std.proofs.lemmas.List.Sorted.{IsPermutation-trans}
use Rattle.sqlite_value.specs.declared.value.Value.TheVariants.{Null, Int, Blob}
use Rattle.sqlite_value.specs.Order.{Row, column, value_cmp}
use Rattle.sqlite_value.proofs.OrderLemmas.{value_cmp-Blob, value_cmp-Int, then-Equal}
use Rattle.sqlite_trees.specs.Tree.{Trees, IsAscending}
use Rattle.sqlite_sql.specs.declared.ops.CompareOp.TheVariants.{Eq, Ge, Lt}
use Rattle.sqlite_sql.specs.declared.ops.UnaryOp.TheVariants.{ToNumeric}
use Rattle.sqlite_sql.specs.declared.ops.BinaryOp.TheVariants.{Compare}
use Rattle.sqlite_sql.specs.Ops.{unary, binary, is_true}
use Rattle.sqlite_sql.specs.Term.{holds, col}
use Rattle.sqlite.specs.Collation.TheVariants.{Binary}
use Rattle.sqlite.specs.Edit.{next_rowid}
use Rattle.sqlite.specs.Command.TheVariants.{Select}
use Rattle.sqlite.specs.declared.error.Error.{Error}
use Rattle.sqlite.specs.State.{State, ExecutesInside, Shown}
use Rattle.sqlite.proofs.Callers.{reads_as}
use Rattle.sqlite_keyed.specs.Lists.{insert_sorted}
use Rattle.sqlite_keyed.proofs.ListLemmas.{ascending-filter, all_weaker}
use Rattle.sql_meanings.specs.Schema.{kept_schema, marks_at}
use Rattle.sql_meanings.specs.Texts.{read_marks, insert_mark, delete_mark}
use Rattle.sql_meanings.specs.Queries.{is_mark, mark_tests, marks_query, new_mark, rising}
use Rattle.sql_meanings.specs.Tests.{compares}
use Rattle.sql_meanings.specs.Forms.{OthersStay}
use Rattle.sql_meanings.specs.UnderWay.{AreSeated, IsUnderWay}
use Rattle.sql_meanings.specs.Marks.{AreMarks, ChangesMarks, InsertsMark, IsUnmarked, MarksOf, RemovesMark, count_of_mark, is_mark_of, is_of_column, key_cmp, lies, mark_at, mark_cmp, shown_mark, with_mark, without_mark}
use Rattle.sql_meanings.proofs.Meanings.{read_marks_is, insert_mark_is, delete_mark_is}
use Rattle.sql_meanings.proofs.FormLemmas.{deletes, inserts}
use Rattle.sql_meanings.proofs.ReadLemmas.{bytes_compare, number_compares, reads}
use Rattle.sql_meanings.proofs.EntryLemmas.{IsPermutation-insert_sorted, as_before, entries_alike, left_there, put_among, rises-insert_sorted, taken_count, taken_out_of}
use Rattle.sql_meanings.proofs.NumberLemmas.{cast_int, cast_null, equal_ints, equal_is, false_if, is_number, itself, left_of, not_other, right_of}
use Rattle.sql_meanings.proofs.SeatLemmas.{seated_by_marks}

abbrev Mark : Type 0
Mark = List ℕ × ℕ

mark_total : IsTotalOrder mark_cmp
mark_total = then_total (on_total (λ (m : Mark). m.0) nat_list_cmp_total) (on_total (λ (m : Mark). pos m.1) int_cmp_total)

-- ---- columns

both_true : (a b : Bool) → a ≡ true → b ≡ true → (a && b) ≡ true
both_true a b p q = rw (p, q)

first_false : (a b : Bool) → a ≡ false → (a && b) ≡ false
first_false a b p = rw p

second_false : (a b : Bool) → b ≡ false → (a && b) ≡ false
second_false true b q = q
second_false false b q = refl

of_its_own : (tab c : ℕ) → (compares Eq (Int (pos tab)) (Int (pos tab)) && compares Eq (Int (pos c)) (Int (pos c))) ≡ true
of_its_own tab c = both_true _ _ (itself tab) (itself c)

-- the rows of one column are none of another
not_of_other : (tab c t d : ℕ) (r : Row) → (t ≢ tab) ⊎ (d ≢ c) → is_of_column tab c r ≡ true → is_of_column t d r ≡ false
not_of_other tab c t d r (inl apart) h = first_false (compares Eq (column r 1) (Int (pos t))) (compares Eq (column r 2) (Int (pos d))) (not_other (column r 1) tab t apart (left_of (compares Eq (column r 1) (Int (pos tab))) (compares Eq (column r 2) (Int (pos c))) h))
not_of_other tab c t d r (inr apart) h = second_false (compares Eq (column r 1) (Int (pos t))) (compares Eq (column r 2) (Int (pos d))) (not_other (column r 2) c d apart (right_of (compares Eq (column r 1) (Int (pos tab))) (compares Eq (column r 2) (Int (pos c))) h))

-- ---- INSERT INTO marks(tab, col, k, id) VALUES(?, ?, ?, ?)

abbrev stored : ℕ → ℕ → List ℕ → ℕ → List Row → Row
stored tab c key id rows = Int (next_rowid rows) ∷ Int (pos tab) ∷ Int (pos c) ∷ Blob key ∷ Int (pos id) ∷ []

same_then : (o p : Ordering) → is_eq (ordering_then o p) ≡ true → is_eq p ≡ true
same_then Less p h = absurd cc
same_then Equal p h = h
same_then Greater p h = absurd cc

apart_in_order : (key : List ℕ) (id : ℕ) (m : Mark) → m.1 ≢ id → is_eq (mark_cmp (key, id) m) ≡ false
apart_in_order key id m apart = false_if _ (λ e. apart (sym (equal_ints id m.1 (same_then (key_cmp key m.0) (int_cmp (pos id) (pos m.1)) e))))

pub inserts_mark : (old new : State) (tab c : ℕ) (key : List ℕ) (id : ℕ) (r : Result ℕ Error) → IsUnderWay old → ExecutesInside 0 insert_mark (Int (pos tab) ∷ Int (pos c) ∷ Blob key ∷ Int (pos id) ∷ []) old new r
    → IfOk r (InsertsMark old new tab c key id)
inserts_mark old new tab c key id (Err e) up h = tt
inserts_mark old new tab c key id (Ok count) up h =
    let params = Int (pos tab) ∷ Int (pos c) ∷ Blob key ∷ Int (pos id) ∷ [] in
    let w = inserts 3 marks_at refl insert_mark insert_mark_is.1 params refl new_mark 5 (stored tab c key id) (λ db. rw (cast_null, cast_int (pos tab), cast_int (pos c), cast_int (pos id))) insert_mark_is.0 old new count up.schema h.0 in
    let row = stored tab c key id (old.now.trees 4) in
    record {
      goes_on = record { under_way = h.1.mode; schema = w.schema; seated = seated_by_marks old new up.seated (w.shaped up.seated.marks) w.others };
      here = λ ms are free. record {
        marks = put_among (is_of_column tab c) shown_mark mark_at row (key, id) (old.now.trees 4) (new.now.trees 4) ms (with_mark key id ms) are.marks w.rows (of_its_own tab c) refl (IsPermutation-insert_sorted mark_cmp mark_total (key, id) ms);
        order = rises-insert_sorted mark_cmp mark_total (key, id) ms (all_weaker (λ (m : Mark). m.1 ≢ id) _ (apart_in_order key id) ms free) are.order;
      };
      counted = λ ms are. w.counted;
      others = λ t d apart ms are. record {
        marks = IsPermutation-trans _ _ _ are.marks (as_before (is_of_column t d) shown_mark row (old.now.trees 4) (new.now.trees 4) w.rows (not_of_other tab c t d row apart (of_its_own tab c)));
        order = are.order;
      };
      shape = w.others.0 (λ e. omega arith);
      tabs = w.others.1.0 (λ e. omega arith);
      lines = w.others.1.1.0 (λ e. omega arith);
    }

-- ---- DELETE FROM marks WHERE tab = ? AND col = ? AND k = ? AND id = ?

abbrev has_mark : List ℕ → ℕ → Row → Bool
has_mark key id s = compares Eq (column s 0) (Blob key) && compares Eq (column s 1) (Int (pos id))

abbrev is_stored_mark : ℕ → ℕ → List ℕ → ℕ → Row → Bool
is_stored_mark tab c key id r = has_mark key id (shown_mark r) && is_of_column tab c r

joined : (x y z w a b c d : Bool) → x ≡ a → y ≡ b → z ≡ c → w ≡ d → (x && (y && (z && (w && true)))) ≡ ((c && d) && (a && b))
joined x y z w true true true true p q r s = rw (p, q, r, s)
joined x y z w true true true false p q r s = rw (p, q, r, s)
joined x y z w true true false d p q r s = rw (p, q, r)
joined x y z w true false true true p q r s = rw (p, q)
joined x y z w true false true false p q r s = rw (p, q)
joined x y z w true false false d p q r s = rw (p, q)
joined x y z w false b true true p q r s = rw p
joined x y z w false b true false p q r s = rw p
joined x y z w false b false d p q r s = rw p

delete_passes : (tab c : ℕ) (key : List ℕ) (id : ℕ) (r : Row) → list_all (holds ((Int (pos tab) ∷ Int (pos c) ∷ Blob key ∷ Int (pos id) ∷ []) ∷ r ∷ [])) is_mark ≡ is_stored_mark tab c key id r
delete_passes tab c key id r =
    joined (is_true (binary (Compare Eq Binary) (column r 1) (unary ToNumeric (Int (pos tab))))) (is_true (binary (Compare Eq Binary) (column r 2) (unary ToNumeric (Int (pos c)))))
    (is_true (binary (Compare Eq Binary) (column r 3) (Blob key))) (is_true (binary (Compare Eq Binary) (column r 4) (unary ToNumeric (Int (pos id)))))
    (compares Eq (column r 1) (Int (pos tab))) (compares Eq (column r 2) (Int (pos c))) (compares Eq (column r 3) (Blob key)) (compares Eq (column r 4) (Int (pos id)))
    (number_compares Eq (column r 1) (pos tab)) (number_compares Eq (column r 2) (pos c)) (bytes_compare Eq (column r 3) key) (number_compares Eq (column r 4) (pos id))

tells_mark : (key : List ℕ) (id : ℕ) (m : Mark) → has_mark key id (mark_at m) ≡ is_mark_of key id m
tells_mark key id m = ap (λ o. is_eq o && compares Eq (Int (pos m.1)) (Int (pos id))) (value_cmp-Blob m.0 key) ∙ ap (λ b. is_eq (key_cmp m.0 key) && b) (is_number m.1 id)

pub removes_mark : (old new : State) (tab c : ℕ) (key : List ℕ) (id : ℕ) (r : Result ℕ Error) → IsUnderWay old → ExecutesInside 0 delete_mark (Int (pos tab) ∷ Int (pos c) ∷ Blob key ∷ Int (pos id) ∷ []) old new r
    → IfOk r (RemovesMark old new tab c key id)
removes_mark old new tab c key id (Err e) up h = tt
removes_mark old new tab c key id (Ok count) up h =
    let params = Int (pos tab) ∷ Int (pos c) ∷ Blob key ∷ Int (pos id) ∷ [] in
    let w = deletes 3 marks_at refl delete_mark delete_mark_is.1 params is_mark (is_stored_mark tab c key id) (delete_passes tab c key id) delete_mark_is.0 old new count up.schema up.seated.marks h.0 in
    record {
      goes_on = record { under_way = h.1.mode; schema = w.schema; seated = seated_by_marks old new up.seated w.shaped w.others };
      here = λ ms are _. record {
        marks = taken_out_of (is_of_column tab c) shown_mark mark_at (has_mark key id) (is_mark_of key id) (tells_mark key id) (old.now.trees 4) (new.now.trees 4) ms are.marks w.rows;
        order = ascending-filter _ (λ m. not (is_mark_of key id m)) ms are.order;
      };
      counted = λ ms are. w.counted ∙ taken_count (is_of_column tab c) shown_mark mark_at (has_mark key id) (is_mark_of key id) (tells_mark key id) (old.now.trees 4) ms are.marks;
      others = λ t d apart ms are. record {
        marks = IsPermutation-trans _ _ _
            (subst (IsPermutation (map mark_at ms)) (sym (left_there (is_of_column t d) shown_mark (is_stored_mark tab c key id) (λ r h. not_of_other tab c t d r apart (right_of (has_mark key id (shown_mark r)) (is_of_column tab c r) h)) (old.now.trees 4))) are.marks)
            (entries_alike (is_of_column t d) shown_mark _ _ w.rows);
        order = are.order;
      };
      shape = w.others.0 (λ e. omega arith);
      tabs = w.others.1.0 (λ e. omega arith);
      lines = w.others.1.1.0 (λ e. omega arith);
    }

-- ---- SELECT k, id FROM marks WHERE tab = ? AND col = ? AND k >= ? AND k < ? ORDER BY k, id

abbrev in_range : List ℕ → List ℕ → Row → Bool
in_range from upto s = compares Ge (column s 0) (Blob from) && compares Lt (column s 0) (Blob upto)

read_passes : (tab c : ℕ) (from upto : List ℕ) (r : Row) → list_all (holds ((Int (pos tab) ∷ Int (pos c) ∷ Blob from ∷ Blob upto ∷ []) ∷ r ∷ [])) mark_tests ≡ (in_range from upto (shown_mark r) && is_of_column tab c r)
read_passes tab c from upto r =
    joined (is_true (binary (Compare Eq Binary) (column r 1) (unary ToNumeric (Int (pos tab))))) (is_true (binary (Compare Eq Binary) (column r 2) (unary ToNumeric (Int (pos c)))))
    (is_true (binary (Compare Ge Binary) (column r 3) (Blob from))) (is_true (binary (Compare Lt Binary) (column r 3) (Blob upto)))
    (compares Eq (column r 1) (Int (pos tab))) (compares Eq (column r 2) (Int (pos c))) (compares Ge (column r 3) (Blob from)) (compares Lt (column r 3) (Blob upto))
    (number_compares Eq (column r 1) (pos tab)) (number_compares Eq (column r 2) (pos c)) (bytes_compare Ge (column r 3) from) (bytes_compare Lt (column r 3) upto)

range_is : (from upto : List ℕ) (m : Mark) → in_range from upto (mark_at m) ≡ lies from upto m
range_is from upto m = ap (λ o. is_ge o && is_lt (value_cmp (Blob m.0) (Blob upto))) (value_cmp-Blob m.0 from) ∙ ap (λ o. is_ge (key_cmp m.0 from) && is_lt o) (value_cmp-Blob m.0 upto)

order_is : (a b : Mark) → mark_cmp a b ≡ Less → ordering_then (value_cmp (Blob a.0) (Blob b.0)) (ordering_then (value_cmp (Int (pos a.1)) (Int (pos b.1))) Equal) ≡ Less
order_is a b below = ap (λ o. ordering_then (value_cmp (Blob a.0) (Blob b.0)) o) (then-Equal (value_cmp (Int (pos a.1)) (Int (pos b.1)))) ∙ ap (λ o. ordering_then o (value_cmp (Int (pos a.1)) (Int (pos b.1)))) (value_cmp-Blob a.0 b.0)
    ∙ ap (λ o. ordering_then (key_cmp a.0 b.0) o) (value_cmp-Int (pos a.1) (pos b.1)) ∙ below

pub reads_marks : (old new : State) (tab c : ℕ) (from upto : List ℕ) (r : Result (Vec Row Global) Error) → old.now.schema ≡ kept_schema → (ms : MarksOf) → AreMarks old.now.trees tab c ms
    → IfOk r (λ rows. Shown read_marks (Int (pos tab) ∷ Int (pos c) ∷ Blob from ∷ Blob upto ∷ []) old new rows.items) → IfOk r (λ rows. rows.items ≡ map mark_at (filter (lies from upto) ms))
reads_marks old new tab c from upto (Err e) has ms are h = tt
reads_marks old new tab c from upto (Ok rows) has ms are h =
    let params = Int (pos tab) ∷ Int (pos c) ∷ Blob from ∷ Blob upto ∷ [] in
    let read = reads_as read_marks params old new kept_schema has (Select (record { lets = []; body = marks_query }) (codes "k" ∷ codes "id" ∷ [])) read_marks_is.0 read_marks_is.2 read_marks_is.1 rows.items h in
    reads 4 mark_tests (col 1 3 ∷ col 1 4 ∷ []) ((col 1 3, rising) ∷ (col 1 4, rising) ∷ []) params (is_of_column tab c) (in_range from upto) shown_mark (λ s. column s 0 ∷ column s 1 ∷ []) mark_at (lies from upto) (λ a b. mark_cmp a b ≡ Less)
    (read_passes tab c from upto) (λ r. refl) (range_is from upto) order_is old.now.trees ms rows.items are.order are.marks (read.answer Null)
