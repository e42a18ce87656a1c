-- What the statements on lines do.
use Rattle.std.proofs.Common.{◌≡◌, ◌≢◌, ℕ, ℤ, pos, List, [], ◌∷◌, ◌++◌, length, map, filter, codes, Bool, true, false, not, ◌&&◌, if◌then◌else◌, None, Ok, Err, Result, IfOk, refl, sym, ap, subst, ◌∙◌, arith, ◌<◌, IsPermutation, Less, is_eq}
use Rattle.std.specs.Prelude.{Vec, nat_le}
use Rattle.std.specs.declared.alloc.Global.{Global}
use Rattle.std.specs.List.{list_all}
use Rattle.std.specs.Ordering.{int_cmp, is_ge, is_le}
use Rattle.std.proofs.lemmas.List.Sorted.{IsPermutation-trans}
use Rattle.sqlite_value.specs.declared.value.Value.TheVariants.{Null, Int, Blob}
use Rattle.sqlite_value.specs.Order.{Row, column, value_cmp}
use Rattle.sqlite_value.proofs.OrderLemmas.{value_cmp-Int, then-Equal}
use Rattle.sqlite_trees.specs.Tree.{Trees, IsAscending}
use Rattle.sqlite_sql.specs.declared.ops.CompareOp.TheVariants.{Eq, Ge, Le}
use Rattle.sqlite_sql.specs.declared.ops.UnaryOp.TheVariants.{ToNumeric}
use Rattle.sqlite_sql.specs.declared.ops.BinaryOp.TheVariants.{Compare}
use Rattle.sqlite_sql.specs.Ops.{unary, binary, is_true}
use Rattle.sqlite_sql.specs.Term.{holds, col}
use Rattle.sqlite.specs.Collation.TheVariants.{Binary}
use Rattle.sqlite.specs.Kind.TheVariants.{Integer}
use Rattle.sqlite.specs.Cast.{cast}
use Rattle.sqlite.specs.Edit.{next_rowid}
use Rattle.sqlite.specs.Command.TheVariants.{Select}
use Rattle.sqlite.specs.declared.error.Error.{Error}
use Rattle.sqlite.specs.State.{State, ExecutesInside, Shown}
use Rattle.sqlite.proofs.Callers.{reads_as}
use Rattle.sqlite_keyed.proofs.ListLemmas.{ascending-append, ascending-filter, ascending-map, ascending_weaker, all_weaker}
use Rattle.sql_meanings.specs.Schema.{kept_schema, lines_at}
use Rattle.sql_meanings.specs.Texts.{read_lines, insert_line, update_line, delete_line}
use Rattle.sql_meanings.specs.Queries.{is_line, is_set_line, line_tests, lines_query, new_line, rising, set_line}
use Rattle.sql_meanings.specs.Tests.{compares}
use Rattle.sql_meanings.specs.Forms.{Rewrites, Adds, OthersStay}
use Rattle.sql_meanings.specs.UnderWay.{AreSeated, IsUnderWay}
use Rattle.sql_meanings.specs.Lines.{AreLines, ChangesLines, InsertsLine, RemovesLine, ReplacesLine, LinesOf, count_of_line, has_number, is_of_tab, is_within, line_at, shown_line, with_body, with_line, without_line}
use Rattle.sql_meanings.proofs.Meanings.{read_lines_is, insert_line_is, update_line_is, delete_line_is}
use Rattle.sql_meanings.proofs.FormLemmas.{deletes, inserts, updates}
use Rattle.sql_meanings.proofs.ReadLemmas.{number_compares, reads}
use Rattle.sql_meanings.proofs.EntryLemmas.{appended, as_before, changed_in, entries, entries_alike, left_there, set_there, taken_count, taken_out_of}
use Rattle.sql_meanings.proofs.NumberLemmas.{at_least, at_most, cast_int, cast_meets, cast_null, is_number, itself, lower, not_other, right_of}
use Rattle.sql_meanings.proofs.SeatLemmas.{seated_by_lines}

abbrev Line : Type 0
Line = ℕ × List ℕ

-- the test of a number, on what is shown
abbrev has_id : ℕ → Row → Bool
has_id id s = compares Eq (column s 0) (Int (pos id))

tells_id : (id : ℕ) (x : Line) → has_id id (line_at x) ≡ has_number id x
tells_id id x = is_number x.0 id

-- the rows of one table are none of another
apart_rows : (tab other : ℕ) → other ≢ tab → (p : Row → Bool) (r : Row) → (p r && is_of_tab tab r) ≡ true → is_of_tab other r ≡ false
apart_rows tab other apart p r h = not_other (column r 1) tab other apart (right_of (p r) (is_of_tab tab r) h)

-- ---- INSERT INTO lines(tab, id, body) VALUES(?, ?, ?)

abbrev stored : ℕ → ℕ → List ℕ → List Row → Row
stored tab id body rows = Int (next_rowid rows) ∷ Int (pos tab) ∷ Int (pos id) ∷ Blob body ∷ []

pub inserts_line : (old new : State) (tab id : ℕ) (body : List ℕ) (r : Result ℕ Error) → IsUnderWay old → ExecutesInside 0 insert_line (Int (pos tab) ∷ Int (pos id) ∷ Blob body ∷ []) old new r → IfOk r (InsertsLine old new tab id body)
inserts_line old new tab id body (Err e) up h = tt
inserts_line old new tab id body (Ok count) up h =
    let params = Int (pos tab) ∷ Int (pos id) ∷ Blob body ∷ [] in
    let w = inserts 2 lines_at refl insert_line insert_line_is.1 params refl new_line 4 (stored tab id body) (λ db. rw (cast_null, cast_int (pos tab), cast_int (pos id))) insert_line_is.0 old new count up.schema h.0 in
    let row = stored tab id body (old.now.trees 2) in
    record {
      goes_on = record { under_way = h.1.mode; schema = w.schema; seated = seated_by_lines old new up.seated (w.shaped up.seated.lines) w.others };
      here = λ xs are below. record {
        lines = appended (is_of_tab tab) shown_line line_at row (id, body) (old.now.trees 2) (new.now.trees 2) xs are.lines w.rows (itself tab) refl;
        order = ascending-append (λ (a b : Line). a.0 < b.0) xs ((id, body) ∷ []) are.order (tt, tt) (all_weaker (λ (x : Line). x.0 < id) _ (λ x low. (low, tt)) xs below);
      };
      counted = λ xs are. w.counted;
      others = λ other apart xs are. record {
        lines = IsPermutation-trans _ _ _ are.lines (as_before (is_of_tab other) shown_line row (old.now.trees 2) (new.now.trees 2) w.rows (not_other (Int (pos tab)) tab other apart (itself tab)));
        order = are.order;
      };
      shape = w.others.0 (λ e. omega arith);
      tabs = w.others.1.0 (λ e. omega arith);
      marks = w.others.1.1.1.0 (λ e. omega arith);
    }

-- ---- DELETE FROM lines WHERE tab = ? AND id = ?

joined : (x y a b : Bool) → x ≡ a → y ≡ b → (x && (y && true)) ≡ (b && a)
joined x y true true p q = rw (p, q)
joined x y true false p q = rw (p, q)
joined x y false true p q = rw p
joined x y false false p q = rw p

abbrev is_line_of : ℕ → ℕ → Row → Bool
is_line_of tab id r = has_id id (shown_line r) && is_of_tab tab r

delete_passes : (tab id : ℕ) (r : Row) → list_all (holds ((Int (pos tab) ∷ Int (pos id) ∷ []) ∷ r ∷ [])) is_line ≡ is_line_of tab id r
delete_passes tab id r =
    joined (is_true (binary (Compare Eq Binary) (column r 1) (unary ToNumeric (Int (pos tab))))) (is_true (binary (Compare Eq Binary) (column r 2) (unary ToNumeric (Int (pos id)))))
    (is_of_tab tab r) (has_id id (shown_line r)) (number_compares Eq (column r 1) (pos tab)) (number_compares Eq (column r 2) (pos id))

pub removes_line : (old new : State) (tab id : ℕ) (r : Result ℕ Error) → IsUnderWay old → ExecutesInside 0 delete_line (Int (pos tab) ∷ Int (pos id) ∷ []) old new r → IfOk r (RemovesLine old new tab id)
removes_line old new tab id (Err e) up h = tt
removes_line old new tab id (Ok count) up h =
    let params = Int (pos tab) ∷ Int (pos id) ∷ [] in
    let w = deletes 2 lines_at refl delete_line delete_line_is.1 params is_line (is_line_of tab id) (delete_passes tab id) delete_line_is.0 old new count up.schema up.seated.lines h.0 in
    record {
      goes_on = record { under_way = h.1.mode; schema = w.schema; seated = seated_by_lines old new up.seated w.shaped w.others };
      here = λ xs are _. record {
        lines = taken_out_of (is_of_tab tab) shown_line line_at (has_id id) (has_number id) (tells_id id) (old.now.trees 2) (new.now.trees 2) xs are.lines w.rows;
        order = ascending-filter _ (λ x. not (has_number id x)) xs are.order;
      };
      counted = λ xs are. w.counted ∙ taken_count (is_of_tab tab) shown_line line_at (has_id id) (has_number id) (tells_id id) (old.now.trees 2) xs are.lines;
      others = λ other apart xs are. record {
        lines = IsPermutation-trans _ _ _ (subst (IsPermutation (map line_at xs)) (sym (left_there (is_of_tab other) shown_line (is_line_of tab id) (apart_rows tab other apart (λ r. has_id id (shown_line r))) (old.now.trees 2))) are.lines)
            (entries_alike (is_of_tab other) shown_line _ _ w.rows);
        order = are.order;
      };
      shape = w.others.0 (λ e. omega arith);
      tabs = w.others.1.0 (λ e. omega arith);
      marks = w.others.1.1.1.0 (λ e. omega arith);
    }

-- ---- UPDATE lines SET body = ? WHERE tab = ? AND id = ?

-- the row with another body, as the statement writes it
abbrev set_row : List ℕ → Row → Row
set_row body r = cast Integer (column r 0) ∷ cast Integer (column r 1) ∷ cast Integer (column r 2) ∷ Blob body ∷ []

abbrev set_shown : List ℕ → Row → Row
set_shown body s = cast Integer (column s 0) ∷ Blob body ∷ []

update_passes : (body : List ℕ) (tab id : ℕ) (r : Row) → list_all (holds ((Blob body ∷ Int (pos tab) ∷ Int (pos id) ∷ []) ∷ r ∷ [])) is_set_line ≡ is_line_of tab id r
update_passes body tab id r =
    joined (is_true (binary (Compare Eq Binary) (column r 1) (unary ToNumeric (Int (pos tab))))) (is_true (binary (Compare Eq Binary) (column r 2) (unary ToNumeric (Int (pos id)))))
    (is_of_tab tab r) (has_id id (shown_line r)) (number_compares Eq (column r 1) (pos tab)) (number_compares Eq (column r 2) (pos id))

apart_twice : (tab id other : ℕ) (body : List ℕ) → other ≢ tab → (r : Row) → is_line_of tab id r ≡ true → (is_of_tab other r ≡ false) × (is_of_tab other (set_row body r) ≡ false)
apart_twice tab id other body apart r h = (
  apart_rows tab other apart (λ r. has_id id (shown_line r)) r h,
  not_other (cast Integer (column r 1)) tab other apart (cast_meets (column r 1) tab (right_of (has_id id (shown_line r)) (is_of_tab tab r) h)),
)

same_number : (id : ℕ) (body : List ℕ) (x : Line) → (if has_number id x then (x.0, body) else x).0 ≡ x.0
same_number id body x = elim (has_number id x) as (λ b. (if b then (x.0, body) else x).0 ≡ x.0) [ true ↦ refl | false ↦ refl ]

with_order : (id : ℕ) (body : List ℕ) (xs : LinesOf) → IsAscending (λ (a b : Line). a.0 < b.0) xs → IsAscending (λ (a b : Line). a.0 < b.0) (with_body id body xs)
with_order id body xs up =
    ascending-map (λ (a b : Line). a.0 < b.0) (λ x. if has_number id x then (x.0, body) else x) xs
    (ascending_weaker (λ (a b : Line). a.0 < b.0) (λ (a b : Line). (if has_number id a then (a.0, body) else a).0 < (if has_number id b then (b.0, body) else b).0) (λ a b below. rw (same_number id body a, same_number id body b) below) xs up)

pub replaces_line : (old new : State) (tab id : ℕ) (body : List ℕ) (r : Result ℕ Error) → IsUnderWay old → ExecutesInside 0 update_line (Blob body ∷ Int (pos tab) ∷ Int (pos id) ∷ []) old new r → IfOk r (ReplacesLine old new tab id body)
replaces_line old new tab id body (Err e) up h = tt
replaces_line old new tab id body (Ok count) up h =
    let params = Blob body ∷ Int (pos tab) ∷ Int (pos id) ∷ [] in
    let w = updates 2 lines_at refl update_line update_line_is.1 params is_set_line (is_line_of tab id) (update_passes body tab id) set_line (set_row body) (λ r. refl) update_line_is.0 old new count up.schema up.seated.lines h.0 in
    record {
      goes_on = record { under_way = h.1.mode; schema = w.schema; seated = seated_by_lines old new up.seated w.shaped w.others };
      here = λ xs are _. record {
        lines = changed_in (is_of_tab tab) shown_line line_at (has_id id) (has_number id) (tells_id id) (set_row body) (set_shown body) (λ (x : Line). (x.0, body)) (λ r here hit. (cast_meets (column r 1) tab here, refl))
            (λ (x : Line). ap (λ v. v ∷ Blob body ∷ []) (cast_int (pos x.0))) (old.now.trees 2) (new.now.trees 2) xs are.lines w.rows;
        order = with_order id body xs are.order;
      };
      counted = λ xs are. w.counted ∙ taken_count (is_of_tab tab) shown_line line_at (has_id id) (has_number id) (tells_id id) (old.now.trees 2) xs are.lines;
      others = λ other apart xs are. record {
        lines = IsPermutation-trans _ _ _ (subst (IsPermutation (map line_at xs)) (sym (set_there (is_of_tab other) shown_line (is_line_of tab id) (set_row body) (apart_twice tab id other body apart) (old.now.trees 2))) are.lines)
            (entries_alike (is_of_tab other) shown_line _ _ w.rows);
        order = are.order;
      };
      shape = w.others.0 (λ e. omega arith);
      tabs = w.others.1.0 (λ e. omega arith);
      marks = w.others.1.1.1.0 (λ e. omega arith);
    }

-- ---- SELECT id, body FROM lines WHERE tab = ? AND id >= ? AND id <= ? ORDER BY id

abbrev in_range : ℕ → ℕ → Row → Bool
in_range low high s = compares Ge (column s 0) (Int (pos low)) && compares Le (column s 0) (Int (pos high))

joined_range : (x y z a b c : Bool) → x ≡ a → y ≡ b → z ≡ c → (x && (y && (z && true))) ≡ ((b && c) && a)
joined_range x y z true true true p q s = rw (p, q, s)
joined_range x y z true true false p q s = rw (p, q, s)
joined_range x y z true false c p q s = rw (p, q)
joined_range x y z false true true p q s = rw p
joined_range x y z false true false p q s = rw p
joined_range x y z false false c p q s = rw p

read_passes : (tab low high : ℕ) (r : Row) → list_all (holds ((Int (pos tab) ∷ Int (pos low) ∷ Int (pos high) ∷ []) ∷ r ∷ [])) line_tests ≡ (in_range low high (shown_line r) && is_of_tab tab r)
read_passes tab low high r =
    joined_range (is_true (binary (Compare Eq Binary) (column r 1) (unary ToNumeric (Int (pos tab))))) (is_true (binary (Compare Ge Binary) (column r 2) (unary ToNumeric (Int (pos low)))))
    (is_true (binary (Compare Le Binary) (column r 2) (unary ToNumeric (Int (pos high))))) (is_of_tab tab r) (compares Ge (column r 2) (Int (pos low))) (compares Le (column r 2) (Int (pos high)))
    (number_compares Eq (column r 1) (pos tab)) (number_compares Ge (column r 2) (pos low)) (number_compares Le (column r 2) (pos high))

within_is : (low high : ℕ) (x : Line) → in_range low high (line_at x) ≡ is_within low high x
within_is low high x =
    ap (λ o. is_ge o && is_le (value_cmp (Int (pos x.0)) (Int (pos high)))) (value_cmp-Int (pos x.0) (pos low)) ∙ ap (λ o. is_ge (int_cmp (pos x.0) (pos low)) && is_le o) (value_cmp-Int (pos x.0) (pos high))
    ∙ ap (λ b. b && is_le (int_cmp (pos x.0) (pos high))) (at_least x.0 low) ∙ ap (λ b. nat_le low x.0 && b) (at_most x.0 high)

pub reads_lines : (old new : State) (tab low high : ℕ) (r : Result (Vec Row Global) Error) → old.now.schema ≡ kept_schema → (xs : LinesOf) → AreLines old.now.trees tab xs
    → IfOk r (λ rows. Shown read_lines (Int (pos tab) ∷ Int (pos low) ∷ Int (pos high) ∷ []) old new rows.items) → IfOk r (λ rows. rows.items ≡ map line_at (filter (is_within low high) xs))
reads_lines old new tab low high (Err e) has xs are h = tt
reads_lines old new tab low high (Ok rows) has xs are h =
    let params = Int (pos tab) ∷ Int (pos low) ∷ Int (pos high) ∷ [] in
    let read = reads_as read_lines params old new kept_schema has (Select (record { lets = []; body = lines_query }) (codes "id" ∷ codes "body" ∷ [])) read_lines_is.0 read_lines_is.2 read_lines_is.1 rows.items h in
    reads 2 line_tests (col 1 2 ∷ col 1 3 ∷ []) ((col 1 2, rising) ∷ []) params (is_of_tab tab) (in_range low high) shown_line (λ s. column s 0 ∷ []) line_at (is_within low high) (λ (a b : Line). a.0 < b.0)
    (read_passes tab low high) (λ r. refl) (within_is low high) (λ a b below. then-Equal _ ∙ value_cmp-Int (pos a.0) (pos b.0) ∙ lower a.0 b.0 below) old.now.trees xs rows.items are.order are.lines (read.answer Null)
