-- What the statements on the last numbers of the tables do.
use Rattle.std.proofs.Common.{◌≡◌, ◌≢◌, ℕ, ℤ, pos, List, [], ◌∷◌, ◌++◌, length, map, filter, codes, Bool, true, false, ◌&&◌, if◌then◌else◌, None, Ok, Err, Result, IfOk, refl, sym, ap, subst, ◌∙◌, arith, ◌<◌, IsPermutation, Less}
use Rattle.std.specs.Prelude.{Vec}
use Rattle.std.specs.declared.alloc.Global.{Global}
use Rattle.std.specs.List.{list_all}
use Rattle.sqlite_value.specs.declared.value.Value.TheVariants.{Null, Int}
use Rattle.sqlite_value.specs.Order.{Row, column, value_cmp}
use Rattle.sqlite_value.proofs.OrderLemmas.{value_cmp-Int, then-Equal}
use Rattle.sqlite_trees.specs.Tree.{Trees, IsAscending}
use Rattle.sqlite_sql.specs.declared.ops.CompareOp.TheVariants.{Eq}
use Rattle.sqlite_sql.specs.Term.{holds, col}
use Rattle.sqlite.specs.Kind.TheVariants.{Integer}
use Rattle.sqlite.specs.Cast.{cast}
use Rattle.sqlite.specs.Command.TheVariants.{Select}
use Rattle.sqlite.specs.declared.error.Error.{Error}
use Rattle.sqlite.specs.State.{State, ExecutesInside, Shown}
use Rattle.sqlite.proofs.Callers.{reads_as}
use Rattle.sqlite_keyed.proofs.ListLemmas.{ascending-append, ascending-map, ascending_weaker, all_weaker}
use Rattle.sql_meanings.specs.Schema.{kept_schema, tabs_at}
use Rattle.sql_meanings.specs.Texts.{read_lasts, insert_last, update_last}
use Rattle.sql_meanings.specs.Queries.{is_last, lasts_query, new_last, rising, set_last}
use Rattle.sql_meanings.specs.Tests.{compares}
use Rattle.sql_meanings.specs.Forms.{OthersStay}
use Rattle.sql_meanings.specs.UnderWay.{AreSeated, IsUnderWay}
use Rattle.sql_meanings.specs.Lasts.{AreLasts, ChangesLasts, InsertsLast, LastsOf, ReplacesLast, count_of_table, is_of_table, last_at, shown_last, with_last, with_table}
use Rattle.sql_meanings.proofs.Meanings.{read_lasts_is, insert_last_is, update_last_is}
use Rattle.sql_meanings.proofs.FormLemmas.{inserts, updates}
use Rattle.sql_meanings.proofs.ReadLemmas.{int_compares, reads}
use Rattle.sql_meanings.proofs.EntryLemmas.{all_stay, appended, changed_in, taken_count}
use Rattle.sql_meanings.proofs.NumberLemmas.{cast_int, cast_null, is_number, lower}
use Rattle.sql_meanings.proofs.SeatLemmas.{seated_by_tabs}

abbrev Last : Type 0
Last = ℕ × ℕ

-- each row belongs
abbrev any_row : Row → Bool
any_row r = true

among_all : (trees : Trees) (ns : LastsOf) → AreLasts trees ns → IsPermutation (map last_at ns) (map shown_last (filter any_row (trees 1)))
among_all trees ns are = subst (λ rows. IsPermutation (map last_at ns) (map shown_last rows)) (sym (all_stay (trees 1))) are.lasts

are_all : (trees : Trees) (ns : LastsOf) → IsAscending (λ (a b : Last). a.0 < b.0) ns → IsPermutation (map last_at ns) (map shown_last (filter any_row (trees 1))) → AreLasts trees ns
are_all trees ns up among = record { lasts = subst (λ rows. IsPermutation (map last_at ns) (map shown_last rows)) (all_stay (trees 1)) among; order = up }

-- ---- INSERT INTO tabs(tab, last) VALUES(?, ?)

abbrev stored : ℕ → ℕ → List Row → Row
stored tab last rows = Int (pos tab) ∷ Null ∷ Int (pos last) ∷ []

pub inserts_last : (old new : State) (tab last : ℕ) (r : Result ℕ Error) → IsUnderWay old → ExecutesInside 0 insert_last (Int (pos tab) ∷ Int (pos last) ∷ []) old new r → IfOk r (InsertsLast old new tab last)
inserts_last old new tab last (Err e) up h = tt
inserts_last old new tab last (Ok count) up h =
    let params = Int (pos tab) ∷ Int (pos last) ∷ [] in
    let w = inserts 1 tabs_at refl insert_last insert_last_is.1 params refl new_last 3 (stored tab last) (λ db. rw (cast_null, cast_int (pos tab), cast_int (pos last))) insert_last_is.0 old new count up.schema h.0 in
    record {
      goes_on = record { under_way = h.1.mode; schema = w.schema; seated = seated_by_tabs old new up.seated (w.shaped up.seated.tabs) w.others };
      here = λ ns are below.
          are_all new.now.trees (with_table tab last ns) (ascending-append (λ (a b : Last). a.0 < b.0) ns ((tab, last) ∷ []) are.order (tt, tt) (all_weaker (λ (n : Last). n.0 < tab) _ (λ n low. (low, tt)) ns below))
          (appended any_row shown_last last_at (stored tab last []) (tab, last) (old.now.trees 1) (new.now.trees 1) ns (among_all old.now.trees ns are) w.rows refl refl);
      counted = λ ns are. w.counted;
      shape = w.others.0 (λ e. omega arith);
      lines = w.others.1.1.0 (λ e. omega arith);
      marks = w.others.1.1.1.0 (λ e. omega arith);
    }

-- ---- UPDATE tabs SET last = ? WHERE tab = ?

abbrev has_tab : ℕ → Row → Bool
has_tab tab s = compares Eq (column s 0) (Int (pos tab))

tells_tab : (tab : ℕ) (n : Last) → has_tab tab (last_at n) ≡ is_of_table tab n
tells_tab tab n = is_number n.0 tab

abbrev set_row : ℕ → Row → Row
set_row last r = cast Integer (column r 0) ∷ Null ∷ Int (pos last) ∷ []

abbrev set_shown : ℕ → Row → Row
set_shown last s = cast Integer (column s 0) ∷ Int (pos last) ∷ []

update_passes : (last tab : ℕ) (r : Row) → list_all (holds ((Int (pos last) ∷ Int (pos tab) ∷ []) ∷ r ∷ [])) is_last ≡ (has_tab tab (shown_last r) && any_row r)
update_passes last tab r = ap (λ b. b && true) (int_compares Eq (column r 0) (pos tab))

same_table : (tab last : ℕ) (n : Last) → (if is_of_table tab n then (n.0, last) else n).0 ≡ n.0
same_table tab last n = elim (is_of_table tab n) as (λ b. (if b then (n.0, last) else n).0 ≡ n.0) [ true ↦ refl | false ↦ refl ]

with_order : (tab last : ℕ) (ns : LastsOf) → IsAscending (λ (a b : Last). a.0 < b.0) ns → IsAscending (λ (a b : Last). a.0 < b.0) (with_last tab last ns)
with_order tab last ns up =
    ascending-map (λ (a b : Last). a.0 < b.0) (λ n. if is_of_table tab n then (n.0, last) else n) ns
    (ascending_weaker (λ (a b : Last). a.0 < b.0) (λ (a b : Last). (if is_of_table tab a then (a.0, last) else a).0 < (if is_of_table tab b then (b.0, last) else b).0) (λ a b below. rw (same_table tab last a, same_table tab last b) below) ns up)

pub replaces_last : (old new : State) (tab last : ℕ) (r : Result ℕ Error) → IsUnderWay old → ExecutesInside 0 update_last (Int (pos last) ∷ Int (pos tab) ∷ []) old new r → IfOk r (ReplacesLast old new tab last)
replaces_last old new tab last (Err e) up h = tt
replaces_last old new tab last (Ok count) up h =
    let params = Int (pos last) ∷ Int (pos tab) ∷ [] in
    let w = updates 1 tabs_at refl update_last update_last_is.1 params is_last (λ r. has_tab tab (shown_last r) && any_row r) (update_passes last tab) set_last (set_row last) (λ r. rw (cast_null, cast_int (pos last))) update_last_is.0 old new count up.schema up.seated.tabs h.0 in
    record {
      goes_on = record { under_way = h.1.mode; schema = w.schema; seated = seated_by_tabs old new up.seated w.shaped w.others };
      here = λ ns are _.
          are_all new.now.trees (with_last tab last ns) (with_order tab last ns are.order)
          (changed_in any_row shown_last last_at (has_tab tab) (is_of_table tab) (tells_tab tab) (set_row last) (set_shown last) (λ (n : Last). (n.0, last)) (λ r here hit. (refl, refl)) (λ (n : Last). ap (λ v. v ∷ Int (pos last) ∷ []) (cast_int (pos n.0)))
          (old.now.trees 1) (new.now.trees 1) ns (among_all old.now.trees ns are) w.rows);
      counted = λ ns are. w.counted ∙ taken_count any_row shown_last last_at (has_tab tab) (is_of_table tab) (tells_tab tab) (old.now.trees 1) ns (among_all old.now.trees ns are);
      shape = w.others.0 (λ e. omega arith);
      lines = w.others.1.1.0 (λ e. omega arith);
      marks = w.others.1.1.1.0 (λ e. omega arith);
    }

-- ---- SELECT tab, last FROM tabs ORDER BY tab

pub reads_lasts : (old new : State) (r : Result (Vec Row Global) Error) → old.now.schema ≡ kept_schema → (ns : LastsOf) → AreLasts old.now.trees ns
    → IfOk r (λ rows. Shown read_lasts [] old new rows.items) → IfOk r (λ rows. rows.items ≡ map last_at ns)
reads_lasts old new (Err e) has ns are h = tt
reads_lasts old new (Ok rows) has ns are h =
    let read = reads_as read_lasts [] old new kept_schema has (Select (record { lets = []; body = lasts_query }) (codes "tab" ∷ codes "last" ∷ [])) read_lasts_is.0 read_lasts_is.2 read_lasts_is.1 rows.items h in
    reads 1 [] (col 1 0 ∷ col 1 2 ∷ []) ((col 1 0, rising) ∷ []) [] any_row any_row shown_last (λ s. column s 0 ∷ []) last_at (λ n. true) (λ (a b : Last). a.0 < b.0)
    (λ r. refl) (λ r. refl) (λ n. refl) (λ a b below. then-Equal _ ∙ value_cmp-Int (pos a.0) (pos b.0) ∙ lower a.0 b.0 below) old.now.trees ns rows.items are.order (among_all old.now.trees ns are) (read.answer Null)
    ∙ ap (map last_at) (all_stay ns)
