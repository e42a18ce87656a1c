-- Rows by rising numbers, of which a query asks in that order.
use Rattle.std.proofs.Common.{◌≡◌, ℕ, zero, suc, ◌<◌, ◌==◌, Bool, true, false, cond, List, [], ◌∷◌, ◌++◌, filter, Option, Some, None, refl, ap, ap₂, sym, ◌∙◌, subst, arith, add-one, map, ◌||◌, ◌&&◌, ◌*◌}
use Rattle.std.specs.Prelude.{pos, slice_index_or}
use Rattle.std.specs.List.{find}
use Rattle.std.specs.List.Sorted.{IsSorted}
use Rattle.std.specs.Ordering.{int_cmp, is_eq, is_le, is_lt, nat_cmp}
use Rattle.std.specs.Cmp.Lexicographic.{slice_cmp}
use Rattle.std.specs.declared.cmp.Ordering.{Ordering}
use Rattle.std.specs.declared.cmp.Ordering.TheVariants.{Less, Equal, Greater}
use Rattle.std.proofs.lemmas.Bool.Decides.{nat_tests}
use Rattle.std.proofs.lemmas.List.Sorted.{IsPermutation-refl}
use Rattle.std.proofs.lemmas.List.Elements.{filter_agree}
use Rattle.fx_value.specs.Keys.{key_bytes}
use Rattle.row_queries.specs.Laws.{AskedOnce}
use Rattle.row_queries.specs.Queries.{AreAsked, IsScanned, first_outcome_fault, given_of, lies, outcome_on, row_order, rows_or_fault}
use Rattle.row_queries.specs.TableRows.{AreInIdOrder, IsBelowAll, id_value, rows_at}
use Rattle.row_queries.specs.declared.queries.Query.{Query}
use Rattle.row_queries.specs.declared.rows.Row.{Row}
use Rattle.row_queries.specs.Ranges.{in_ranges}
use Rattle.row_queries.specs.RowTests.{decided, is_met}
use Rattle.row_queries.specs.declared.rows.RowList.{RowList}
use Rattle.row_keeper.specs.Tables.{TableState, has_id, rows_of_tables, state_at}
use Rattle.row_keeper.specs.Numbered.{one_row}
use Rattle.row_keeper.specs.Rules.{only_key}
use Rattle.row_keeper.proofs.RowLists.{order_less}
use Rattle.row_keeper.proofs.PageLemmas.{numbers_go}

-- ---- lists

-- what a test lets through goes through a wider one
pub filter_wider : (p q : Row → Bool) → ((r : Row) → p r ≡ true → q r ≡ true) → (rows : List Row) → filter p (filter q rows) ≡ filter p rows
filter_wider p q h [] = refl
filter_wider p q h (r ∷ rows) = by (p r) refl (q r) refl (filter_wider p q h rows)
  where
    kept : List Row
    kept = filter q rows

    by : (b : Bool) → p r ≡ b → (c : Bool) → q r ≡ c → filter p kept ≡ filter p rows → filter p (cond c (r ∷ kept) kept) ≡ cond b (r ∷ filter p rows) (filter p rows)
    by true e true f ih = ap₂ (λ t l. cond t (r ∷ l) l) e ih
    by true e false f ih = absurd (let g : true ≡ false = sym (h r e) ∙ f in cc)
    by false e true f ih = ap₂ (λ t l. cond t (r ∷ l) l) e ih
    by false e false f ih = ih

none_pass : (id : ℕ) (rows : List Row) → IsBelowAll id rows → filter (has_id id) rows ≡ []
none_pass id [] h = refl
none_pass id (r ∷ rows) h = ap₂ (λ t l. cond t (r ∷ l) l) (differ (r.id == id) refl) (none_pass id rows h.1)
  where
    differ : (b : Bool) → (r.id == id) ≡ b → b ≡ false
    differ true e = absurd (let k : id < r.id = h.0 in grind (arith, e, k))
    differ false e = refl

-- a list of at most one
abbrev pub one : Option Row → List Row
one None = []
one (Some r) = r ∷ []

-- rows by rising numbers have one of a number at most
pub at_most_one : (id : ℕ) (rows : List Row) → AreInIdOrder rows → filter (has_id id) rows ≡ one (find (has_id id) rows)
at_most_one id [] h = refl
at_most_one id (r ∷ rows) h = by (r.id == id) refl (at_most_one id rows h.1)
  where
    by : (b : Bool) → (r.id == id) ≡ b → filter (has_id id) rows ≡ one (find (has_id id) rows) → cond b (r ∷ filter (has_id id) rows) (filter (has_id id) rows) ≡ one (cond b (Some r) (find (has_id id) rows))
    by true e ih = ap (λ (l : List Row). r ∷ l) (none_pass id rows (subst (λ n. IsBelowAll n rows) (same r.id id e) h.0))
      where
        same : (a b : ℕ) → (a == b) ≡ true → a ≡ b
        same a b e = grind (arith, e)
    by false e ih = ih

-- ---- order

not_less : (a b : ℕ) → a < b → is_lt (nat_cmp b a) ≡ false
not_less a b h = by (nat_cmp b a) refl
  where
    by : (o : Ordering) → nat_cmp b a ≡ o → is_lt o ≡ false
    by Less e = absurd (let l : b < a = grind (arith, nat_tests, e) in omega (arith, l, h))
    by Equal e = refl
    by Greater e = refl

sorted_rows : (rows : List Row) → AreInIdOrder rows → IsSorted (row_order None) rows
sorted_rows [] h k d low l = absurd (omega (arith, l))
sorted_rows (r ∷ []) h zero d low l = absurd (omega (arith, l))
sorted_rows (r ∷ (s ∷ rows)) h zero d low l = not_less r.id s.id h.0.0
sorted_rows (r ∷ rows) h (suc k) d low l =
    subst (λ n. is_lt (row_order None (slice_index_or (r ∷ rows) n d) (slice_index_or rows k d)) ≡ false) (sym (add-one (suc k)))
    (subst (λ n. is_lt (row_order None (slice_index_or rows n d) (slice_index_or rows k d)) ≡ false) (add-one k) (sorted_rows rows h.1 k d (omega arith) (omega (arith, l))))

-- rows that stand by rising numbers are asked in that order
pub asked_is : AskedOnce → (q : Query) → q.order ≡ None → (rows asked : List Row) → AreInIdOrder rows → AreAsked q rows asked → asked ≡ filter (lies q) rows
asked_is law q unordered rows asked h is =
    law q rows asked (filter (lies q) rows) h is
    (record {
      rearranged = IsPermutation-refl (filter (lies q) rows);
      sorted = subst (λ o. IsSorted (row_order o) (filter (lies q) rows)) (sym unordered) (sorted_rows (filter (lies q) rows) (order_less (lies q) rows h));
    })

pub is_same : (a b : ℕ) → is_eq (nat_cmp a b) ≡ (a == b)
is_same a b = by (nat_cmp a b) refl
  where
    by : (o : Ordering) → nat_cmp a b ≡ o → is_eq o ≡ (a == b)
    by Less e = grind (arith, nat_tests, e)
    by Equal e = grind (arith, nat_tests, e)
    by Greater e = grind (arith, nat_tests, e)

-- ---- keys

pub above_itself : (xs : List ℕ) (n : ℕ) → is_lt (slice_cmp nat_cmp xs (xs ++ n ∷ [])) ≡ true
above_itself [] n = refl
above_itself (x ∷ xs) n = rw (equal x) (above_itself xs n)
  where
    equal : (x : ℕ) → nat_cmp x x ≡ Equal
    equal x = grind (arith, nat_tests)

pub from_itself : (xs : List ℕ) → is_le (slice_cmp nat_cmp xs xs) ≡ true
from_itself [] = refl
from_itself (x ∷ xs) = rw (equal x) (from_itself xs)
  where
    equal : (x : ℕ) → nat_cmp x x ≡ Equal
    equal x = grind (arith, nat_tests)

-- ---- the query of the row of a number

met_one : (table id : ℕ) (r : Row) → is_met (outcome_on (one_row table id) r) ≡ has_id id r
met_one table id r = met (is_eq (int_cmp (pos (r.id * 10000)) (pos (id * 10000)))) ∙ ap is_eq (numbers_go r.id id) ∙ is_same r.id id
  where
    met : (b : Bool) → is_met (decided b) ≡ b
    met true = refl
    met false = refl

clear_one : (table id : ℕ) (rows : List Row) → first_outcome_fault (map (outcome_on (one_row table id)) rows) ≡ None
clear_one table id [] = refl
clear_one table id (r ∷ rows) = by (is_eq (int_cmp (pos (r.id * 10000)) (pos (id * 10000)))) (clear_one table id rows)
  where
    by : (b : Bool) → first_outcome_fault (map (outcome_on (one_row table id)) rows) ≡ None → first_outcome_fault (decided b ∷ map (outcome_on (one_row table id)) rows) ≡ None
    by true ih = ih
    by false ih = ih

in_only : (key : List ℕ) → in_ranges (only_key key ∷ []) key ≡ true
in_only key = ap₂ (λ a b. (a && b) || false) (from_itself key) (above_itself key 0)

lies_one : (table id : ℕ) (r : Row) → has_id id r ≡ true → lies (one_row table id) r ≡ true
lies_one table id r e = subst (λ n. in_ranges (only_key (key_bytes (id_value id)) ∷ []) (key_bytes (id_value n)) ≡ true) (sym (same r.id id e)) (in_only (key_bytes (id_value id)))
  where
    same : (a b : ℕ) → (a == b) ≡ true → a ≡ b
    same a b e = grind (arith, e)

-- so a scan gives the one row of the number, if it is there
pub given_one : AskedOnce → (table id : ℕ) (rows : List Row) (answer : RowList) → AreInIdOrder rows → IsScanned (one_row table id) rows answer → answer ≡ record { rows = one (find (has_id id) rows); fault = None }
given_one law table id rows answer h (asked, is, answered) =
    answered
    ∙ ap (rows_or_fault (given_of (one_row table id) asked)) (clear_one table id asked)
    ∙ ap (λ (z : List Row). rows_or_fault z None)
    (filter_agree (λ r. is_met (outcome_on (one_row table id) r)) (has_id id) (met_one table id) asked
    ∙ ap (filter (has_id id)) (asked_is law (one_row table id) refl rows asked h is)
    ∙ filter_wider (has_id id) (lies (one_row table id)) (lies_one table id) rows
    ∙ at_most_one id rows h)

-- ---- the rows of a table

pub rows_are : (ss : List TableState) (k : ℕ) → rows_at (rows_of_tables ss) k ≡ (state_at ss k).rows
rows_are [] k = refl
rows_are (s ∷ ss) zero = refl
rows_are (s ∷ ss) (suc k) = rows_are ss k
