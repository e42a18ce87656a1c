-- All rows of a table, out of the lines that are kept and those that a transaction has made.
use Rattle.std.proofs.Common.{◌≡◌, ◌∙◌, ℕ, ◌+◌, ◌<◌, ◌≤◌, ◌==◌, ◌&&◌, Bool, true, false, cond, List, [], ◌∷◌, ◌++◌, filter, map, Option, None, Some, Less, IsPermutation, ap, ap₂, arith, refl, subst, sym}
use Rattle.std.specs.Prelude.{nat_le, option_map, slice_get}
use Rattle.std.specs.BTreeMap.{IsOrdered}
use Rattle.std.specs.Cmp.{IsTotalOrder}
use Rattle.std.specs.List.{AllByRecursion}
use Rattle.std.specs.List.Sorted.{IsSorted}
use Rattle.std.specs.Ordering.{nat_cmp}
use Rattle.std.proofs.lemmas.Bool.{eqb-true}
use Rattle.std.proofs.lemmas.Bool.Decides.{Decides-eqb, nat_tests, not_from_Decides}
use Rattle.std.proofs.lemmas.Cmp.{nat_cmp_total, on_total}
use Rattle.std.proofs.lemmas.List.Elements.{All-from_recursion, recursion_from_All}
use Rattle.std.proofs.lemmas.List.Sorted.{All-permutation, IsPermutation-map, IsPermutation-sym, IsPermutation-trans}
use Rattle.fx_core.specs.declared.schema.Column.{Column}
use Rattle.sqlite.specs.Order as sql
use Rattle.sqlite_trees.specs.Tree.{IsAscending}
use Rattle.sqlite_keyed.proofs.ListLemmas.{all_weaker, ascending-map, ascending_weaker, filter_all}
use Rattle.sqlite_keyed.proofs.SortLemmas.{sorted_unique}
use Rattle.sql_meanings.specs.Lines.{LinesOf, is_within, line_at}
use Rattle.row_queries.specs.Queries.{row_order}
use Rattle.row_queries.specs.declared.rows.Row.{Row}
use Rattle.row_changes.specs.Overlay.{AreOf, body_at, last_of, made_lines, overlay, unchanged}
use Rattle.row_changes.specs.declared.table.TableChanges.{TableChanges}
use Rattle.row_changes.proofs.ChangeLemmas.{overlay_parts}
use Rattle.row_changes.proofs.OverlayLemmas.{overlay_given, overlay_rising}
use Rattle.store_model.specs.Decoded.{row_in}
use Rattle.store_reading.proofs.DecodeLemmas.{map-append}

-- ---- numbers up to the last

within : (n high : ℕ) → n ≤ high → (nat_le 0 n && nat_le n high) ≡ true
within n high low = grind (arith, nat_tests)

pub all_within : (high : ℕ) (xs : LinesOf) → AllByRecursion (λ (x : ℕ × List ℕ). x.0 ≤ high) xs → filter (is_within 0 high) xs ≡ xs
all_within high xs h = filter_all (is_within 0 high) xs (all_weaker (λ (x : ℕ × List ℕ). x.0 ≤ high) (λ x. is_within 0 high x ≡ true) (λ x low. within x.0 high low) xs h)

last_append : (P : ℕ × List ℕ → Type 0) (xs ys : LinesOf) → AllByRecursion P (xs ++ ys) → AllByRecursion P ys
last_append P [] ys h = h
last_append P (x ∷ xs) ys h = last_append P xs ys h.1

pub along : {A : Type 0} (P : A → Type 0) (xs ys : List A) → IsPermutation xs ys → AllByRecursion P xs → AllByRecursion P ys
along P xs ys same h = recursion_from_All P ys (All-permutation P xs ys same (All-from_recursion P xs h))

-- ---- the rows

numbers_total : IsTotalOrder (row_order None)
numbers_total = on_total (λ (r : Row). r.id) nat_cmp_total

lower : (m n : ℕ) → m < n → nat_cmp m n ≡ Less
lower m n h = grind (arith, nat_tests)

rows_rise : (columns : List Column) (xs : LinesOf) → IsAscending (λ (a b : ℕ × List ℕ). a.0 < b.0) xs → IsAscending (λ a b. row_order None a b ≡ Less) (map (row_in columns) xs)
rows_rise columns xs h =
    ascending-map (λ (a b : Row). row_order None a b ≡ Less) (row_in columns) xs (ascending_weaker (λ (a b : ℕ × List ℕ). a.0 < b.0) (λ (a b : ℕ × List ℕ). nat_cmp a.0 b.0 ≡ Less) (λ a b. lower a.0 b.0) xs h)

pub rows_overlaid : (c : TableChanges) (columns : List Column) (kept : LinesOf) (high : ℕ) (read sorted : List Row) → IsOrdered nat_cmp c.changed → AreOf kept c → last_of c ≤ high
    → read ≡ map (row_in columns) (unchanged c kept) ++ map (row_in columns) (filter (is_within 0 high) (made_lines c)) → IsPermutation read sorted → IsSorted (row_order None) sorted
    → sorted ≡ map (row_in columns) (overlay c kept)
rows_overlaid c columns kept high read sorted ordered are top is same up =
    let parts = overlay_parts c kept ordered are in
    let flip : IsPermutation (overlay c kept) (unchanged c kept ++ made_lines c) = IsPermutation-sym _ _ parts in
    let given : AllByRecursion (λ (x : ℕ × List ℕ). x.0 ≤ high) (overlay c kept) = all_weaker (λ (x : ℕ × List ℕ). x.0 ≤ last_of c) (λ x. x.0 ≤ high) (λ x low. omega (arith, low, top)) (overlay c kept) (overlay_given c kept are) in
    let made : filter (is_within 0 high) (made_lines c) ≡ made_lines c = all_within high (made_lines c) (last_append (λ (x : ℕ × List ℕ). x.0 ≤ high) (unchanged c kept) (made_lines c) (along (λ (x : ℕ × List ℕ). x.0 ≤ high) (overlay c kept) _ flip given)) in
    let both : read ≡ map (row_in columns) (unchanged c kept ++ made_lines c) = is ∙ ap (λ l. map (row_in columns) (unchanged c kept) ++ map (row_in columns) l) made ∙ sym (map-append (row_in columns) (unchanged c kept) (made_lines c)) in
    let from : IsPermutation (map (row_in columns) (overlay c kept)) read = subst (λ l. IsPermutation (map (row_in columns) (overlay c kept)) l) (sym both) (IsPermutation-map (row_in columns) _ _ flip) in
    sorted_unique (row_order None) numbers_total (map (row_in columns) (overlay c kept)) sorted (rows_rise columns (overlay c kept) (overlay_rising c kept are)) (IsPermutation-trans _ _ _ from same) up

-- what was read: the lines that are kept and have not changed, and then those that were made
pub rows_read : (c : TableChanges) (columns : List Column) (kept : LinesOf) (high : ℕ) (start some all : List Row) (made : LinesOf) → start ≡ [] → some ≡ start ++ map (row_in columns) (unchanged c kept)
    → all ≡ some ++ map (row_in columns) made → made ≡ filter (is_within 0 high) (made_lines c) → all ≡ map (row_in columns) (unchanged c kept) ++ map (row_in columns) (filter (is_within 0 high) (made_lines c))
rows_read c columns kept high start some all made none first then is =
    then ∙ ap₂ (λ xs ys. xs ++ map (row_in columns) ys) (first ∙ ap (λ xs. xs ++ map (row_in columns) (unchanged c kept)) none) is

-- the lines up to the last number that was given are all lines that are kept
pub kept_read : (c : TableChanges) (all : ℕ → LinesOf) (tab from : ℕ) (read : List sql.Row) → from ≡ tab → read ≡ map line_at (filter (is_within 0 c.first) (all from)) → AreOf (all tab) c → read ≡ map line_at (all tab)
kept_read c all tab from read here is are =
    is ∙ ap (λ n. map line_at (filter (is_within 0 c.first) (all n))) here ∙ ap (λ xs. map line_at xs) (all_within c.first (all tab) are.given)

-- ---- the line of one number

test_same : (n id : ℕ) (b : Bool) → (n == id) ≡ b → (nat_le id n && nat_le n id) ≡ b
test_same n id true e = (let same : n ≡ id = eqb-true n id e in grind (arith, nat_tests))
test_same n id false e = (let other = not_from_Decides (n == id) (Decides-eqb n id) e in grind (arith, nat_tests))

first_by : (b c : Bool) (x : ℕ × List ℕ) (rest : Option (List ℕ)) (more : LinesOf) → c ≡ b → rest ≡ option_map (λ (y : ℕ × List ℕ). y.1) (slice_get more 0) → cond b (Some x.1) rest ≡ option_map (λ (y : ℕ × List ℕ). y.1) (slice_get (cond c (x ∷ more) more) 0)
first_by true true x rest more e ih = refl
first_by true false x rest more e ih = absurd cc
first_by false true x rest more e ih = absurd cc
first_by false false x rest more e ih = ih

pub first_line : (id : ℕ) (xs : LinesOf) → body_at id xs ≡ option_map (λ (y : ℕ × List ℕ). y.1) (slice_get (filter (is_within id id) xs) 0)
first_line id [] = refl
first_line id (x ∷ xs) = first_by (x.0 == id) (is_within id id x) x (body_at id xs) (filter (is_within id id) xs) (test_same x.0 id (x.0 == id) refl) (first_line id xs)

-- the first of the lines of one number, as they are read
pub first_read : (id tab from : ℕ) (all : ℕ → LinesOf) (read : List sql.Row) → from ≡ tab → read ≡ map line_at (filter (is_within id id) (all from)) → read ≡ map line_at (filter (is_within id id) (all tab))
first_read id tab from all read here is = is ∙ ap (λ n. map line_at (filter (is_within id id) (all n))) here
