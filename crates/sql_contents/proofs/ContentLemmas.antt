-- The lists that the statements speak of are the contents.
use Rattle.std.proofs.Common.{◌≡◌, ◌∙◌, ℕ, ◌<◌, pos, List, [], ◌∷◌, map, filter, length, Option, None, Some, Ordering, Less, IsPermutation, ap, arith, option_to_list, refl, subst, sym}
use Rattle.std.specs.Cmp.{IsTotalOrder}
use Rattle.std.proofs.lemmas.Bool.Decides.{nat_tests}
use Rattle.std.proofs.lemmas.Cmp.{int_cmp_total, nat_cmp_total, nat_list_cmp_total, on_total, then_total}
use Rattle.std.proofs.lemmas.List.Elements.{recursion_from_All, All-from_recursion}
use Rattle.std.proofs.lemmas.List.Sorted.{All-permutation, IsPermutation-map, length_permutation}
use Rattle.sqlite.specs.Order.{Row}
use Rattle.sqlite.specs.Tree.{Trees}
use Rattle.sqlite_keyed.proofs.ListLemmas.{ascending_weaker}
use Rattle.sql_meanings.specs.Body.{HasBody, body_at, is_one, shown_body}
use Rattle.sql_meanings.specs.Lasts.{AreLasts, LastsOf, last_at, shown_last}
use Rattle.sql_meanings.specs.Lines.{AreLines, LinesOf, line_at, stored_lines}
use Rattle.sql_meanings.specs.Marks.{AreMarks, MarksOf, mark_at, mark_cmp, stored_marks}
use Rattle.sql_contents.specs.Contents.{Contents, Holds, body_in, first_body, last_in, lasts_in, line_in, lines_in, mark_in, marks_in, number_cmp}
use Rattle.sql_contents.proofs.SortLemmas.{sort_is}

lower : {A : Type 0} (a b : ℕ × A) → a.0 < b.0 → number_cmp a b ≡ Less
lower a b h = grind (arith, nat_tests)

lines_back : (xs : LinesOf) → map line_in (map line_at xs) ≡ xs
lines_back [] = refl
lines_back (x ∷ xs) = ap (λ l. x ∷ l) (lines_back xs)

pub lines_are : (trees : Trees) (tab : ℕ) (xs : LinesOf) → AreLines trees tab xs → lines_in trees tab ≡ xs
lines_are trees tab xs h =
    sort_is number_cmp (on_total (λ (x : ℕ × List ℕ). x.0) nat_cmp_total) xs (map line_in (stored_lines trees tab))
    (ascending_weaker (λ (a b : ℕ × List ℕ). a.0 < b.0) (λ a b. number_cmp a b ≡ Less) (λ a b. lower a b) xs h.order)
    (subst (λ l. IsPermutation l (map line_in (stored_lines trees tab))) (lines_back xs) (IsPermutation-map line_in _ _ h.lines))

lasts_back : (ns : LastsOf) → map last_in (map last_at ns) ≡ ns
lasts_back [] = refl
lasts_back (n ∷ ns) = ap (λ l. n ∷ l) (lasts_back ns)

pub lasts_are : (trees : Trees) (ns : LastsOf) → AreLasts trees ns → lasts_in trees ≡ ns
lasts_are trees ns h =
    sort_is number_cmp (on_total (λ (n : ℕ × ℕ). n.0) nat_cmp_total) ns (map last_in (map shown_last (trees 1)))
    (ascending_weaker (λ (a b : ℕ × ℕ). a.0 < b.0) (λ a b. number_cmp a b ≡ Less) (λ a b. lower a b) ns h.order)
    (subst (λ l. IsPermutation l (map last_in (map shown_last (trees 1)))) (lasts_back ns) (IsPermutation-map last_in _ _ h.lasts))

marks_back : (ms : MarksOf) → map mark_in (map mark_at ms) ≡ ms
marks_back [] = refl
marks_back (m ∷ ms) = ap (λ l. m ∷ l) (marks_back ms)

mark_total : IsTotalOrder mark_cmp
mark_total = then_total (on_total (λ (m : List ℕ × ℕ). m.0) nat_list_cmp_total) (on_total (λ (m : List ℕ × ℕ). pos m.1) int_cmp_total)

pub marks_are : (trees : Trees) (tab col : ℕ) (ms : MarksOf) → AreMarks trees tab col ms → marks_in trees tab col ≡ ms
marks_are trees tab col ms h =
    sort_is mark_cmp mark_total ms (map mark_in (stored_marks trees tab col)) h.order
    (subst (λ l. IsPermutation l (map mark_in (stored_marks trees tab col))) (marks_back ms) (IsPermutation-map mark_in _ _ h.marks))

one_row : (x : Row) (ys : List Row) → IsPermutation (x ∷ []) ys → ys ≡ x ∷ []
one_row x [] same = absurd (omega (arith, length_permutation _ _ same))
one_row x (y ∷ []) same = ap (λ z. z ∷ []) (recursion_from_All (λ z. z ≡ x) (y ∷ []) (All-permutation (λ z. z ≡ x) (x ∷ []) (y ∷ []) same (All-from_recursion (λ z. z ≡ x) (x ∷ []) (refl, tt)))).0
one_row x (y ∷ z ∷ ys) same = absurd (omega (arith, length_permutation _ _ same))

no_row : (ys : List Row) → IsPermutation [] ys → ys ≡ []
no_row [] same = refl
no_row (y ∷ ys) same = absurd (omega (arith, length_permutation _ _ same))

first_is : (body : Option (List ℕ)) (ys : List Row) → IsPermutation (map body_at (option_to_list body)) ys → first_body ys ≡ body
first_is None ys same = ap first_body (no_row ys same)
first_is (Some body) ys same = ap first_body (one_row (body_at body) ys same)

pub body_is : (trees : Trees) (body : Option (List ℕ)) → HasBody trees body → body_in trees ≡ body
body_is trees body h = first_is body (map shown_body (filter is_one (trees 0))) h.stored
