-- Rows that were read, and what a query asks of them.
use Rattle.std.proofs.Common.{◌≡◌, ◌∙◌, ◌+◌, ◌<◌, ◌≤◌, ℕ, zero, suc, Bool, true, cond, List, [], ◌∷◌, ◌++◌, filter, get_or, length, map, take, Option, None, refl, ap, arith, subst, sym}
use Rattle.std.specs.List.{All, AllByRecursion}
use Rattle.std.specs.List.Sorted.{IsPermutation, IsSorted}
use Rattle.std.proofs.lemmas.List.{take_more}
use Rattle.std.proofs.lemmas.List.Elements.{All-from_recursion, recursion_from_All}
use Rattle.std.proofs.lemmas.List.Sorted.{All-permutation}
use Rattle.fx_types.specs.declared.aggregates.Totals.{Totals}
use Rattle.fx_value.specs.Aggregates.{SumsUp, numbers_in}
use Rattle.fx_core.specs.declared.schema.TableShape.{TableShape}
use Rattle.row_queries.specs.Answers.{IsCountAnswer, IsScanAnswer, IsTotalAnswer, OfRows}
use Rattle.row_queries.specs.Queries.{AreAsked, first_outcome_fault, given_of, lies, outcome_on, row_order, rows_or_fault}
use Rattle.row_queries.specs.TableRows.{AreHeldRows, AreInIdOrder, IsHeldRow, IsRowOf, value_at, values_of}
use Rattle.row_queries.specs.declared.queries.Query.{Query}
use Rattle.row_queries.specs.declared.rows.Row.{Row}
use Rattle.row_queries.specs.declared.rows.RowList.{RowList}
use Rattle.row_keeper.proofs.RowLists.{order_more}
use Rattle.sql_keeper.specs.Given.{IsGivenOf}
use Rattle.row_lines.proofs.CellLemmas.{all_more}

-- ---- a pass over rows

pub one_of : (P : Row → Type 0) (rows : List Row) (i : ℕ) (r : Row) → AllByRecursion P rows → i < length rows → r ≡ get_or rows i r → P r
one_of P [] i r h l e = absurd (omega (arith, l))
one_of P (x ∷ rows) zero r h l e = subst P (sym e) h.0
one_of P (x ∷ rows) (suc i) r h l e = one_of P rows i r h.1 (omega (arith, l)) e

-- rows by rising numbers, none of them above this one
abbrev pub RiseTo : ℕ → List Row → Type 0
RiseTo n rows = AllByRecursion (λ (r : Row). r.id ≤ n) rows × AreInIdOrder rows

at_most_more : (n m : ℕ) (rows : List Row) → n < m → AllByRecursion (λ (r : Row). r.id ≤ n) rows → AllByRecursion (λ (r : Row). r.id ≤ m) rows
at_most_more n m [] l h = tt
at_most_more n m (r ∷ rows) l h = (let k = h.0 in omega (arith, k, l), at_most_more n m rows l h.1)

pub rise_on : (rows : List Row) (i n : ℕ) (r : Row) → RiseTo n (take i rows) → i < length rows → r ≡ get_or rows i r → n < r.id → RiseTo r.id (take (i + 1) rows)
rise_on rows i n r h l e b =
    subst (RiseTo r.id) (sym (take_more rows i r l ∙ ap (λ x. take i rows ++ x ∷ []) (sym e)))
    (all_more (λ (x : Row). x.id ≤ r.id) (take i rows) r (at_most_more n r.id (take i rows) b h.0) (omega arith), order_more n (take i rows) r b h.0 h.1)

-- ---- rows that are held, and asked

kept_all : (p : Row → Bool) (rows : List Row) → AllByRecursion (λ (r : Row). p r ≡ true) rows → filter p rows ≡ rows
kept_all p [] h = refl
kept_all p (r ∷ rows) h = subst (λ b. cond b (r ∷ filter p rows) (filter p rows) ≡ r ∷ rows) (sym h.0) (ap (λ l. r ∷ l) (kept_all p rows h.1))

pub moved : (P : Row → Type 0) (rows others : List Row) → IsPermutation rows others → AllByRecursion P rows → AllByRecursion P others
moved P rows others p h = recursion_from_All P others (All-permutation P rows others p (All-from_recursion P rows h))

pub fit_all : (t : TableShape) (rows : List Row) → AllByRecursion (IsHeldRow t) rows → AllByRecursion (IsRowOf t) rows
fit_all t [] h = tt
fit_all t (r ∷ rows) h = (h.0.0, fit_all t rows h.1)

-- rows by rising numbers that all lie in a query's ranges are those that it asks, in its order
pub asked_of : (t : TableShape) (q : Query) (read first last : List Row) → AllByRecursion (IsHeldRow t) read → IsPermutation read first → AreInIdOrder first → AllByRecursion (λ (r : Row). lies q r ≡ true) first → IsPermutation first last → IsSorted (row_order q.order) last
    → (held : List Row) × AreHeldRows t held × AreAsked q held last
asked_of t q read first last fit p rise lie m sorted = (
  first,
  (rise, All-permutation (IsHeldRow t) read first p (All-from_recursion (IsHeldRow t) read fit)),
  record { rearranged = subst (λ l. IsPermutation l last) (sym (kept_all (lies q) first lie)) m; sorted = sorted },
)

-- ---- what is answered of them, where no rows are told

pub scanned : (shapes : List TableShape) (q : Query) (asked : List Row) (a : RowList) → OfRows shapes None q (λ t held. AreAsked q held asked) → a ≡ rows_or_fault (given_of q asked) (first_outcome_fault (map (outcome_on q) asked)) → IsScanAnswer shapes None q a
scanned shapes q asked a h e = (h.0, h.1, h.2, (asked, h.3, e))

pub given : (shapes : List TableShape) (q : Query) (asked rows : List Row) → OfRows shapes None q (λ t held. AreAsked q held asked) → rows ≡ given_of q asked → OfRows shapes None q (λ t held. IsGivenOf q held rows)
given shapes q asked rows h e = (h.0, h.1, h.2, (asked, h.3, e))

pub counted : (shapes : List TableShape) (q : Query) (rows : List Row) (n : ℕ) → OfRows shapes None q (λ t held. IsGivenOf q held rows) → n ≡ length rows → IsCountAnswer shapes None q n
counted shapes q rows n h e = (h.0, h.1, h.2, (h.3.0, h.3.1, e ∙ ap (λ (l : List Row). length l) h.3.2))

pub totalled : (shapes : List TableShape) (q : Query) (rows : List Row) (column : ℕ) (totals : Totals) → OfRows shapes None q (λ t held. IsGivenOf q held rows) → SumsUp (numbers_in (map (λ (r : Row). value_at (values_of r) column) rows)) totals
    → IsTotalAnswer shapes None q column totals
totalled shapes q rows column totals h s = (h.0, h.1, h.2, (h.3.0, h.3.1, subst (λ (l : List Row). SumsUp (numbers_in (map (λ (r : Row). value_at (values_of r) column) l)) totals) h.3.2 s))
