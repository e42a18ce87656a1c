-- The rows that are found.
use Rattle.std.proofs.Common.{◌≡◌, ℕ, ◌+◌, ◌<◌, ◌≤◌, ◌^◌, ◌&&◌, ◌||◌, Bool, true, false, cond, List, [], ◌∷◌, ◌++◌, map, filter, take, length, Option, Some, None, refl, ap, ap₂, sym, ◌∙◌, subst, arith}
use Rattle.std.specs.Prelude.{IfSome, IsSomeAnd, MatchOption, nat_lt, option_to_list}
use Rattle.std.specs.List.{All, AllByRecursion}
use Rattle.std.specs.Ordering.{is_le, is_lt, nat_cmp}
use Rattle.std.specs.Cmp.Lexicographic.{slice_cmp}
use Rattle.std.specs.declared.cmp.Ordering.{Ordering}
use Rattle.std.specs.declared.cmp.Ordering.TheVariants.{Less, Equal, Greater}
use Rattle.std.proofs.lemmas.Bool.Decides.{nat_tests}
use Rattle.std.proofs.lemmas.List.Elements.{recursion_from_All}
use Rattle.fx_core.specs.declared.schema.TableShape.{TableShape}
use Rattle.fx_value.specs.Keys.{KeysOrder, key_bytes}
use Rattle.fx_value.proofs.ByteOrder.{after_from}
use Rattle.row_queries.specs.Laws.{AskedOnce}
use Rattle.row_queries.specs.Queries.{IsScanned, first_outcome_fault, given_of, lies, outcome_on, rows_or_fault}
use Rattle.row_queries.specs.RowTests.{is_met}
use Rattle.row_queries.specs.TableRows.{AreInIdOrder, IsRowOf, id_value}
use Rattle.row_queries.specs.Visits.{VisitsItsRanges, VisitsTold}
use Rattle.row_queries.specs.declared.rows.Row.{Row}
use Rattle.row_queries.specs.declared.rows.RowList.{RowList}
use Rattle.row_keeper.specs.Changes.{Scans}
use Rattle.row_keeper.specs.Tables.{Tables, rows_told, state_at}
use Rattle.row_keeper.specs.Numbered.{one_row}
use Rattle.row_keeper.proofs.PageLemmas.{keys_go}
use Rattle.row_keeper.proofs.NumberedRows.{asked_is, given_one, one, rows_are}
use Rattle.row_requests.specs.Changes.{row_with_id}
use Rattle.row_requests.specs.Page.{past}
use Rattle.row_requests.specs.Queries.{HasNumberedRows, FindsRow, FindsRows, VisitsPast, after_key, next_rows}

-- ---- lists

all_pass : (q : Row → Bool) → ((r : Row) → q r ≡ true) → (rows : List Row) → filter q rows ≡ rows
all_pass q h [] = refl
all_pass q h (r ∷ rows) = ap₂ (λ t l. cond t (r ∷ l) l) (h r) (all_pass q h rows)

-- ---- tests of numbers

is_below : (a b : ℕ) → is_lt (nat_cmp a b) ≡ nat_lt a b
is_below a b = by (nat_cmp a b) refl
  where
    by : (o : Ordering) → nat_cmp a b ≡ o → is_lt o ≡ nat_lt a b
    by Less e = grind (arith, nat_tests, e)
    by Equal e = grind (arith, nat_tests, e)
    by Greater e = grind (arith, nat_tests, e)

-- ---- ranges

-- a number has a key in the range exactly where it is greater
lies_next : KeysOrder → (table after : ℕ) → after < 2 ^ 32 → (r : Row) → r.id < 2 ^ 32 → lies (next_rows table after) r ≡ nat_lt after r.id
lies_next law table after most r bounded =
    alone (is_le (slice_cmp nat_cmp (after_key (key_bytes (id_value after))) (key_bytes (id_value r.id))))
    ∙ after_from (key_bytes (id_value after)) (key_bytes (id_value r.id))
    ∙ ap is_lt (keys_go law after r.id most bounded)
    ∙ is_below after r.id
  where
    alone : (b : Bool) → ((b && true) || false) ≡ b
    alone true = refl
    alone false = refl

lie_next : KeysOrder → (table after : ℕ) → after < 2 ^ 32 → (rows : List Row) → AllByRecursion (λ (r : Row). r.id < 2 ^ 32) rows → filter (lies (next_rows table after)) rows ≡ past after rows
lie_next law table after most [] h = refl
lie_next law table after most (r ∷ rows) h = ap₂ (λ b l. cond b (r ∷ l) l) (lies_next law table after most r h.0) (lie_next law table after most rows h.1)

-- ---- no error in a test of numbers

clear_next : (table after : ℕ) (rows : List Row) → first_outcome_fault (map (outcome_on (next_rows table after)) rows) ≡ None
clear_next table after [] = refl
clear_next table after (r ∷ rows) = clear_next table after rows

-- ---- what a scan gives

given_next : AskedOnce → KeysOrder → (table after : ℕ) → after < 2 ^ 32 → (rows : List Row) (answer : RowList) → AreInIdOrder rows → All (λ (r : Row). r.id < 2 ^ 32) rows → IsScanned (next_rows table after) rows answer → answer.rows ≡ take 101 (past after rows)
given_next law keys table after most rows answer h bounded (asked, is, answered) =
    ap (λ (a : RowList). a.rows) answered
    ∙ ap (λ o. (rows_or_fault (given_of (next_rows table after) asked) o).rows) (clear_next table after asked)
    ∙ ap (take 101) (all_pass (λ r. is_met (outcome_on (next_rows table after) r)) (λ r. refl) asked)
    ∙ ap (take 101) (asked_is law (next_rows table after) refl rows asked h is)
    ∙ ap (take 101) (lie_next keys table after most rows (recursion_from_All (λ (r : Row). r.id < 2 ^ 32) rows bounded))

-- the last of a list of at most one is that one
last_of_one : (found : Option Row) (xs left : List Row) (o : Option Row) (n m : ℕ) → n ≡ length xs → m ≡ length left → xs ≡ left ++ option_to_list found
    → MatchOption found ((n ≡ 0) × (m ≡ 0)) (λ _. m + 1 ≡ n) → xs ≡ one o → found ≡ o
last_of_one None xs left None n m p q h count e = refl
last_of_one None xs left (Some r) n m p q h count e = absurd (omega (arith, p, count.0, ap length e))
last_of_one (Some x) xs left None n m p q h count e = absurd (omega (arith, p, count, ap length e))
last_of_one (Some x) xs left (Some r) n m p q h count e = by left (sym h ∙ e)
  where
    by : (left : List Row) → left ++ x ∷ [] ≡ r ∷ [] → Some x ≡ Some r
    by [] k = cc
    by (y ∷ []) k = absurd cc
    by (y ∷ (z ∷ zs)) k = absurd cc

pub finds_row : AskedOnce → (table id : ℕ) (answer : RowList) (found : Option Row) (left : List Row) (n m : ℕ) → n ≡ length answer.rows → m ≡ length left → answer.rows ≡ left ++ option_to_list found
    → MatchOption found ((n ≡ 0) × (m ≡ 0)) (λ _. m + 1 ≡ n)
    → (a b : Tables) → Scans (one_row table id) answer a b → FindsRow table id found a b
finds_row law table id answer found left n m p q popped count a b h = (
  λ ordered. last_of_one found answer.rows left (row_with_id id (state_at a.states table).rows) n m p q popped count
      (ap (λ (x : RowList). x.rows) (given_one law table id (state_at a.states table).rows answer ordered (subst (λ rs. IsScanned (one_row table id) rs answer) (rows_are a.states table) h.0))),
  h.1,
)

pub finds_rows : AskedOnce → KeysOrder → (table after : ℕ) → after < 2 ^ 32 → (answer : RowList) → (a b : Tables) → Scans (next_rows table after) answer a b → FindsRows table after answer.rows a b
finds_rows law keys table after most answer a b h = (
  λ (numbered : HasNumberedRows (state_at a.states table)). given_next law keys table after most (state_at a.states table).rows answer numbered.rising numbered.bounded (subst (λ rs. IsScanned (next_rows table after) rs answer) (rows_are a.states table) h.0),
  h.1,
)

-- ---- the rows that are visited

pub visits_none : (table after n : ℕ) (x : Option Tables) → VisitsPast table after x n n
visits_none table after n None = tt
visits_none table after n (Some t) = λ numbered. omega arith

pub visits_past : KeysOrder → (table after : ℕ) → after < 2 ^ 32 → (x : Option Tables) (before now : ℕ) → VisitsTold (rows_told x) (next_rows table after) before now → VisitsPast table after x before now
visits_past law table after most None before now h = tt
visits_past law table after most (Some t) before now h =
    λ (numbered : HasNumberedRows (state_at t.states table)).
    subst (λ (rows : List Row). now ≤ before + length rows)
    (lie_next law table after most (state_at t.states table).rows (recursion_from_All (λ (r : Row). r.id < 2 ^ 32) (state_at t.states table).rows numbered.bounded))
    (subst (λ rows. VisitsItsRanges (next_rows table after) rows before now) (rows_are t.states table) h)

-- ---- rows that fit

last_fits : (P : Row → Type 0) (left : List Row) (x : Row) → AllByRecursion P (left ++ x ∷ []) → P x
last_fits P [] x h = h.0
last_fits P (y ∷ ys) x h = last_fits P ys x h.1

-- the last of rows that fit fits
pub fits_popped : (o : Option TableShape) (xs left : List Row) (found : Option Row) → xs ≡ left ++ option_to_list found
    → IsSomeAnd o (λ (t : TableShape). All (IsRowOf t) xs) → IfSome found (λ row. IsSomeAnd o (λ (t : TableShape). IsRowOf t row))
fits_popped o xs left None e h = tt
fits_popped None xs left (Some x) e h = absurd h
fits_popped (Some t) xs left (Some x) e h = last_fits (IsRowOf t) left x (recursion_from_All (IsRowOf t) (left ++ x ∷ []) (subst (λ l. All (IsRowOf t) l) e h))
