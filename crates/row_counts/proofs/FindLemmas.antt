-- The rows that are found.
use Rattle.std.proofs.Common.{◌≡◌, ℕ, ◌+◌, ◌<◌, ◌^◌, ◌&&◌, ◌||◌, Bool, true, false, cond, List, [], ◌∷◌, ◌++◌, map, filter, take, length, Option, Some, None, refl, ap, ap₂, sym, ◌∙◌, subst, arith}
use Rattle.std.specs.Prelude.{IfSome, IsSomeAnd, MatchOption, nat_lt, option_to_list, slice_get}
use Rattle.std.specs.List.{All, AllByRecursion, find}
use Rattle.std.specs.Ordering.{is_le, is_lt, nat_cmp}
use Rattle.std.specs.Cmp.Lexicographic.{slice_cmp}
use Rattle.std.specs.declared.cmp.Ordering.{Ordering}
use Rattle.std.specs.declared.cmp.Ordering.TheVariants.{Less, Equal, Greater}
use Rattle.std.proofs.lemmas.Bool.Decides.{nat_tests}
use Rattle.std.proofs.lemmas.List.Elements.{recursion_from_All}
use Rattle.fx_base.specs.Silence.{MayFallSilent}
use Rattle.fx_core.specs.declared.schema.TableShape.{TableShape}
use Rattle.fx_value.specs.Keys.{KeysOrder, key_bytes}
use Rattle.fx_value.proofs.ByteOrder.{after_from}
use Rattle.row_queries.specs.Answers.{IsScanAnswer}
use Rattle.row_queries.specs.Laws.{AskedOnce}
use Rattle.row_queries.specs.Queries.{IsScanned, first_outcome_fault, given_of, lies, outcome_on, rows_or_fault}
use Rattle.row_queries.specs.RowTests.{is_met}
use Rattle.row_queries.specs.TableRows.{AreHeldRows, AreInIdOrder, id_value}
use Rattle.row_queries.specs.declared.queries.Query.{Query}
use Rattle.row_queries.specs.declared.rows.Row.{Row}
use Rattle.row_queries.specs.declared.rows.RowList.{RowList}
use Rattle.row_keeper.specs.Changes.{Scans}
use Rattle.row_keeper.specs.Numbered.{one_row}
use Rattle.row_keeper.specs.Tables.{Tables, has_id, rows_told, state_at}
use Rattle.row_keeper.proofs.NumberedRows.{asked_is, given_one, one, rows_are}
use Rattle.row_keeper.proofs.PageLemmas.{keys_go}
use Rattle.row_counts.specs.Filling.{after_key, page_after, past}
use Rattle.row_counts.specs.Looking.{IsFound, IsPage}
use Rattle.row_counts.proofs.Looks.{told_after}

-- ---- the row of a number

-- the last of a list of at most one is that one
last_of_one : (found : Option Row) (xs left : List Row) (o : Option Row) (n m : ℕ) → n ≡ length xs → m ≡ length left → xs ≡ left ++ option_to_list found
    → MatchOption found ((n ≡ 0) × (m ≡ 0)) (λ _. m + 1 ≡ n) → xs ≡ one o → found ≡ o
last_of_one None xs left None n m p q h count e = refl
last_of_one None xs left (Some r) n m p q h count e = absurd (omega (arith, p, count.0, ap length e))
last_of_one (Some x) xs left None n m p q h count e = absurd (omega (arith, p, count, ap length e))
last_of_one (Some x) xs left (Some r) n m p q h count e = by left (sym h ∙ e)
  where
    by : (left : List Row) → left ++ x ∷ [] ≡ r ∷ [] → Some x ≡ Some r
    by [] k = cc
    by (y ∷ []) k = absurd cc
    by (y ∷ (z ∷ zs)) k = absurd cc

pub found_row : AskedOnce → (lost : Type 0) (table id : ℕ) (answer : RowList) (found : Option Row) (left : List Row) (n m : ℕ) → n ≡ length answer.rows → m ≡ length left → answer.rows ≡ left ++ option_to_list found
    → MatchOption found ((n ≡ 0) × (m ≡ 0)) (λ _. m + 1 ≡ n)
    → (a b : Option Tables) → MayFallSilent lost (Scans (one_row table id) answer) a b → IsFound b table id found
found_row law lost table id answer found left n m p q popped count a b g =
    told_after lost (Scans (one_row table id) answer) (λ t. AreInIdOrder (state_at t.states table).rows → found ≡ find (has_id id) (state_at t.states table).rows) a b g
    (λ x y h. subst (λ (t : Tables). AreInIdOrder (state_at t.states table).rows → found ≡ find (has_id id) (state_at t.states table).rows) (sym h.1)
    (λ ordered. last_of_one found answer.rows left (find (has_id id) (state_at x.states table).rows) n m p q popped count
    (ap (λ (z : RowList). z.rows) (given_one law table id (state_at x.states table).rows answer ordered (subst (λ rs. IsScanned (one_row table id) rs answer) (rows_are x.states table) h.0)))))

-- ---- the rows of greater numbers
all_pass : (q : Row → Bool) → ((r : Row) → q r ≡ true) → (rows : List Row) → filter q rows ≡ rows
all_pass q h [] = refl
all_pass q h (r ∷ rows) = ap₂ (λ t l. cond t (r ∷ l) l) (h r) (all_pass q h rows)

is_below : (a b : ℕ) → is_lt (nat_cmp a b) ≡ nat_lt a b
is_below a b = by (nat_cmp a b) refl
  where
    by : (o : Ordering) → nat_cmp a b ≡ o → is_lt o ≡ nat_lt a b
    by Less e = grind (arith, nat_tests, e)
    by Equal e = grind (arith, nat_tests, e)
    by Greater e = grind (arith, nat_tests, e)

-- a number has a key in the range exactly where it is greater
lies_next : KeysOrder → (table after : ℕ) → after < 2 ^ 32 → (r : Row) → r.id < 2 ^ 32 → lies (page_after table after) r ≡ nat_lt after r.id
lies_next law table after most r bounded =
    alone (is_le (slice_cmp nat_cmp (after_key (key_bytes (id_value after))) (key_bytes (id_value r.id))))
    ∙ after_from (key_bytes (id_value after)) (key_bytes (id_value r.id))
    ∙ ap is_lt (keys_go law after r.id most bounded)
    ∙ is_below after r.id
  where
    alone : (b : Bool) → ((b && true) || false) ≡ b
    alone true = refl
    alone false = refl

lie_next : KeysOrder → (table after : ℕ) → after < 2 ^ 32 → (rows : List Row) → AllByRecursion (λ (r : Row). r.id < 2 ^ 32) rows → filter (lies (page_after table after)) rows ≡ past after rows
lie_next law table after most [] h = refl
lie_next law table after most (r ∷ rows) h = ap₂ (λ b l. cond b (r ∷ l) l) (lies_next law table after most r h.0) (lie_next law table after most rows h.1)

clear_next : (table after : ℕ) (rows : List Row) → first_outcome_fault (map (outcome_on (page_after table after)) rows) ≡ None
clear_next table after [] = refl
clear_next table after (r ∷ rows) = clear_next table after rows

given_next : AskedOnce → KeysOrder → (table after : ℕ) → after < 2 ^ 32 → (rows : List Row) (answer : RowList) → AreInIdOrder rows → All (λ (r : Row). r.id < 2 ^ 32) rows → IsScanned (page_after table after) rows answer → answer.rows ≡ take 1000 (past after rows)
given_next law keys table after most rows answer h bounded (asked, is, answered) =
    ap (λ (a : RowList). a.rows) answered
    ∙ ap (λ o. (rows_or_fault (given_of (page_after table after) asked) o).rows) (clear_next table after asked)
    ∙ ap (take 1000) (all_pass (λ r. is_met (outcome_on (page_after table after) r)) (λ r. refl) asked)
    ∙ ap (take 1000) (asked_is law (page_after table after) refl rows asked h is)
    ∙ ap (take 1000) (lie_next keys table after most rows (recursion_from_All (λ (r : Row). r.id < 2 ^ 32) rows bounded))

pub found_page : AskedOnce → KeysOrder → (lost : Type 0) (table after : ℕ) → after < 2 ^ 32 → (answer : RowList) (a b : Option Tables) → MayFallSilent lost (Scans (page_after table after) answer) a b → IsPage b table after answer.rows
found_page law keys lost table after most answer a b g =
    told_after lost (Scans (page_after table after) answer) (λ t. AreInIdOrder (state_at t.states table).rows → All (λ (r : Row). r.id < 2 ^ 32) (state_at t.states table).rows → answer.rows ≡ take 1000 (past after (state_at t.states table).rows)) a b g
    (λ x y h. subst (λ (t : Tables). AreInIdOrder (state_at t.states table).rows → All (λ (r : Row). r.id < 2 ^ 32) (state_at t.states table).rows → answer.rows ≡ take 1000 (past after (state_at t.states table).rows)) (sym h.1)
    (λ ordered bounded. given_next law keys table after most (state_at x.states table).rows answer ordered bounded (subst (λ rs. IsScanned (page_after table after) rs answer) (rows_are x.states table) h.0)))

-- ---- the rows of which a page is are such as a program can hold
pub held_scanned : (shapes : List TableShape) (told : Option Tables) (q : Query) (answer : RowList) → IsScanAnswer shapes (rows_told told) q answer
    → IfSome told (λ x. IsSomeAnd (slice_get shapes q.table) (λ t. AreHeldRows t (state_at x.states q.table).rows))
held_scanned shapes None q answer h = tt
held_scanned shapes (Some x) q answer (t, rows, is, scanned) =
    subst (λ (o : Option TableShape). IsSomeAnd o (λ u. AreHeldRows u (state_at x.states q.table).rows)) (sym is.is_table)
    (subst (AreHeldRows t) (is.told_rows ∙ rows_are x.states q.table) is.held)

-- the last of rows that fit fits
last_fits : (P : Row → Type 0) (left : List Row) (x : Row) → AllByRecursion P (left ++ x ∷ []) → P x
last_fits P [] x h = h.0
last_fits P (y ∷ ys) x h = last_fits P ys x h.1
