-- What queries answer of the rows that they ask.
use Rattle.std.proofs.Common.{◌≡◌, ◌⊎◌, inl, inr, ⊎_elim, ◌≤◌, ◌<◌, drop, List, [], ◌∷◌, map, length, take, refl, sym, ap, ap₂, ◌∙◌, arith, Bool, true, false, ℕ, Option, None, Some, subst}
use Rattle.std.specs.Prelude.{IsSomeAnd, MatchOption, min, slice_get, unwrap_or}
use Rattle.std.specs.List.{All, AllByRecursion, filter}
use Rattle.std.proofs.lemmas.List.{length-take, take-append-drop, take-append-le, take_all, take_min}
use Rattle.std.proofs.lemmas.List.Sorted.{length_permutation}
use Rattle.std.proofs.lemmas.List.Elements.{All-filter, All-from_recursion, All-take, filter-append}
use Rattle.fx_types.specs.Values.{Data, blank, boolean, fault}
use Rattle.fx_types.specs.declared.faults.Fault.{Fault}
use Rattle.fx_types.specs.declared.aggregates.Totals.{Totals}
use Rattle.fx_value.specs.Aggregates.{SumsUp, numbers_in}
use Rattle.fx_core.specs.declared.schema.TableShape.{TableShape}
use Rattle.row_queries.specs.Conditions.{Condition, ConditionList, all_of, also, always, any_of, compares, constant, contains, flag, is_blank, no_conditions, opposite, starts}
use Rattle.row_queries.specs.Queries.{AreAsked, IsQuery, IsScanned, IsTotalled, lies, first_outcome_fault, first_of, given_of, outcome_on, rows_or_fault}
use Rattle.row_queries.specs.RowTests.{CanAsk, CanAskAll, HasNoFaults, HaveNoFaults, IsFaultOr, IsNoFault, IsTruth, Outcome, all_outcome, and_outcome, any_outcome, decided, decided_by, failed, outcome_fault, is_met, met, or_outcome, outcome, reversed, unless_fault, unmet}
use Rattle.row_queries.specs.TableRows.{IsRowOf, value_at, values_of}
use Rattle.row_queries.specs.Visits.{VisitsAtLeast}
use Rattle.row_queries.specs.declared.queries.Query.{Query}
use Rattle.row_queries.specs.declared.rows.Row.{Row}
use Rattle.row_keeper.specs.Pages.{AreFirstRows, CountsAsked, QueryGives, IsPage}
use Rattle.row_keeper.proofs.StoreLemmas.{shorter}

-- ---- a test without errors as constants is no error on a row that it can be asked of
truth : (d : Data) → IsTruth d → outcome_fault (decided_by d) ≡ None
truth (boolean true) h = refl
truth (boolean false) h = refl
truth blank h = refl
truth d h = absurd h

truth_at : (o : Option Data) → IsSomeAnd o IsTruth → outcome_fault (decided_by (unwrap_or o blank)) ≡ None
truth_at None h = absurd h
truth_at (Some d) h = truth d h

truth_given : (d : Data) → IsFaultOr IsTruth d → IsNoFault d → outcome_fault (decided_by d) ≡ None
truth_given (fault k cs) h n = absurd n
truth_given (boolean true) h n = refl
truth_given (boolean false) h n = refl
truth_given blank h n = refl
truth_given d h n = absurd h

decided_sound : (b : Bool) → outcome_fault (decided b) ≡ None
decided_sound true = refl
decided_sound false = refl

unless_sound : (d : Data) (b : Bool) → IsNoFault d → outcome_fault (unless_fault d (decided b)) ≡ None
unless_sound (fault k cs) b n = absurd n
unless_sound d b n = decided_sound b

reversed_sound : (o : Outcome) → outcome_fault o ≡ None → outcome_fault (reversed o) ≡ None
reversed_sound met h = refl
reversed_sound unmet h = refl
reversed_sound (failed k cs) h = h

and_sound : (o p : Outcome) → outcome_fault o ≡ None → outcome_fault p ≡ None → outcome_fault (and_outcome o p) ≡ None
and_sound met p h k = k
and_sound unmet p h k = refl
and_sound (failed kind cs) p h k = h

or_sound : (o p : Outcome) → outcome_fault o ≡ None → outcome_fault p ≡ None → outcome_fault (or_outcome o p) ≡ None
or_sound met p h k = refl
or_sound unmet p h k = k
or_sound (failed kind cs) p h k = h

mutual
  no_fault : (row : List Data) (c : Condition) → CanAsk row c → HasNoFaults c → outcome_fault (outcome row c) ≡ None
  no_fault row always h n = refl
  no_fault row (flag k) h n = truth_at (slice_get row k) h
  no_fault row (constant d) h n = truth_given d h n
  no_fault row (compares op k d) h n = unless_sound d _ n
  no_fault row (is_blank k) h n = decided_sound _
  no_fault row (starts k d) h n = unless_sound d _ n
  no_fault row (contains k d) h n = unless_sound d _ n
  no_fault row (all_of cs) h n = no_fault_all row cs h n
  no_fault row (any_of cs) h n = no_fault_any row cs h n
  no_fault row (opposite c) h n = reversed_sound (outcome row c) (no_fault row c h n)

  no_fault_all : (row : List Data) (cs : ConditionList) → CanAskAll row cs → HaveNoFaults cs → outcome_fault (all_outcome row cs) ≡ None
  no_fault_all row no_conditions h n = refl
  no_fault_all row (also c cs) h n = and_sound (outcome row c) (all_outcome row cs) (no_fault row c h.0 n.0) (no_fault_all row cs h.1 n.1)

  no_fault_any : (row : List Data) (cs : ConditionList) → CanAskAll row cs → HaveNoFaults cs → outcome_fault (any_outcome row cs) ≡ None
  no_fault_any row no_conditions h n = refl
  no_fault_any row (also c cs) h n = or_sound (outcome row c) (any_outcome row cs) (no_fault row c h.0 n.0) (no_fault_any row cs h.1 n.1)

next_fault : (o : Outcome) (os : List Outcome) → outcome_fault o ≡ None → first_outcome_fault os ≡ None → first_outcome_fault (o ∷ os) ≡ None
next_fault met os h k = k
next_fault unmet os h k = k
next_fault (failed kind cs) os h k = absurd cc

pub no_faults : (q : Query) (rows : List Row) → AllByRecursion (λ (r : Row). CanAsk (values_of r) q.test) rows → HasNoFaults q.test → first_outcome_fault (map (outcome_on q) rows) ≡ None
no_faults q [] h n = refl
no_faults q (r ∷ rows) h n = next_fault (outcome_on q r) (map (outcome_on q) rows) (no_fault (values_of r) q.test h.0 n) (no_faults q rows h.1 n)

-- the rows that were judged, where there is no error
pub judged_rows : (q : Query) (asked rows : List Row) (f : Option Fault) → first_outcome_fault (map (outcome_on q) asked) ≡ None
    → MatchOption f ((first_outcome_fault (map (outcome_on q) asked) ≡ None) × (rows ≡ filter (λ r. is_met (outcome_on q r)) asked)) (λ x. first_outcome_fault (map (outcome_on q) asked) ≡ Some x)
    → rows ≡ filter (λ r. is_met (outcome_on q r)) asked
judged_rows q asked rows None n h = h.1
judged_rows q asked rows (Some x) n h = absurd (let e : None ≡ Some x = sym n ∙ h in cc)

-- ---- rows that are asked can be asked
pub asks : (shapes : List TableShape) (q : Query) (rows : List Row) → IsQuery shapes q → IsSomeAnd (slice_get shapes q.table) (λ (t : TableShape). AllByRecursion (IsRowOf t) rows) → AllByRecursion (λ (r : Row). CanAsk (values_of r) q.test) rows
asks shapes q rows is fit = all rows (subst (λ o. IsSomeAnd o (λ (t : TableShape). AllByRecursion (IsRowOf t) rows)) is.is_table fit)
  where
    all : (rs : List Row) → AllByRecursion (IsRowOf is.table) rs → AllByRecursion (λ (r : Row). CanAsk (values_of r) q.test) rs
    all [] h = tt
    all (r ∷ rs) h = (is.asks r h.0, all rs h.1)

-- ---- what is given is some of what is asked
given_fits : (P : Row → Type 0) (q : Query) (asked : List Row) → All P asked → All P (given_of q asked)
given_fits P q asked h = by q.take (All-filter (λ r. is_met (outcome_on q r)) P asked h)
  where
    by : (most : Option ℕ) → All P (filter (λ r. is_met (outcome_on q r)) asked) → All P (first_of most (filter (λ r. is_met (outcome_on q r)) asked))
    by None k = k
    by (Some n) k = All-take P n _ k

pub answer_fits : (o : Option TableShape) (q : Query) (asked : List Row) (f : Option Fault) → IsSomeAnd o (λ (t : TableShape). AllByRecursion (IsRowOf t) asked)
    → IsSomeAnd o (λ (t : TableShape). All (IsRowOf t) (rows_or_fault (given_of q asked) f).rows)
answer_fits None q asked f h = absurd h
answer_fits (Some t) q asked None h = given_fits (IsRowOf t) q asked (All-from_recursion (IsRowOf t) asked h)
answer_fits (Some t) q asked (Some x) h = All-from_recursion (IsRowOf t) [] tt

pub given_short : (q : Query) (asked : List Row) → length (given_of q asked) ≤ length asked
given_short q asked = by q.take (shorter (λ r. is_met (outcome_on q r)) asked)
  where
    by : (most : Option ℕ) → length (filter (λ r. is_met (outcome_on q r)) asked) ≤ length asked → length (first_of most (filter (λ r. is_met (outcome_on q r)) asked)) ≤ length asked
    by None k = k
    by (Some n) k = let e = length-take n (filter (λ r. is_met (outcome_on q r)) asked) in omega (arith, e, k)

pub answer_short : (q : Query) (asked : List Row) (f : Option Fault) → length (rows_or_fault (given_of q asked) f).rows ≤ length asked
answer_short q asked None = given_short q asked
answer_short q asked (Some x) = omega arith

-- what the values of the rows that are given come to
pub totalled : (q : Query) (rows asked given : List Row) (column : ℕ) (values : List Data) (totals : Totals) → AreAsked q rows asked → given ≡ given_of q asked → values ≡ map (λ (r : Row). value_at (values_of r) column) given
    → SumsUp (numbers_in values) totals → IsTotalled q rows column totals
totalled q rows asked given column values totals is e f h = (asked, is, subst (λ (vs : List Data). SumsUp (numbers_in vs) totals) (f ∙ ap (map (λ (r : Row). value_at (values_of r) column)) e) h)

-- ---- a query that takes the first rows
enough_met : (p : Row → Bool) (asked : List Row) (most size : ℕ) → (most ≤ length (filter p (take size asked))) ⊎ (length (take size asked) < size) → take most (filter p (take size asked)) ≡ take most (filter p asked)
enough_met p asked most size (inl h) =
    sym (take-append-le most (filter p (take size asked)) (filter p (drop size asked)) h)
    ∙ ap (take most) (sym (filter-append p (take size asked) (drop size asked)) ∙ ap (filter p) (take-append-drop size asked))
enough_met p asked most size (inr h) =
    let e = length-take size asked in
    ap (λ l. take most (filter p l)) (take_all size asked (omega (arith, e, h)))

-- the first so many are as many as were counted, or all
enough_asked : (p : Row → Bool) (o : Option ℕ) (asked first judged : List Row) (most size count found : ℕ) → o ≡ Some most → first ≡ take size asked → judged ≡ filter p first → count ≡ length first → found ≡ length judged → (most ≤ found) ⊎ (count < size)
    → (length asked ≤ count) ⊎ IsSomeAnd o (λ n. n ≤ length (filter p (take count asked)))
enough_asked p o asked first judged most size count found t e j c m (inl h) =
    let n = ap (λ (l : List Row). length l) e in
    let l = length-take size asked in
    let at : count ≡ min size (length asked) = omega (arith, n, l, c) in
    let same : take count asked ≡ first = ap (λ k. take k asked) at ∙ take_min size asked ∙ sym e in
    let k = ap (λ (l : List Row). length l) j in
    let f = ap (λ (l : List Row). length (filter p l)) same in
    inr (subst (λ x. IsSomeAnd x (λ n. n ≤ length (filter p (take count asked)))) (sym t) (omega (arith, h, m, k, f)))
enough_asked p o asked first judged most size count found t e j c m (inr h) =
    let n = ap (λ (l : List Row). length l) e in
    let l = length-take size asked in
    inl (omega (arith, n, l, c, h))

pub page_is : (q : Query) (rows first judged : List Row) (most size count found : ℕ) → IsPage q most → AreFirstRows q rows size first → ((asked : List Row) → AreAsked q rows asked → AllByRecursion (λ (r : Row). CanAsk (values_of r) q.test) asked)
    → judged ≡ filter (λ r. is_met (outcome_on q r)) first → count ≡ length first → found ≡ length judged → (most ≤ found) ⊎ (count < size) → QueryGives q rows (first_of q.take judged) count
page_is q rows first judged most size count found is (asked, are, e) able j c m enough = record {
  asked = asked;
  are = are;
  sound = no_faults q asked (able asked are) is.sound;
  are_given =
      ap (λ o. first_of o judged) is.take ∙ ap (take most) (j ∙ ap (filter passes) e)
      ∙ enough_met passes asked most size (⊎_elim (λ h. inl (let n = ap (λ (l : List Row). length l) (j ∙ ap (filter passes) e) in omega (arith, h, m, n))) (λ h. inr (let n = ap (λ (l : List Row). length l) e in omega (arith, h, c, n))) enough)
      ∙ ap (λ o. first_of o (filter passes asked)) (sym is.take);
  least =
      let n = ap (λ o. length (first_of o judged)) is.take in
      let l = length-take most judged in
      let k = ap (λ (l : List Row). length l) j in
      let s = shorter passes first in
      omega (arith, n, l, k, s, c);
  most =
      let n = ap (λ (l : List Row). length l) e in
      let l = length-take size asked in
      let p = length_permutation (filter (lies q) rows) asked are.rearranged in
      omega (arith, n, l, p, c);
  enough = enough_asked passes q.take asked first judged most size count found is.take e j c m enough;
}
  where
    passes : Row → Bool
    passes r = is_met (outcome_on q r)

pub all_given : (q : Query) (rows asked given : List Row) (most count : ℕ) → IsPage q most → AreAsked q rows asked → AllByRecursion (λ (r : Row). CanAsk (values_of r) q.test) asked → given ≡ given_of q asked → count ≡ length asked → QueryGives q rows given count
all_given q rows asked given most count is are able e c = record {
  asked = asked;
  are = are;
  sound = no_faults q asked able is.sound;
  are_given = e;
  least = let n = ap (λ (l : List Row). length l) e in let s = given_short q asked in omega (arith, n, s, c);
  most = let p = length_permutation (filter (lies q) rows) asked are.rearranged in omega (arith, p, c);
  enough = inl (omega (arith, c));
}

pub scanned_is : (q : Query) (rows given : List Row) (count : ℕ) → QueryGives q rows given count → IsScanned q rows (record { rows = given; fault = None })
scanned_is q rows given count h = (h.asked, h.are, ap₂ rows_or_fault h.are_given (sym h.sound))

pub first_fits : (o : Option TableShape) (q : Query) (first judged : List Row) → IsSomeAnd o (λ (t : TableShape). AllByRecursion (IsRowOf t) first) → judged ≡ filter (λ r. is_met (outcome_on q r)) first
    → IsSomeAnd o (λ (t : TableShape). All (IsRowOf t) (first_of q.take judged))
first_fits None q first judged h e = absurd h
first_fits (Some t) q first judged h e = subst (λ (l : List Row). All (IsRowOf t) (first_of q.take l)) (sym e) (given_fits (IsRowOf t) q first (All-from_recursion (IsRowOf t) first h))

pub all_fits : (o : Option TableShape) (q : Query) (asked given : List Row) → IsSomeAnd o (λ (t : TableShape). AllByRecursion (IsRowOf t) asked) → given ≡ given_of q asked → IsSomeAnd o (λ (t : TableShape). All (IsRowOf t) given)
all_fits None q asked given h e = absurd h
all_fits (Some t) q asked given h e = subst (All (IsRowOf t)) (sym e) (given_fits (IsRowOf t) q asked (All-from_recursion (IsRowOf t) asked h))

-- ---- all that is asked is counted
pub asked_counted : (q : Query) (rows asked : List Row) (given before now : ℕ) → AreAsked q rows asked → given ≤ length asked → VisitsAtLeast (length asked) before now → CountsAsked q rows given before now
asked_counted q rows asked given before now are less h = record { asked = asked; are = are; count = length asked; enough = inl (omega arith); least = less; counted = h }

pub page_counted : (q : Query) (rows given : List Row) (count before now : ℕ) → QueryGives q rows given count → VisitsAtLeast count before now → CountsAsked q rows (length given) before now
page_counted q rows given count before now is h = record { asked = is.asked; are = is.are; count = count; enough = is.enough; least = is.least; counted = h }

pub given_counted : (q : Query) (rows : List Row) (given before now : ℕ) → CountsAsked q rows given before now → VisitsAtLeast given before now
given_counted q rows given before now is = let l = is.least in let h = is.counted in omega (arith, l, h)

pub all_counted : (q : Query) (rows asked : List Row) (before now : ℕ) → AreAsked q rows asked → VisitsAtLeast (length asked) before now → VisitsAtLeast (length (filter (lies q) rows)) before now
all_counted q rows asked before now are h = let p = length_permutation (filter (lies q) rows) asked are.rearranged in omega (arith, p, h)
