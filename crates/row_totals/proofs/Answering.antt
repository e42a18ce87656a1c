-- What a keeper with kept totals answers of all rows of a table.
use Rattle.std.proofs.Common.{◌≡◌, ℕ, zero, suc, ◌<◌, ◌≤◌, ◌^◌, ℤ, List, [], ◌∷◌, length, Bool, true, false, Option, Some, None, refl, sym, ap, subst, ◌∙◌, arith}
use Rattle.std.specs.Prelude.{IfSome, IsSome, IsSomeAnd, slice_get}
use Rattle.std.specs.Cmp.{IsTotalOrder}
use Rattle.std.specs.List.{All, AllByRecursion}
use Rattle.std.proofs.lemmas.List.Elements.{All-from_recursion, All-head, All-tail}
use Rattle.fx_base.specs.Silence.{MayFallSilent}
use Rattle.fx_types.specs.TypeView.{shape}
use Rattle.fx_types.specs.Types.{numbers}
use Rattle.fx_types.specs.declared.aggregates.Totals.{Totals}
use Rattle.fx_core.specs.declared.schema.Column.{Column}
use Rattle.fx_core.specs.declared.schema.Schema.{Schema}
use Rattle.fx_core.specs.declared.schema.TableShape.{TableShape}
use Rattle.fx_value.specs.Order.{order}
use Rattle.number_bags.specs.Rising.{AreSame}
use Rattle.number_bags.proofs.SumLemmas.{same_sums}
use Rattle.row_queries.specs.Answers.{IsCountAnswer, IsTotalAnswer}
use Rattle.row_queries.specs.Queries.{CanTotal, IsOfNumbers, IsQuery}
use Rattle.row_queries.specs.TableRows.{AreHeldRows, IsHeldRow, IsRowOf, rows_at}
use Rattle.row_queries.specs.declared.queries.Query.{Query}
use Rattle.row_queries.specs.declared.rows.Row.{Row}
use Rattle.row_keeper.specs.Changes.{CountsQuery, TotalsUp}
use Rattle.row_keeper.specs.Tables.{AreStatesOf, IsStateOf, TableState, Tables, rows_of_tables, rows_told, shapes_of, state_at}
use Rattle.row_keeper.proofs.HeldLemmas.{held_of}
use Rattle.row_keeper.proofs.NumberedRows.{rows_are}
use Rattle.row_counts.specs.Columns.{column_of}
use Rattle.row_books.specs.Numbers.{IsCountOf, IsTotal, IsTotalOf, column_in}
use Rattle.row_counts.specs.Right.{AreCounted, AreInRanges, AreRowNumbers, HaveProperRows}
use Rattle.row_totals.specs.Kept.{shape_if}
use Rattle.row_counts.specs.Whole.{IsOfAllRows}
use Rattle.row_counts.proofs.Steps.{state_there}
use Rattle.row_totals.proofs.WholeLemmas.{count_answer, counted_all, total_answer, totalled_all}

-- ---- the rows that are told are such as a program can hold
held_each : (t : TableShape) (last : ℕ) (rows : List Row) → last < 2 ^ 32 → All (IsRowOf t) rows → All (λ (r : Row). r.id ≤ last) rows → AreInRanges rows → AllByRecursion (IsHeldRow t) rows
held_each t last [] few fit given proper = tt
held_each t last (r ∷ rows) few fit given proper =
    let l = All-head (λ (r : Row). r.id ≤ last) r rows given in
    (held_of t r (omega (arith, few, l)) (All-head (IsRowOf t) r rows fit) proper.0, held_each t last rows few (All-tail (IsRowOf t) r rows fit) (All-tail (λ (r : Row). r.id ≤ last) r rows given) proper.1)

held_state : (t : TableShape) (s : TableState) → IsStateOf t s → AreInRanges s.rows → AreHeldRows t s.rows
held_state t s h proper = (h.rising, All-from_recursion (IsHeldRow t) s.rows (held_each t s.last s.rows h.bounded h.fit h.given proper))

held_told : (s : Schema) (t : Tables) (k : ℕ) (shape : TableShape) → slice_get s.tables k ≡ Some shape → AreStatesOf s.tables t.states → HaveProperRows s.tables t → AreHeldRows shape (rows_at (rows_of_tables t.states) k)
held_told s t k shape there fits proper = subst (AreHeldRows shape) (sym (rows_are t.states k)) (held_state shape (state_at t.states k) (state_there s.tables t k shape fits there) (proper k shape there))

-- ---- how many there are
ids_length : (rows : List Row) → length (column_of rows 0) ≡ length rows
ids_length [] = refl
ids_length (r ∷ rows) = ap suc (ids_length rows)

column_told : (told : Option Tables) (table j : ℕ) (counted : List (List (List ℤ))) (zs : List ℤ) → column_in counted table j ≡ Some zs
    → IfSome told (λ t. (table j : ℕ) → IfSome (column_in counted table j) (λ ys. AreSame ys (column_of (state_at t.states table).rows j)))
    → IfSome told (λ t. AreSame zs (column_of (rows_at (rows_of_tables t.states) table) j))
column_told None table j counted zs e h = tt
column_told (Some t) table j counted zs e h = subst (λ rows. AreSame zs (column_of rows j)) (sym (rows_are t.states table)) (subst (λ o. IfSome o (λ ys. AreSame ys (column_of (state_at t.states table).rows j))) e (h table j))

-- ---- a query of all rows, of a keeper that is filled
module _ (law : IsTotalOrder order) (s : Schema) (told : Option Tables) (counted : List (List (List ℤ))) (q : Query) (t : TableShape) (w : IsOfAllRows q) (there : slice_get s.tables q.table ≡ Some t)
    (fits : IfSome told (λ (x : Tables). AreStatesOf s.tables x.states)) (c : AreCounted (Some s) counted told) where
  count_some : (o : Option (List ℤ)) (n : ℕ) → column_in counted q.table 0 ≡ o → IsCountOf o (Some n) → (n < 2 ^ 32) × IfSome told (λ x. AreHeldRows t (rows_at (rows_of_tables x.states) q.table) × (n ≡ length (rows_at (rows_of_tables x.states) q.table)))
  count_some None n e h = absurd cc
  count_some (Some zs) n e h = (h.1, each told fits c.proper (column_told told q.table 0 counted zs e c.right))
    where
      each : (o : Option Tables) → IfSome o (λ (x : Tables). AreStatesOf s.tables x.states) → IfSome o (HaveProperRows s.tables) → IfSome o (λ x. AreSame zs (column_of (rows_at (rows_of_tables x.states) q.table) 0))
          → IfSome o (λ x. AreHeldRows t (rows_at (rows_of_tables x.states) q.table) × (n ≡ length (rows_at (rows_of_tables x.states) q.table)))
      each None f p a = tt
      each (Some x) f p a = (held_told s x q.table t there f p, h.0 ∙ (same_sums zs (column_of (rows_at (rows_of_tables x.states) q.table) 0) a).0 ∙ ids_length (rows_at (rows_of_tables x.states) q.table))

  count_is : (n : ℕ) → IsCountOf (column_in counted q.table 0) (Some n) → IsCountAnswer s.tables (rows_told told) q n
  count_is n h = let k = count_some (column_in counted q.table 0) n refl h in count_answer law s.tables (rows_told told) q t n w there k.0 (rows told k.1)
    where
      rows : (o : Option Tables) → IfSome o (λ x. AreHeldRows t (rows_at (rows_of_tables x.states) q.table) × (n ≡ length (rows_at (rows_of_tables x.states) q.table))) → IfSome (rows_told o) (λ tables. AreHeldRows t (rows_at tables q.table) × (n ≡ length (rows_at tables q.table)))
      rows None h = tt
      rows (Some x) h = h

  count_goes : (lost : Type 0) (n : ℕ) → IsCountOf (column_in counted q.table 0) (Some n) → MayFallSilent lost (CountsQuery q n) told told
  count_goes lost n h = goes told (count_some (column_in counted q.table 0) n refl h).1
    where
      goes : (o : Option Tables) → IfSome o (λ x. AreHeldRows t (rows_at (rows_of_tables x.states) q.table) × (n ≡ length (rows_at (rows_of_tables x.states) q.table))) → MayFallSilent lost (CountsQuery q n) o o
      goes None h = refl
      goes (Some x) h = (counted_all law q w (rows_at (rows_of_tables x.states) q.table) n h.1, refl)

  total_some : (j : ℕ) (o : Option (List ℤ)) (totals : Totals) → column_in counted q.table j ≡ o → IsTotalOf o (Some totals)
      → (zs : List ℤ) × IsTotal zs totals × (j ≡ 0 → AreRowNumbers zs) × IfSome told (λ x. AreHeldRows t (rows_at (rows_of_tables x.states) q.table) × AreSame zs (column_of (rows_at (rows_of_tables x.states) q.table) j))
  total_some j None totals e h = absurd cc
  total_some j (Some zs) totals e h = (zs, h, ids j e, each told fits c.proper (column_told told q.table j counted zs e c.right))
    where
      ids : (j : ℕ) → column_in counted q.table j ≡ Some zs → j ≡ 0 → AreRowNumbers zs
      ids zero e z = subst (λ o. IfSome o AreRowNumbers) e (c.rows q.table)
      ids (suc k) e z = absurd cc

      each : (o : Option Tables) → IfSome o (λ (x : Tables). AreStatesOf s.tables x.states) → IfSome o (HaveProperRows s.tables) → IfSome o (λ x. AreSame zs (column_of (rows_at (rows_of_tables x.states) q.table) j))
          → IfSome o (λ x. AreHeldRows t (rows_at (rows_of_tables x.states) q.table) × AreSame zs (column_of (rows_at (rows_of_tables x.states) q.table) j))
      each None f p a = tt
      each (Some x) f p a = (held_told s x q.table t there f p, a)

  total_is : (j : ℕ) (totals : Totals) → IsOfNumbers t j → IsTotalOf (column_in counted q.table j) (Some totals) → IsTotalAnswer s.tables (rows_told told) q j totals
  total_is j totals of h =
      let k = total_some j (column_in counted q.table j) totals refl h in
      total_answer law s.tables (rows_told told) q t j k.0 totals w there of k.1.sums k.1.in_range k.1.rising k.1.few k.2 (rows told k.0 k.3)
    where
      rows : (o : Option Tables) (zs : List ℤ) → IfSome o (λ x. AreHeldRows t (rows_at (rows_of_tables x.states) q.table) × AreSame zs (column_of (rows_at (rows_of_tables x.states) q.table) j))
          → IfSome (rows_told o) (λ tables. AreHeldRows t (rows_at tables q.table) × AreSame zs (column_of (rows_at tables q.table) j))
      rows None zs h = tt
      rows (Some x) zs h = h

  total_goes : (lost : Type 0) (j : ℕ) (totals : Totals) → IsTotalOf (column_in counted q.table j) (Some totals) → MayFallSilent lost (TotalsUp q j totals) told told
  total_goes lost j totals h = let k = total_some j (column_in counted q.table j) totals refl h in goes told k.0 k.1 k.3
    where
      goes : (o : Option Tables) (zs : List ℤ) → IsTotal zs totals → IfSome o (λ x. AreHeldRows t (rows_at (rows_of_tables x.states) q.table) × AreSame zs (column_of (rows_at (rows_of_tables x.states) q.table) j)) → MayFallSilent lost (TotalsUp q j totals) o o
      goes None zs of h = refl
      goes (Some x) zs of h = (totalled_all law q w (rows_at (rows_of_tables x.states) q.table) j zs totals h.1 of.sums, refl)

-- ---- the same, as a keeper is shaped
no_table : (q : Query) → IsQuery [] q → ⊥
no_table q h = let e = h.is_table in cc

at_table : (s : Schema) (q : Query) (j : ℕ) (h : IsQuery s.tables q) → CanTotal s.tables q j → IsOfNumbers h.table j
at_table s q j h of = subst (λ (o : Option TableShape). IsSomeAnd o (λ t. IsOfNumbers t j)) h.is_table of

module _ (law : IsTotalOrder order) (told : Option Tables) (counted : List (List (List ℤ))) (q : Query) (w : IsOfAllRows q) where
  pub count_whole : (is : Bool) (inner : Option Schema) (n : ℕ) → IsQuery (shapes_of (shape_if is inner)) q → IfSome inner (λ s. IfSome told (λ (x : Tables). AreStatesOf s.tables x.states)) → (is ≡ true → AreCounted inner counted told)
      → IsCountOf (column_in counted q.table 0) (Some n) → IsCountAnswer (shapes_of (shape_if is inner)) (rows_told told) q n
  count_whole false inner n query fits h of = absurd (no_table q query)
  count_whole true None n query fits h of = absurd (no_table q query)
  count_whole true (Some s) n query fits h of = count_is law s told counted q query.table w query.is_table fits (h refl) n of

  pub count_stays : (lost : Type 0) (is : Bool) (inner : Option Schema) (n : ℕ) → IsQuery (shapes_of (shape_if is inner)) q → IfSome inner (λ s. IfSome told (λ (x : Tables). AreStatesOf s.tables x.states)) → (is ≡ true → AreCounted inner counted told)
      → IsCountOf (column_in counted q.table 0) (Some n) → MayFallSilent lost (CountsQuery q n) told told
  count_stays lost false inner n query fits h of = absurd (no_table q query)
  count_stays lost true None n query fits h of = absurd (no_table q query)
  count_stays lost true (Some s) n query fits h of = count_goes law s told counted q query.table w query.is_table fits (h refl) lost n of

  pub total_whole : (is : Bool) (inner : Option Schema) (j : ℕ) (totals : Totals) → IsQuery (shapes_of (shape_if is inner)) q → CanTotal (shapes_of (shape_if is inner)) q j → IfSome inner (λ s. IfSome told (λ (x : Tables). AreStatesOf s.tables x.states))
      → (is ≡ true → AreCounted inner counted told) → IsTotalOf (column_in counted q.table j) (Some totals) → IsTotalAnswer (shapes_of (shape_if is inner)) (rows_told told) q j totals
  total_whole false inner j totals query can fits h of = absurd (no_table q query)
  total_whole true None j totals query can fits h of = absurd (no_table q query)
  total_whole true (Some s) j totals query can fits h of = total_is law s told counted q query.table w query.is_table fits (h refl) j totals (at_table s q j query can) of

  pub total_stays : (lost : Type 0) (is : Bool) (inner : Option Schema) (j : ℕ) (totals : Totals) → IsQuery (shapes_of (shape_if is inner)) q → IfSome inner (λ s. IfSome told (λ (x : Tables). AreStatesOf s.tables x.states)) → (is ≡ true → AreCounted inner counted told)
      → IsTotalOf (column_in counted q.table j) (Some totals) → MayFallSilent lost (TotalsUp q j totals) told told
  total_stays lost false inner j totals query fits h of = absurd (no_table q query)
  total_stays lost true None j totals query fits h of = absurd (no_table q query)
  total_stays lost true (Some s) j totals query fits h of = total_goes law s told counted q query.table w query.is_table fits (h refl) lost j totals of

-- ---- there is always an answer
column_within : (cs : List Column) (t : TableShape) (j : ℕ) → t.columns ≡ cs → IsOfNumbers t j → j ≤ length cs
column_within cs t zero e h = omega arith
column_within cs t (suc k) e h = within (λ (c : Column). shape c.ty ≡ numbers) cs k (subst (λ (ds : List Column). IsSomeAnd (slice_get ds k) (λ (c : Column). shape c.ty ≡ numbers)) e h)
  where
    within : (P : Column → Type 0) (ds : List Column) (k : ℕ) → IsSomeAnd (slice_get ds k) P → k < length ds
    within P [] k h = absurd h
    within P (d ∷ ds) zero h = omega arith
    within P (d ∷ ds) (suc k) h = let l = within P ds k h in omega (arith, l)

pub count_there : (told : Option Tables) (counted : List (List (List ℤ))) (q : Query) (is : Bool) (inner : Option Schema) → IsQuery (shapes_of (shape_if is inner)) q → (is ≡ true → AreCounted inner counted told) → IsCountOf (column_in counted q.table 0) None → ⊥
count_there told counted q false inner query h of = no_table q query
count_there told counted q true None query h of = no_table q query
count_there told counted q true (Some s) query h of = go (column_in counted q.table 0) ((h refl).complete q.table query.table query.is_table 0 (omega arith)) of
  where
    go : (o : Option (List ℤ)) → IsSome o → IsCountOf o None → ⊥
    go None is of = absurd cc
    go (Some zs) is of = of

pub total_there : (told : Option Tables) (counted : List (List (List ℤ))) (q : Query) (is : Bool) (inner : Option Schema) (j : ℕ) → IsQuery (shapes_of (shape_if is inner)) q → CanTotal (shapes_of (shape_if is inner)) q j → (is ≡ true → AreCounted inner counted told)
    → IsTotalOf (column_in counted q.table j) None → ⊥
total_there told counted q false inner j query can h of = no_table q query
total_there told counted q true None j query can h of = no_table q query
total_there told counted q true (Some s) j query can h of =
    go (column_in counted q.table j) ((h refl).complete q.table query.table query.is_table j (column_within query.table.columns query.table j refl (at_table s q j query can))) of
  where
    go : (o : Option (List ℤ)) → IsSome o → IsTotalOf o None → ⊥
    go None is of = absurd cc
    go (Some zs) is of = of
