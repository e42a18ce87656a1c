-- The whole of a table is all of its rows.
use Rattle.std.proofs.Common.{◌≡◌, ◌+◌, ◌≤◌, ℕ, suc, List, [], ◌∷◌, length, Bool, true, false, Option, None, Some, Result, Ok, Err, refl, sym, subst, ap, ◌∙◌, arith, map, if◌then◌else◌}
use Rattle.std.specs.Prelude.{IfOk, IfSome, cond}
use Rattle.std.specs.List.{filter}
use Rattle.std.specs.List.Sorted.{IsPermutation}
use Rattle.std.proofs.lemmas.List.Sorted.{IsPermutation-refl}
use Rattle.fx_eval.specs.fx_plan.Ranges.{everything}
use Rattle.fx_value.specs.Keys.{key_bytes}
use Rattle.fx_eval.proofs.of_fx_plan.Arranged.{by_number}
use Rattle.fx_types.specs.ValueView.{view}
use Rattle.fx_types.specs.Values.{Data}
use Rattle.fx_types.specs.declared.values.Value.{Value}
use Rattle.fx_core.specs.declared.schema.TableShape.{TableShape}
use Rattle.recalc.specs.Queries.{IsTableValue, whole_table}
use Rattle.row_keeper.specs.Tables.{Tables, rows_of_tables, rows_told}
use Rattle.row_keeper.specs.declared.keeper.KeeperEnd.{KeeperEnd}
use Rattle.row_queries.specs.Answers.{IsScanValue, table_or_fault}
use Rattle.row_queries.specs.Laws.{AskedOnce}
use Rattle.row_queries.specs.Queries.{AreAsked, IsScanned, first_outcome_fault, given_of, lies, outcome_on, rows_or_fault}
use Rattle.row_queries.specs.Ranges.{in_ranges}
use Rattle.row_queries.specs.TableRows.{AreInIdOrder, rows_at, value_at, values_of}
use Rattle.row_queries.specs.Visits.{VisitsTold}
use Rattle.row_queries.specs.declared.queries.Query.{Query}
use Rattle.row_queries.specs.declared.rows.Row.{Row}
use Rattle.row_queries.specs.declared.rows.RowList.{RowList}

holds_key : (key : List ℕ) → in_ranges everything key ≡ true
holds_key [] = refl
holds_key (c ∷ cs) = refl

kept : (p : Row → Bool) → ((r : Row) → p r ≡ true) → (rows : List Row) → filter p rows ≡ rows
kept p h [] = refl
kept p h (r ∷ rs) = ap (λ b. if b then r ∷ filter p rs else filter p rs) (h r) ∙ ap (λ xs. r ∷ xs) (kept p h rs)

none_failed : (k : ℕ) (rows : List Row) → first_outcome_fault (map (outcome_on (whole_table k)) rows) ≡ None
none_failed k [] = refl
none_failed k (r ∷ rs) = none_failed k rs

-- what a scan answers that asks for all
pub whole_is : AskedOnce → (k : ℕ) (rows : List Row) (a : RowList) → AreInIdOrder rows → IsScanned (whole_table k) rows a → a ≡ record { rows = rows; fault = None }
whole_is once k rows a order h =
    let all : filter (lies (whole_table k)) rows ≡ rows = kept (lies (whole_table k)) (λ r. holds_key (key_bytes (value_at (values_of r) 0))) rows in
    let own : AreAsked (whole_table k) rows rows = record { rearranged = subst (λ xs. IsPermutation xs rows) (sym all) (IsPermutation-refl rows); sorted = by_number rows order } in
    let same : h.0 ≡ rows = once (whole_table k) rows h.0 rows order h.1 own in
    h.2 ∙ ap (λ xs. rows_or_fault (given_of (whole_table k) xs) (first_outcome_fault (map (outcome_on (whole_table k)) xs))) same
    ∙ ap (rows_or_fault (given_of (whole_table k) rows)) (none_failed k rows)
    ∙ ap (λ xs. rows_or_fault xs None) (kept (λ r. true) (λ r. refl) rows)

-- so its value is the table's
value_is : AskedOnce → (shapes : List TableShape) (told : Option (List (List Row))) (k : ℕ) (v : Data) → IsScanValue shapes told (whole_table k) v → IsTableValue shapes told k v
value_is once shapes told k v h = record {
  table = h.0;
  is_table = h.2.is_table;
  rows = h.1;
  held = h.2.held;
  told_rows = h.2.told_rows;
  is = h.3.2 ∙ ap (λ (a : RowList). table_or_fault h.0 a.rows a.fault) (whole_is once k h.1 h.3.0 h.2.held.0 h.3.1);
}

pub scanned_whole : AskedOnce → (shapes : List TableShape) (told : Option (List (List Row))) (k : ℕ) (q : Query) (r : Result Value KeeperEnd) → q ≡ whole_table k →
    IfOk r (λ v. IsScanValue shapes told q (view v)) → IfOk r (λ v. IsTableValue shapes told k (view v))
scanned_whole once shapes told k q (Ok v) e h = value_is once shapes told k (view v) (subst (λ (x : Query). IsScanValue shapes told x (view v)) e h)
scanned_whole once shapes told k q (Err x) e h = tt

filter_short : (q : Query) (rows : List Row) → length (filter (lies q) rows) ≤ length rows
filter_short q [] = omega arith
filter_short q (r ∷ rows) = by (lies q r) (filter_short q rows)
  where
    by : (b : Bool) → length (filter (lies q) rows) ≤ length rows → length (cond b (r ∷ filter (lies q) rows) (filter (lies q) rows)) ≤ suc (length rows)
    by true l = omega (arith, l)
    by false l = omega (arith, l)

-- a scan of a table visits no more than its rows
pub told_whole : (k : ℕ) (q : Query) (x : Option Tables) (before now : ℕ) → q ≡ whole_table k → VisitsTold (rows_told x) q before now →
    IfSome (rows_told x) (λ rows. now ≤ before + length (rows_at rows k))
told_whole k q None before now e h = tt
told_whole k q (Some t) before now e h =
    let short = filter_short q (rows_at (rows_of_tables t.states) q.table) in
    let at : length (rows_at (rows_of_tables t.states) q.table) ≡ length (rows_at (rows_of_tables t.states) k) = ap (λ (z : Query). length (rows_at (rows_of_tables t.states) z.table)) e in
    omega (arith, h, short, at)
