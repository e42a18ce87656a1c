-- The rows of a query's table are rows that the table can hold.
use Rattle.std.proofs.Common.{◌≡◌, ℕ, ◌*◌, ◌^◌, ◌<◌, ◌≤◌, pos, List, [], ◌∷◌, Option, None, Some, refl, sym, ap, subst, arith}
use Rattle.std.specs.Prelude.{IsSomeAnd, slice_get, unwrap_or}
use Rattle.std.specs.List.{AllByRecursion}
use Rattle.std.proofs.lemmas.List.Elements.{All-from_recursion}
use Rattle.std.proofs.lemmas.Int.{ints}
use Rattle.fx_number.specs.Decimal.{IsInRange}
use Rattle.fx_core.specs.declared.schema.Column.{Column}
use Rattle.fx_core.specs.declared.schema.TableShape.{TableShape}
use Rattle.fx_value.specs.Keys.{IsProper}
use Rattle.row_queries.specs.Answers.{OfRows}
use Rattle.row_queries.specs.TableRows.{AreHeldRows, IsHeldRow, IsRowOf, rows_at, values_of}
use Rattle.row_queries.specs.declared.queries.Query.{Query}
use Rattle.row_queries.specs.declared.rows.Row.{Row}
use Rattle.row_keeper.specs.Kept.{columns_kept, columns_shaped}
use Rattle.row_keeper.specs.Sound.{IsSoundTable, IsSoundRow, IsSoundState}
use Rattle.row_keeper.specs.TableView.{TableView, states_now}
use Rattle.row_keeper.specs.Tables.{TableState, rows_of_tables}
use Rattle.row_keeper.proofs.StoreLemmas.{at_map, fit_there}

-- the numbers of rows are in the range of numbers
in_range : (id : ℕ) → id < 2 ^ 32 → IsInRange (pos (id * 10000))
in_range id h = (omega (arith, ints, h), omega (arith, ints, h))

pub held_of : (t : TableShape) (r : Row) → r.id < 2 ^ 32 → IsRowOf t r → AllByRecursion IsProper r.cells → IsHeldRow t r
held_of t r small fit proper = (fit, All-from_recursion IsProper (values_of r) (in_range r.id small, proper))

held_row : (t : TableShape) (r : Row) (last : ℕ) → last < 2 ^ 32 → r.id ≤ last → IsSoundRow t.columns r → IsHeldRow t r
held_row t r last bounded given s = held_of t r (omega (arith, bounded, given)) (s.id, s.fit) s.proper

held_rows : (t : TableShape) (last : ℕ) → last < 2 ^ 32 → (rows : List Row) → AllByRecursion (λ (r : Row). r.id ≤ last) rows → AllByRecursion (IsSoundRow t.columns) rows → AllByRecursion (IsHeldRow t) rows
held_rows t last bounded [] given sound = tt
held_rows t last bounded (r ∷ rows) given sound = (held_row t r last bounded given.0 sound.0, held_rows t last bounded rows given.1 sound.1)

held_state : (t : TableShape) (s : TableState) → IsSoundState t.columns s → AreHeldRows t s.rows
held_state t s h = (h.rising, All-from_recursion (IsHeldRow t) s.rows (held_rows t s.last h.bounded s.rows h.given h.rows))

-- the rows of the table at a place
rows_there : (tables : List TableView) (i : ℕ) (v : TableView) → slice_get tables i ≡ Some v → rows_at (rows_of_tables (states_now tables)) i ≡ v.now.rows
rows_there tables i v h =
    ap (λ (o : Option (List Row)). unwrap_or o []) (at_map (λ (s : TableState). s.rows) (states_now tables) i v.now (at_map (λ (x : TableView). x.now) tables i v h))

pub held_there : (shapes : List TableShape) (tables : List TableView) (i : ℕ) (t : TableShape) (v : TableView) → columns_kept tables ≡ columns_shaped shapes → slice_get shapes i ≡ Some t → slice_get tables i ≡ Some v →
    IsSoundTable v → IsSomeAnd (slice_get shapes i) (λ (x : TableShape). AreHeldRows x (rows_at (rows_of_tables (states_now tables)) i))
held_there shapes tables i t v e shaped there sound =
    subst (λ (o : Option TableShape). IsSomeAnd o (λ (x : TableShape). AreHeldRows x (rows_at (rows_of_tables (states_now tables)) i))) (sym shaped)
    (subst (AreHeldRows t) (sym (rows_there tables i v there)) (held_state t v.now here))
  where
    same : v.columns ≡ t.columns
    same =
        let P : List Column → Type 0 = λ cs. cs ≡ t.columns in
        let own : IsSomeAnd (slice_get shapes i) (λ (x : TableShape). P x.columns) = subst (λ (o : Option TableShape). IsSomeAnd o (λ (x : TableShape). P x.columns)) (sym shaped) refl in
        subst (λ (o : Option TableView). IsSomeAnd o (λ (x : TableView). P x.columns)) there (fit_there P tables shapes i e own)

    here : IsSoundState t.columns v.now
    here = subst (λ (cs : List Column). IsSoundState cs v.now) same sound.now

-- what is answered of the rows that are kept
pub of_kept : (shapes : List TableShape) (tables : List (List Row)) (q : Query) (P : TableShape → List Row → Type 0) → IsSomeAnd (slice_get shapes q.table) (λ (t : TableShape). AreHeldRows t (rows_at tables q.table)) → ((t : TableShape) → P t (rows_at tables q.table)) → OfRows shapes (Some tables) q P
of_kept shapes tables q P held p = by (slice_get shapes q.table) refl held
  where
    by : (o : Option TableShape) → slice_get shapes q.table ≡ o → IsSomeAnd o (λ (t : TableShape). AreHeldRows t (rows_at tables q.table)) → OfRows shapes (Some tables) q P
    by None e h = absurd h
    by (Some t) e h = (t, rows_at tables q.table, record { is_table = e; held = h; told_rows = refl }, p t)
