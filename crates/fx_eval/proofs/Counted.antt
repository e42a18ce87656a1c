-- How many rows lie in the ranges of a condition.
use Rattle.std.proofs.lemmas.Option.{same_Some}
use Rattle.std.proofs.Common.{◌≡◌, ◌∙◌, ℕ, zero, suc, ◌+◌, List, [], ◌∷◌, length, Bool, true, false, Option, Some, None, ap, refl, sym, subst, arith}
use Rattle.std.specs.Prelude.{cond, if◌then◌else◌, option_map, slice_get, unwrap_or}
use Rattle.std.specs.List.{All, filter, list_any}
use Rattle.std.proofs.lemmas.List.Elements.{All-head, All-tail}
use Rattle.fx_types.specs.TypeView.{shape}
use Rattle.fx_types.specs.Types.{Shape, numbers}
use Rattle.fx_types.specs.Values.{Data, blank}
use Rattle.fx_eval.specs.Laws.{AreHeld}
use Rattle.fx_eval.specs.Visits.{AskedTables, InRanges, lies_in}
use Rattle.fx_plan.proofs.Testing.{value_scalar}
use Rattle.fx_plan.specs.declared.plans.Sketch.{Sketch}
use Rattle.fx_plan.specs.declared.ranges.Reach.{Reach}
use Rattle.fx_plan.specs.Outlines.{filled}
use Rattle.fx_plan.specs.Plans.{IsReachBy, is_fault}
use Rattle.fx_plan.specs.Ranges.{AreSought, IsReachOn, column_type, comparisons, first_reached, is_empty, is_reached, is_sought, reached_column}
use Rattle.fx_core.specs.declared.schema.Column.{Column}
use Rattle.fx_core.specs.declared.schema.TableShape.{TableShape}
use Rattle.fx_value.specs.Fits.{fits_in}
use Rattle.fx_value.specs.Keys.{IsProper, key_bytes}
use Rattle.row_queries.specs.Conditions.{Condition}
use Rattle.row_queries.specs.declared.rows.Row.{Row}
use Rattle.row_queries.specs.Ranges.{in_ranges}
use Rattle.row_queries.specs.TableRows.{AreCellsOf, IsHeldRow, IsRowOf, rows_at, value_at, values_of}

-- ---- the column of ranges has a type

typed_from : (i : ℕ) (cs : List Column) (test : Condition) (k : ℕ) → first_reached (suc i) cs test ≡ Some k → (j : ℕ) × (c : Column) × (k ≡ suc i + j) × (slice_get cs j ≡ Some c)
typed_from i [] test k e = absurd cc
typed_from i (c ∷ cs) test k e = by (is_reached c (suc i) test) (λ q. typed_from (suc i) cs test k q) e
  where
    Later : Type 0
    Later = first_reached (suc (suc i)) cs test ≡ Some k → (j : ℕ) × (d : Column) × (k ≡ suc (suc i) + j) × (slice_get cs j ≡ Some d)

    by : (b : Bool) → Later → (if b then Some (suc i) else first_reached (suc (suc i)) cs test) ≡ Some k → (j : ℕ) × (d : Column) × (k ≡ suc i + j) × (slice_get (c ∷ cs) j ≡ Some d)
    by true later q = let same : suc i ≡ k = same_Some (suc i) k q in (0, c, omega (arith, same), refl)
    by false later q =
        let r = later q in
        let same : k ≡ suc (suc i) + r.0 = r.2 in
        (suc r.0, r.1, omega (arith, same), r.3)

reached_typed : (t : TableShape) (test : Condition) (k : ℕ) → reached_column t test ≡ Some k → (u : Shape) × (column_type t k ≡ Some u)
reached_typed t test k e = by (is_empty (comparisons 0 test)) e
  where
    by : (b : Bool) → (if b then first_reached 1 t.columns test else Some 0) ≡ Some k → (u : Shape) × (column_type t k ≡ Some u)
    by true q =
        let r = typed_from 0 t.columns test k q in
        let same : k ≡ suc r.0 = let s : k ≡ 1 + r.0 = r.2 in omega (arith, s) in
        (shape r.1.ty, subst (λ (j : ℕ). column_type t j ≡ Some (shape r.1.ty)) (sym same) (ap (λ (o : Option Column). option_map (λ (c : Column). shape c.ty) o) r.3))
    by false q = let same : 0 ≡ k = same_Some 0 k q in (numbers, subst (λ (j : ℕ). column_type t j ≡ Some numbers) same refl)

-- ---- a row's value in a column

cell_fits : (cs : List Column) (ds : List Data) (k : ℕ) (u : Shape) → AreCellsOf cs ds → option_map (λ (c : Column). shape c.ty) (slice_get cs k) ≡ Some u → fits_in (unwrap_or (slice_get ds k) blank) u ≡ true
cell_fits [] ds k u h e = absurd cc
cell_fits (c ∷ cs) [] k u h e = absurd h
cell_fits (c ∷ cs) (d ∷ ds) zero u h e = subst (λ (s : Shape). fits_in d s ≡ true) (same_Some (shape c.ty) u e) h.1
cell_fits (c ∷ cs) (d ∷ ds) (suc k) u h e = cell_fits cs ds k u h.2 e

value_fits : (t : TableShape) (r : Row) (k : ℕ) (u : Shape) → IsRowOf t r → column_type t k ≡ Some u → fits_in (value_at (values_of r) k) u ≡ true
value_fits t r zero u h e = let q : numbers ≡ u = same_Some numbers u e in subst (λ (s : Shape). fits_in (value_at (values_of r) zero) s ≡ true) q refl
value_fits t r (suc k) u h e = cell_fits t.columns r.cells k u h.1 e

proper_at : (ds : List Data) (k : ℕ) → All IsProper ds → IsProper (value_at ds k)
proper_at [] k h = tt
proper_at (d ∷ ds) zero h = All-head IsProper d ds h
proper_at (d ∷ ds) (suc k) h = proper_at ds k (All-tail IsProper d ds h)

-- ---- ranges of one condition hold the same rows

reach_same : (t : TableShape) (test : Condition) (p q : Reach) (o : Option ℕ) → reached_column t test ≡ o → IsReachOn o t test p → IsReachOn o t test q → (r : Row) → IsHeldRow t r → lies_in p r ≡ lies_in q r
reach_same t test p q None e h k r held =
    ap (λ rs. in_ranges rs (key_bytes (value_at (values_of r) p.column))) (h.1 ∙ sym k.1) ∙ ap (λ (c : ℕ). in_ranges q.ranges (key_bytes (value_at (values_of r) c))) (h.0 ∙ sym k.0)
reach_same t test p q (Some c) e h k r held =
    let there = reached_typed t test c e in
    let value : Data = value_at (values_of r) c in
    let sought : (rs : _) → AreSought there.0 (comparisons c test) rs → in_ranges rs (key_bytes value) ≡ is_sought there.0 (comparisons c test) value =
    λ rs s. s value (value_scalar t r c held.0) (proper_at (values_of r) c held.1) (value_fits t r c there.0 held.0 there.1) in
    ap (λ (j : ℕ). in_ranges p.ranges (key_bytes (value_at (values_of r) j))) h.0 ∙ sought p.ranges (h.1 there.0 there.1) ∙ sym (sought q.ranges (k.1 there.0 there.1))
    ∙ ap (λ (j : ℕ). in_ranges q.ranges (key_bytes (value_at (values_of r) j))) (sym k.0)

reach_by_same : (b : Bool) (t : TableShape) (test : Condition) (p q : Reach) → IsReachBy b t test p → IsReachBy b t test q → (r : Row) → IsHeldRow t r → lies_in p r ≡ lies_in q r
reach_by_same true t test p q h k r held =
    ap (λ rs. in_ranges rs (key_bytes (value_at (values_of r) p.column))) (h.1 ∙ sym k.1) ∙ ap (λ (c : ℕ). in_ranges q.ranges (key_bytes (value_at (values_of r) c))) (h.0 ∙ sym k.0)
reach_by_same false t test p q h k r held = reach_same t test p q (reached_column t test) refl h k r held

count_same : (t : TableShape) (p q : Row → Bool) → ((r : Row) → IsHeldRow t r → p r ≡ q r) → (rows : List Row) → All (IsHeldRow t) rows → length (filter p rows) ≡ length (filter q rows)
count_same t p q same [] held = refl
count_same t p q same (r ∷ rows) held = by (p r) (q r) (same r (All-head (IsHeldRow t) r rows held)) (count_same t p q same rows (All-tail (IsHeldRow t) r rows held))
  where
    by : (b c : Bool) → b ≡ c → length (filter p rows) ≡ length (filter q rows) → length (cond b (r ∷ filter p rows) (filter p rows)) ≡ length (cond c (r ∷ filter q rows) (filter q rows))
    by true true e l = ap suc l
    by true false e l = absurd cc
    by false true e l = absurd cc
    by false false e l = l

-- so many rows lie in the ranges of a query expression
pub one_count : (w : AskedTables) (s : Sketch) (ds : List Data) (m n : ℕ) → AreHeld w → InRanges w s ds m → InRanges w s ds n → m ≡ n
one_count w s ds m n held h k =
    let same : h.0 ≡ k.0 = same_Some h.0 k.0 (sym h.2 ∙ k.2) in
    let reach : IsReachBy (list_any is_fault ds) h.0 (filled ds s.test) k.1 = subst (λ (t : TableShape). IsReachBy (list_any is_fault ds) t (filled ds s.test) k.1) (sym same) k.3 in
    h.4 ∙ count_same h.0 (lies_in h.1) (lies_in k.1) (reach_by_same (list_any is_fault ds) h.0 (filled ds s.test) h.1 k.1 h.3 reach) (rows_at w.rows s.table) (held s.table h.0 h.2) ∙ sym k.4
