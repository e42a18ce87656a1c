-- The query of a sketch is one that can be asked.
use Rattle.std.proofs.Common.{◌≡◌, ◌⊎◌, ℕ, zero, suc, ◌≤◌, List, [], ◌∷◌, length, Bool, false, Option, Some, sym, subst, arith}
use Rattle.std.specs.Prelude.{IfSome, slice_get}
use Rattle.std.specs.List.{list_any}
use Rattle.fx_types.specs.Values.{Data}
use Rattle.fx_core.specs.declared.schema.TableShape.{TableShape}
use Rattle.fx_core.specs.Lawful.{IsLawfulTable}
use Rattle.fx_plan.proofs.Suiting.{can_ask, takes_them}
use Rattle.fx_plan.specs.declared.plans.Sketch.{Sketch}
use Rattle.fx_plan.specs.Outlines.{filled}
use Rattle.fx_plan.specs.Plans.{CanPlan, Suits, is_fault}
use Rattle.fx_plan.specs.Ranges.{TakesComparisons}
use Rattle.row_queries.specs.Conditions.{Condition}
use Rattle.row_queries.specs.declared.queries.Query.{Query}
use Rattle.row_queries.specs.Queries.{IsIndexed, IsQuery}
use Rattle.row_queries.specs.Ranges.{AreRangesRising, HoldEveryKey}

-- the table that is found is the sketch's
same_table : (o : Option TableShape) (t u : TableShape) → o ≡ Some t → o ≡ Some u → t ≡ u
same_table o t u e f = cc

pub there : (tables : List TableShape) (i : ℕ) (t : TableShape) → length tables ≤ i → slice_get tables i ≡ Some t → ⊥
there [] i t l e = cc
there (u ∷ tables) zero t l e = absurd (omega (arith, l))
there (u ∷ tables) (suc i) t l e = there tables i t (omega (arith, l)) e

pub few_columns : (tables : List TableShape) (s : Sketch) (ds : List Data) → (r : CanPlan tables s ds) → (t : TableShape) → slice_get tables s.table ≡ Some t → IsLawfulTable t
few_columns tables s ds r t e = subst IsLawfulTable (same_table (slice_get tables s.table) r.table t r.is_table e) r.lawful

pub planned_taken : (tables : List TableShape) (s : Sketch) (ds : List Data) → CanPlan tables s ds → (t : TableShape) → slice_get tables s.table ≡ Some t → (test : Condition) → test ≡ filled ds s.test →
    list_any is_fault ds ≡ false → TakesComparisons t test
planned_taken tables s ds r t e test f n =
    subst (λ (x : TableShape). TakesComparisons x test) (same_table (slice_get tables s.table) r.table t r.is_table e)
    (subst (λ (c : Condition). TakesComparisons r.table c) (sym f) (takes_them r.table ds s.test r.lawful n r.within r.suits))

pub planned_query : (tables : List TableShape) (s : Sketch) (ds : List Data) → CanPlan tables s ds → (t : TableShape) → slice_get tables s.table ≡ Some t → (q : Query) → q.table ≡ s.table →
    q.test ≡ filled ds s.test → q.order ≡ s.order → q.column ≤ length t.columns → AreRangesRising q.ranges → IsIndexed t q.column ⊎ HoldEveryKey q.ranges → IsQuery tables q
planned_query tables s ds r t e q a b c within rises reaches =
    let same : r.table ≡ t = same_table (slice_get tables s.table) r.table t r.is_table e in
    let suits : Suits t q.test = subst (Suits t) (sym b) (subst (λ (x : TableShape). Suits x (filled ds s.test)) same r.suits) in
    record {
      table = t;
      is_table = subst (λ (n : ℕ). slice_get tables n ≡ Some t) (sym a) e;
      has_column = within;
      has_order = subst (λ (o : Option (ℕ × Bool)). IfSome o (λ (p : ℕ × Bool). p.0 ≤ length t.columns)) (sym c)
          (subst (λ (x : TableShape). IfSome s.order (λ (p : ℕ × Bool). p.0 ≤ length x.columns)) same r.has_order);
      reaches = reaches;
      rises = rises;
      asks = λ row fits. can_ask t row q.test (few_columns tables s ds r t e) fits suits;
    }
