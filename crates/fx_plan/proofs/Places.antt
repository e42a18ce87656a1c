-- The column of ranges, one column after another.
use Rattle.std.proofs.Common.{◌≡◌, ℕ, zero, suc, ◌+◌, ◌<◌, List, [], ◌∷◌, length, drop, drop-cons, get_or, refl, sym, ap, ◌∙◌, arith, Bool, true, false, not, ◌&&◌, ◌||◌, Option, Some, subst}
use Rattle.std.proofs.Common.{◌⊎◌, inl, inr}
use Rattle.std.specs.Prelude.{IsSomeAnd, slice_get, option_map}
use Rattle.std.proofs.lemmas.Option.{same_Some}
use Rattle.fx_types.specs.TypeView.{shape}
use Rattle.fx_types.specs.Types.{Shape, numbers}
use Rattle.fx_core.specs.declared.schema.Column.{Column}
use Rattle.fx_core.specs.declared.schema.TableShape.{TableShape}
use Rattle.fx_plan.proofs.SpanLaws.{span_sought}
use Rattle.fx_plan.specs.declared.ranges.Reach.{Reach}
use Rattle.fx_plan.specs.declared.ranges.Span.{Span}
use Rattle.fx_plan.specs.Ranges.{AllTaken, AreSought, IsReach, IsReachOn, TakesComparisons, column_type, comparisons, first_reached, is_empty, is_numbers, is_reached, reached_column}
use Rattle.fx_plan.specs.Spans.{IsSpan, span_ranges}
use Rattle.row_queries.specs.Conditions.{Condition}
use Rattle.row_queries.specs.Queries.{IsIndexed}
use Rattle.row_queries.specs.declared.ranges.KeyRange.{KeyRange}

-- the column at a place
pub reached_here : (cs : List Column) (test : Condition) (i : ℕ) (c : Column) → i < length cs → c ≡ get_or cs i c → is_reached c (i + 1) test ≡ true → first_reached (i + 1) (drop i cs) test ≡ Some (i + 1)
reached_here [] test i c l e h = absurd (omega (arith, l))
reached_here cs test i c l e h = rw (drop-cons cs i c l, ← e, h) refl

-- its type
type_at : (cs : List Column) (i : ℕ) (c : Column) → i < length cs → c ≡ get_or cs i c → option_map (λ (d : Column). shape d.ty) (slice_get cs i) ≡ Some (shape c.ty)
type_at [] i c l e = absurd (omega (arith, l))
type_at (d ∷ cs) zero c l e = ap (λ (x : Column). Some (shape x.ty)) (sym e)
type_at (d ∷ cs) (suc i) c l e = type_at cs i c (omega (arith, l)) e

-- the columns of a table as they are found
pub record AreIts (t : TableShape) (cs : List Column) (i : ℕ) (c : Column) : Type 0 where
  pub columns : cs ≡ t.columns
  pub there : i < length cs
  pub column : c ≡ get_or cs i c

type_of : (t : TableShape) (cs : List Column) (i : ℕ) (c : Column) → AreIts t cs i c → column_type t (suc i) ≡ Some (shape c.ty)
type_of t cs i c h = subst (λ (ds : List Column). option_map (λ (d : Column). shape d.ty) (slice_get ds i) ≡ Some (shape c.ty)) h.columns (type_at cs i c h.there h.column)

pub taken_at : (t : TableShape) (test : Condition) (cs : List Column) (i : ℕ) (c : Column) → TakesComparisons t test → AreIts t cs i c → AllTaken (shape c.ty) (comparisons (i + 1) test)
taken_at t test cs i c k h =
    let same : suc i ≡ i + 1 = omega arith in
    subst (λ (n : ℕ). AllTaken (shape c.ty) (comparisons n test)) same (k (suc i) (shape c.ty) (type_of t cs i c h))

-- ---- what was found

-- on `ID`
pub found_id : (t : TableShape) (test : Condition) (s : Span) (r : Reach) → TakesComparisons t test → IsSpan true s (comparisons 0 test) → (r.column ≡ 0) × (r.ranges ≡ span_ranges true s) → IsReach t test r
found_id t test s r k h e =
    let some : is_empty (comparisons 0 test) ≡ false = h.some in
    let there : reached_column t test ≡ Some 0 = rw some refl in
    subst (λ (x : Option ℕ). IsReachOn x t test r) (sym there) (
      e.0,
      λ u q. subst (λ (w : Shape). AreSought w (comparisons 0 test) r.ranges) (same_Some numbers u q)
          (subst (λ (rs : List KeyRange). AreSought numbers (comparisons 0 test) rs) (sym e.1) (span_sought numbers s (comparisons 0 test) h (k zero numbers refl))),
    )

-- on another column
pub found_at : (t : TableShape) (test : Condition) (cs : List Column) (i : ℕ) (c : Column) (n : Bool) (s : Span) (r : Reach) → TakesComparisons t test → AreIts t cs i c →
    comparisons 0 test ≡ [] → first_reached (i + 1) (drop i cs) test ≡ first_reached 1 cs test → is_reached c (i + 1) test ≡ true → IsSpan (is_numbers (shape c.ty)) s (comparisons (i + 1) test) →
    n ≡ is_numbers (shape c.ty) → (r.column ≡ i + 1) × (r.ranges ≡ span_ranges n s) → IsReach t test r
found_at t test cs i c n s r k a none first reached h q e =
    let empty : is_empty (comparisons 0 test) ≡ true = ap is_empty none in
    let here : first_reached 1 t.columns test ≡ Some (i + 1) =
    subst (λ (ds : List Column). first_reached 1 ds test ≡ Some (i + 1)) a.columns (sym first ∙ reached_here cs test i c a.there a.column reached) in
    let there : reached_column t test ≡ Some (i + 1) = rw empty here in
    let same : i + 1 ≡ suc i = omega arith in
    let ranges : r.ranges ≡ span_ranges (is_numbers (shape c.ty)) s = subst (λ (b : Bool). r.ranges ≡ span_ranges b s) q e.1 in
    subst (λ (x : Option ℕ). IsReachOn x t test r) (sym there) (
      e.0,
      λ u w.
          let type : Some (shape c.ty) ≡ Some u = sym (type_of t cs i c a) ∙ subst (λ (m : ℕ). column_type t m ≡ Some u) same w in
          subst (λ (x : Shape). AreSought x (comparisons (i + 1) test) r.ranges) (same_Some (shape c.ty) u type)
          (subst (λ (rs : List KeyRange). AreSought (shape c.ty) (comparisons (i + 1) test) rs) (sym ranges) (span_sought (shape c.ty) s (comparisons (i + 1) test) h (taken_at t test cs i c k a))),
    )

either : (a b x : Bool) → ((a || b) && x) ≡ true → (a ≡ true) ⊎ (b ≡ true)
either true b x h = inl refl
either false true x h = inr refl
either false false x h = absurd cc

index_at : (cs : List Column) (i : ℕ) (c : Column) → i < length cs → c ≡ get_or cs i c → (c.indexed ≡ true) ⊎ (c.unique ≡ true) →
    IsSomeAnd (slice_get cs i) (λ (d : Column). (d.indexed ≡ true) ⊎ (d.unique ≡ true))
index_at [] i c l e h = absurd (omega (arith, l))
index_at (d ∷ cs) zero c l e h = subst (λ (x : Column). (x.indexed ≡ true) ⊎ (x.unique ≡ true)) e h
index_at (d ∷ cs) (suc i) c l e h = index_at cs i c (omega (arith, l)) e h

-- the column is indexed
pub indexed_at : (t : TableShape) (test : Condition) (cs : List Column) (i : ℕ) (c : Column) (k : ℕ) → AreIts t cs i c → is_reached c (i + 1) test ≡ true → k ≡ i + 1 → IsIndexed t k
indexed_at t test cs i c k a reached e =
    let same : suc i ≡ k = omega (arith, e) in
    subst (IsIndexed t) same (subst (λ (ds : List Column). IsSomeAnd (slice_get ds i) (λ (d : Column). (d.indexed ≡ true) ⊎ (d.unique ≡ true))) a.columns
    (index_at cs i c a.there a.column (either c.indexed c.unique (not (is_empty (comparisons (i + 1) test))) reached)))
