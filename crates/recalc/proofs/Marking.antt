-- Marks of cells that are needed.
use Rattle.std.proofs.Math.Seq.{take-append_seam}
use Rattle.std.proofs.Common.{◌≡◌, ◌⊎◌, ℕ, zero, suc, ◌+◌, ◌<◌, ◌≤◌, List, [], ◌∷◌, ◌++◌, length, get_or, set, take, drop, Bool, true, false, refl, sym, subst, ap, ◌∙◌, arith, inl, inr}
use Rattle.std.proofs.lemmas.Bool.{cases_eq}
use Rattle.std.proofs.lemmas.List.{get_or-set_other, get_or-set_same, get_or_default}
use Rattle.std.specs.List.{Contains}
use Rattle.std.specs.Prelude.{replicate}
use Rattle.recalc.proofs.of_app_semantics.Ordered.{earlier, leaning_edge}
use Rattle.recalc.specs.app_cells.Leaning.{edges_of}
use Rattle.recalc.specs.app_cells.declared.app.App.{App}
use Rattle.recalc.specs.app_semantics.Needed.{further, is_alone, itself}
use Rattle.recalc.specs.app_semantics.Sound.{IsSoundApp}
use Rattle.recalc.proofs.Places.{alone_at}
use Rattle.recalc.specs.Kept.{IsClean, CacheState, Leans}
use Rattle.recalc.specs.Needing.{AreMarked, IsNeededFor, IsReachedFrom, IsVisited, LeadsTo, is_marked, leaned, marked}

-- ---- the order
-- the number at a place of the order
abbrev pub at : App → ℕ → ℕ
at a j = get_or a.order j 0

-- what a cell at a place leans on stands before it
pub leans_earlier : (a : App) (j k d : ℕ) → IsSoundApp a → j < length a.order → at a j ≡ k → Leans a k d → (i : ℕ) × (i < j) × (at a i ≡ d)
leans_earlier a j k d sound low here leans =
    let edge = leaning_edge a.names a.cells k leans.0 d leans.1 leans.2 in
    let b = earlier a.order j d (sound.order.behind j d low (subst (λ n. Contains (edges_of a.names a.cells) (n, d)) (sym here) edge)) in
    (b.0, b.1, b.3)

-- a number stands in the order once
pub once : (a : App) (i j : ℕ) → IsSoundApp a → i < j → j < length a.order → at a i ≡ at a j → ⊥
once a i j sound before low e = sound.order.once i j 0 before low e

-- ---- marks that are set
in_range : (marks : List Bool) (k : ℕ) → is_marked marks k ≡ true → k < length marks
in_range [] k h = absurd cc
in_range (b ∷ bs) zero h = omega arith
in_range (b ∷ bs) (suc k) h = let l = in_range bs k h in omega (arith, l)

-- one mark more
pub mark_there : (marks : List Bool) (k : ℕ) → k < length marks → is_marked (set marks k true) k ≡ true
mark_there marks k low = get_or-set_same marks k true false low

pub mark_still : (marks : List Bool) (k d : ℕ) → is_marked marks d ≡ true → is_marked (set marks k true) d ≡ true
mark_still marks k d h = elim (cases_eq d k) [
  | inl q ↦ subst (λ n. is_marked (set marks n true) d ≡ true) q (get_or-set_same marks d true false (in_range marks d h))
  | inr other ↦ get_or-set_other marks k d true false other ∙ h
]

pub mark_only : (marks : List Bool) (k d : ℕ) → is_marked (set marks k true) d ≡ true → (is_marked marks d ≡ true) ⊎ (d ≡ k)
mark_only marks k d h = elim (cases_eq d k) [
  | inl q ↦ inr q
  | inr other ↦ inl (sym (get_or-set_other marks k d true false other) ∙ h)
]

-- what stands at a place is among the numbers
pub contains_at : (xs : List ℕ) (i : ℕ) → i < length xs → Contains xs (get_or xs i 0)
contains_at xs i low = (i, low, sym (get_or_default xs i 0 (get_or xs i 0) low))

-- what is among them stands at a place
pub at_place : (xs : List ℕ) (k : ℕ) (there : Contains xs k) → get_or xs there.0 0 ≡ k
at_place xs k there = get_or_default xs there.0 0 k there.1 ∙ there.2

pub none_marked : (n k : ℕ) → is_marked (replicate n false) k ≡ true → ⊥
none_marked zero k h = absurd cc
none_marked (suc n) zero h = absurd cc
none_marked (suc n) (suc k) h = none_marked n k h

pub whole : (n : ℕ) (new old : List Bool) → length new ≡ n → take n (new ++ drop (length new) old) ≡ new
whole n new old e = subst (λ k. take k (new ++ drop (length new) old) ≡ new) e (take-append_seam new (drop (length new) old))

-- ---- visits, from the last place to the first
-- the marks are closed from a place of the order on
pub record IsClosedFrom (a : App) (c : CacheState) (old : List Bool) (place : ℕ) (marks : List Bool) : Type 0 where
  pub within : place ≤ length a.order
  pub long : length marks ≡ length old
  pub still : (k : ℕ) → is_marked old k ≡ true → is_marked marks k ≡ true
  pub closed : (j d : ℕ) → place ≤ j → j < length a.order → is_marked marks (at a j) ≡ true → (IsClean a c (at a j) → ⊥) → Leans a (at a j) d → is_marked marks d ≡ true
  pub from : (k : ℕ) → is_marked marks k ≡ true → IsReachedFrom a old k

pub closed_start : (a : App) (c : CacheState) (old : List Bool) → IsClosedFrom a c old (length a.order) old
closed_start a c old = record {
  within = omega arith;
  long = refl;
  still = λ k h. h;
  closed = λ j d low high. absurd (omega (arith, low, high));
  from = λ k h. marked k h;
}

pub closed_down : (a : App) (c : CacheState) (old : List Bool) (p n : ℕ) (marks new : List Bool) → IsSoundApp a → p < length a.order → at a p ≡ n → IsClosedFrom a c old (p + 1) marks → IsVisited a c n marks new → IsClosedFrom a c old p new
closed_down a c old p n marks new sound low here before visited = record {
  within = omega (arith, low);
  long = visited.long ∙ before.long;
  still = λ k h. visited.still k (before.still k h);
  closed = λ j d above high mark unclean leans. elim (cases_eq j p) [
    | inl e ↦
        let is : at a j ≡ n = ap (at a) e ∙ here in
        let old_mark : is_marked marks n ≡ true = elim (visited.only n (subst (λ k. is_marked new k ≡ true) is mark)) [ inl h ↦ h | inr h ↦ h.0 ] in
        visited.marked d old_mark (λ clean. unclean (subst (IsClean a c) (sym is) clean)) (subst (λ k. Leans a k d) is leans)
    | inr other ↦
        let old_mark : is_marked marks (at a j) ≡ true = elim (visited.only (at a j) mark) [
          | inl h ↦ h
          | inr h ↦
              let b = leans_earlier a p n (at a j) sound low here h.1 in
              absurd (once a b.0 j sound (omega (arith, b.1, above)) high b.2)
        ] in
        visited.still d (before.closed j d (omega (arith, above, other)) high old_mark unclean leans)
  ];
  from = λ k h. elim (visited.only k h) [
    | inl was ↦ before.from k was
    | inr on ↦ leaned n k (before.from n on.0) on.1
  ];
}

pub closed_end : (a : App) (c : CacheState) (old marks : List Bool) (p : ℕ) → IsSoundApp a → p ≤ 0 → length old ≡ length a.cells → IsClosedFrom a c old p marks → LeadsTo a c old marks
closed_end a c old marks p sound end long h = record {
  long = h.long;
  still = h.still;
  closed = λ k d mark unclean leans.
      let within : k < length marks = in_range marks k mark in
      let same = h.long in
      let there : Contains a.order k = (sound.order.all k).1 (omega (arith, within, same, long)) in
      let place : at a there.0 ≡ k = get_or_default a.order there.0 0 k there.1 ∙ there.2 in
      h.closed there.0 d (omega (arith, end)) there.1 (subst (λ n. is_marked marks n ≡ true) (sym place) mark) (λ clean. unclean (subst (IsClean a c) place clean)) (subst (λ n. Leans a n d) (sym place) leans);
  from = h.from;
}

-- ---- what is reached from marked cells is needed for them
module _ (a : App) (roots : List ℕ) (old : List Bool) (only : (k : ℕ) → is_marked old k ≡ true → Contains roots k) (own : (k : ℕ) → Contains roots k → is_alone a.cells k ≡ true) where
  reached_alone : (k : ℕ) → IsReachedFrom a old k → is_alone a.cells k ≡ true
  reached_alone k (marked j h) = own j (only j h)
  reached_alone d (leaned k x from leans) = leans.3

  reached_needed : (k : ℕ) → IsReachedFrom a old k → IsNeededFor a roots k
  reached_needed k (marked j h) = (j, only j h, itself j)
  reached_needed d (leaned k x from leans) =
      let below = reached_needed k from in
      (below.0, below.1, further below.0 k x leans.0 below.2 leans.1 (alone_at a.cells k leans.0 leans.1 (reached_alone k from)) leans.2)

  pub are_marked : (c : CacheState) (marks : List Bool) → length old ≡ length a.cells → ((k : ℕ) → Contains roots k → is_marked old k ≡ true) → LeadsTo a c old marks → AreMarked a c roots marks
  are_marked c marks long there h = record {
    long = h.long ∙ long;
    top = λ k r. h.still k (there k r);
    closed = h.closed;
    alone = λ k mark. reached_alone k (h.from k mark);
    needed = λ k mark. reached_needed k (h.from k mark);
  }
