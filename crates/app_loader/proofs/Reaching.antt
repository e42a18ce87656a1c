-- What formulas stand on, by what those stand on that they lean on.
use Rattle.std.proofs.Common.{inl, inr, ◌≡◌, ℕ, zero, suc, List, [], ◌∷◌, ◌++◌, false, length, map, Option, Some, refl, ap, sym, subst, ◌∙◌, slice_get}
use Rattle.fx_core.specs.Reads.{IsAmong}
use Rattle.fx_core.specs.declared.names.Names.{Names}
use Rattle.fx_core.specs.declared.sources.Source.{Source}
use Rattle.app_cells.specs.declared.app.App.{App}
use Rattle.app_cells.specs.declared.app.CellInfo.{CellInfo}
use Rattle.app_cells.specs.Leaning.{LeansOn, cell_behind, edges_by, edges_from, edges_of}
use Rattle.app_cells.specs.Reach.{IsSupport, Reaches, is_cell, named, through}
use Rattle.app_loader.specs.Supports.{HaveSupports, IsJoined, unordered, without_support}
use Rattle.app_loader.proofs.SourceOrder.{sources_one}

-- ---- the same formulas, whatever is said of what they stand on
pub head_same : (i j : CellInfo) (is js : List CellInfo) → map without_support (i ∷ is) ≡ map without_support (j ∷ js) → (without_support i ≡ without_support j) × (map without_support is ≡ map without_support js)
head_same i j is js e = (cc, cc)

pub same_at : (is js : List CellInfo) (k : ℕ) (i : CellInfo) → map without_support is ≡ map without_support js → slice_get is k ≡ Some i → (j : CellInfo) × (slice_get js k ≡ Some j) × (without_support i ≡ without_support j)
same_at [] js k i e h = absurd cc
same_at (x ∷ is) [] k i e h = absurd cc
same_at (x ∷ is) (y ∷ js) zero i e h =
    let own : x ≡ i = cc in
    (y, refl, sym (ap without_support own) ∙ (head_same x y is js e).0)
same_at (x ∷ is) (y ∷ js) (suc k) i e h = same_at is js k i (head_same x y is js e).1 h

pub same_count : (is js : List CellInfo) → map without_support is ≡ map without_support js → length is ≡ length js
same_count [] [] e = refl
same_count [] (y ∷ js) e = absurd cc
same_count (x ∷ is) [] e = absurd cc
same_count (x ∷ is) (y ∷ js) e = ap suc (same_count is js (head_same x y is js e).1)

-- they have the same edges
edges_there : (n : Names) (k : ℕ) (is js : List CellInfo) → map without_support is ≡ map without_support js → edges_from n k is ≡ edges_from n k js
edges_there n k [] [] e = refl
edges_there n k [] (j ∷ js) e = absurd cc
edges_there n k (i ∷ is) [] e = absurd cc
edges_there n k (i ∷ is) (j ∷ js) e =
    let parts = head_same i j is js e in
    let reads : i.reads ≡ j.reads = ap (λ (x : CellInfo). x.reads) parts.0 in
    λ z. edges_by n k (reads z) ++ edges_there n (suc k) is js parts.1 z

pub same_edges : (n : Names) (is js : List CellInfo) → map without_support is ≡ map without_support js → edges_of n is ≡ edges_of n js
same_edges n is js e = edges_there n 0 is js e

-- and reach the same sources, under names that tell the same cells behind sources
module _ (a b : App) (behind : (s : Source) → cell_behind a.names s ≡ cell_behind b.names s) (same : map without_support a.cells ≡ map without_support b.cells) where
  pub reaches_too : {k : ℕ} {s : Source} → Reaches a k s → Reaches b k s
  reaches_too (named k c s there among) =
      let at = same_at a.cells b.cells k c same there in
      named k at.0 s at.1 (subst (IsAmong s) (ap (λ (x : CellInfo). x.reads) at.2) among)
  reaches_too (through k d c s there leans reach) =
      let at = same_at a.cells b.cells k c same there in
      through k d at.0 s at.1 (leans.0, subst (IsAmong leans.0) (ap (λ (x : CellInfo). x.reads) at.2) leans.1, sym (behind leans.0) ∙ leans.2) (reaches_too reach)

pub supports_too : (a b : App) (k : ℕ) (support : List Source) → ((s : Source) → cell_behind a.names s ≡ cell_behind b.names s) → map without_support a.cells ≡ map without_support b.cells → IsSupport a k support → IsSupport b k support
supports_too a b k support behind same h = record {
  once = h.once;
  exact = λ s. (λ m. let r = (h.exact s).0 m in (r.0, reaches_too a b behind same r.1), λ r. (h.exact s).1 (r.0, reaches_too b a (λ x. sym (behind x)) (sym same) r.1));
}

-- a cell has one support
pub support_one : (a : App) (k : ℕ) (xs ys : List Source) → IsSupport a k xs → IsSupport a k ys → xs ≡ ys
support_one a k xs ys g h = sources_one xs ys g.once h.once (λ s m. (h.exact s).1 ((g.exact s).0 m)) (λ s m. (g.exact s).1 ((h.exact s).0 m))

abbrev with_support : (i : CellInfo) (support : List Source) → CellInfo
with_support i support = record i { support = support }

each_one : (is js : List CellInfo) → map without_support is ≡ map without_support js → ((k : ℕ) (i j : CellInfo) → slice_get is k ≡ Some i → slice_get js k ≡ Some j → i.support ≡ j.support) → is ≡ js
each_one [] [] e h = refl
each_one [] (j ∷ js) e h = absurd cc
each_one (i ∷ is) [] e h = absurd cc
each_one (i ∷ is) (j ∷ js) e h =
    let parts = head_same i j is js e in
    let own : i.support ≡ j.support = h 0 i j refl refl in
    let first : i ≡ j = λ z. with_support (parts.0 z) (own z) in
    let more : is ≡ js = each_one is js parts.1 (λ k x y p q. h (suc k) x y p q) in
    λ z. first z ∷ more z

-- so apps with supports whose formulas are the same are
pub cells_one : (a b : App) → ((s : Source) → cell_behind a.names s ≡ cell_behind b.names s) → map without_support a.cells ≡ map without_support b.cells → HaveSupports a → HaveSupports b → a.cells ≡ b.cells
cells_one a b behind same g h =
    each_one a.cells b.cells same (λ k i j p q. support_one b k i.support j.support (supports_too a b k i.support behind same (g k i p)) (h k j q))

-- ---- what a formula stands on, by what those stand on that it leans on
module _ (n : Names) (is : List CellInfo) (k : ℕ) (c : CellInfo) (there : slice_get is k ≡ Some c) (supports : List (List Source))
    (told : (d : ℕ) (support : List Source) → LeansOn n c d → slice_get supports d ≡ Some support → IsSupport (unordered n is) d support)
    (all : (d : ℕ) → LeansOn n c d → (support : List Source) × (slice_get supports d ≡ Some support)) where
  own_reaches : (support : List Source) → IsJoined n c.reads supports support → (s : Source) → IsAmong s support → (is_cell s ≡ false) × Reaches (unordered n is) k s
  own_reaches support j s m =
      elim ((j.exact s).0 m) [
        | inl own ↦ (own.0, named k c s there own.1)
        | inr by ↦
            let leans : LeansOn n c by.2.0 = (by.0, by.1, by.2.2) in
            let deep = ((told by.2.0 by.2.1 leans by.2.3).exact s).0 by.2.4 in
            (deep.0, through k by.2.0 c s there leans deep.1)
      ]

  same_cell : (d : CellInfo) → slice_get is k ≡ Some d → d ≡ c
  same_cell d e = let both : ◌≡◌ {A = Option CellInfo} (Some d) (Some c) = sym e ∙ there in cc

  reached_own : (support : List Source) → IsJoined n c.reads supports support → {i : ℕ} {s : Source} → Reaches (unordered n is) i s → i ≡ k → is_cell s ≡ false → IsAmong s support
  reached_own support j (named i d s at among) e calm =
      let same : d ≡ c = same_cell d (ap (slice_get is) (sym e) ∙ at) in
      (j.exact s).1 (inl (calm, subst (λ (x : CellInfo). IsAmong s x.reads) same among))
  reached_own support j (through i d x s at leans reach) e calm =
      let same : x ≡ c = same_cell x (ap (slice_get is) (sym e) ∙ at) in
      let own : LeansOn n c d = subst (λ (y : CellInfo). LeansOn n y d) same leans in
      let more = all d own in
      (j.exact s).1 (inr (own.0, own.1, (d, more.0, own.2, more.1, ((told d more.0 own more.1).exact s).1 (calm, reach))))

  pub support_joined : (support : List Source) → IsJoined n c.reads supports support → IsSupport (unordered n is) k support
  support_joined support j = record {
    once = j.once;
    exact = λ s. (own_reaches support j s, λ h. reached_own support j h.1 refl h.0);
  }
