-- An emptied cache is right, and so is a new one.
use Rattle.std.proofs.Common.{◌≡◌, ℕ, zero, suc, ◌+◌, ◌<◌, ◌≤◌, List, [], ◌∷◌, length, true, get_or, map, replicate, set, Option, Some, None, refl, sym, subst, ap, ◌∙◌, arith, inl, inr}
use Rattle.std.proofs.lemmas.Bool.{cases_eq}
use Rattle.std.proofs.lemmas.List.{get_or-set_other, length-replicate, map-set}
use Rattle.fx_types.specs.TypeView.{shape}
use Rattle.fx_types.specs.ValueView.{view}
use Rattle.fx_types.specs.Values.{Data, blank}
use Rattle.fx_types.specs.declared.values.Value.{Value}
use Rattle.fx_types.specs.declared.values.Value.TheVariants.{Blank}
use Rattle.fx_core.specs.declared.sources.Source.{Source}
use Rattle.fx_value.specs.Fits.{fits_in}
use Rattle.recalc.specs.Reading.{cell_value}
use Rattle.recalc.specs.app_cells.declared.app.App.{App}
use Rattle.recalc.specs.Kept.{IsInOrder, IsSourceOf, CacheState, source_index, stamp_of, cached_value}
use Rattle.recalc.specs.Outcomes.{IsEmpty}
use Rattle.recalc.specs.declared.stamps.Stamp.{Stamp}

no_stamp : (o : Option Stamp) (e : Stamp) → o ≡ None → o ≡ Some e → ⊥
no_stamp o e n s = let both : None ≡ Some e = sym n ∙ s in absurd cc

-- ---- values that are made blank
set_blank : (ds : List Data) (k : ℕ) → get_or (set ds k blank) k blank ≡ blank
set_blank [] k = refl
set_blank (d ∷ ds) zero = refl
set_blank (d ∷ ds) (suc k) = set_blank ds k

-- one more
pub blank_more : (vs : List Value) (i : ℕ) → ((k : ℕ) → k < i → cell_value (map view vs) k ≡ blank) → (k : ℕ) → k < i + 1 → cell_value (map view (set vs i Blank)) k ≡ blank
blank_more vs i before k low =
    ap (λ (ds : List Data). cell_value ds k) (map-set view vs i Blank)
    ∙ elim (cases_eq k i) [
      | inl e ↦ subst (λ n. get_or (set (map view vs) n blank) k blank ≡ blank) e (set_blank (map view vs) k)
      | inr other ↦ get_or-set_other (map view vs) i k blank blank other ∙ before k (omega (arith, low, other))
    ]

-- ---- a new cache
replicate_at : {X : Type 0} (n k : ℕ) (x : X) → get_or (replicate n x) k x ≡ x
replicate_at zero k x = refl
replicate_at (suc n) zero x = refl
replicate_at (suc n) (suc k) x = replicate_at n k x

pub blank_at : (n k : ℕ) → cell_value (replicate n blank) k ≡ blank
blank_at zero k = refl
blank_at (suc n) zero = refl
blank_at (suc n) (suc k) = blank_at n k

pub new_empty : (places cells : ℕ) (c : CacheState) → c.emptied ≡ 0 → c.last ≡ 0 → c.versions ≡ replicate places 0 → c.stamps ≡ replicate cells None → IsEmpty c
new_empty places cells c emptied last versions stamps = record {
  emptied = emptied;
  last = last;
  versions = λ p. ap (λ (xs : List ℕ). get_or xs p 0) versions ∙ replicate_at places p 0;
  stamps = λ k. ap (λ (xs : List (Option Stamp)). get_or xs k None) stamps ∙ replicate_at cells k None;
}

pub new_order : (a : App) (places : ℕ) (c : CacheState) → length a.cells ≤ 2000 → ((s : Source) → IsSourceOf a.names s → source_index s < places) → c.emptied ≡ 0 → c.last ≡ 0 → c.versions ≡ replicate places 0 → c.stamps ≡ replicate (length a.cells) None →
    c.values.cells ≡ replicate (length a.cells) blank → IsInOrder a c
new_order a places c few hold emptied last versions stamps values =
    let empty : IsEmpty c = new_empty places (length a.cells) c emptied last versions stamps in
    let is_blank : (k : ℕ) → cached_value c k ≡ blank = λ k. ap (λ (ds : List Data). cell_value ds k) values ∙ blank_at (length a.cells) k in
    record {
      few = few;
      stamps = ap length stamps ∙ length-replicate (length a.cells) None;
      values = ap length values ∙ length-replicate (length a.cells) blank;
      places = λ s there. subst (λ n. source_index s < n) (sym (ap length versions ∙ length-replicate places 0)) (hold s there);
      fits = λ k i there. subst (λ d. fits_in d (shape i.ty) ≡ true) (sym (is_blank k)) refl;
      bare = λ k aside. is_blank k;
      alone = λ k e at. absurd (no_stamp (stamp_of c k) e (empty.stamps k) at);
      leans = λ k d e at current leans. absurd (no_stamp (stamp_of c k) e (empty.stamps k) at);
      low = record {
        versions = λ p. let zero = empty.versions p in omega (arith, zero);
        checked = λ k e at. absurd (no_stamp (stamp_of c k) e (empty.stamps k) at);
        moved = λ k e at. absurd (no_stamp (stamp_of c k) e (empty.stamps k) at);
      };
    }
