-- Which of the parts that are left can be performed.
use Rattle.std.proofs.Common.{◌≡◌, List, [], ◌∷◌, ◌++◌, append_assoc, true, refl, ap, sym, subst, ◌∙◌}
use Rattle.std.proofs.lemmas.List.{append-nil}
use Rattle.fx_types.specs.Types.{Shape}
use Rattle.fx_types.specs.Values.{Data, blank, number, text, boolean, date, rec, tab, fault}
use Rattle.fx_eval.proofs.Matching.{can_match}
use Rattle.fx_eval.specs.Parts.{IsComparable, inner}
use Rattle.fx_env.specs.Scopes.{ScopeValues}
use Rattle.fx_scalar.specs.LazyForms.{CanMatch, IsNoError}
use Rattle.fx_semantics.specs.Around.{record_of}
use Rattle.fx_semantics.specs.Sound.{AreFit}
use Rattle.fx_core.specs.Term.{Term}
use Rattle.fx_value.specs.Columns.{Row}
use Rattle.fx_value.specs.Fits.{fits_in}
use Rattle.fx_deeds.specs.Fitting.{AreOf, SourceTypes}
use Rattle.fx_behave.specs.Actable.{AreActable, AreActingBranches, AreActingMatches, AreActingRecoveries, CanAct, LastHasType, IsActable, IsActableInside, IsActingFallback, IsMatchedBy, IsActingSwitch}

module _ (types : SourceTypes) (s : ScopeValues) where
  -- ---- chains

  chain_part : (u : Shape) (t : Term) (others : List Term) → LastHasType types s u (t ∷ others) → CanAct types s t
  chain_part u t [] r = (u, r)
  chain_part u t (k ∷ ts) r = r.0

  pub chain_first : (u : Shape) (t : Term) (others rest : List Term) → rest ≡ t ∷ others → LastHasType types s u rest → CanAct types s t
  chain_first u t others rest e r = chain_part u t others (subst (LastHasType types s u) e r)

  pub chain_last : (u : Shape) (t : Term) (others rest : List Term) → rest ≡ t ∷ others → others ≡ [] → LastHasType types s u rest → IsActable types s t u
  chain_last u t others rest e f r = subst (LastHasType types s u) (e ∙ ap (λ (ts : List Term). t ∷ ts) f) r

  chain_more : (u : Shape) (t : Term) (others : List Term) → (others ≡ [] → ⊥) → LastHasType types s u (t ∷ others) → LastHasType types s u others
  chain_more u t [] n r = absurd (n refl)
  chain_more u t (k ∷ ts) n r = r.1

  pub chain_rest : (u : Shape) (t : Term) (others rest : List Term) → rest ≡ t ∷ others → (others ≡ [] → ⊥) → LastHasType types s u rest → LastHasType types s u others
  chain_rest u t others rest e n r = chain_more u t others n (subst (LastHasType types s u) e r)

  -- ---- conditions and branches

  branch_part : (u : Shape) (t : Term) (others : List Term) → AreActingBranches types s u (t ∷ others) → CanAct types s t
  branch_part u t [] r = (u, r)
  branch_part u t (k ∷ ts) r = r.0

  pub branch_first : (u : Shape) (t : Term) (others rest : List Term) → rest ≡ t ∷ others → AreActingBranches types s u rest → CanAct types s t
  branch_first u t others rest e r = branch_part u t others (subst (AreActingBranches types s u) e r)

  pub branch_last : (u : Shape) (t : Term) (others rest : List Term) → rest ≡ t ∷ others → others ≡ [] → AreActingBranches types s u rest → IsActable types s t u
  branch_last u t others rest e f r = subst (AreActingBranches types s u) (e ∙ ap (λ (ts : List Term). t ∷ ts) f) r

  pub branch_chosen : (u : Shape) (t w : Term) (others beyond rest : List Term) → rest ≡ t ∷ others → others ≡ w ∷ beyond → AreActingBranches types s u rest → IsActable types s w u
  branch_chosen u t w others beyond rest e f r = let k = subst (AreActingBranches types s u) (e ∙ ap (λ (ts : List Term). t ∷ ts) f) r in k.1

  pub branch_beyond : (u : Shape) (t w : Term) (others beyond rest : List Term) → rest ≡ t ∷ others → others ≡ w ∷ beyond → AreActingBranches types s u rest → AreActingBranches types s u beyond
  branch_beyond u t w others beyond rest e f r = let k = subst (AreActingBranches types s u) (e ∙ ap (λ (ts : List Term). t ∷ ts) f) r in k.2

  -- ---- matches and branches

  match_part : (k u : Shape) (t : Term) (others : List Term) → AreActingMatches types s k u (t ∷ others) → CanAct types s t
  match_part k u t [] r = (u, r)
  match_part k u t (b ∷ ts) r = (r.0.0, r.0.1)

  pub match_first : (d : Data) (u : Shape) (t : Term) (others rest : List Term) → rest ≡ t ∷ others → IsMatchedBy types s d u rest → CanAct types s t
  match_first d u t others rest e r = match_part r.0 u t others (subst (AreActingMatches types s r.0 u) e r.2)

  pub match_last : (d : Data) (u : Shape) (t : Term) (others rest : List Term) → rest ≡ t ∷ others → others ≡ [] → IsMatchedBy types s d u rest → IsActable types s t u
  match_last d u t others rest e f r = subst (AreActingMatches types s r.0 u) (e ∙ ap (λ (ts : List Term). t ∷ ts) f) r.2

  pub match_chosen : (d : Data) (u : Shape) (t w : Term) (others beyond rest : List Term) → rest ≡ t ∷ others → others ≡ w ∷ beyond → IsMatchedBy types s d u rest → IsActable types s w u
  match_chosen d u t w others beyond rest e f r = let k = subst (AreActingMatches types s r.0 u) (e ∙ ap (λ (ts : List Term). t ∷ ts) f) r.2 in k.1

  pub match_beyond : (d : Data) (u : Shape) (t w : Term) (others beyond rest : List Term) → rest ≡ t ∷ others → others ≡ w ∷ beyond → IsMatchedBy types s d u rest → IsMatchedBy types s d u beyond
  match_beyond d u t w others beyond rest e f r = let k = subst (AreActingMatches types s r.0 u) (e ∙ ap (λ (ts : List Term). t ∷ ts) f) r.2 in (r.0, r.1, k.2)

  -- the value of a match is compared with it
  pub match_can : (d v : Data) (u : Shape) (t w : Term) (others beyond rest : List Term) → rest ≡ t ∷ others → others ≡ w ∷ beyond → IsMatchedBy types s d u rest →
      ((q : Shape) → IsActable types s t q → fits_in v q ≡ true) → CanMatch d v
  match_can d v u t w others beyond rest e f r fits =
      let k = subst (AreActingMatches types s r.0 u) (e ∙ ap (λ (ts : List Term). t ∷ ts) f) r.2 in can_match d v r.0 k.0.0 r.1 (fits k.0.0 k.0.1) k.0.2

  -- ---- `Switch`

  pub switch_there : (u : Shape) (ts : List Term) → ts ≡ [] → IsActingSwitch types s u ts → ⊥
  switch_there u ts e r = subst (IsActingSwitch types s u) e r

  pub switch_first : (u : Shape) (t : Term) (others ts : List Term) → ts ≡ t ∷ others → IsActingSwitch types s u ts → CanAct types s t
  switch_first u t others ts e r = let k = subst (IsActingSwitch types s u) e r in (k.0, k.1)

  no_error_matched : (d : Data) (k : Shape) → IsNoError d → fits_in d k ≡ true → IsComparable d k
  no_error_matched blank k n h = h
  no_error_matched (number z) k n h = h
  no_error_matched (text cs) k n h = h
  no_error_matched (boolean b) k n h = h
  no_error_matched (date z) k n h = h
  no_error_matched (rec fs) k n h = h
  no_error_matched (tab rs) k n h = h
  no_error_matched (fault c cs) k n h = absurd n

  -- its value, where it is no error
  pub switch_matched : (u : Shape) (t : Term) (others ts : List Term) (d w : Data) → ts ≡ t ∷ others → IsActingSwitch types s u ts → w ≡ d → IsNoError d → ((q : Shape) → IsActable types s t q → fits_in d q ≡ true) →
      IsMatchedBy types s w u others
  switch_matched u t others ts d w e r q n fits =
      let k = subst (IsActingSwitch types s u) e r in (k.0, subst (λ (z : Data). IsComparable z k.0) (sym q) (no_error_matched d k.0 n (fits k.0 k.1)), k.2)

  -- ---- values and fallbacks

  recovery_part : (u : Shape) (t : Term) (others : List Term) → AreActingRecoveries types s u (t ∷ others) → IsActable types s t u
  recovery_part u t [] r = r
  recovery_part u t (k ∷ ts) r = r.0

  pub recovery_first : (u : Shape) (t : Term) (others rest : List Term) → rest ≡ t ∷ others → AreActingRecoveries types s u rest → IsActable types s t u
  recovery_first u t others rest e r = recovery_part u t others (subst (AreActingRecoveries types s u) e r)

  pub recovery_caught : (u : Shape) (t w : Term) (others beyond rest : List Term) → rest ≡ t ∷ others → others ≡ w ∷ beyond → AreActingRecoveries types s u rest → IsActingFallback types s u w
  recovery_caught u t w others beyond rest e f r = let k = subst (AreActingRecoveries types s u) (e ∙ ap (λ (ts : List Term). t ∷ ts) f) r in k.1

  pub recovery_beyond : (u : Shape) (t w : Term) (others beyond rest : List Term) → rest ≡ t ∷ others → others ≡ w ∷ beyond → AreActingRecoveries types s u rest → AreActingRecoveries types s u beyond
  recovery_beyond u t w others beyond rest e f r = let k = subst (AreActingRecoveries types s u) (e ∙ ap (λ (ts : List Term). t ∷ ts) f) r in k.2

  -- ---- rows

  pub inside_first : (u : Shape) (f : Term) (r : Row) (others rest : List Row) → rest ≡ r ∷ others → IsActableInside types s u f rest → IsActable types (inner s (record_of r)) f u
  inside_first u f r others rest e h = let k = subst (IsActableInside types s u f) e h in k.0

  pub inside_rest : (u : Shape) (f : Term) (r : Row) (others rest : List Row) → rest ≡ r ∷ others → IsActableInside types s u f rest → IsActableInside types s u f others
  inside_rest u f r others rest e h = let k = subst (IsActableInside types s u f) e h in k.1

  -- ---- parts in order

  -- the values so far fit the first types, and the parts that are left have the others
  abbrev pub AreLeft : List Shape → List Data → List Term → Type 0
  AreLeft us ds rest = (done : List Shape) × (left : List Shape) × (us ≡ done ++ left) × AreFit ds done × AreActable types s left rest

  left_part : (left : List Shape) (t : Term) (others : List Term) → AreActable types s left (t ∷ others) → CanAct types s t
  left_part [] t others r = absurd r
  left_part (u ∷ left) t others r = (u, r.0)

  pub left_first : (us : List Shape) (ds : List Data) (t : Term) (others rest : List Term) → rest ≡ t ∷ others → AreLeft us ds rest → CanAct types s t
  left_first us ds t others rest e r = left_part r.1 t others (subst (AreActable types s r.1) e r.4)

  one_more : (ds : List Data) (done : List Shape) (d : Data) (u : Shape) → AreFit ds done → fits_in d u ≡ true → AreFit (ds ++ d ∷ []) (done ++ u ∷ [])
  one_more [] [] d u h f = (f, tt)
  one_more (e ∷ ds) (v ∷ done) d u h f = (h.0, one_more ds done d u h.1 f)
  one_more [] (v ∷ done) d u h f = absurd h
  one_more (e ∷ ds) [] d u h f = absurd h

  next_left : (us done left : List Shape) (ds : List Data) (t : Term) (others : List Term) (d : Data) → us ≡ done ++ left → AreFit ds done → AreActable types s left (t ∷ others) →
      ((q : Shape) → IsActable types s t q → fits_in d q ≡ true) → AreLeft us (ds ++ d ∷ []) others
  next_left us done [] ds t others d e h r fits = absurd r
  next_left us done (u ∷ left) ds t others d e h r fits = (done ++ u ∷ [], left, e ∙ sym (append_assoc done (u ∷ []) left), one_more ds done d u h (fits u r.0), r.1)

  pub left_rest : (us : List Shape) (ds es : List Data) (t : Term) (others rest : List Term) (d : Data) → rest ≡ t ∷ others → es ≡ ds ++ d ∷ [] → ((q : Shape) → IsActable types s t q → fits_in d q ≡ true) →
      AreLeft us ds rest → AreLeft us es others
  left_rest us ds es t others rest d e f fits r =
      subst (λ (vs : List Data). AreLeft us vs others) (sym f) (next_left us r.0 r.1 ds t others d r.2 r.3 (subst (AreActable types s r.1) e r.4) fits)

  all_done : (us done left : List Shape) (ds : List Data) → us ≡ done ++ left → AreFit ds done → AreActable types s left [] → AreFit ds us
  all_done us done [] ds e h r = subst (AreFit ds) (sym (e ∙ append-nil done)) h
  all_done us done (u ∷ left) ds e h r = absurd r

  pub left_ends : (us : List Shape) (ds : List Data) (rest : List Term) → rest ≡ [] → AreLeft us ds rest → AreFit ds us
  left_ends us ds rest e r = all_done us r.0 r.1 ds r.2 r.3 (subst (AreActable types s r.1) e r.4)

-- one value more of a type
pub of_more : (u : Shape) (ds es : List Data) (d : Data) → es ≡ ds ++ d ∷ [] → AreOf u ds → fits_in d u ≡ true → AreOf u es
of_more u ds es d e h f = subst (AreOf u) (sym e) (more ds h)
  where
    more : (vs : List Data) → AreOf u vs → AreOf u (vs ++ d ∷ [])
    more [] k = (f, tt)
    more (v ∷ vs) k = (k.0, more vs k.1)
