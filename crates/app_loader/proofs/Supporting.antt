-- The supports of formulas, one after another by their order.
use Rattle.std.proofs.Common.{inl, inr, ◌≡◌, ◌⊎◌, ◌↔◌, ℕ, zero, suc, ◌+◌, ◌<◌, ◌≤◌, List, [], ◌∷◌, ◌++◌, false, length, length-set, append_assoc, map, take, get_or, replicate, set, Option, Some, None, option_map, IfOk, Result, Ok, Err, refl, ap, sym, subst, ◌∙◌, slice_get, arith}
use Rattle.std.proofs.lemmas.Bool.{cases_eq, cases_lt}
use Rattle.std.proofs.lemmas.List.{append-nil, get_or_default, map-append as map_both}
use Rattle.std.proofs.lemmas.Option.{slice_get-get_or, slice_get-map, slice_get_within}
use Rattle.std.specs.List.{Contains}
use Rattle.app_cells.specs.declared.app.CellInfo.{CellInfo}
use Rattle.app_cells.specs.Leaning.{LeansOn, cell_behind, edges_of}
use Rattle.app_cells.specs.Reach.{IsSupport, is_cell}
use Rattle.app_semantics.proofs.Ordered.{earlier, leaning_edge}
use Rattle.depend_graph.specs.Order.{IsOrder}
use Rattle.fx_core.specs.Reads.{AreSourcesRising, IsAmong}
use Rattle.fx_core.specs.declared.names.Names.{Names}
use Rattle.fx_core.specs.declared.sources.Source.{Source}
use Rattle.app_loader.specs.Supports.{AllRise, AreSupported, AreSupports, IsBehind, IsJoined, unordered, without_support}
use Rattle.app_loader.proofs.BreakLists.{all_taken, one_more}
use Rattle.app_loader.proofs.Merging.{others, others_both, rising_others}
use Rattle.app_loader.proofs.Reaching.{support_joined, supports_too}

-- ---- what one source adds
some_number : (d e : ℕ) → ◌≡◌ {A = Option ℕ} (Some d) (Some e) → d ≡ e
some_number d e h = cc

some_one : (x y : List Source) → ◌≡◌ {A = Option (List Source)} (Some x) (Some y) → x ≡ y
some_one x y e = cc

pub behind_none : (n : Names) (supports : List (List Source)) (x : Source) (xs : List Source) → cell_behind n x ≡ None → (s : Source) → IsAmong s xs ↔ (IsAmong s xs ⊎ IsBehind n supports x s)
behind_none n supports x xs e s = (inl, λ h. elim h [ inl m ↦ m | inr b ↦ absurd (none_some b.0 (sym e ∙ b.2)) ])
  where
    none_some : (d : ℕ) → ◌≡◌ {A = Option ℕ} None (Some d) → ⊥
    none_some d e = cc

pub behind_past : (n : Names) (supports : List (List Source)) (x : Source) (d : ℕ) (xs : List Source) → cell_behind n x ≡ Some d → length supports ≤ d → (s : Source) → IsAmong s xs ↔ (IsAmong s xs ⊎ IsBehind n supports x s)
behind_past n supports x d xs e l s =
    (inl, λ h. elim h [ inl m ↦ m | inr b ↦ let same : b.0 ≡ d = some_number b.0 d (sym b.2 ∙ e) in let low = slice_get_within supports b.0 b.1 b.3 in absurd (omega (arith, same, low, l)) ])

pub behind_there : (n : Names) (supports : List (List Source)) (x : Source) (d : ℕ) (support more xs ys all : List Source) → cell_behind n x ≡ Some d → slice_get supports d ≡ Some support → more ≡ support → ys ≡ xs →
    ((s : Source) → IsAmong s all ↔ (IsAmong s ys ⊎ IsAmong s more)) → (s : Source) → IsAmong s all ↔ (IsAmong s xs ⊎ IsBehind n supports x s)
behind_there n supports x d support more xs ys all e at own same h s = (
  λ m. elim ((h s).0 m) [ inl a ↦ inl (subst (IsAmong s) same a) | inr b ↦ inr (d, support, e, at, subst (IsAmong s) own b) ],
  λ k. elim k [
    | inl a ↦ (h s).1 (inl (subst (IsAmong s) (sym same) a))
    | inr b ↦
        let there : b.0 ≡ d = some_number b.0 d (sym b.2 ∙ e) in
        let one : b.1 ≡ support = some_one b.1 support (sym b.3 ∙ ap (slice_get supports) there ∙ at) in
        (h s).1 (inr (subst (IsAmong s) (one ∙ sym own) b.4))
  ],
)

-- ---- the support of one formula
-- what the sources behind these of its reads add
pub record IsSoFar (n : Names) (reads done : List Source) (supports : List (List Source)) (support : List Source) : Type 0 where
  pub once : AreSourcesRising support
  pub exact : (s : Source) → IsAmong s support ↔ (((is_cell s ≡ false) × IsAmong s reads) ⊎ ((x : Source) × IsAmong x done × IsBehind n supports x s))

pub nothing_done : (n : Names) (reads : List Source) (supports : List (List Source)) (support : List Source) → AreSourcesRising reads → support ≡ others reads → IsSoFar n reads [] supports support
nothing_done n reads supports support r e =
    subst (IsSoFar n reads [] supports) (sym e) (record {
      once = rising_others reads r;
      exact = λ s. (λ m. inl ((others_both s reads).0 m), λ h. elim h [ inl own ↦ (others_both s reads).1 own | inr by ↦ absurd by.1 ]);
    })

among_either : (s y : Source) (xs : List Source) → IsAmong s (xs ++ y ∷ []) → IsAmong s xs ⊎ (y ≡ s)
among_either s y [] (inl e) = inr e
among_either s y [] (inr m) = absurd m
among_either s y (x ∷ xs) (inl e) = inl (inl e)
among_either s y (x ∷ xs) (inr m) = elim (among_either s y xs m) [ inl a ↦ inl (inr a) | inr e ↦ inr e ]

among_before : (s y : Source) (xs : List Source) → IsAmong s xs → IsAmong s (xs ++ y ∷ [])
among_before s y [] m = absurd m
among_before s y (x ∷ xs) (inl e) = inl e
among_before s y (x ∷ xs) (inr m) = inr (among_before s y xs m)

among_last : (y : Source) (xs : List Source) → IsAmong y (xs ++ y ∷ [])
among_last y [] = inl refl
among_last y (x ∷ xs) = inr (among_last y xs)

pub one_done : (n : Names) (reads : List Source) (supports : List (List Source)) (old new : List Source) (i : ℕ) (d : Source) → i < length reads → IsSoFar n reads (take i reads) supports old → AreSourcesRising new →
    ((s : Source) → IsAmong s new ↔ (IsAmong s old ⊎ IsBehind n supports (get_or reads i d) s)) → IsSoFar n reads (take (i + 1) reads) supports new
one_done n reads supports old new i d l h rises put =
    subst (λ (done : List Source). IsSoFar n reads done supports new) (one_more reads i y l (get_or_default reads i d y l)) (record { once = rises; exact = λ s. (to s, from s) })
  where
    y : Source
    y = get_or reads i d

    to : (s : Source) → IsAmong s new → ((is_cell s ≡ false) × IsAmong s reads) ⊎ ((x : Source) × IsAmong x (take i reads ++ y ∷ []) × IsBehind n supports x s)
    to s m =
        elim ((put s).0 m) [
          | inl before ↦ elim ((h.exact s).0 before) [ inl own ↦ inl own | inr by ↦ inr (by.0, among_before by.0 y (take i reads) by.1, by.2) ]
          | inr behind ↦ inr (y, among_last y (take i reads), behind)
        ]

    from : (s : Source) → ((is_cell s ≡ false) × IsAmong s reads) ⊎ ((x : Source) × IsAmong x (take i reads ++ y ∷ []) × IsBehind n supports x s) → IsAmong s new
    from s (inl own) = (put s).1 (inl ((h.exact s).1 (inl own)))
    from s (inr by) =
        elim (among_either by.0 y (take i reads) by.1) [
          | inl before ↦ (put s).1 (inl ((h.exact s).1 (inr (by.0, before, by.2))))
          | inr last ↦ (put s).1 (inr (subst (λ x. IsBehind n supports x s) (sym last) by.2))
        ]

pub all_done : (n : Names) (reads : List Source) (supports : List (List Source)) (support : List Source) (i : ℕ) → length reads ≤ i → IsSoFar n reads (take i reads) supports support → IsJoined n reads supports support
all_done n reads supports support i l h =
    let whole : IsSoFar n reads reads supports support = subst (λ (done : List Source). IsSoFar n reads done supports support) (all_taken reads i l) h in
    record { once = whole.once; exact = whole.exact }

-- ---- the supports of all
get_set_same : {A : Type 0} (xs : List A) (k : ℕ) (y : A) → k < length xs → slice_get (set xs k y) k ≡ Some y
get_set_same [] k y l = absurd (omega (arith, l))
get_set_same (x ∷ xs) zero y l = refl
get_set_same (x ∷ xs) (suc k) y l = get_set_same xs k y (omega (arith, l))

get_set_other : {A : Type 0} (xs : List A) (k j : ℕ) (y : A) → (j ≡ k → ⊥) → slice_get (set xs k y) j ≡ slice_get xs j
get_set_other [] k j y other = refl
get_set_other (x ∷ xs) zero zero y other = absurd (other refl)
get_set_other (x ∷ xs) zero (suc j) y other = refl
get_set_other (x ∷ xs) (suc k) zero y other = refl
get_set_other (x ∷ xs) (suc k) (suc j) y other = get_set_other xs k j y (λ e. other (ap suc e))

-- those of the first formulas of an order are right
pub record AreSoFar (n : Names) (is : List CellInfo) (order : List ℕ) (i : ℕ) (supports : List (List Source)) : Type 0 where
  pub many : length supports ≡ length is
  pub rising : AllRise supports
  pub told : (j : ℕ) → j < i → j < length order → (support : List Source) → slice_get supports (get_or order j 0) ≡ Some support → IsSupport (unordered n is) (get_or order j 0) support

none_rise : (count k : ℕ) (support : List Source) → slice_get (replicate count []) k ≡ Some support → AreSourcesRising support
none_rise zero k support e = absurd cc
none_rise (suc count) zero support e = let own : ◌≡◌ {A = List Source} [] support = cc in subst AreSourcesRising own tt
none_rise (suc count) (suc k) support e = none_rise count k support e

count_none : (count : ℕ) → length (replicate {A = List Source} count []) ≡ count
count_none zero = refl
count_none (suc count) = ap suc (count_none count)

pub none_told : (n : Names) (is : List CellInfo) (order : List ℕ) (supports : List (List Source)) (count : ℕ) → count ≡ length is → supports ≡ replicate count [] → AreSoFar n is order 0 supports
none_told n is order supports count c e =
    subst (AreSoFar n is order 0) (sym e) (record { many = count_none count ∙ c; rising = none_rise count; told = λ j l within support there. absurd (omega (arith, l)) })

-- a number of the order is that of a formula
pub numbered : (count i : ℕ) (edges : List (ℕ × ℕ)) (order : List ℕ) → IsOrder count edges order → i < length order → get_or order i 0 < count
numbered count i edges order o l = (o.all (get_or order i 0)).0 (i, l, sym (get_or_default order i 0 (get_or order i 0) l))

module _ (n : Names) (is : List CellInfo) (order : List ℕ) (o : IsOrder (length is) (edges_of n is) order) (i k : ℕ) (c : CellInfo) (within : i < length order) (here : get_or order i 0 ≡ k) (there : slice_get is k ≡ Some c)
    (old : List (List Source)) (h : AreSoFar n is order i old) where
  -- what the formula leans on stands before it
  before : (d : ℕ) → LeansOn n c d → (j : ℕ) × (j < i) × (j < length order) × (get_or order j 0 ≡ d)
  before d leans =
      let edge : Contains (edges_of n is) (k, d) = leaning_edge n is k c d there leans in
      earlier order i d (o.behind i d within (subst (λ x. Contains (edges_of n is) (x, d)) (sym here) edge))

  told_of : (d : ℕ) (support : List Source) → LeansOn n c d → slice_get old d ≡ Some support → IsSupport (unordered n is) d support
  told_of d support leans e =
      let b = before d leans in
      subst (λ x. IsSupport (unordered n is) x support) b.3 (h.told b.0 b.1 b.2 support (ap (slice_get old) b.3 ∙ e))

  all_of : (d : ℕ) → LeansOn n c d → (support : List Source) × (slice_get old d ≡ Some support)
  all_of d leans =
      let b = before d leans in
      let few : d < length is = (o.all d).0 (b.0, b.2, get_or_default order b.0 d 0 b.2 ∙ b.3) in
      let many = h.many in
      let low : d < length old = omega (arith, few, many) in
      (get_or old d [], slice_get-get_or old d [] low)

  pub one_told : (new : List (List Source)) (support : List Source) → IsJoined n c.reads old support → new ≡ set old k support → AreSoFar n is order (i + 1) new
  one_told new support j e = subst (AreSoFar n is order (i + 1)) (sym e) (record { many = length-set old k support ∙ h.many; rising = rises; told = told })
    where
      low : k < length old
      low = let few = slice_get_within is k c there in let many = h.many in omega (arith, few, many)

      own : IsSupport (unordered n is) k support
      own = support_joined n is k c there old told_of all_of support j

      rises : AllRise (set old k support)
      rises d x at =
          elim (cases_eq d k) [
            | inl same ↦ subst AreSourcesRising (some_one support x (sym (get_set_same old k support low) ∙ ap (slice_get (set old k support)) (sym same) ∙ at)) j.once
            | inr other ↦ h.rising d x (sym (get_set_other old k d support other) ∙ at)
          ]

      told : (p : ℕ) → p < i + 1 → p < length order → (x : List Source) → slice_get (set old k support) (get_or order p 0) ≡ Some x → IsSupport (unordered n is) (get_or order p 0) x
      told p l inside x at =
          elim (cases_eq (get_or order p 0) k) [
            | inl same ↦
                let is_it : support ≡ x = some_one support x (sym (get_set_same old k support low) ∙ ap (slice_get (set old k support)) (sym same) ∙ at) in
                subst (λ d. IsSupport (unordered n is) d x) (sym same) (subst (IsSupport (unordered n is) k) is_it own)
            | inr other ↦
                elim (cases_lt p i) [
                  | inl earlier ↦ h.told p earlier inside x (sym (get_set_other old k (get_or order p 0) support other) ∙ at)
                  | inr late ↦ let same : p ≡ i = omega (arith, l, late) in absurd (other (ap (λ q. get_or order q 0) same ∙ here))
                ]
          ]

pub all_told : (n : Names) (is : List CellInfo) (order : List ℕ) (i : ℕ) (supports : List (List Source)) → IsOrder (length is) (edges_of n is) order → length order ≤ i → AreSoFar n is order i supports → AreSupports n is supports
all_told n is order i supports o l h = record {
  many = h.many;
  each = λ k support at.
      let low = slice_get_within supports k support at in
      let many = h.many in
      let there : Contains order k = (o.all k).1 (omega (arith, low, many)) in
      let here : get_or order there.0 0 ≡ k = get_or_default order there.0 0 k there.1 ∙ there.2 in
      subst (λ d. IsSupport (unordered n is) d support) here (h.told there.0 (omega (arith, there.1, l)) there.1 support (ap (slice_get supports) here ∙ at));
}

-- ---- formulas with their supports
-- formulas are put one after another, each with its support
pub record ArePut (infos : List CellInfo) (supports : List (List Source)) (done left : List CellInfo) (more : List (List Source)) : Type 0 where
  pub same : map without_support (done ++ left) ≡ map without_support infos
  pub told : map (λ (i : CellInfo). i.support) done ++ more ≡ supports
  pub each : length more ≡ length left

pub none_put : (infos : List CellInfo) (supports : List (List Source)) (done left : List CellInfo) (more : List (List Source)) → done ≡ [] → left ≡ infos → more ≡ supports → length supports ≡ length infos → ArePut infos supports done left more
none_put infos supports done left more d l m e = record {
  same = (λ i. map without_support (d i ++ l i));
  told = (λ i. map (λ (k : CellInfo). k.support) (d i) ++ m i);
  each = ap length m ∙ e ∙ ap length (sym l);
}

pub one_put : (infos : List CellInfo) (supports : List (List Source)) (done next left rest : List CellInfo) (more others : List (List Source)) (i j : CellInfo) (support : List Source) → ArePut infos supports done left more → left ≡ i ∷ rest →
    more ≡ support ∷ others → without_support j ≡ without_support i → j.support ≡ support → next ≡ done ++ j ∷ [] → ArePut infos supports next rest others
one_put infos supports done next left rest more others i j support h l m same own n = subst (λ ks. ArePut infos supports ks rest others) (sym n) (record {
  same =
      map_both without_support (done ++ j ∷ []) rest ∙ ap (λ ks. ks ++ map without_support rest) (map_both without_support done (j ∷ [])) ∙ append_assoc (map without_support done) (without_support j ∷ []) (map without_support rest)
      ∙ ap (λ k. map without_support done ++ k ∷ map without_support rest) same ∙ sym (map_both without_support done (i ∷ rest)) ∙ ap (λ ks. map without_support (done ++ ks)) (sym l) ∙ h.same;
  told =
      ap (λ ks. ks ++ others) (map_both (λ (k : CellInfo). k.support) done (j ∷ [])) ∙ append_assoc (map (λ (k : CellInfo). k.support) done) (j.support ∷ []) others
      ∙ ap (λ k. map (λ (z : CellInfo). z.support) done ++ k ∷ others) own ∙ ap (λ ks. map (λ (k : CellInfo). k.support) done ++ ks) (sym m) ∙ h.told;
  each = let a = h.each in let b = ap length l in let c = ap length m in omega (arith, a, b, c);
})

pub all_put : (infos : List CellInfo) (supports : List (List Source)) (done left : List CellInfo) (more : List (List Source)) → ArePut infos supports done left more → length left ≡ 0 →
    (map without_support done ≡ map without_support infos) × (map (λ (k : CellInfo). k.support) done ≡ supports)
all_put infos supports done [] [] h e = (ap (map without_support) (sym (append-nil done)) ∙ h.same, sym (append-nil (map (λ (k : CellInfo). k.support) done)) ∙ h.told)
all_put infos supports done [] (x ∷ more) h e = let a = h.each in absurd (omega (arith, a))
all_put infos supports done (i ∷ left) more h e = absurd (omega (arith, e))

pub with_all : (n : Names) (before after : List CellInfo) (supports : List (List Source)) → AreSupports n before supports → map without_support after ≡ map without_support before → map (λ (i : CellInfo). i.support) after ≡ supports → AreSupported n before after
with_all n before after supports h same told = record {
  same = same;
  each = λ k c there.
      let at : slice_get supports k ≡ Some c.support = ap (λ xs. slice_get xs k) (sym told) ∙ slice_get-map (λ (i : CellInfo). i.support) after k ∙ ap (option_map (λ (i : CellInfo). i.support)) there in
      supports_too (unordered n before) (unordered n after) k c.support (λ s. refl) (sym same) (h.each k c.support at);
}

pub all_with : {E : Type 0} (n : Names) (before infos : List CellInfo) (supports : List (List Source)) → infos ≡ before → AreSupports n infos supports → (r : Result (List CellInfo) E) → IfOk r (λ l. map without_support l ≡ map without_support before) →
    IfOk r (λ l. map (λ (i : CellInfo). i.support) l ≡ supports) → IfOk r (AreSupported n before)
all_with n before infos supports e h (Ok l) same told = with_all n before l supports (subst (λ is. AreSupports n is supports) e h) same told
all_with n before infos supports e h (Err x) same told = tt
