-- Stamps are taken away from the cells that reach one.
use Rattle.std.proofs.Common.{◌≡◌, ◌≢◌, ◌⊎◌, ℕ, zero, suc, ◌+◌, ◌<◌, ◌≤◌, List, length, length-set, Bool, true, false, Option, Some, None, refl, sym, subst, ap, ◌∙◌, arith, inl, inr, if◌then◌else◌}
use Rattle.std.specs.Prelude.{slice_get, slice_index_or}
use Rattle.std.specs.List.{Contains}
use Rattle.std.proofs.lemmas.Bool.{cases_Bool, cases_eq, eqb-true}
use Rattle.std.proofs.lemmas.List.{get_or-set_other, get_or-set_same, get_or_past}
use Rattle.fx_core.specs.declared.sources.Source.{Source}
use Rattle.recalc.specs.Asking.{ToldRows}
use Rattle.recalc.specs.Changes.{IsCellTouched, ReachesCell, itself, through}
use Rattle.recalc.specs.Clearing.{AreCleared, AreUnmarked, IsMarkedIf, IsToMark, greatest_stamp, is_mark_stamp, is_marked_cell, marked, stamp_unmarked}
use Rattle.recalc.specs.Kept.{HasNumbersLeft, IsInOrder, IsRight, CacheState, stamp_of}
use Rattle.recalc.specs.Outcomes.{HasNumbers, IsOneMore}
use Rattle.recalc.specs.app_cells.Leaning.{LeansOn, edges_of}
use Rattle.recalc.specs.app_cells.declared.app.App.{App}
use Rattle.recalc.specs.app_cells.declared.app.CellInfo.{CellInfo}
use Rattle.recalc.specs.app_semantics.Present.{present}
use Rattle.recalc.specs.app_semantics.Sound.{IsSoundApp}
use Rattle.recalc.specs.declared.stamps.Stamp.{Stamp}
use Rattle.session_state.specs.Sessions.{SessionState}
use Rattle.recalc.proofs.Marking.{at, at_place, contains_at}
use Rattle.recalc.proofs.of_app_semantics.Ordered.{earlier, leaning_edge}

-- so many cells of the order were seen
pub record IsMarking (a : App) (x : ℕ) (old : CacheState) (i : ℕ) (c : CacheState) : Type 0 where
  pub there : (p : ℕ) → p < i → p < length a.order → ReachesCell a (at a p) x → is_marked_cell c (at a p) ≡ true
  pub only : (k : ℕ) → is_marked_cell c k ≡ true → ReachesCell a k x
  pub other : (k : ℕ) → is_marked_cell c k ≡ false → stamp_of c k ≡ stamp_of old k
  pub rest : c ≡ record old { stamps = c.stamps }
  pub long : length c.stamps ≡ length old.stamps

-- ---- marks
no_mark : (o : Option Stamp) (last : ℕ) → HasNumbersLeft last → ((e : Stamp) → o ≡ Some e → e.checked ≤ last) → is_mark_stamp o ≡ false
no_mark None last room low = refl
no_mark (Some e) last room low = elim (cases_Bool (is_mark_stamp (Some e))) [
  | inl mark ↦
      let same : e.checked ≡ greatest_stamp = eqb-true e.checked greatest_stamp mark in
      let under = low e refl in
      absurd (omega (arith, same, under, room))
  | inr none ↦ none
]

-- no stamp that was given is one
pub unmarked_yet : (a : App) (c : CacheState) (k : ℕ) → IsInOrder a c → HasNumbersLeft c.last → is_marked_cell c k ≡ false
unmarked_yet a c k order room = no_mark (stamp_of c k) c.last room (λ e is. order.low.checked k e is)

mark_here : (c : CacheState) (k : ℕ) → k < length c.stamps → is_marked_cell (marked c k) k ≡ true
mark_here c k low = ap is_mark_stamp (get_or-set_same c.stamps k (Some (record { checked = greatest_stamp; moved = greatest_stamp })) None low)

mark_there : (c : CacheState) (k d : ℕ) → d ≢ k → stamp_of (marked c k) d ≡ stamp_of c d
mark_there c k d other = get_or-set_other c.stamps k d (Some (record { checked = greatest_stamp; moved = greatest_stamp })) None other

clash : (b : Bool) → b ≡ true → b ≡ false → ⊥
clash b e f = let both : true ≡ false = sym e ∙ f in absurd cc

pub marking_start : (a : App) (x : ℕ) (c : CacheState) → IsInOrder a c → HasNumbersLeft c.last → IsMarking a x c 0 c
marking_start a x c order room = record {
  there = λ p low. absurd (omega (arith, low));
  only = λ k mark. absurd (clash (is_marked_cell c k) mark (unmarked_yet a c k order room));
  other = λ k none. refl;
  rest = refl;
  long = refl;
}

-- what a cell leans on stands before it in the order
before : (a : App) (i n d : ℕ) (c : CellInfo) → IsSoundApp a → i < length a.order → at a i ≡ n → slice_get a.cells n ≡ Some c → LeansOn a.names c d → (j : ℕ) × (j < i) × (at a j ≡ d)
before a i n d c sound low here is leans =
    let edge = leaning_edge a.names a.cells n c d is leans in
    let b = earlier a.order i d (sound.order.behind i d low (subst (λ m. Contains (edges_of a.names a.cells) (m, d)) (sym here) edge)) in
    (b.0, b.1, b.3)

-- one cell more
pub marking_more : (a : App) (x : ℕ) (old : CacheState) (i n : ℕ) (c d : CacheState) → IsSoundApp a → IsInOrder a old → i < length a.order → at a i ≡ n → IsMarkedIf a x n c d → IsMarking a x old i c → IsMarking a x old (i + 1) d
marking_more a x old i n c d sound order low here (inl (mark, is)) h = subst (IsMarking a x old (i + 1)) (sym is) (record {
  there = λ p under inside reach. elim (cases_eq (at a p) n) [
    | inl e ↦ subst (λ m. is_marked_cell (marked c n) m ≡ true) (sym e) (mark_here c n within)
    | inr far ↦ ap is_mark_stamp (mark_there c n (at a p) far) ∙ h.there p (less p under far) inside reach
  ];
  only = λ k set. elim (cases_eq k n) [
    | inl e ↦ subst (λ m. ReachesCell a m x) (sym e) (reach mark)
    | inr far ↦ h.only k (sym (ap is_mark_stamp (mark_there c n k far)) ∙ set)
  ];
  other = λ k none. elim (cases_eq k n) [
    | inl e ↦ absurd (clash (is_marked_cell (marked c n) n) (mark_here c n within) (subst (λ m. is_marked_cell (marked c n) m ≡ false) e none))
    | inr far ↦ mark_there c n k far ∙ h.other k (sym (ap is_mark_stamp (mark_there c n k far)) ∙ none)
  ];
  rest = ap (λ (w : CacheState). marked w n) h.rest;
  long = length-set c.stamps n _ ∙ h.long;
})
  where
    within : n < length c.stamps
    within =
        let inside : n < length a.cells = subst (λ m. m < length a.cells) here ((sound.order.all (at a i)).0 (contains_at a.order i low)) in
        let long = h.long in
        let stamps = order.stamps in
        omega (arith, inside, long, stamps)

    less : (p : ℕ) → p < i + 1 → at a p ≢ n → p < i
    less p under far = elim (cases_eq p i) [
      | inl e ↦ absurd (far (ap (at a) e ∙ here))
      | inr other ↦ omega (arith, under, other)
    ]

    reach : IsToMark a x c n → ReachesCell a n x
    reach (inl e) = subst (λ m. ReachesCell a m x) (sym e) (itself x)
    reach (inr (j, k, is, leans, set)) = through n k x j is leans (h.only k set)
marking_more a x old i n c d sound order low here (inr (free, is)) h = subst (IsMarking a x old (i + 1)) (sym is) (record {
  there = λ p under inside reach. elim (cases_eq p i) [
    | inl e ↦ absurd (free (to_mark (at a p) x reach (ap (at a) e ∙ here) refl))
    | inr other ↦ h.there p (omega (arith, under, other)) inside reach
  ];
  only = h.only;
  other = h.other;
  rest = h.rest;
  long = h.long;
})
  where
    to_mark : (k y : ℕ) → ReachesCell a k y → k ≡ n → y ≡ x → IsToMark a x c n
    to_mark k y (itself _) p q = inl (sym p ∙ q)
    to_mark k y (through _ e _ j is leans more) p q =
        let there : slice_get a.cells n ≡ Some j = subst (λ m. slice_get a.cells m ≡ Some j) p is in
        let b = before a i n e j sound low here there leans in
        let set = h.there b.0 b.1 (let under = b.1 in omega (arith, under, low)) (subst (λ m. ReachesCell a m x) (sym b.2) (subst (ReachesCell a e) q more)) in
        inr (j, e, there, leans, subst (λ m. is_marked_cell c m ≡ true) b.2 set)

-- ---- the end
unmarked_mark : (o : Option Stamp) → is_mark_stamp o ≡ true → stamp_unmarked o ≡ None
unmarked_mark o e = ap (λ (b : Bool). if b then None else o) e

unmarked_other : (o : Option Stamp) → is_mark_stamp o ≡ false → stamp_unmarked o ≡ o
unmarked_other o e = ap (λ (b : Bool). if b then None else o) e

-- all were seen, and the marks went
pub cleared_is : (a : App) (x : ℕ) (old : CacheState) (i : ℕ) (c d : CacheState) → IsSoundApp a → IsInOrder a old → length a.order ≤ i → IsMarking a x old i c → AreUnmarked c d → AreCleared a x old d
cleared_is a x old i c d sound order end h u = record {
  gone = gone;
  left = λ k far. u.each k ∙ left k far;
  rest = u.rest ∙ ap (λ (w : CacheState). record w { stamps = d.stamps }) h.rest;
  long = u.long ∙ h.long;
}
  where
    left : (k : ℕ) → (ReachesCell a k x → ⊥) → stamp_unmarked (stamp_of c k) ≡ stamp_of old k
    left k far = elim (cases_Bool (is_marked_cell c k)) [
      | inl set ↦ absurd (far (h.only k set))
      | inr none ↦ unmarked_other (stamp_of c k) none ∙ h.other k none
    ]

    gone : (k : ℕ) → ReachesCell a k x → stamp_of d k ≡ None
    gone k reach = elim (within_or k (length a.cells)) [
      | inl low ↦
          let there = (sound.order.all k).1 low in
          let place : at a there.0 ≡ k = at_place a.order k there in
          let set = h.there there.0 (let inside = there.1 in omega (arith, inside, end)) there.1 (subst (λ m. ReachesCell a m x) (sym place) reach) in
          u.each k ∙ unmarked_mark (stamp_of c k) (subst (λ m. is_marked_cell c m ≡ true) place set)
      | inr past ↦
          let long = h.long in
          let more = u.long in
          let stamps = order.stamps in
          get_or_past d.stamps k None (omega (arith, past, long, more, stamps))
    ]
      where
        within_or : (j n : ℕ) → (j < n) ⊎ (n ≤ j)
        within_or j zero = inr (omega arith)
        within_or zero (suc n) = inl (omega arith)
        within_or (suc j) (suc n) = elim (within_or j n) [ inl l ↦ inl (omega (arith, l)) | inr l ↦ inr (omega (arith, l)) ]

-- ---- what that does to what is kept
module _ (a : App) (x : ℕ) (c : CacheState) (ds : List (Option Stamp)) (gone : (k : ℕ) → ReachesCell a k x → slice_index_or ds k None ≡ None) (left : (k : ℕ) → (ReachesCell a k x → ⊥) → slice_index_or ds k None ≡ stamp_of c k) (long : length ds ≡ length c.stamps) where
  abbrev now : CacheState
  now = record c { stamps = ds }

  -- a stamp that is left was there, and its cell doesn't reach the one
  was : (k : ℕ) (e : Stamp) → stamp_of now k ≡ Some e → (stamp_of c k ≡ Some e) × (ReachesCell a k x → ⊥)
  was k e is =
      let far : ReachesCell a k x → ⊥ = λ reach. (let no : None ≡ Some e = sym (gone k reach) ∙ is in absurd cc) in
      (sym (left k far) ∙ is, far)

  pub left_order : IsInOrder a c → IsInOrder a now
  left_order o = record {
    few = o.few;
    stamps = long ∙ o.stamps;
    values = o.values;
    places = o.places;
    fits = o.fits;
    bare = o.bare;
    alone = λ k e is. o.alone k e (was k e is).0;
    leans = λ k d e is current leans.
        let w = was k e is in
        let q = o.leans k d e w.0 current leans in
        let same : stamp_of now d ≡ stamp_of c d = left d (λ reach. w.1 (through k d x leans.0 leans.1 leans.2 reach)) in
        ((q.0.0, same ∙ q.0.1, q.0.2), (q.1.0, same ∙ q.1.1, q.1.2));
    low = record { versions = o.low.versions; checked = λ k e is. o.low.checked k e (was k e is).0; moved = λ k e is. o.low.moved k e (was k e is).0 };
  }

  pub left_right : (s : SessionState) (tables : ToldRows) (m : ℕ) (pending : List Source) → IsRight (present a s tables m) pending c → IsRight (present a s tables m) pending now
  left_right s tables m pending r = record {
    order = left_order r.order;
    valid = λ k e i is there none unmoved. r.valid k e i (was k e is).0 there none (record { sources = unmoved.sources; cells = λ d leans own. let f = unmoved.cells d leans own in (f.0, (was d f.0 f.1).0, f.2) });
  }

-- numbers were made, and then the stamps went
pub touched_cell : (a : App) (x : ℕ) (old mid new : CacheState) → IsInOrder a old → HasNumbers a old mid → AreCleared a x mid new → IsCellTouched a x old new
touched_cell a x old mid new o h f = record {
  order = subst (IsInOrder a) (sym f.rest) (left_order a x mid new.stamps f.gone f.left f.long (h.order o));
  right = λ s tables m pending r. subst (IsRight (present a s tables m) pending) (sym f.rest) (left_right a x mid new.stamps f.gone f.left f.long s tables m pending (h.right s tables m pending r));
  gone = f.gone;
  left = λ room k far. f.left k far ∙ ap (λ (c : CacheState). stamp_of c k) (h.same room);
  kept = λ room. (ap (λ (c : CacheState). c.versions) (f.rest ∙ back room), ap (λ (c : CacheState). c.last) (f.rest ∙ back room), ap (λ (c : CacheState). c.emptied) (f.rest ∙ back room));
  counted = λ short. subst (IsOneMore old.emptied) (sym (ap (λ (c : CacheState). c.emptied) f.rest)) (h.counted short);
  values = ap (λ (c : CacheState). c.values) f.rest ∙ h.values;
  places = ap (λ (c : CacheState). length c.versions) f.rest ∙ h.places;
}
  where
    back : HasNumbersLeft old.last → record mid { stamps = new.stamps } ≡ record old { stamps = new.stamps }
    back room = ap (λ (c : CacheState). record c { stamps = new.stamps }) (h.same room)
