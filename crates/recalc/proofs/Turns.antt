-- Cells are brought up to date one after another, in the order of leaning.
use Rattle.std.proofs.Common.{◌≡◌, ◌≢◌, ℕ, zero, suc, ◌+◌, ◌^◌, ◌<◌, ◌≤◌, ◌||◌, List, [], ◌∷◌, length, get_or, Bool, true, false, Option, Some, refl, sym, subst, ap, ◌∙◌, arith, inl, inr, ◌==◌}
use Rattle.std.proofs.lemmas.Bool.{cases_eq}
use Rattle.std.proofs.lemmas.Bool.Decides.{Decides-eqb}
use Rattle.std.proofs.lemmas.List.{get_or_default}
use Rattle.std.proofs.lemmas.List.Elements.{All-cons}
use Rattle.std.proofs.lemmas.List.Kept.{AllPairs-cons}
use Rattle.std.proofs.lemmas.Map.Made.{IsDistinct-from_AllPairs}
use Rattle.std.proofs.lemmas.Map.Steps.{length-le_from_distinct_below}
use Rattle.std.specs.List.{All, AllPairs, Contains, list_any}
use Rattle.recalc.specs.app_cells.declared.app.App.{App}
use Rattle.recalc.specs.app_cells.declared.app.CellInfo.{CellInfo}
use Rattle.recalc.specs.app_semantics.Needed.{is_alone}
use Rattle.recalc.specs.app_semantics.Sound.{IsSoundApp}
use Rattle.recalc.proofs.Marking.{at, leans_earlier, once}
use Rattle.recalc.specs.Kept.{HasNumbersLeft, IsClean, IsCurrent, CacheState, Leans, source_index, stamp_of, cached_value}
use Rattle.recalc.specs.Needing.{AreMarked, is_marked}
use Rattle.recalc.specs.Steps.{IsLaterCache, IsBrought, IsBroughtIf, IsCellCutOff, KeepsClean, MayStepIf, OncePerCell, WasDue}
use Rattle.recalc.specs.declared.stamps.Stamp.{Stamp}

-- ---- caches with the same versions
current_on : (a : App) (c d : CacheState) (k n : ℕ) → d.versions ≡ c.versions → IsCurrent a c k n → IsCurrent a d k n
current_on a c d k n e h s plain z = subst (λ (vs : List ℕ). get_or vs (source_index s) 0 ≤ n) (sym e) (h s plain z)

clean_on : (a : App) (c d : CacheState) (k : ℕ) → d.versions ≡ c.versions → stamp_of d k ≡ stamp_of c k → IsClean a c k → IsClean a d k
clean_on a c d k e same clean = (clean.0, same ∙ clean.1, current_on a c d k (clean.0).checked e clean.2)

-- ---- numbers in lists
any_there : (xs : List ℕ) (q : ℕ) → list_any (λ x. q == x) xs ≡ true → Contains xs q
any_there [] q h = absurd cc
any_there (x ∷ xs) q h = by (q == x) refl h (any_there xs q)
  where
    by : (b : Bool) → (q == x) ≡ b → (b || list_any (λ y. q == y) xs) ≡ true → (list_any (λ y. q == y) xs ≡ true → Contains xs q) → Contains (x ∷ xs) q
    by true e h later = let same : q ≡ x = grind (arith, e) in (0, omega arith, sym same)
    by false e h later = let r = later h in (suc r.0, (let l = r.1 in omega (arith, l)), r.2)

pub cell_below : (a : App) (k : ℕ) → is_alone a.cells k ≡ true → k < length a.cells
cell_below a k h = by a.cells k h
  where
    by : (cells : List CellInfo) (j : ℕ) → is_alone cells j ≡ true → j < length cells
    by [] j h = absurd cc
    by (c ∷ cs) zero h = omega arith
    by (c ∷ cs) (suc j) h = let l = by cs j h in omega (arith, l)

-- ---- what was done so far
-- these cells were evaluated, at places before this one
abbrev pub AreBefore : App → ℕ → List ℕ → Type 0
AreBefore a i cs = All (λ k. (j : ℕ) × (j < i) × (at a j ≡ k)) cs

-- and this holds of them
abbrev pub TicksWith : (List ℕ → Type 0) → App → List ℕ → CacheState → CacheState → ℕ → ℕ → ℕ → Type 0
TicksWith Q a roots start c i old new = (cs : List ℕ) × AllPairs (λ x y. x ≢ y) cs × All (WasDue a roots start c) cs × AreBefore a i cs × (new ≡ old + length cs) × Q cs

-- whatever they are
abbrev pub AnyCells : List ℕ → Type 0
AnyCells cs = Unit {0}

abbrev pub TicksTo : App → List ℕ → CacheState → CacheState → ℕ → ℕ → ℕ → Type 0
TicksTo a roots start c i old new = TicksWith AnyCells a roots start c i old new

-- the marked cells before a place of the order are up to date
pub record IsBroughtTo (a : App) (roots : List ℕ) (marks : List Bool) (start : CacheState) (i : ℕ) (c : CacheState) (old new : ℕ) : Type 0 where
  pub left : KeepsClean a start c
  pub others : (j : ℕ) → i ≤ j → j < length a.order → stamp_of c (at a j) ≡ stamp_of start (at a j)
  pub values : (j : ℕ) → i ≤ j → j < length a.order → cached_value c (at a j) ≡ cached_value start (at a j)
  pub done : (j : ℕ) → j < i → j < length a.order → is_marked marks (at a j) ≡ true → IsClean a c (at a j)
  pub ticks : TicksTo a roots start c i old new
  pub room : c.last ≤ start.last + i
  pub slow : c.last + old ≤ start.last + new

later_start : (c : CacheState) → IsLaterCache c c
later_start c = record {
  still = λ k h. h;
  moved = λ k e f at there same. let is : e ≡ f = let both : Some e ≡ Some f = sym at ∙ there in cc in ap (λ (x : Stamp). x.moved) (sym is);
}

pub leaves_start : (a : App) (c : CacheState) → KeepsClean a c c
leaves_start a c = record { still = λ k h. h; later = later_start c; emptied = refl; versions = refl; day = refl }

pub ticks_start : (Q : List ℕ → Type 0) (a : App) (roots : List ℕ) (start : CacheState) (old : ℕ) → Q [] → TicksWith Q a roots start start 0 old old
ticks_start Q a roots start old q = ([], (λ i j d low high. absurd (omega (arith, high))), (λ i d high. absurd (omega (arith, high))), (λ i d high. absurd (omega (arith, high))), omega arith, q)

pub brought_start : (a : App) (roots : List ℕ) (marks : List Bool) (start : CacheState) (old : ℕ) → IsBroughtTo a roots marks start 0 start old old
brought_start a roots marks start old = record {
  left = leaves_start a start;
  others = λ j low high. refl;
  values = λ j low high. refl;
  done = λ j low. absurd (omega (arith, low));
  ticks = ticks_start AnyCells a roots start old tt;
  room = omega arith;
  slow = omega arith;
}

-- ---- one cell more
-- a cell at or before a place leans on none at that place
not_there : (a : App) (i n j k : ℕ) (d : ℕ) → IsSoundApp a → i < length a.order → at a i ≡ n → j ≤ i → at a j ≡ k → Leans a k d → d ≢ n
not_there a i n j k d sound low here le there leans q =
    let b = leans_earlier a j k d sound (omega (arith, le, low)) there leans in
    once a b.0 i sound (omega (arith, b.1, le)) low (b.2 ∙ q ∙ sym here)

-- what cuts such a cell off after that place changed did so before
cut_before : (a : App) (i n j k : ℕ) (start c d : CacheState) → IsSoundApp a → i < length a.order → at a i ≡ n → j ≤ i → at a j ≡ k → d.versions ≡ c.versions → ((x : ℕ) → x ≢ n → stamp_of d x ≡ stamp_of c x) →
    IsCellCutOff a start d k → IsCellCutOff a start c k
cut_before a i n j k start c d sound low here le there same others (e, info, stamp, is, unmoved) = (
  e,
  info,
  stamp,
  is,
  record {
    sources = λ s plain named. subst (λ (vs : List ℕ). get_or vs (source_index s) 0 ≤ e.checked) same (unmoved.sources s plain named);
    cells = λ x leans own.
        let g = unmoved.cells x leans own in
        (g.0, sym (others x (not_there a i n j k x sound low here le there (info, is, leans, own))) ∙ g.1, g.2);
  },
)

due_on : (a : App) (roots : List ℕ) (i n j k : ℕ) (start c d : CacheState) → IsSoundApp a → i < length a.order → at a i ≡ n → j ≤ i → at a j ≡ k → d.versions ≡ c.versions → ((x : ℕ) → x ≢ n → stamp_of d x ≡ stamp_of c x) →
    WasDue a roots start c k → WasDue a roots start d k
due_on a roots i n j k start c d sound low here le there same others due = record {
  alone = due.alone;
  needed = due.needed;
  unclean = due.unclean;
  uncut = λ cut. due.uncut (cut_before a i n j k start c d sound low here le there same others cut);
}

module _ (a : App) (roots : List ℕ) (marks : List Bool) (start : CacheState) (i n : ℕ) (c d : CacheState) (old mid new : ℕ)
    (sound : IsSoundApp a) (low : i < length a.order) (here : at a i ≡ n) (needed : AreMarked a start roots marks) (before : IsBroughtTo a roots marks start i c old mid) where
  same_stamp : stamp_of c n ≡ stamp_of start n
  same_stamp = subst (λ k. stamp_of c k ≡ stamp_of start k) here (before.others i (omega arith) low)

  same_value : cached_value c n ≡ cached_value start n
  same_value = subst (λ k. cached_value c k ≡ cached_value start k) here (before.values i (omega arith) low)

  start_clean : IsClean a start n → IsClean a c n
  start_clean clean = before.left.still n clean

  -- the ticks so far, seen from after
  ticks_on : (Q : List ℕ → Type 0) → d.versions ≡ c.versions → ((x : ℕ) → x ≢ n → stamp_of d x ≡ stamp_of c x) → TicksWith Q a roots start c i old mid → TicksWith Q a roots start d (i + 1) old mid
  ticks_on Q same others (cs, apart, due, places, e, q) = (
    cs,
    apart,
    (λ j x high.
        let p = places j x high in
        due_on a roots i n p.0 (get_or cs j x) start c d sound low here (let l = p.1 in omega (arith, l)) p.2 same others (due j x high)),
    (λ j x high. let p = places j x high in (p.0, let l = p.1 in omega (arith, l), p.2)),
    e,
    q,
  )

  -- no tick more
  ticks_same : (P Q : List ℕ → Type 0) (k : CacheState) → ((cs : List ℕ) → P cs → Q cs) → new ≡ mid → TicksWith P a roots start k (i + 1) old mid → TicksWith Q a roots start k (i + 1) old new
  ticks_same P Q k f e (cs, apart, due, places, z, q) = (cs, apart, due, places, omega (arith, z, e), f cs q)

  -- one tick more
  tick_more : (P Q : List ℕ → Type 0) → ((cs : List ℕ) → P cs → Q (n ∷ cs)) → d.versions ≡ c.versions → ((x : ℕ) → x ≢ n → stamp_of d x ≡ stamp_of c x) → is_marked marks n ≡ true → (IsClean a c n → ⊥) → (IsCellCutOff a c c n → ⊥) → new ≡ mid + 1 →
      TicksWith P a roots start c i old mid → TicksWith Q a roots start d (i + 1) old new
  tick_more P Q f same others mark unclean uncut one (bs, apart', due', places', e', q') = (
    n ∷ bs,
    AllPairs-cons (λ x y. x ≢ y) n bs
        (λ j x high q.
        let p = places' j x high in
        once a p.0 i sound p.1 low (p.2 ∙ sym q ∙ sym here))
        apart',
    All-cons (WasDue a roots start d) n bs due
        (λ j x high.
        let p = places' j x high in
        due_on a roots i n p.0 (get_or bs j x) start c d sound low here (let q = p.1 in omega (arith, q)) p.2 same others (due' j x high)),
    All-cons (λ k. (j : ℕ) × (j < i + 1) × (at a j ≡ k)) n bs (i, omega arith, here)
        (λ j x high. let p = places' j x high in (p.0, let q = p.1 in omega (arith, q), p.2)),
    omega (arith, one, e'),
    f bs q',
  )
    where
      due : WasDue a roots start d n
      due = record {
        alone = needed.alone n mark;
        needed = needed.needed n mark;
        unclean = λ clean. unclean (start_clean clean);
        uncut = λ cut. let q = cut_before a i n i n start c d sound low here (omega arith) here same others cut in uncut (q.0, q.1, same_stamp ∙ q.2, q.3, q.4);
      }

  others_on : ((x : ℕ) → x ≢ n → stamp_of d x ≡ stamp_of c x) → (j : ℕ) → i + 1 ≤ j → j < length a.order → stamp_of d (at a j) ≡ stamp_of start (at a j)
  others_on others j le high =
      others (at a j) (λ q. once a i j sound (omega (arith, le)) high (here ∙ sym q)) ∙ before.others j (omega (arith, le)) high

  leaves_on : IsBrought a n c d → KeepsClean a start d
  leaves_on b = record {
    still = λ k clean. elim (cases_eq k n) [
      | inl q ↦ subst (IsClean a d) (sym q) b.clean
      | inr other ↦ clean_on a c d k b.versions (b.others k other) (before.left.still k clean)
    ];
    later = record {
      still = λ k some. b.later.still k (before.left.later.still k some);
      moved = λ k e f at there same. later_moved k e f at there same (stamp_of c k) refl;
    };
    emptied = b.emptied ∙ before.left.emptied;
    versions = b.versions ∙ before.left.versions;
    day = b.day ∙ before.left.day;
  }
    where
      -- where it has the value of the start it had it all along
      later_moved : (k : ℕ) (e f : Stamp) → stamp_of start k ≡ Some e → stamp_of d k ≡ Some f → cached_value start k ≡ cached_value d k → (o : Option Stamp) → stamp_of c k ≡ o → f.moved ≡ e.moved
      later_moved k e f at there same o q = elim (cases_eq k n) [
        | inl p ↦
            let was : stamp_of c k ≡ Some e = subst (λ m. stamp_of c m ≡ stamp_of start m) (sym p) same_stamp ∙ at in
            b.later.moved k e f was there (subst (λ m. cached_value c m ≡ cached_value start m) (sym p) same_value ∙ same)
        | inr other ↦ before.left.later.moved k e f at (sym (b.others k other) ∙ there) (same ∙ b.values k other)
      ]

  -- no cell was touched
  ticks_stay : (P Q : List ℕ → Type 0) → ((cs : List ℕ) → P cs → Q cs) → new ≡ mid → TicksWith P a roots start c i old mid → TicksWith Q a roots start c (i + 1) old new
  ticks_stay P Q f e (cs, apart, due, places, z, q) = (cs, apart, due, (λ j x high. let p = places j x high in (p.0, let l = p.1 in omega (arith, l), p.2)), omega (arith, z, e), f cs q)

  -- nothing was done
  nothing_more : (is_marked marks n ≡ true → IsClean a c n) → new ≡ mid → IsBroughtTo a roots marks start (i + 1) c old new
  nothing_more clean e = record {
    left = before.left;
    others = λ j le high. before.others j (omega (arith, le)) high;
    values = λ j le high. before.values j (omega (arith, le)) high;
    done = λ j le high mark. elim (cases_eq j i) [
      | inl q ↦
          let is : at a j ≡ n = ap (at a) q ∙ here in
          subst (IsClean a c) (sym is) (clean (subst (λ k. is_marked marks k ≡ true) is mark))
      | inr other ↦ before.done j (omega (arith, le, other)) high mark
    ];
    ticks = ticks_stay AnyCells AnyCells (λ cs q. q) e before.ticks;
    room = let r = before.room in omega (arith, r);
    slow = let r = before.slow in omega (arith, r, e);
  }

  -- the cell was brought up to date
  cell_more : IsBrought a n c d → (d.last + mid ≤ c.last + new) → TicksTo a roots start d (i + 1) old new → IsBroughtTo a roots marks start (i + 1) d old new
  cell_more b slow ticks = record {
    left = leaves_on b;
    others = others_on b.others;
    values = λ j le high. b.values (at a j) (λ q. once a i j sound (omega (arith, le)) high (here ∙ sym q)) ∙ before.values j (omega (arith, le)) high;
    done = λ j le high mark. elim (cases_eq (at a j) n) [
      | inl q ↦ subst (IsClean a d) (sym q) b.clean
      | inr other ↦
          let apart : j ≢ i = λ q. other (ap (at a) q ∙ here) in
          clean_on a c d (at a j) b.versions (b.others (at a j) other) (before.done j (omega (arith, le, apart)) high mark)
    ];
    ticks = ticks;
    room = let r = before.room in let more = b.now.1 in omega (arith, r, more);
    slow = let r = before.slow in omega (arith, r, slow);
  }

  pub brought_more : IsBroughtIf a marks n c d → MayStepIf a marks n c d mid new → IsBroughtTo a roots marks start (i + 1) d old new
  brought_more (inr (same, clean)) may =
      subst (λ x. IsBroughtTo a roots marks start (i + 1) x old new) (sym same) (nothing_more clean (by may))
    where
      by : MayStepIf a marks n c d mid new → new ≡ mid
      by (inr (e, now)) = e
      by (inl (mark, unclean, may)) = absurd (unclean (clean mark))
  brought_more (inl b) (inr (e, now)) = cell_more b (omega (arith, e, now)) (ticks_same AnyCells AnyCells d (λ cs q. q) e (ticks_on AnyCells b.versions b.others before.ticks))
  brought_more (inl b) (inl (mark, unclean, inr (e, now))) = cell_more b (omega (arith, e, now)) (ticks_same AnyCells AnyCells d (λ cs q. q) e (ticks_on AnyCells b.versions b.others before.ticks))
  brought_more (inl b) (inl (mark, unclean, inl (one, now, uncut))) =
      cell_more b (omega (arith, one, now)) (tick_more AnyCells AnyCells (λ cs q. q) b.versions b.others mark unclean uncut one before.ticks)

  -- what holds of the cells that were evaluated, with one more or with none
  pub ticks_more : (P Q : List ℕ → Type 0) → (new ≡ mid + 1 → (cs : List ℕ) → P cs → Q (n ∷ cs)) → (new ≡ mid → (cs : List ℕ) → P cs → Q cs) → IsBroughtIf a marks n c d → MayStepIf a marks n c d mid new →
      TicksWith P a roots start c i old mid → TicksWith Q a roots start d (i + 1) old new
  ticks_more P Q one_more none (inr (same, clean)) may t = subst (λ x. TicksWith Q a roots start x (i + 1) old new) (sym same) (ticks_stay P Q (none e) e t)
    where
      by : MayStepIf a marks n c d mid new → new ≡ mid
      by (inr (e, now)) = e
      by (inl (mark, unclean, may)) = absurd (unclean (clean mark))

      e : new ≡ mid
      e = by may
  ticks_more P Q one_more none (inl b) (inr (e, now)) t = ticks_same P Q d (none e) e (ticks_on P b.versions b.others t)
  ticks_more P Q one_more none (inl b) (inl (mark, unclean, inr (e, now))) t = ticks_same P Q d (none e) e (ticks_on P b.versions b.others t)
  ticks_more P Q one_more none (inl b) (inl (mark, unclean, inl (one, now, uncut))) t = tick_more P Q (one_more one) b.versions b.others mark unclean uncut one t

  -- what the cell leans on is clean, if it has to be brought up to date itself
  pub parts_clean : is_marked marks n ≡ true → (IsClean a c n → ⊥) → (x : ℕ) → Leans a n x → IsClean a c x
  parts_clean mark unclean x leans =
      let b = leans_earlier a i n x sound low here leans in
      let marked : is_marked marks x ≡ true = needed.closed n x mark (λ clean. unclean (start_clean clean)) leans in
      subst (IsClean a c) b.2 (before.done b.0 b.1 (let q = b.1 in omega (arith, q, low)) (subst (λ k. is_marked marks k ≡ true) (sym b.2) marked))

-- ---- the end
pub all_made : (a : App) (roots : List ℕ) (marks : List Bool) (start c : CacheState) (i old new : ℕ) → IsSoundApp a → length a.order ≤ i → AreMarked a start roots marks → IsBroughtTo a roots marks start i c old new → (k : ℕ) → Contains roots k → IsClean a c k
all_made a roots marks start c i old new sound end needed h k root =
    let mark : is_marked marks k ≡ true = needed.top k root in
    let there : Contains a.order k = (sound.order.all k).1 (cell_below a k (needed.alone k mark)) in
    let place : at a there.0 ≡ k = get_or_default a.order there.0 0 k there.1 ∙ there.2 in
    subst (IsClean a c) place (h.done there.0 (let q = there.1 in omega (arith, q, end)) there.1 (subst (λ n. is_marked marks n ≡ true) (sym place) mark))

pub all_ticks : (a : App) (roots : List ℕ) (marks : List Bool) (start c : CacheState) (i old new : ℕ) → IsBroughtTo a roots marks start i c old new → OncePerCell a roots start c old new
all_ticks a roots marks start c i old new h = by h.ticks
  where
    by : TicksTo a roots start c i old new → OncePerCell a roots start c old new
    by (cs, apart, due, places, e, any) = (cs, apart, due, e)

-- there are no more places than cells
pub few_places : (a : App) → IsSoundApp a → length a.order ≤ length a.cells
few_places a sound =
    length-le_from_distinct_below a.order (length a.cells) (IsDistinct-from_AllPairs Decides-eqb a.order sound.order.once)
    (λ q there. (sound.order.all q).0 (any_there a.order q there))

-- a number is left for the next cell
pub has_next : (a : App) (roots : List ℕ) (marks : List Bool) (start : CacheState) (i : ℕ) (c : CacheState) (old mid : ℕ) → IsSoundApp a → length a.cells ≤ 2000 → HasNumbersLeft start.last → i < length a.order → IsBroughtTo a roots marks start i c old mid → c.last + 1 < 2 ^ 64
has_next a roots marks start i c old mid sound few room low h =
    let places = few_places a sound in
    let near = h.room in
    omega (arith, few, room, low, places, near)

-- no step was taken
pub no_ticks : (a : App) (roots : List ℕ) (start after : CacheState) (n : ℕ) → OncePerCell a roots start after n n
no_ticks a roots start after n = ([], (λ i j d low high. absurd (omega (arith, high))), (λ i d high. absurd (omega (arith, high))), omega arith)

-- steps only rise
pub steps_rise : (a : App) (roots : List ℕ) (marks : List Bool) (start : CacheState) (i : ℕ) (c : CacheState) (old mid : ℕ) → IsBroughtTo a roots marks start i c old mid → old ≤ mid
steps_rise a roots marks start i c old mid h = by h.ticks
  where
    by : TicksTo a roots start c i old mid → old ≤ mid
    by (cs, apart, due, places, e, any) = omega (arith, e)

pub may_rise : (a : App) (marks : List Bool) (k : ℕ) (c d : CacheState) (mid new : ℕ) → MayStepIf a marks k c d mid new → mid ≤ new
may_rise a marks k c d mid new (inr (e, now)) = omega (arith, e)
may_rise a marks k c d mid new (inl (mark, unclean, inr (e, now))) = omega (arith, e)
may_rise a marks k c d mid new (inl (mark, unclean, inl (e, now, uncut))) = omega (arith, e)
