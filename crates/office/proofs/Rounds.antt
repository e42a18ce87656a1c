-- Loops over caches, and over the sources of which they are told.
use Rattle.std.proofs.Common.{◌≡◌, ◌⊎◌, ℕ, zero, suc, ◌+◌, ◌<◌, ◌≤◌, Bool, true, false, List, [], ◌∷◌, ◌++◌, length, add-one, drop, drop-cons, get_or, take, Some, refl, ap, sym, ◌∙◌, subst, inl, inr, arith}
use Rattle.std.specs.Prelude.{slice_get, slice_set}
use Rattle.std.specs.List.{AllByRecursion}
use Rattle.std.proofs.lemmas.Grind.{common_steps}
use Rattle.std.proofs.lemmas.List.{append-nil, length-append, length-set, take_more}
use Rattle.std.proofs.lemmas.Option.{slice_get_within}
use Rattle.app_cells.specs.declared.app.App.{App}
use Rattle.fx_core.specs.Reads.{IsAmong}
use Rattle.fx_core.specs.declared.sources.Source.{Source}
use Rattle.fx_core.specs.declared.sources.Source.TheVariants as source
use Rattle.recalc.proofs.Leaving.{left_same, left_then, left_wider}
use Rattle.recalc.specs.Changes.{StaysCleanExcept, IsTouched}
use Rattle.recalc.specs.Kept.{HasNumbersLeft, IsClean, IsInOrder, IsRight, CacheState}
use Rattle.recalc.specs.Asking.{ToldRows}
use Rattle.recalc.specs.app_cells.Reach.{Reaches, is_cell}
use Rattle.recalc.specs.app_semantics.Present.{present}
use Rattle.numbered_requests.specs.declared.directory.Named.{Named}
use Rattle.session_state.specs.Sessions.{SessionState}
use Rattle.office.proofs.Places.{cases_of, one_at, set_here, set_same, set_there, some_at, there_too}
use Rattle.office.specs.Caches.{EachCacheBecame, CacheTouched, is_table, tables_in}

-- ---- cache after cache

-- those before a place became others so, and the rest are as they were
pub record IsSoFar (R : ℕ → CacheState → CacheState → Type 0) (n : ℕ) (old new : List (Named CacheState)) : Type 0 where
  pub long : length new ≡ length old
  pub each : (k : ℕ) (c : Named CacheState) → slice_get old k ≡ Some c → (d : Named CacheState) × (slice_get new k ≡ Some d) × (d.name ≡ c.name) × (k < n → R k c.it d.it) × (n ≤ k → d ≡ c)

-- none yet
pub so_far_none : (R : ℕ → CacheState → CacheState → Type 0) (cs : List (Named CacheState)) → IsSoFar R 0 cs cs
so_far_none R cs = record { long = refl; each = λ k c at. (c, at, refl, λ below. absurd (omega (arith, below)), λ from. refl) }

-- the next one
pub so_far_more : (R : ℕ → CacheState → CacheState → Type 0) (n : ℕ) (old new next : List (Named CacheState)) (c d : Named CacheState) → IsSoFar R n old new → slice_get new n ≡ Some c → d.name ≡ c.name → R n c.it d.it → next ≡ slice_set new n d
    → IsSoFar R (n + 1) old next
so_far_more R n old new next c d h there named done is = record {
  long = ap length is ∙ length-set new n d ∙ h.long;
  each = λ k x at. by k x at (h.each k x at) (cases_of k n);
}
  where
    less : (k : ℕ) → k < n + 1 → (k ≡ n → ⊥) → k < n
    less k below far = omega (arith, below, far)

    by : (k : ℕ) (x : Named CacheState) → slice_get old k ≡ Some x → (y : Named CacheState) × (slice_get new k ≡ Some y) × (y.name ≡ x.name) × (k < n → R k x.it y.it) × (n ≤ k → y ≡ x) → (k ≡ n) ⊎ (k ≡ n → ⊥)
        → (y : Named CacheState) × (slice_get next k ≡ Some y) × (y.name ≡ x.name) × (k < n + 1 → R k x.it y.it) × (n + 1 ≤ k → y ≡ x)
    by k x at was (inl e) =
        let here : slice_get new k ≡ Some c = ap (slice_get new) e ∙ there in
        let same = one_at new k was.0 c was.1 here in
        let before : was.0 ≡ x = was.4 (omega (arith, e)) in
        let whole : c ≡ x = sym same ∙ before in (
          d,
          ap (λ l. slice_get l k) is ∙ subst (λ j. slice_get (slice_set new n d) j ≡ Some d) (sym e) (set_here new n c d there),
          named ∙ ap (λ (z : Named CacheState). z.name) whole,
          λ below. subst (λ j. R j x.it d.it) (sym e) (subst (λ (z : Named CacheState). R n z.it d.it) whole done),
          λ from. absurd (omega (arith, from, e)),
        )
    by k x at was (inr far) = (
      was.0,
      ap (λ l. slice_get l k) is ∙ set_there new k n was.0 d far was.1,
      was.2,
      λ below. was.3 (less k below far),
      λ from. was.4 (omega (arith, from)),
    )

-- a cache that stays counts as well
pub so_far_same : (R : ℕ → CacheState → CacheState → Type 0) (n : ℕ) (old new : List (Named CacheState)) (c : Named CacheState) → IsSoFar R n old new → slice_get new n ≡ Some c → R n c.it c.it → IsSoFar R (n + 1) old new
so_far_same R n old new c h there done = so_far_more R n old new new c c h there refl done (sym (set_same new n c there))

-- one is left out, for which there is nothing to do
pub so_far_skip : (R : ℕ → CacheState → CacheState → Type 0) (n : ℕ) (old new : List (Named CacheState)) → IsSoFar R n old new → n < length new → ((c : CacheState) → R n c c) → IsSoFar R (n + 1) old new
so_far_skip R n old new h below done = let it = some_at new n below in so_far_same R n old new it.0 h it.1 (done it.0.it)

-- the next one is as it was
pub so_far_here : (R : ℕ → CacheState → CacheState → Type 0) (n : ℕ) (old new : List (Named CacheState)) (c : Named CacheState) → IsSoFar R n old new → slice_get new n ≡ Some c → slice_get old n ≡ Some c
so_far_here R n old new c h there =
    let was = there_too new old (sym h.long) n c there in
    let it = h.each n was.0 was.1 in
    let same = one_at new n it.0 c it.1 there in
    was.1 ∙ ap Some (sym (it.4 (omega arith)) ∙ same)

-- all of them
pub so_far_all : (R : ℕ → CacheState → CacheState → Type 0) (n : ℕ) (old new : List (Named CacheState)) → length old ≤ n → IsSoFar R n old new → EachCacheBecame R old new
so_far_all R n old new all h = record {
  long = h.long;
  each = λ k c at. let it = h.each k c at in (it.0, it.1, it.2, it.3 (before k c at));
}
  where
    before : (k : ℕ) (c : Named CacheState) → slice_get old k ≡ Some c → k < n
    before k c at = let there = slice_get_within old k c at in omega (arith, there, all)

-- ---- what holds of each

pub every_more : {X : Type 0} (P : X → Type 0) (xs : List X) (x : X) → AllByRecursion P xs → P x → AllByRecursion P (xs ++ x ∷ [])
every_more P [] x h p = (p, tt)
every_more P (y ∷ ys) x h p = (h.0, every_more P ys x h.1 p)

pub every_front : {X : Type 0} (P : X → Type 0) (xs : List X) (x : X) → AllByRecursion P (xs ++ x ∷ []) → AllByRecursion P xs
every_front P [] x h = tt
every_front P (y ∷ ys) x h = (h.0, every_front P ys x h.1)

pub every_last : {X : Type 0} (P : X → Type 0) (xs : List X) (x : X) → AllByRecursion P (xs ++ x ∷ []) → P x
every_last P [] x h = h.0
every_last P (y ∷ ys) x h = every_last P ys x h.1

-- ---- what is among sources

-- a table is no cell
pub plain_table : (s : Source) → is_table s ≡ true → is_cell s ≡ false
plain_table (source.Cell k) e = absurd cc
plain_table (source.Global k) e = refl
plain_table (source.Context k) e = refl
plain_table (source.Gathered k) e = refl
plain_table (source.Input k) e = refl
plain_table (source.Chosen k) e = refl
plain_table (source.Table k) e = refl
plain_table source.Today e = refl

pub at_among : (xs : List Source) (i : ℕ) (d : Source) → i < length xs → IsAmong (get_or xs i d) xs
at_among [] i d below = absurd (omega (arith, below))
at_among (x ∷ xs) zero d below = inl refl
at_among (x ∷ xs) (suc i) d below = inr (at_among xs i d (omega (arith, below)))

-- ---- source after source

-- of sources these were touched and those not yet
pub record IsOnTheWay (a : App) (xs ys zs : List Source) (old new : CacheState) : Type 0 where
  pub order : IsInOrder a old → IsInOrder a new
  pub right : (s : SessionState) (tables : ToldRows) (m : ℕ) → IsRight (present a s tables m) xs old → IsRight (present a s tables m) zs new
  pub last : HasNumbersLeft (old.last + length ys) → new.last ≡ old.last + length ys
  pub left : HasNumbersLeft (old.last + length ys) → (k : ℕ) → ((x : Source) → IsAmong x ys → Reaches a k x → ⊥) → IsClean a old k → IsClean a new k
  pub but : StaysCleanExcept a ys old new
  pub day : new.values.day ≡ old.values.day

among_left : (x : Source) (ys : List Source) (s : Source) → IsAmong x ys → IsAmong x (ys ++ s ∷ [])
among_left x [] s h = absurd h
among_left x (y ∷ ys) s (inl e) = inl e
among_left x (y ∷ ys) s (inr l) = inr (among_left x ys s l)

among_last : (ys : List Source) (s : Source) → IsAmong s (ys ++ s ∷ [])
among_last [] s = inl refl
among_last (y ∷ ys) s = inr (among_last ys s)

pub way_on : (a : App) (xs ys zs : List Source) (s : Source) (old mid new : CacheState) → IsOnTheWay a xs ys (s ∷ zs) old mid → IsTouched a s mid new → IsOnTheWay a xs (ys ++ s ∷ []) zs old new
way_on a xs ys zs s old mid new h t = record {
  order = λ o. t.order (h.order o);
  right = λ r tables m k. t.right r tables m zs (h.right r tables m k);
  last = λ room. ap (λ (c : CacheState). c.last) (t.only (now room)) ∙ ap (λ n. n + 1) (h.last (before room)) ∙ sum;
  left = λ room k far clean. t.left (now room) k (λ z. far s (among_last ys s) z) (h.left (before room) k (λ x among z. far x (among_left x ys s among) z) clean);
  but = left_then a (ys ++ s ∷ []) old mid new (left_wider a ys (ys ++ s ∷ []) old mid (λ x among. among_left x ys s among) h.but) (left_wider a (s ∷ []) (ys ++ s ∷ []) mid new last_one t.but);
  day = t.day ∙ h.day;
}
  where
    last_one : (x : Source) → IsAmong x (s ∷ []) → IsAmong x (ys ++ s ∷ [])
    last_one x (inl e) = subst (λ (z : Source). IsAmong z (ys ++ s ∷ [])) e (among_last ys s)
    last_one x (inr none) = absurd none

    more : length (ys ++ s ∷ []) ≡ length ys + 1
    more = length-append ys (s ∷ [])

    sum : old.last + length ys + 1 ≡ old.last + length (ys ++ s ∷ [])
    sum = omega (arith, more)

    before : HasNumbersLeft (old.last + length (ys ++ s ∷ [])) → HasNumbersLeft (old.last + length ys)
    before room = omega (arith, room, more)

    now : HasNumbersLeft (old.last + length (ys ++ s ∷ [])) → HasNumbersLeft mid.last
    now room = let is = h.last (before room) in omega (arith, room, more, is)

pub way_ends : (a : App) (xs : List Source) (old new : CacheState) → IsOnTheWay a xs xs [] old new → CacheTouched a xs old new
way_ends a xs old new h = record { order = h.order; right = h.right; left = h.left; but = h.but; day = h.day }

-- the tables among sources, one after another
abbrev pub IsAt : App → List Source → ℕ → CacheState → CacheState → Type 0
IsAt a xs i old new = IsOnTheWay a (tables_in xs) (tables_in (take i xs)) (tables_in (drop i xs)) old new

pub at_start : (a : App) (xs : List Source) (c : CacheState) → IsAt a xs 0 c c
at_start a xs c = record {
  order = λ o. o;
  right = λ s tables m r. r;
  last = λ room. omega arith;
  left = λ room k far clean. clean;
  but = left_same a [] c;
  day = refl;
}

tables_both : (xs ys : List Source) → tables_in (xs ++ ys) ≡ tables_in xs ++ tables_in ys
tables_both [] ys = refl
tables_both (x ∷ xs) ys = by (is_table x) refl (tables_both xs ys)
  where
    by : (b : Bool) → is_table x ≡ b → tables_in (xs ++ ys) ≡ tables_in xs ++ tables_in ys → tables_in (x ∷ (xs ++ ys)) ≡ tables_in (x ∷ xs) ++ tables_in ys
    by true e rest = grind (arith, common_steps, e, rest)
    by false e rest = grind (arith, common_steps, e, rest)

pub one_table : (s : Source) (xs : List Source) → is_table s ≡ true → tables_in (s ∷ xs) ≡ s ∷ tables_in xs
one_table s xs e = grind (arith, common_steps, e)

pub no_table : (s : Source) (xs : List Source) → is_table s ≡ false → tables_in (s ∷ xs) ≡ tables_in xs
no_table s xs e = grind (arith, common_steps, e)

drop_one : (xs : List Source) (i : ℕ) (d : Source) → i < length xs → drop i xs ≡ get_or xs i d ∷ drop (i + 1) xs
drop_one xs i d below = drop-cons xs i d below ∙ ap (λ k. get_or xs i d ∷ drop k xs) (sym (add-one i))

pub at_table : (a : App) (xs : List Source) (i : ℕ) (d : Source) (old mid new : CacheState) → i < length xs → is_table (get_or xs i d) ≡ true → IsAt a xs i old mid → IsTouched a (get_or xs i d) mid new → IsAt a xs (i + 1) old new
at_table a xs i d old mid new below table h t =
    let s = get_or xs i d in
    let rest : tables_in (drop i xs) ≡ s ∷ tables_in (drop (i + 1) xs) = ap tables_in (drop_one xs i d below) ∙ one_table s (drop (i + 1) xs) table in
    let done : tables_in (take (i + 1) xs) ≡ tables_in (take i xs) ++ s ∷ [] =
    ap tables_in (take_more xs i d below) ∙ tables_both (take i xs) (s ∷ []) ∙ ap (λ (l : List Source). tables_in (take i xs) ++ l) (one_table s [] table) in
    subst (λ (l : List Source). IsOnTheWay a (tables_in xs) l (tables_in (drop (i + 1) xs)) old new) (sym done)
    (way_on a (tables_in xs) (tables_in (take i xs)) (tables_in (drop (i + 1) xs)) s old mid new
    (subst (λ (l : List Source). IsOnTheWay a (tables_in xs) (tables_in (take i xs)) l old mid) rest h) t)

pub at_other : (a : App) (xs : List Source) (i : ℕ) (d : Source) (old new : CacheState) → i < length xs → is_table (get_or xs i d) ≡ false → IsAt a xs i old new → IsAt a xs (i + 1) old new
at_other a xs i d old new below plain h =
    let s = get_or xs i d in
    let rest : tables_in (drop i xs) ≡ tables_in (drop (i + 1) xs) = ap tables_in (drop_one xs i d below) ∙ no_table s (drop (i + 1) xs) plain in
    let done : tables_in (take (i + 1) xs) ≡ tables_in (take i xs) =
    ap tables_in (take_more xs i d below) ∙ tables_both (take i xs) (s ∷ []) ∙ ap (λ (l : List Source). tables_in (take i xs) ++ l) (no_table s [] plain) ∙ append-nil (tables_in (take i xs)) in
    subst (λ (l : List Source). IsOnTheWay a (tables_in xs) l (tables_in (drop (i + 1) xs)) old new) (sym done)
    (subst (λ (l : List Source). IsOnTheWay a (tables_in xs) (tables_in (take i xs)) l old new) rest h)

pub at_end : (a : App) (xs : List Source) (i : ℕ) (old new : CacheState) → i ≡ length xs → IsAt a xs i old new → CacheTouched a (tables_in xs) old new
at_end a xs i old new all h =
    way_ends a (tables_in xs) old new
    (subst (λ (l : List Source). IsOnTheWay a (tables_in xs) (tables_in xs) l old new) (ap tables_in (nothing xs i all))
    (subst (λ (l : List Source). IsOnTheWay a (tables_in xs) l (tables_in (drop i xs)) old new) (ap tables_in (everything xs i all)) h))
  where
    nothing : (ys : List Source) (k : ℕ) → k ≡ length ys → drop k ys ≡ []
    nothing [] k e = rw e refl
    nothing (y ∷ ys) k e = rw e (nothing ys (length ys) refl)

    everything : (ys : List Source) (k : ℕ) → k ≡ length ys → take k ys ≡ ys
    everything [] k e = rw e refl
    everything (y ∷ ys) k e = rw e (ap (λ (l : List Source). y ∷ l) (everything ys (length ys) refl))
