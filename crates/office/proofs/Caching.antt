-- Caches beside sessions.
use Rattle.std.proofs.Common.{◌≡◌, ℕ, zero, suc, ◌+◌, Bool, true, false, List, [], ◌∷◌, ◌++◌, length, Option, Some, None, refl, ap, sym, ◌∙◌, subst, arith}
use Rattle.std.specs.Prelude.{option_map, slice_get, slice_set}
use Rattle.std.specs.List.{position}
use Rattle.app_cells.specs.declared.app.App.{App}
use Rattle.recalc.specs.Kept.{CacheState}
use Rattle.numbered_requests.specs.Directory.{is_named, put_named, put_at}
use Rattle.numbered_requests.specs.declared.directory.Named.{Named}
use Rattle.numbered_requests.proofs.Directories.{position_here, position_past}
use Rattle.row_keeper.specs.Tables.{Tables}
use Rattle.session_state.specs.Sessions.{SessionState}
use Rattle.office.specs.Caches.{EachCacheBecame, AreKept, IsCacheOf}
use Rattle.office.specs.Sessions.{sessions_without}
use Rattle.office.proofs.Directories.{without_here, without_past}
use Rattle.office.proofs.Places.{one_at, there_too}

-- ---- by their places

pub kept_long : (a : App) (told : Option Tables) (m : ℕ) (ss : List (Named SessionState)) (cs : List (Named CacheState)) → AreKept a told m ss cs → length cs ≡ length ss
kept_long a told m [] [] h = refl
kept_long a told m [] (c ∷ cs) h = absurd h
kept_long a told m (s ∷ ss) [] h = absurd h
kept_long a told m (s ∷ ss) (c ∷ cs) h = ap suc (kept_long a told m ss cs h.1)

-- a session and the cache at its place belong together
pub kept_at : (a : App) (told : Option Tables) (m : ℕ) (ss : List (Named SessionState)) (cs : List (Named CacheState)) (k : ℕ) (s : Named SessionState) (c : Named CacheState)
    → AreKept a told m ss cs → slice_get ss k ≡ Some s → slice_get cs k ≡ Some c → IsCacheOf a told m s c
kept_at a told m [] cs k s c h at there = let no : None ≡ Some s = at in absurd cc
kept_at a told m (x ∷ ss) [] k s c h at there = absurd h
kept_at a told m (x ∷ ss) (d ∷ cs) zero s c h at there =
    let one : x ≡ s = cc in
    let other : d ≡ c = cc in
    subst (λ (y : Named CacheState). IsCacheOf a told m s y) other (subst (λ (y : Named SessionState). IsCacheOf a told m y d) one h.0)
kept_at a told m (x ∷ ss) (d ∷ cs) (suc k) s c h at there = kept_at a told m ss cs k s c h.1 at there

-- there is a session at the place of each cache
pub kept_beside : (a : App) (told : Option Tables) (m : ℕ) (ss : List (Named SessionState)) (cs : List (Named CacheState)) (k : ℕ) (c : Named CacheState)
    → AreKept a told m ss cs → slice_get cs k ≡ Some c → (s : Named SessionState) × (slice_get ss k ≡ Some s) × IsCacheOf a told m s c
kept_beside a told m [] [] k c h there = let no : None ≡ Some c = there in absurd cc
kept_beside a told m [] (d ∷ cs) k c h there = absurd h
kept_beside a told m (x ∷ ss) [] k c h there = absurd h
kept_beside a told m (x ∷ ss) (d ∷ cs) zero c h there =
    let same : d ≡ c = cc in
    (x, refl, subst (λ (y : Named CacheState). IsCacheOf a told m x y) same h.0)
kept_beside a told m (x ∷ ss) (d ∷ cs) (suc k) c h there = kept_beside a told m ss cs k c h.1 there

-- and a cache at that of each session
pub kept_there : (a : App) (told : Option Tables) (m : ℕ) (ss : List (Named SessionState)) (cs : List (Named CacheState)) (k : ℕ) (s : Named SessionState)
    → AreKept a told m ss cs → slice_get ss k ≡ Some s → (c : Named CacheState) × (slice_get cs k ≡ Some c) × IsCacheOf a told m s c
kept_there a told m [] cs k s h at = let no : None ≡ Some s = at in absurd cc
kept_there a told m (x ∷ ss) [] k s h at = absurd h
kept_there a told m (x ∷ ss) (d ∷ cs) zero s h at =
    let same : x ≡ s = cc in
    (d, refl, subst (λ (y : Named SessionState). IsCacheOf a told m y d) same h.0)
kept_there a told m (x ∷ ss) (d ∷ cs) (suc k) s h at = kept_there a told m ss cs k s h.1 at

-- place by place
pub kept_by : (a : App) (told : Option Tables) (m : ℕ) (ss : List (Named SessionState)) (cs : List (Named CacheState)) → length cs ≡ length ss
    → ((k : ℕ) (s : Named SessionState) (c : Named CacheState) → slice_get ss k ≡ Some s → slice_get cs k ≡ Some c → IsCacheOf a told m s c) → AreKept a told m ss cs
kept_by a told m [] [] long each = tt
kept_by a told m [] (c ∷ cs) long each = let no : suc (length cs) ≡ 0 = long in absurd (omega (arith, no))
kept_by a told m (s ∷ ss) [] long each = let no : 0 ≡ suc (length ss) = long in absurd (omega (arith, no))
kept_by a told m (s ∷ ss) (c ∷ cs) long each =
    let rest : length cs ≡ length ss = omega (arith, long) in
    (each 0 s c refl refl, kept_by a told m ss cs rest (λ k x d at there. each (suc k) x d at there))

-- each cache became another, and is that of its session again
pub kept_each : (a b : App) (told later : Option Tables) (m n : ℕ) (R : ℕ → CacheState → CacheState → Type 0) (ss rs : List (Named SessionState)) (cs ds : List (Named CacheState))
    → AreKept a told m ss cs → EachCacheBecame R cs ds → length rs ≡ length ss
    → ((k : ℕ) (s r : Named SessionState) (c d : Named CacheState) → slice_get ss k ≡ Some s → slice_get rs k ≡ Some r → IsCacheOf a told m s c → d.name ≡ c.name → R k c.it d.it → IsCacheOf b later n r d)
    → AreKept b later n rs ds
kept_each a b told later m n R ss rs cs ds kept each long so =
    kept_by b later n rs ds (each.long ∙ kept_long a told m ss cs kept ∙ sym long) by
  where
    by : (k : ℕ) (r : Named SessionState) (d : Named CacheState) → slice_get rs k ≡ Some r → slice_get ds k ≡ Some d → IsCacheOf b later n r d
    by k r d at there =
        let old = there_too ds cs (sym each.long) k d there in
        let new = each.each k old.0 old.1 in
        let same = one_at ds k new.0 d new.1 there in
        let beside = kept_beside a told m ss cs k old.0 kept old.1 in
        subst (λ (x : Named CacheState). IsCacheOf b later n r x) same (so k beside.0 r old.0 new.0 beside.1 at beside.2 new.2 new.3)

-- ---- one of them

-- a session and its cache are set
pub kept_set : (a : App) (told : Option Tables) (m : ℕ) (ss : List (Named SessionState)) (cs : List (Named CacheState)) (k : ℕ) (s : Named SessionState) (c : Named CacheState)
    → AreKept a told m ss cs → IsCacheOf a told m s c → AreKept a told m (slice_set ss k s) (slice_set cs k c)
kept_set a told m [] [] k s c h is = tt
kept_set a told m [] (d ∷ cs) k s c h is = absurd h
kept_set a told m (x ∷ ss) [] k s c h is = absurd h
kept_set a told m (x ∷ ss) (d ∷ cs) zero s c h is = (is, h.1)
kept_set a told m (x ∷ ss) (d ∷ cs) (suc k) s c h is = (h.0, kept_set a told m ss cs k s c h.1 is)

kept_more : (a : App) (told : Option Tables) (m : ℕ) (ss : List (Named SessionState)) (cs : List (Named CacheState)) (s : Named SessionState) (c : Named CacheState)
    → AreKept a told m ss cs → IsCacheOf a told m s c → AreKept a told m (ss ++ s ∷ []) (cs ++ c ∷ [])
kept_more a told m [] [] s c h is = (is, tt)
kept_more a told m [] (d ∷ cs) s c h is = absurd h
kept_more a told m (x ∷ ss) [] s c h is = absurd h
kept_more a told m (x ∷ ss) (d ∷ cs) s c h is = (h.0, kept_more a told m ss cs s c h.1 is)

-- a name stands at the same place in both
pub one_place : (a : App) (told : Option Tables) (m : ℕ) (name : List ℕ) (ss : List (Named SessionState)) (cs : List (Named CacheState)) → AreKept a told m ss cs → position (is_named name) cs ≡ position (is_named name) ss
one_place a told m name [] [] h = refl
one_place a told m name [] (c ∷ cs) h = absurd h
one_place a told m name (s ∷ ss) [] h = absurd h
one_place a told m name (s ∷ ss) (c ∷ cs) h = by (is_named name s) refl (one_place a told m name ss cs h.1)
  where
    as_well : (b : Bool) → is_named name s ≡ b → is_named name c ≡ b
    as_well b e = ap (λ (n : List ℕ). is_named {T = CacheState} name (record { name = n; it = c.it })) h.0.name ∙ e

    by : (b : Bool) → is_named name s ≡ b → position (is_named name) cs ≡ position (is_named name) ss → position (is_named name) (c ∷ cs) ≡ position (is_named name) (s ∷ ss)
    by true e rest = position_here CacheState name c cs (as_well true e) ∙ sym (position_here SessionState name s ss e)
    by false e rest = position_past CacheState name c cs (as_well false e) ∙ ap (option_map suc) rest ∙ sym (position_past SessionState name s ss e)

kept_put_at : (a : App) (told : Option Tables) (m : ℕ) (o : Option ℕ) (ss : List (Named SessionState)) (cs : List (Named CacheState)) (s : Named SessionState) (c : Named CacheState)
    → AreKept a told m ss cs → IsCacheOf a told m s c → AreKept a told m (put_at o s ss) (put_at o c cs)
kept_put_at a told m None ss cs s c h is = kept_more a told m ss cs s c h is
kept_put_at a told m (Some k) ss cs s c h is = kept_set a told m ss cs k s c h is

-- a session and its cache are put under its name
pub kept_put : (a : App) (told : Option Tables) (m : ℕ) (name : List ℕ) (ss : List (Named SessionState)) (cs : List (Named CacheState)) (s : SessionState) (c : CacheState)
    → AreKept a told m ss cs → IsCacheOf a told m (record { name = name; it = s }) (record { name = name; it = c }) → AreKept a told m (put_named name s ss) (put_named name c cs)
kept_put a told m name ss cs s c h is =
    subst (λ o. AreKept a told m (put_named name s ss) (put_at o (record { name = name; it = c }) cs)) (sym (one_place a told m name ss cs h))
    (kept_put_at a told m (position (is_named name) ss) ss cs (record { name = name; it = s }) (record { name = name; it = c }) h is)

-- and both are taken out
pub kept_without : (a : App) (told : Option Tables) (m : ℕ) (name : List ℕ) (ss : List (Named SessionState)) (cs : List (Named CacheState)) → AreKept a told m ss cs → AreKept a told m (sessions_without name ss) (sessions_without name cs)
kept_without a told m name [] [] h = tt
kept_without a told m name [] (c ∷ cs) h = absurd h
kept_without a told m name (s ∷ ss) [] h = absurd h
kept_without a told m name (s ∷ ss) (c ∷ cs) h = by (is_named name s) refl (kept_without a told m name ss cs h.1)
  where
    as_well : (b : Bool) → is_named name s ≡ b → is_named name c ≡ b
    as_well b e = ap (λ (n : List ℕ). is_named {T = CacheState} name (record { name = n; it = c.it })) h.0.name ∙ e

    by : (b : Bool) → is_named name s ≡ b → AreKept a told m (sessions_without name ss) (sessions_without name cs) → AreKept a told m (sessions_without name (s ∷ ss)) (sessions_without name (c ∷ cs))
    by true e rest =
        subst (λ (l : List (Named SessionState)). AreKept a told m l (sessions_without name (c ∷ cs))) (sym (without_here SessionState name s ss e))
        (subst (λ (l : List (Named CacheState)). AreKept a told m (sessions_without name ss) l) (sym (without_here CacheState name c cs (as_well true e))) rest)
    by false e rest =
        subst (λ (l : List (Named SessionState)). AreKept a told m l (sessions_without name (c ∷ cs))) (sym (without_past SessionState name s ss e))
        (subst (λ (l : List (Named CacheState)). AreKept a told m (s ∷ sessions_without name ss) l) (sym (without_past CacheState name c cs (as_well false e))) (h.0, rest))
