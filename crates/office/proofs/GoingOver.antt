-- Caches go over to an edited app.
use Rattle.std.proofs.Common.{◌≡◌, ◌⊎◌, ◌<◌, ◌≤◌, ℕ, zero, suc, List, [], ◌∷◌, Option, Some, None, refl, ap, sym, ◌∙◌, subst, inl, inr}
use Rattle.std.specs.Prelude.{slice_get, slice_set}
use Rattle.std.proofs.lemmas.Bool.{cases_lt}
use Rattle.std.proofs.Math.Logic.{∥∥₁_map}
use Rattle.std.proofs.lemmas.List.{length-map}
use Rattle.app_cells.specs.declared.app.App.{App}
use Rattle.app_cells.specs.declared.frame.Frame.{Frame}
use Rattle.app_loader.specs.app_texts.Frames.{app_frame}
use Rattle.fx_scalar.specs.ScalarFunctions.{IsToday}
use Rattle.fx_core.specs.declared.names.Names.{Names}
use Rattle.recalc.specs.Carrying.{IsCarried, IsEditOf}
use Rattle.recalc.specs.Kept.{IsRoomFor, CacheState, CacheRoom}
use Rattle.recalc.specs.app_semantics.Present.{present}
use Rattle.recalc.proofs.Touching.{room_carried, room_order, room_right}
use Rattle.numbered_requests.specs.declared.directory.Named.{Named}
use Rattle.row_keeper.specs.Tables.{Tables}
use Rattle.session_requests.proofs.WorldTelling.{holding}
use Rattle.session_requests.specs.Caching.{IsCached}
use Rattle.session_state.specs.Carrying.{carried}
use Rattle.session_state.specs.Changes.{FitsNames}
use Rattle.session_state.specs.Sessions.{SessionState}
use Rattle.office.proofs.Caching.{kept_beside, kept_each}
use Rattle.office.proofs.Edits.{alike}
use Rattle.office.proofs.Places.{one_at, set_same, there_too}
use Rattle.office.proofs.Rounds.{IsSoFar}
use Rattle.office.specs.Caches.{EachCacheBecame, AreInOrder, AreKept, HaveRoomFor, IsButRoom, IsCacheOf, WentOver}
use Rattle.office.specs.DeskEdits.{all_carried, one_carried}
use Rattle.session_views.specs.Shows.{LiveSessionsFit}

-- an edited app has the same frame
pub edit_of : (a b : App) → app_frame b ≡ app_frame a → IsEditOf a b
edit_of a b e = record { alike = alike a b e; schema = ap (λ (f : Frame). f.schema) e; limit = ap (λ (f : Frame). f.limit) e }

-- what is carried over to it is right over a session that is carried
over_cached : (a b : App) (s : SessionState) (x : Option Tables) (m : ℕ) (c d : CacheState) → FitsNames a.names s → IsCarried a b c d → IsCached a s x m c → IsCached b (carried a.names b.names s) x m d
over_cached a b s x m c d fit over h = record {
  order = over.order;
  right = ∥∥₁_map h.right (λ right tables heard. over.right s tables m (holding a.names s fit) (right tables heard));
  day = subst (IsToday m) (sym over.day) h.day;
}

fits_at : (n : Names) (ss : List (Named SessionState)) (k : ℕ) (s : Named SessionState) → LiveSessionsFit n ss → slice_get ss k ≡ Some s → FitsNames n s.it
fits_at n [] k s fit at = let no : None ≡ Some s = at in absurd cc
fits_at n (r ∷ ss) zero s fit at = let same : r ≡ s = cc in subst (λ (z : Named SessionState). FitsNames n z.it) same fit.0
fits_at n (r ∷ ss) (suc k) s fit at = fits_at n ss k s fit.1 at

carried_at : (n m : Names) (ss : List (Named SessionState)) (k : ℕ) (s r : Named SessionState) → slice_get ss k ≡ Some s → slice_get (all_carried n m ss) k ≡ Some r → r ≡ one_carried n m s
carried_at n m [] k s r at there = let no : None ≡ Some s = at in absurd cc
carried_at n m (z ∷ ss) zero s r at there =
    let same : z ≡ s = cc in
    let one : one_carried n m z ≡ r = cc in
    sym one ∙ ap (one_carried n m) same
carried_at n m (z ∷ ss) (suc k) s r at there = carried_at n m ss k s r at there

-- sessions and their caches went over to it
pub kept_over : (a b : App) (x : Option Tables) (m : ℕ) (ss : List (Named SessionState)) (cs ds : List (Named CacheState)) → LiveSessionsFit a.names ss → AreKept a x m ss cs → EachCacheBecame (λ k. IsCarried a b) cs ds → AreKept b x m (all_carried a.names b.names ss) ds
kept_over a b x m ss cs ds fit h each =
    kept_each a b x x m m (λ k. IsCarried a b) ss (all_carried a.names b.names ss) cs ds h each (length-map ss (one_carried a.names b.names))
    (λ k s r c d at there is named over.
    subst (λ (z : Named SessionState). IsCacheOf b x m z d) (sym (carried_at a.names b.names ss k s r at there))
    (record { name = named ∙ is.name; cached = over_cached a b s.it x m c.it d.it (fits_at a.names ss k s fit at) over is.cached }))

-- caches that are kept are in order
pub kept_order : (a : App) (x : Option Tables) (m : ℕ) (ss : List (Named SessionState)) (cs : List (Named CacheState)) → AreKept a x m ss cs → AreInOrder a cs
kept_order a x m ss cs h k c at = (kept_beside a x m ss cs k c h at).2.cached.order

pub each_over : (a b : App) (cs ds : List (Named CacheState)) → EachCacheBecame (λ k. IsCarried a b) cs ds → EachCacheBecame (λ k. WentOver a b) cs ds
each_over a b cs ds h = record { long = h.long; each = λ k c at. let d = h.each k c at in (d.0, d.1, d.2, inr d.3) }

-- ---- room is made beside what is kept

abbrev pub IsRoomMade : App → ℕ → CacheState → CacheState → Type 0
IsRoomMade a k c d = IsButRoom c d × IsRoomFor a d.room

pub made_room : (a : App) (k : ℕ) (c d : CacheState) → (r : CacheRoom) × IsRoomFor a r × (d ≡ record c { room = r }) → IsRoomMade a k c d
made_room a k c d (r, enough, is) =
    let same : d.room ≡ r = ap (λ (z : CacheState). z.room) is in
    (is ∙ ap (λ (q : CacheRoom). record c { room = q }) (sym same), subst (IsRoomFor a) (sym same) enough)

-- in all caches
pub rooms_all : (a : App) (cs ds : List (Named CacheState)) → EachCacheBecame (IsRoomMade a) cs ds → EachCacheBecame (λ k. IsButRoom) cs ds
rooms_all a cs ds h = record { long = h.long; each = λ k c at. let d = h.each k c at in (d.0, d.1, d.2, d.3.0) }

pub rooms_there : (a : App) (cs ds : List (Named CacheState)) → EachCacheBecame (IsRoomMade a) cs ds → HaveRoomFor a ds
rooms_there a cs ds h k d at =
    let was = there_too ds cs (sym h.long) k d at in
    let it = h.each k was.0 was.1 in
    subst (λ (z : Named CacheState). IsRoomFor a z.it.room) (one_at ds k it.0 d it.1 at) it.3.1

-- or in those before one, for which there is no memory
pub rooms_before : (a : App) (n : ℕ) (cs ds es : List (Named CacheState)) (d e : Named CacheState) → IsSoFar (IsRoomMade a) n cs ds → slice_get ds n ≡ Some d → e ≡ d → es ≡ slice_set ds n e → EachCacheBecame (λ k. IsButRoom) cs es
rooms_before a n cs ds es d e h there same is =
    subst (λ (l : List (Named CacheState)). EachCacheBecame (λ k. IsButRoom) cs l) (sym (is ∙ ap (slice_set ds n) same ∙ set_same ds n d there)) (record {
      long = h.long;
      each = λ k c at. let z = h.each k c at in (z.0, z.1, z.2, by k c z.0 z.3 z.4 (cases_lt k n));
    })
  where
    by : (k : ℕ) (c z : Named CacheState) → (k < n → IsRoomMade a k c.it z.it) → (n ≤ k → z ≡ c) → (k < n) ⊎ (n ≤ k) → IsButRoom c.it z.it
    by k c z before after (inl low) = (before low).0
    by k c z before after (inr high) = let whole : z ≡ c = after high in subst (λ (w : Named CacheState). IsButRoom c.it w.it) (sym whole) refl

room_cached : (a : App) (s : SessionState) (x : Option Tables) (m : ℕ) (c d : CacheState) → IsButRoom c d → IsCached a s x m c → IsCached a s x m d
room_cached a s x m c d is h = subst (IsCached a s x m) (sym is) (record {
  order = room_order a c d.room h.order;
  right = ∥∥₁_map h.right (λ right tables heard. room_right (present a s tables m) [] c d.room (right tables heard));
  day = h.day;
})

pub kept_room : (a : App) (x : Option Tables) (m : ℕ) (ss : List (Named SessionState)) (cs ds : List (Named CacheState)) → EachCacheBecame (λ k. IsButRoom) cs ds → AreKept a x m ss cs → AreKept a x m ss ds
kept_room a x m ss cs ds each h =
    kept_each a a x x m m (λ k. IsButRoom) ss ss cs ds h each refl
    (λ k s r c d at there is named but.
    let same : s ≡ r = one_at ss k s r at there in
    subst (λ (z : Named SessionState). IsCacheOf a x m z d) same (record { name = named ∙ is.name; cached = room_cached a s.it x m c.it d.it but is.cached }))

-- a cache goes over as it would without the room
pub carried_from : (a b : App) (cs ds es : List (Named CacheState)) → EachCacheBecame (λ k. IsButRoom) cs ds → EachCacheBecame (λ k. IsCarried a b) ds es → EachCacheBecame (λ k. IsCarried a b) cs es
carried_from a b cs ds es h g = record {
  long = g.long ∙ h.long;
  each = λ k c at.
      let d = h.each k c at in
      let e = g.each k d.0 d.1 in
      (e.0, e.1, e.2 ∙ d.2, room_carried a b c.it e.0.it d.0.it.room (subst (λ (z : CacheState). IsCarried a b z e.0.it) d.3 e.3));
}

-- nothing was edited
pub each_roomed : (a : App) (cs ds : List (Named CacheState)) → EachCacheBecame (λ k. IsButRoom) cs ds → EachCacheBecame (λ k. WentOver a a) cs ds
each_roomed a cs ds h = record { long = h.long; each = λ k c at. let d = h.each k c at in (d.0, d.1, d.2, inl (refl, d.3)) }

pub each_left : (a : App) (cs : List (Named CacheState)) → EachCacheBecame (λ k. WentOver a a) cs cs
each_left a cs = record { long = refl; each = λ k c at. (c, at, refl, inl (refl, refl)) }
