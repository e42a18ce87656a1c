-- Caches after requests of sessions.
use Rattle.std.proofs.Common.{◌≡◌, ◌⊎◌, ℕ, ◌<◌, Bool, true, false, List, [], ◌∷◌, get_or, length, not, Option, Some, None, Result, Ok, Err, refl, ap, sym, ◌∙◌, subst, inl, inr, arith}
use Rattle.std.specs.Prelude.{bytes_eq, nat_eq, option_map, slice_get, slice_set}
use Rattle.std.specs.List.{cons_option, position}
use Rattle.std.proofs.lemmas.List.{length-set}
use Rattle.std.proofs.lemmas.Option.{slice_get-get_or}
use Rattle.app_cells.specs.declared.app.App.{App}
use Rattle.app_loader.specs.app_semantics.Sound.{IsSoundApp}
use Rattle.fx_base.specs.Silence.{MayFallSilent}
use Rattle.fx_base.specs.Telling.{Stays}
use Rattle.fx_scalar.specs.ScalarFunctions.{IsToday}
use Rattle.fx_core.specs.Reads.{IsAmong}
use Rattle.fx_core.specs.declared.names.Names.{Names}
use Rattle.fx_core.specs.declared.schema.TableShape.{TableShape}
use Rattle.fx_core.specs.declared.sources.Source.{Source}
use Rattle.fx_core.specs.declared.sources.Source.TheVariants as source
use Rattle.recalc.specs.Kept.{IsInOrder, IsSourceOf, CacheState}
use Rattle.recalc.specs.Outcomes.{IsRightOver}
use Rattle.numbered_requests.proofs.Directories.{find_put, same_bytes}
use Rattle.numbered_requests.specs.Directory.{find, is_named, it_at, put_named, put_at}
use Rattle.numbered_requests.specs.declared.directory.Named.{Named}
use Rattle.row_keeper.specs.Tables.{Tables}
use Rattle.row_requests.specs.Changes.{table_index, table_changed}
use Rattle.row_requests.specs.Written.{SameTablesExcept, tables_named}
use Rattle.row_requests.specs.declared.bodies.Change.{Change}
use Rattle.session_requests.specs.Acting.{EndsEvent, EndsInput}
use Rattle.session_requests.specs.Caching.{AreSources, IsCached}
use Rattle.session_requests.specs.Posting.{SendsEvent, SendsInput}
use Rattle.session_requests.specs.Targets.{InputValue}
use Rattle.session_requests.specs.declared.event.Event.{Event}
use Rattle.session_requests.specs.declared.input.Input.{Input}
use Rattle.session_requests.specs.declared.target.Target.{Target}
use Rattle.session_state.specs.Sessions.{SessionState}
use Rattle.view_text.specs.declared.refused.Refusal.{Refusal}
use Rattle.office.specs.Caches.{EachCacheBecame, AreKept, IsCacheOf, IsToldAside, is_other_place, tables_in}
use Rattle.office.proofs.Caching.{kept_at, kept_beside, kept_by, kept_each, kept_long, kept_put, kept_set, kept_there}
use Rattle.office.proofs.Places.{cases_of, item_at, one_at, position_passes, position_within, set_back, set_here, set_is, set_same, set_there, some_at, there_too}
use Rattle.office.proofs.Touching.{still_cached, told_cached}

-- all caches are in order
pub kept_order : (a : App) (told : Option Tables) (m : ℕ) (ss : List (Named SessionState)) (cs : List (Named CacheState)) → AreKept a told m ss cs → (k : ℕ) (c : Named CacheState) → slice_get cs k ≡ Some c → IsInOrder a c.it
kept_order a told m ss cs h k c there = let it = kept_beside a told m ss cs k c h there in it.2.cached.order

-- they stay right where tables stay
pub kept_still : (a : App) (m : ℕ) (lost : Type 0) (x y : Option Tables) (ss : List (Named SessionState)) (cs : List (Named CacheState)) → MayFallSilent lost Stays x y → AreKept a x m ss cs → AreKept a y m ss cs
kept_still a m lost x y ss cs goes h =
    kept_by a y m ss cs (kept_long a x m ss cs h) (λ k s c at there. let it = kept_at a x m ss cs k s c h at there in record { name = it.name; cached = still_cached a s.it m lost x y c.it goes it.cached })

-- and where all were told which tables were written
pub kept_told : (a : App) (m : ℕ) (lost : Type 0) (xs : List Source) (x y : Option Tables) (ss : List (Named SessionState)) (cs ds : List (Named CacheState)) → IsSoundApp a → MayFallSilent lost (SameTablesExcept xs) x y → AreKept a x m ss cs
    → EachCacheBecame (IsToldAside a None (tables_in xs)) cs ds → AreKept a y m ss ds
kept_told a m lost xs x y ss cs ds sound goes h each =
    kept_each a a x y m m (IsToldAside a None (tables_in xs)) ss ss cs ds h each refl
    (λ k s r c d at there is named told.
    let same = one_at ss k s r at there in
    subst (λ (z : Named SessionState). IsCacheOf a y m z d) same (record { name = named ∙ is.name; cached = told_cached a s.it m lost xs x y c.it d.it sound goes (told.told refl) is.cached }))

-- ---- where a session stands

-- it is found under the name
pub found_at : (name : List ℕ) (ss : List (Named SessionState)) (p : ℕ) (s : Named SessionState) → position (is_named name) ss ≡ Some p → slice_get ss p ≡ Some s → find name ss ≡ Some s.it
found_at name ss p s e at = ap (λ o. it_at o ss) e ∙ ap (option_map (λ (n : Named SessionState). n.it)) at

-- where its place was found
pub found_here : (name : List ℕ) (ss : List (Named SessionState)) (p : ℕ) (d : Named SessionState) → Some p ≡ position (is_named name) ss → p < length ss → find name ss ≡ Some (get_or ss p d).it
found_here name ss p d place within = found_at name ss p (get_or ss p d) (sym place) (slice_get-get_or ss p d within)

-- there is a cache at that place
pub place_within : (a : App) (x : Option Tables) (m : ℕ) (ss : List (Named SessionState)) (cs : List (Named CacheState)) (p : ℕ) → AreKept a x m ss cs → p < length ss → p < length cs
place_within a x m ss cs p h within = let same = kept_long a x m ss cs h in omega (arith, same, within)

cache_at : (a : App) (x : Option Tables) (m : ℕ) (ss : List (Named SessionState)) (cs : List (Named CacheState)) (p : ℕ) (c : Named CacheState) → AreKept a x m ss cs → p < length ss → c ≡ get_or cs p c → slice_get cs p ≡ Some c
cache_at a x m ss cs p c h within is = item_at cs p c (place_within a x m ss cs p h within) is

-- which is the one of the session there
pub shown_there : (a : App) (x : Option Tables) (m : ℕ) (ss : List (Named SessionState)) (cs : List (Named CacheState)) (p : ℕ) (d : Named SessionState) (c : Named CacheState) → AreKept a x m ss cs → p < length ss → c ≡ get_or cs p c → IsCacheOf a x m (get_or ss p d) c
shown_there a x m ss cs p d c h within is =
    kept_at a x m ss cs p (get_or ss p d) c h (slice_get-get_or ss p d within) (cache_at a x m ss cs p c h within is)

-- ---- a session is shown something

-- the cache of one session was brought up to date, and tables stay
pub kept_shown : (a : App) (m : ℕ) (lost : Type 0) (x y : Option Tables) (p : ℕ) (ss : List (Named SessionState)) (cs : List (Named CacheState)) (s : Named SessionState) (old : Named CacheState) (now : CacheState)
    → MayFallSilent lost Stays x y → AreKept a x m ss cs → slice_get ss p ≡ Some s → slice_get cs p ≡ Some old → IsCached a s.it y m now → AreKept a y m ss (slice_set cs p (record { name = old.name; it = now }))
kept_shown a m lost x y p ss cs s old now goes h at was cached =
    let is = kept_at a x m ss cs p s old h at was in
    subst (λ (l : List (Named SessionState)). AreKept a y m l (slice_set cs p (record { name = old.name; it = now }))) (set_same ss p s at)
    (kept_set a y m ss cs p s (record { name = old.name; it = now }) (kept_still a m lost x y ss cs goes h) (record { name = is.name; cached = cached }))

-- so it is with the one at a place
pub kept_after : (a : App) (m : ℕ) (lost : Type 0) (x y : Option Tables) (ss : List (Named SessionState)) (cs : List (Named CacheState)) (p : ℕ) (d : Named SessionState) (old : Named CacheState) (now : CacheState)
    → AreKept a x m ss cs → p < length ss → old ≡ get_or cs p old → MayFallSilent lost Stays x y → IsInOrder a now → ∥ IsRightOver a (get_or ss p d).it y m now ∥₁ → now.values.day ≡ old.it.values.day
    → AreKept a y m ss (slice_set cs p (record { name = old.name; it = now }))
kept_after a m lost x y ss cs p d old now h within is goes order right day =
    let was = shown_there a x m ss cs p d old h within is in
    kept_shown a m lost x y p ss cs (get_or ss p d) old now goes h (slice_get-get_or ss p d within) (cache_at a x m ss cs p old h within is)
    (record { order = order; right = right; day = subst (IsToday m) (sym day) was.cached.day })

-- ---- a session sends something

-- sessions stay, or the one of a name changes
abbrev pub ChangesOne : List ℕ → List (Named SessionState) → List (Named SessionState) → Type 0
ChangesOne name ss rs = (rs ≡ ss) ⊎ ((x : SessionState) × (rs ≡ put_named name x ss))

-- then nothing else changed than what stands at its place
record IsSentAt (name : List ℕ) (p : ℕ) (ss rs : List (Named SessionState)) : Type 0 where
  long : length rs ≡ length ss
  others : (k : ℕ) (r : Named SessionState) → (k ≡ p → ⊥) → slice_get rs k ≡ Some r → slice_get ss k ≡ Some r
  here : (s r : Named SessionState) → slice_get ss p ≡ Some s → slice_get rs p ≡ Some r → (r.name ≡ s.name) × (find name rs ≡ Some r.it)

sent_at : (name : List ℕ) (p : ℕ) (ss rs : List (Named SessionState)) → position (is_named name) ss ≡ Some p → ChangesOne name ss rs → IsSentAt name p ss rs
sent_at name p ss rs place (inl same) = subst (λ (l : List (Named SessionState)). IsSentAt name p ss l) (sym same) (record {
  long = refl;
  others = λ k r far at. at;
  here = λ s r at there. let one = one_at ss p s r at there in (ap (λ (z : Named SessionState). z.name) (sym one), found_at name ss p r place there);
})
sent_at name p ss rs place (inr (x, is)) =
    let z : Named SessionState = record { name = name; it = x } in
    let set_so : rs ≡ slice_set ss p z = is ∙ ap (λ o. put_at o z ss) place in
    subst (λ (l : List (Named SessionState)). IsSentAt name p ss l) (sym set_so) (record {
      long = length-set ss p z;
      others = λ k r far at. set_back ss k p r z far at;
      here = λ s r at there.
          let one : r ≡ z = set_is ss p z r there in
          (ap (λ (w : Named SessionState). w.name) one ∙ sym (same_bytes s.name name (position_passes (is_named name) ss p s place at)), found set_so ∙ ap (λ (w : Named SessionState). Some w.it) (sym one));
    })
  where
    found : rs ≡ slice_set ss p (record { name = name; it = x }) → find name (slice_set ss p (record { name = name; it = x })) ≡ Some x
    found so = ap (find name) (sym so ∙ is) ∙ find_put SessionState name x ss

-- an event changes its session at most
pub sends_event : (lost : Type 0) (app : App) (m : ℕ) (name body : List ℕ) (e : Event) (told : Option Tables) (ss : List (Named SessionState)) (said : List ℕ) (told' : Option Tables) (rs : List (Named SessionState))
    → SendsEvent lost app m name body e told ss said told' rs → ChangesOne name ss rs
sends_event lost app m name body e told ss said told' rs h = by h.verdict h.ends
  where
    by : (v : Result Target Refusal) → EndsEvent lost app m name body e.seq h.session h.values v h.seen ss said told' rs → ChangesOne name ss rs
    by (Err r) ends = inl ends.1
    by (Ok t) ends = inr (_, ends.kept)

-- and so does an input
pub sends_input : (lost : Type 0) (app : App) (m : ℕ) (name body : List ℕ) (i : Input) (told : Option Tables) (ss : List (Named SessionState)) (said : List ℕ) (told' : Option Tables) (rs : List (Named SessionState))
    → SendsInput lost app m name body i told ss said told' rs → ChangesOne name ss rs
sends_input lost app m name body i told ss said told' rs h = by _ h.ends
  where
    by : (v : Result InputValue Refusal) → EndsInput lost app m name body i.seq h.session h.values v h.seen ss said told' rs → ChangesOne name ss rs
    by (Err r) ends = inl ends.1
    by (Ok g) ends = inr (_, ends.kept)

-- it is right over what the session of the name holds
pub cached_there : (a : App) (x : Option Tables) (m : ℕ) (name : List ℕ) (ss : List (Named SessionState)) (cs : List (Named CacheState)) (p : ℕ) (c : Named CacheState) → AreKept a x m ss cs → position (is_named name) ss ≡ Some p → c ≡ get_or cs p c
    → (s : SessionState) → find name ss ≡ Some s → IsCached a s x m c.it
cached_there a x m name ss cs p c h place is s found =
    let within = position_within (is_named name) ss p place in
    let there = some_at ss p within in
    let of = kept_at a x m ss cs p there.0 c h there.1 (cache_at a x m ss cs p c h within is) in
    let same : there.0.it ≡ s = let both : Some there.0.it ≡ Some s = sym (found_at name ss p there.0 place there.1) ∙ found in cc in
    subst (λ (z : SessionState). IsCached a z x m c.it) same of.cached

-- after a request that stopped
pub kept_stopped : (a : App) (m : ℕ) (lost : Type 0) (x y : Option Tables) (name : List ℕ) (ss rs : List (Named SessionState)) (cs : List (Named CacheState)) (p : ℕ) (old : Named CacheState) (now : CacheState)
    → AreKept a x m ss cs → position (is_named name) ss ≡ Some p → old ≡ get_or cs p old → MayFallSilent lost Stays x y → rs ≡ ss → ((s : SessionState) → find name rs ≡ Some s → IsCached a s y m now)
    → AreKept a y m rs (slice_set cs p (record { name = old.name; it = now }))
kept_stopped a m lost x y name ss rs cs p old now h place is goes same cached =
    let within = position_within (is_named name) ss p place in
    let there = some_at ss p within in
    let found : find name rs ≡ Some there.0.it = ap (find name) same ∙ found_at name ss p there.0 place there.1 in
    subst (λ (l : List (Named SessionState)). AreKept a y m l (slice_set cs p (record { name = old.name; it = now }))) (sym same)
    (kept_shown a m lost x y p ss cs there.0 old now goes h there.1 (cache_at a x m ss cs p old h within is) (cached there.0.it found))

-- all are in order where it did something
pub order_after : (a : App) (x y : Option Tables) (m : ℕ) (name : List ℕ) (ss rs : List (Named SessionState)) (cs : List (Named CacheState)) (p : ℕ) (old : Named CacheState) (now : CacheState)
    → AreKept a x m ss cs → position (is_named name) ss ≡ Some p → ChangesOne name ss rs → ((s : SessionState) → find name rs ≡ Some s → IsCached a s y m now)
    → (k : ℕ) (c : Named CacheState) → slice_get (slice_set cs p (record { name = old.name; it = now })) k ≡ Some c → IsInOrder a c.it
order_after a x y m name ss rs cs p old now h place changes cached k c there = by (cases_of k p)
  where
    new : Named CacheState
    new = record { name = old.name; it = now }

    sent : IsSentAt name p ss rs
    sent = sent_at name p ss rs place changes

    by : (k ≡ p) ⊎ (k ≡ p → ⊥) → IsInOrder a c.it
    by (inl e) =
        let s = some_at ss p (position_within (is_named name) ss p place) in
        let r = there_too ss rs sent.long p s.0 s.1 in
        let here = sent.here s.0 r.0 s.1 r.1 in
        let same = set_is cs p new c (subst (λ j. slice_get (slice_set cs p new) j ≡ Some c) e there) in
        subst (λ (z : Named CacheState). IsInOrder a z.it) (sym same) (cached r.0.it here.1).order
    by (inr far) = kept_order a x m ss cs h k c (set_back cs k p c new far there)

pub other_itself : (p : ℕ) → is_other_place (Some p) p ≡ false
other_itself p = by (nat_eq p p) refl
  where
    by : (b : Bool) → nat_eq p p ≡ b → not (nat_eq p p) ≡ false
    by true e = ap not e
    by false e = absurd (grind (arith, e))

pub other_apart : (p k : ℕ) → (k ≡ p → ⊥) → is_other_place (Some p) k ≡ true
other_apart p k far = by (nat_eq p k) refl
  where
    by : (b : Bool) → nat_eq p k ≡ b → not (nat_eq p k) ≡ true
    by true e = absurd (far (grind (arith, e)))
    by false e = ap not e

-- the cache of the session that acted is right, and the others were told which tables it wrote
pub kept_sent : (a : App) (m : ℕ) (lost : Type 0) (xs : List Source) (x y : Option Tables) (name : List ℕ) (ss rs : List (Named SessionState)) (cs ds : List (Named CacheState)) (p : ℕ) (old : Named CacheState) (now : CacheState)
    → IsSoundApp a → MayFallSilent lost (SameTablesExcept xs) x y → AreKept a x m ss cs → position (is_named name) ss ≡ Some p → old ≡ get_or cs p old → ChangesOne name ss rs → ((s : SessionState) → find name rs ≡ Some s → IsCached a s y m now)
    → EachCacheBecame (IsToldAside a (Some p) (tables_in xs)) (slice_set cs p (record { name = old.name; it = now })) ds → AreKept a y m rs ds
kept_sent a m lost xs x y name ss rs cs ds p old now sound goes h place is changes cached each =
    kept_by a y m rs ds (each.long ∙ length-set cs p new ∙ kept_long a x m ss cs h ∙ sym sent.long) (λ k r d at there. by k r d at there (cases_of k p))
  where
    new : Named CacheState
    new = record { name = old.name; it = now }

    sent : IsSentAt name p ss rs
    sent = sent_at name p ss rs place changes

    was : slice_get cs p ≡ Some old
    was = cache_at a x m ss cs p old h (position_within (is_named name) ss p place) is

    by : (k : ℕ) (r : Named SessionState) (d : Named CacheState) → slice_get rs k ≡ Some r → slice_get ds k ≡ Some d → (k ≡ p) ⊎ (k ≡ p → ⊥) → IsCacheOf a y m r d
    by k r d at there (inl e) =
        let at_p : slice_get rs p ≡ Some r = subst (λ j. slice_get rs j ≡ Some r) e at in
        let there_p : slice_get ds p ≡ Some d = subst (λ j. slice_get ds j ≡ Some d) e there in
        let s = there_too rs ss (sym sent.long) p r at_p in
        let of = kept_at a x m ss cs p s.0 old h s.1 was in
        let here = sent.here s.0 r s.1 at_p in
        let made = each.each p new (set_here cs p old new was) in
        let same = one_at ds p made.0 d made.1 there_p in
        let it : made.0.it ≡ now = made.3.same (other_itself p) in
        subst (λ (z : Named CacheState). IsCacheOf a y m r z) same
        (record { name = made.2 ∙ of.name ∙ sym here.0; cached = subst (λ (z : CacheState). IsCached a r.it y m z) (sym it) (cached r.it here.1) })
    by k r d at there (inr far) =
        let before = sent.others k r far at in
        let c = kept_there a x m ss cs k r h before in
        let made = each.each k c.0 (set_there cs k p c.0 new far c.1) in
        let same = one_at ds k made.0 d made.1 there in
        subst (λ (z : Named CacheState). IsCacheOf a y m r z) same
        (record { name = made.2 ∙ c.2.name; cached = told_cached a r.it m lost xs x y c.0.it made.0.it sound goes (made.3.told (other_apart p k far)) c.2.cached })

-- ---- a session is opened

-- it and its cache come after the others, which were told what was written
pub kept_begun : (a : App) (m : ℕ) (lost : Type 0) (xs : List Source) (x y : Option Tables) (name copy : List ℕ) (ss qs rs : List (Named SessionState)) (cs bs ds es : List (Named CacheState)) (s : SessionState) (c : CacheState)
    → IsSoundApp a → MayFallSilent lost (SameTablesExcept xs) x y → AreKept a x m ss cs → qs ≡ ss → bs ≡ cs → EachCacheBecame (IsToldAside a None (tables_in xs)) bs ds → rs ≡ put_named name s qs → es ≡ put_named copy c ds → copy ≡ name → IsCached a s y m c
    → AreKept a y m rs es
kept_begun a m lost xs x y name copy ss qs rs cs bs ds es s c sound goes h same as_well each rs_are es_are named cached =
    let told = kept_told a m lost xs x y ss cs ds sound goes h (subst (λ (l : List (Named CacheState)). EachCacheBecame (IsToldAside a None (tables_in xs)) l ds) as_well each) in
    let both = kept_put a y m name ss ds s c told (record { name = refl; cached = cached }) in
    subst (λ (l : List (Named SessionState)). AreKept a y m l es) (sym (rs_are ∙ ap (put_named name s) same))
    (subst (λ (l : List (Named CacheState)). AreKept a y m (put_named name s ss) l) (sym (es_are ∙ ap (λ (n : List ℕ). put_named n c ds) named)) both)

-- ---- a desk changes rows

-- the tables that changes name are tables of the app
pub named_sources : (n : Names) (changes : List Change) → AreSources n (tables_named n.schema.tables changes)
named_sources n [] x among = absurd among
named_sources n (c ∷ cs) x among = by (table_index (table_changed c) n.schema.tables) refl among (named_sources n cs x)
  where
    by : (o : Option ℕ) → table_index (table_changed c) n.schema.tables ≡ o → IsAmong x (cons_option (option_map source.Table o) (tables_named n.schema.tables cs)) → (IsAmong x (tables_named n.schema.tables cs) → IsSourceOf n x) → IsSourceOf n x
    by None e l rest = rest l
    by (Some k) e (inl is) rest = subst (λ (y : Source). IsSourceOf n y) is (position_within (λ (t : TableShape). bytes_eq t.name (table_changed c)) n.schema.tables k e)
    by (Some k) e (inr l) rest = rest l
