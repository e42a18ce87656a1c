-- Clean cells that requests leave so.
use Rattle.std.proofs.Common.{◌≡◌, ◌≢◌, ◌⊎◌, ℕ, ◌/◌, zero, suc, ◌<◌, ◌≤◌, Bool, true, false, List, [], ◌∷◌, ◌++◌, get_or, length, Option, None, Some, Result, Ok, Err, refl, ap, sym, ◌∙◌, subst, inl, inr, arith}
use Rattle.std.specs.Prelude.{IfOk, IfSome, IsSome, OnErr, bytes_eq, if◌then◌else◌, nat_le, option_map, slice_get, slice_set}
use Rattle.std.proofs.lemmas.Bool.{le-leb, lt-leb}
use Rattle.std.specs.List.{position}
use Rattle.std.proofs.lemmas.List.{length-set}
use Rattle.app_cells.specs.declared.app.App.{App}
use Rattle.app_wire.specs.Framing.{Asked}
use Rattle.app_wire.specs.ReplyBytes.{refusal, reply}
use Rattle.app_wire.specs.Routing.{Routing}
use Rattle.app_wire.specs.declared.route.Route.{Route}
use Rattle.app_wire.specs.declared.route.Route.TheVariants.{Begin, End, View, Named as Formulas, Items, Event, Input, Rows, Edit, Replace, Page, Plan, Graph}
use Rattle.fx_core.specs.Reads.{IsAmong}
use Rattle.fx_core.specs.declared.sources.Source.{Source}
use Rattle.fx_core.specs.declared.sources.Source.TheVariants as source
use Rattle.recalc.proofs.Leaving.{day_left, left_same, left_then, left_wider}
use Rattle.recalc.specs.Changes.{StaysCleanExcept}
use Rattle.fx_base.specs.Silence.{MayFallSilent, SilenceCause, Marks}
use Rattle.recalc.specs.Kept.{CacheState}
use Rattle.row_keeper.specs.Tables.{Tables}
use Rattle.session_requests.specs.Bodies.{event_in, input_in}
use Rattle.session_requests.specs.Writable.{AllSources}
use Rattle.session_requests.specs.declared.event.Event.{Event as Asks}
use Rattle.session_requests.specs.declared.input.Input.{Input as Gives}
use Rattle.session_state.specs.Sessions.{SessionState}
use Rattle.numbered_requests.proofs.Directories.{find_here, find_other, find_past, itself, position_here, position_past, same_bytes}
use Rattle.numbered_requests.specs.Directory.{find, is_in_directory, is_named, it_at, put_named}
use Rattle.numbered_requests.specs.Checks.{checks, session_of}
use Rattle.numbered_requests.specs.declared.directory.Named.{Named}
use Rattle.office.proofs.Directories.{find_without, without_here, without_past}
use Rattle.office.proofs.Rounds.{no_table, one_table}
use Rattle.office.proofs.Sent.{other_apart, other_itself}
use Rattle.office.proofs.Places.{cases_of, item_at, one_at, position_passes, position_within, set_here, set_there, some_at}
use Rattle.office.specs.Caches.{EachCacheBecame, CacheTouched, IsToldAside, IsTurned, WentOver, is_other_place, is_table, tables_in}
use Rattle.office.specs.Leaving.{ActsClean, AreActed, AreEachLeft, SessionsLeft, AreLeftAt, AreLeftBeside, AreStopped, BeginLeaves, EventLeaves, InputLeaves, LeavesActed, LeavesBy, LeavesClean, LeavesStopped, ReplacementLeaves, StopsClean, Writing, any_table, either, event_cut, input_cut, nothing, tables_of, those, day_turned}
use Rattle.office.specs.Sessions.{OpensSessionWriting, begin_checks, most_sessions, sessions_without}
use Rattle.view_text.specs.ReplyText.{ok_text}
use Rattle.office.specs.State.{OfficeView, OfficeState, schema_of}
use Rattle.row_requests.specs.Written.{IsNamedBy}

-- ---- by their places

-- nothing was done
pub each_same : (a : App) (xs : List Source) (cs : List (Named CacheState)) → EachCacheBecame (λ k. StaysCleanExcept a xs) cs cs
each_same a xs cs = record { long = refl; each = λ k c at. (c, at, refl, left_same a xs c.it) }

-- one of them became another
pub each_set : (a : App) (xs : List Source) (cs : List (Named CacheState)) (p : ℕ) (old : Named CacheState) (now : CacheState) → p < length cs → old ≡ get_or cs p old → StaysCleanExcept a xs old.it now
    → EachCacheBecame (λ k. StaysCleanExcept a xs) cs (slice_set cs p (record { name = old.name; it = now }))
each_set a xs cs p old now within is left = record { long = length-set cs p new; each = λ k c at. by k c at (cases_of k p) }
  where
    new : Named CacheState
    new = record { name = old.name; it = now }

    there : slice_get cs p ≡ Some old
    there = item_at cs p old within is

    by : (k : ℕ) (c : Named CacheState) → slice_get cs k ≡ Some c → (k ≡ p) ⊎ (k ≡ p → ⊥) → (d : Named CacheState) × (slice_get (slice_set cs p new) k ≡ Some d) × (d.name ≡ c.name) × StaysCleanExcept a xs c.it d.it
    by k c at (inl e) =
        let same : old ≡ c = one_at cs p old c there (subst (λ j. slice_get cs j ≡ Some c) e at) in (
          new,
          subst (λ j. slice_get (slice_set cs p new) j ≡ Some new) (sym e) (set_here cs p old new there),
          ap (λ (z : Named CacheState). z.name) same,
          subst (λ (z : Named CacheState). StaysCleanExcept a xs z.it now) same left,
        )
    by k c at (inr far) = (c, set_there cs k p c new far at, refl, left_same a xs c.it)

-- all were told of sources
pub each_told : (a : App) (xs : List Source) (cs ds : List (Named CacheState)) → EachCacheBecame (IsToldAside a None xs) cs ds → EachCacheBecame (λ k. StaysCleanExcept a xs) cs ds
each_told a xs cs ds each = record {
  long = each.long;
  each = λ k c at.
      let it = each.each k c at in
      let told : CacheTouched a xs c.it it.0.it = it.3.told refl in
      (it.0, it.1, it.2, told.but);
}

-- a table among sources is one of them
pub among_tables : (x : Source) (ws : List Source) → IsAmong x (tables_in ws) → IsAmong x ws
among_tables x [] h = absurd h
among_tables x (y ∷ ys) h = by (is_table y) refl (among_tables x ys)
  where
    by : (b : Bool) → is_table y ≡ b → (IsAmong x (tables_in ys) → IsAmong x ys) → IsAmong x (y ∷ ys)
    by true e rest = elim (subst (λ (l : List Source). IsAmong x l) (one_table y ys e) h) [ inl same ↦ inl same | inr l ↦ inr (rest l) ]
    by false e rest = inr (rest (subst (λ (l : List Source). IsAmong x l) (no_table y ys e) h))

-- nothing was written
pub left_none : (a : App) (W : Writing) (cs ds : List (Named CacheState)) → EachCacheBecame (λ k. StaysCleanExcept a []) cs ds → AreEachLeft a W cs ds
left_none a W cs ds each = ([], (λ x none. absurd none), each)

-- ---- by their names

pub find_each : (R : CacheState → CacheState → Type 0) (name : List ℕ) (old new : List (Named CacheState)) (c : CacheState) → EachCacheBecame (λ k. R) old new → find name old ≡ Some c → (d : CacheState) × (find name new ≡ Some d) × R c d
find_each R name [] new c each found = absurd (let no : None ≡ Some c = found in cc)
find_each R name (x ∷ xs) [] c each found = absurd (let no : 0 ≡ suc (length xs) = each.long in omega (arith, no))
find_each R name (x ∷ xs) (y ∷ ys) c each found = by (is_named name x) refl (λ later. find_each R name xs ys c rest later)
  where
    first : (d : Named CacheState) × (slice_get (y ∷ ys) 0 ≡ Some d) × (d.name ≡ x.name) × R x.it d.it
    first = each.each 0 x refl

    same : y ≡ first.0
    same = let is : Some y ≡ Some first.0 = first.1 in cc

    as_well : (b : Bool) → is_named name x ≡ b → is_named name y ≡ b
    as_well b e = ap (λ (n : List ℕ). bytes_eq n name) (ap (λ (z : Named CacheState). z.name) same ∙ first.2) ∙ e

    rest : EachCacheBecame (λ k. R) xs ys
    rest = record { long = let l = each.long in omega (arith, l); each = λ k z at. each.each (suc k) z at }

    by : (b : Bool) → is_named name x ≡ b → (find name xs ≡ Some c → (d : CacheState) × (find name ys ≡ Some d) × R c d) → (d : CacheState) × (find name (y ∷ ys) ≡ Some d) × R c d
    by true e later =
        let is : x.it ≡ c = let both : Some x.it ≡ Some c = sym (find_here CacheState name x xs e) ∙ found in cc in
        (y.it, find_here CacheState name y ys (as_well true e), subst (λ (z : CacheState). R z y.it) is (subst (λ (z : Named CacheState). R x.it z.it) (sym same) first.3))
    by false e later =
        let more = later (sym (find_past CacheState name x xs e) ∙ found) in
        (more.0, find_past CacheState name y ys (as_well false e) ∙ more.1, more.2)

-- what holds of each holds of those that are found
pub left_each : (a : App) (W : Writing) (cs ds : List (Named CacheState)) → AreEachLeft a W cs ds → SessionsLeft a W cs ds
left_each a W cs ds h = λ name c d was is.
    let found = find_each (StaysCleanExcept a h.0) name cs ds c h.2 was in
    let same : found.0 ≡ d = let both : Some found.0 ≡ Some d = sym found.1 ∙ is in cc in
    (h.0, h.1, subst (λ (z : CacheState). StaysCleanExcept a h.0 c z) same found.2)

-- no cache was told anything
pub left_unchanged : (a : App) (cs : List (Named CacheState)) → SessionsLeft a nothing cs cs
left_unchanged a cs = left_each a nothing cs cs (left_none a nothing cs cs (each_same a [] cs))

among_either : (x : Source) (xs ys : List Source) → IsAmong x (xs ++ ys) → IsAmong x xs ⊎ IsAmong x ys
among_either x [] ys h = inr h
among_either x (z ∷ zs) ys (inl e) = inl (inl e)
among_either x (z ∷ zs) ys (inr l) = elim (among_either x zs ys l) [ inl h ↦ inl (inr h) | inr h ↦ inr h ]

among_first : (x : Source) (xs ys : List Source) → IsAmong x xs → IsAmong x (xs ++ ys)
among_first x [] ys h = absurd h
among_first x (z ∷ zs) ys (inl e) = inl e
among_first x (z ∷ zs) ys (inr l) = inr (among_first x zs ys l)

among_second : (x : Source) (xs ys : List Source) → IsAmong x ys → IsAmong x (xs ++ ys)
among_second x [] ys h = h
among_second x (z ∷ zs) ys h = inr (among_second x zs ys h)

-- another day, and then a request
pub left_after : (a : App) (V W : Writing) (cs ds es : List (Named CacheState)) → AreEachLeft a V cs ds → SessionsLeft a W ds es → SessionsLeft a (either V W) cs es
left_after a V W cs ds es first second = λ name c e was is.
    let found = find_each (StaysCleanExcept a first.0) name cs ds c first.2 was in
    let next = second name found.0 e found.1 is in
    let all = first.0 ++ next.0 in (
      all,
      (λ x among. elim (among_either x first.0 next.0 among) [ inl h ↦ inl (first.1 x h) | inr h ↦ inr (next.1 x h) ]),
      left_then a all c found.0 e (left_wider a first.0 all c found.0 (λ x h. among_first x first.0 next.0 h) found.2) (left_wider a next.0 all found.0 e (λ x h. among_second x first.0 next.0 h) next.2),
    )

-- another day, and then what leaves all
each_after : (a : App) (V : Writing) (cs ds es : List (Named CacheState)) → AreEachLeft a V cs ds → AreEachLeft a nothing ds es → AreEachLeft a V cs es
each_after a V cs ds es first second = (
  first.0,
  first.1,
  record {
    long = second.2.long ∙ first.2.long;
    each = λ k c at.
        let mid = first.2.each k c at in
        let end = second.2.each k mid.0 mid.1 in
        (end.0, end.1, end.2 ∙ mid.2, left_then a first.0 c.it mid.0.it end.0.it mid.3 (left_wider a second.0 first.0 mid.0.it end.0.it (λ x h. absurd (second.1 x h)) end.3));
  },
)

-- nothing is written by it
pub left_after_none : (a : App) (V : Writing) (cs ds es : List (Named CacheState)) → AreEachLeft a V cs ds → SessionsLeft a nothing ds es → SessionsLeft a V cs es
left_after_none a V cs ds es first second = λ name c e was is.
    let all = left_after a V nothing cs ds es first second name c e was is in
    (all.0, (λ x among. elim (all.1 x among) [ inl h ↦ h | inr none ↦ absurd none ]), all.2)

-- ---- those of all sessions but one

-- where a name is found
pub find_at_each : (R : ℕ → CacheState → CacheState → Type 0) (name : List ℕ) (old new : List (Named CacheState)) (c : CacheState) → EachCacheBecame R old new → find name old ≡ Some c
    → (d : CacheState) × (k : ℕ) × (find name new ≡ Some d) × (position (is_named name) old ≡ Some k) × R k c d
find_at_each R name [] new c each found = absurd (let no : None ≡ Some c = found in cc)
find_at_each R name (x ∷ xs) [] c each found = absurd (let no : 0 ≡ suc (length xs) = each.long in omega (arith, no))
find_at_each R name (x ∷ xs) (y ∷ ys) c each found = by (is_named name x) refl (λ later. find_at_each (λ k. R (suc k)) name xs ys c rest later)
  where
    first : (d : Named CacheState) × (slice_get (y ∷ ys) 0 ≡ Some d) × (d.name ≡ x.name) × R 0 x.it d.it
    first = each.each 0 x refl

    same : y ≡ first.0
    same = let is : Some y ≡ Some first.0 = first.1 in cc

    as_well : (b : Bool) → is_named name x ≡ b → is_named name y ≡ b
    as_well b e = ap (λ (n : List ℕ). bytes_eq n name) (ap (λ (z : Named CacheState). z.name) same ∙ first.2) ∙ e

    rest : EachCacheBecame (λ k. R (suc k)) xs ys
    rest = record { long = let l = each.long in omega (arith, l); each = λ k z at. each.each (suc k) z at }

    by : (b : Bool) → is_named name x ≡ b → (find name xs ≡ Some c → (d : CacheState) × (k : ℕ) × (find name ys ≡ Some d) × (position (is_named name) xs ≡ Some k) × R (suc k) c d) → (d : CacheState) × (k : ℕ) × (find name (y ∷ ys) ≡ Some d) × (position (is_named name) (x ∷ xs) ≡ Some k) × R k c d
    by true e later =
        let is : x.it ≡ c = let both : Some x.it ≡ Some c = sym (find_here CacheState name x xs e) ∙ found in cc in
        (y.it, 0, find_here CacheState name y ys (as_well true e), position_here CacheState name x xs e, subst (λ (z : CacheState). R 0 z y.it) is (subst (λ (z : Named CacheState). R 0 x.it z.it) (sym same) first.3))
    by false e later =
        let more = later (sym (find_past CacheState name x xs e) ∙ found) in
        (more.0, suc more.1, find_past CacheState name y ys (as_well false e) ∙ more.2, position_past CacheState name x xs e ∙ ap (option_map suc) more.3, more.4)

-- a place has one name
one_name : (one name : List ℕ) (cs : List (Named CacheState)) (p : ℕ) → position (is_named one) cs ≡ Some p → position (is_named name) cs ≡ Some p → one ≡ name
one_name one name cs p first second =
    let x = some_at cs p (position_within (is_named one) cs p first) in
    sym (same_bytes x.0.name one (position_passes (is_named one) cs p x.0 first x.1)) ∙ same_bytes x.0.name name (position_passes (is_named name) cs p x.0 second x.1)

-- but for the one at a place they are left
beside_each : (a : App) (one : List ℕ) (W : Writing) (xs : List Source) (cs ds : List (Named CacheState)) (p : ℕ) → ((x : Source) → IsAmong x xs → W x) → position (is_named one) cs ≡ Some p
    → EachCacheBecame (λ k c d. (k ≡ p → ⊥) → StaysCleanExcept a xs c d) cs ds → AreLeftBeside a one W cs ds
beside_each a one W xs cs ds p all place each = λ name c d far was is.
    let it = find_at_each (λ k c d. (k ≡ p → ⊥) → StaysCleanExcept a xs c d) name cs ds c each was in
    let apart : it.1 ≡ p → ⊥ = λ e. far (one_name one name cs p place (it.3 ∙ ap Some e)) in
    let same : it.0 ≡ d = let both : Some it.0 ≡ Some d = sym it.2 ∙ is in cc in
    (xs, all, subst (λ (z : CacheState). StaysCleanExcept a xs c z) same (it.4 apart))

-- nothing was done
pub beside_same : (a : App) (one : List ℕ) (W : Writing) (cs : List (Named CacheState)) → AreLeftBeside a one W cs cs
beside_same a one W cs = λ name c d far was is.
    let same : c ≡ d = let both : Some c ≡ Some d = sym was ∙ is in cc in
    ([], (λ x none. absurd none), subst (λ (z : CacheState). StaysCleanExcept a [] c z) same (left_same a [] c))

-- the one became another
pub beside_stopped : (a : App) (one : List ℕ) (W : Writing) (cs : List (Named CacheState)) (p : ℕ) (old : Named CacheState) (now : CacheState) → p < length cs → old ≡ get_or cs p old → position (is_named one) cs ≡ Some p
    → AreLeftBeside a one W cs (slice_set cs p (record { name = old.name; it = now }))
beside_stopped a one W cs p old now within is place =
    beside_each a one W [] cs (slice_set cs p new) p (λ x none. absurd none) place (record { long = length-set cs p new; each = λ k c at. by k c at (cases_of k p) })
  where
    new : Named CacheState
    new = record { name = old.name; it = now }

    by : (k : ℕ) (c : Named CacheState) → slice_get cs k ≡ Some c → (k ≡ p) ⊎ (k ≡ p → ⊥) → (d : Named CacheState) × (slice_get (slice_set cs p new) k ≡ Some d) × (d.name ≡ c.name) × ((k ≡ p → ⊥) → StaysCleanExcept a [] c.it d.it)
    by k c at (inl e) =
        let there = item_at cs p old within is in
        let same : old ≡ c = one_at cs p old c there (subst (λ j. slice_get cs j ≡ Some c) e at) in
        (new, subst (λ j. slice_get (slice_set cs p new) j ≡ Some new) (sym e) (set_here cs p old new there), ap (λ (z : Named CacheState). z.name) same, λ far. absurd (far e))
    by k c at (inr far) = (c, set_there cs k p c new far at, refl, λ apart. left_same a [] c.it)

-- what is among tables is one
pub table_among : (x : Source) (ws : List Source) → IsAmong x (tables_in ws) → is_table x ≡ true
table_among x [] h = absurd h
table_among x (y ∷ ys) h = by (is_table y) refl (table_among x ys)
  where
    by : (b : Bool) → is_table y ≡ b → (IsAmong x (tables_in ys) → is_table x ≡ true) → is_table x ≡ true
    by true e rest = elim (subst (λ (l : List Source). IsAmong x l) (one_table y ys e) h) [ inl same ↦ subst (λ (z : Source). is_table z ≡ true) same e | inr l ↦ rest l ]
    by false e rest = rest (subst (λ (l : List Source). IsAmong x l) (no_table y ys e) h)

-- and the others were told which tables were written
pub beside_told : (a : App) (one : List ℕ) (ws : List Source) (cs ds : List (Named CacheState)) (p : ℕ) (old : Named CacheState) (now : CacheState) → p < length cs → old ≡ get_or cs p old → position (is_named one) cs ≡ Some p
    → EachCacheBecame (IsToldAside a (Some p) (tables_in ws)) (slice_set cs p (record { name = old.name; it = now })) ds → AreLeftBeside a one (tables_of ws) cs ds
beside_told a one ws cs ds p old now within is place each =
    beside_each a one (tables_of ws) (tables_in ws) cs ds p (λ x h. (among_tables x ws h, table_among x ws h)) place (record { long = each.long ∙ length-set cs p new; each = λ k c at. by k c at (cases_of k p) })
  where
    new : Named CacheState
    new = record { name = old.name; it = now }

    by : (k : ℕ) (c : Named CacheState) → slice_get cs k ≡ Some c → (k ≡ p) ⊎ (k ≡ p → ⊥) → (d : Named CacheState) × (slice_get ds k ≡ Some d) × (d.name ≡ c.name) × ((k ≡ p → ⊥) → StaysCleanExcept a (tables_in ws) c.it d.it)
    by k c at (inl e) =
        let there = item_at cs p old within is in
        let same : old ≡ c = one_at cs p old c there (subst (λ j. slice_get cs j ≡ Some c) e at) in
        let it = each.each k new (subst (λ j. slice_get (slice_set cs p new) j ≡ Some new) (sym e) (set_here cs p old new there)) in
        (it.0, it.1, it.2 ∙ ap (λ (z : Named CacheState). z.name) same, λ far. absurd (far e))
    by k c at (inr far) =
        let it = each.each k c (set_there cs k p c new far at) in
        let told : CacheTouched a (tables_in ws) c.it it.0.it = it.3.told (other_apart p k far) in
        (it.0, it.1, it.2, λ apart. told.but)

-- which are tables
pub beside_any : (a : App) (one : List ℕ) (ws : List Source) (cs ds : List (Named CacheState)) → AreLeftBeside a one (tables_of ws) cs ds → AreLeftBeside a one any_table cs ds
beside_any a one ws cs ds h = λ name c d far was is. let it = h name c d far was is in (it.0, (λ x among. (it.1 x among).1), it.2)

-- a session got one, and the others were told which tables its opening wrote
pub beside_opened : (a : App) (one copy : List ℕ) (ws : List Source) (cs bs ds es : List (Named CacheState)) (made : CacheState) → bs ≡ cs → copy ≡ one → EachCacheBecame (IsToldAside a None (tables_in ws)) bs ds → es ≡ put_named copy made ds → AreLeftBeside a one (tables_of ws) cs es
beside_opened a one copy ws cs bs ds es made same named each is_put = λ name c d far was is.
    let told = each_told a (tables_in ws) cs ds (subst (λ (l : List (Named CacheState)). EachCacheBecame (IsToldAside a None (tables_in ws)) l ds) same each) in
    left_each a (tables_of ws) cs ds (tables_in ws, (λ x h. (among_tables x ws h, table_among x ws h)), told) name c d was
    (sym (find_other CacheState copy name made ds (λ e. far (sym named ∙ e))) ∙ ap (λ (l : List (Named CacheState)). find name l) (sym is_put) ∙ is)

-- which are tables
pub beside_begun : (a : App) (one copy : List ℕ) (ws : List Source) (cs bs ds es : List (Named CacheState)) (made : CacheState) → bs ≡ cs → copy ≡ one → EachCacheBecame (IsToldAside a None (tables_in ws)) bs ds → es ≡ put_named copy made ds → AreLeftBeside a one any_table cs es
beside_begun a one copy ws cs bs ds es made same named each is_put = beside_any a one ws cs es (beside_opened a one copy ws cs bs ds es made same named each is_put)

-- another day, and then a request that acts
left_after_beside : (a : App) (one : List ℕ) (V W : Writing) (cs ds es : List (Named CacheState)) → AreEachLeft a V cs ds → AreLeftBeside a one (either nothing W) ds es → AreLeftBeside a one (either V W) cs es
left_after_beside a one V W cs ds es first second = λ name c e far was is.
    let found = find_each (StaysCleanExcept a first.0) name cs ds c first.2 was in
    let next = second name found.0 e far found.1 is in
    let all = first.0 ++ next.0 in (
      all,
      (λ x among. elim (among_either x first.0 next.0 among) [ inl h ↦ inl (first.1 x h) | inr h ↦ inr (elim (next.1 x h) [ inl none ↦ absurd none | inr w ↦ w ]) ]),
      left_then a all c found.0 e (left_wider a first.0 all c found.0 (λ x h. among_first x first.0 next.0 h) found.2) (left_wider a next.0 all found.0 e (λ x h. among_second x first.0 next.0 h) next.2),
    )

-- ---- that of a session is taken out

found_gone : (name : List ℕ) (list : List (Named CacheState)) → find name (sessions_without name list) ≡ None
found_gone name [] = refl
found_gone name (n ∷ ns) = by (is_named name n) refl (found_gone name ns)
  where
    by : (b : Bool) → is_named name n ≡ b → find name (sessions_without name ns) ≡ None → find name (sessions_without name (n ∷ ns)) ≡ None
    by true e rest = ap (λ (l : List (Named CacheState)). find name l) (without_here CacheState name n ns e) ∙ rest
    by false e rest = ap (λ (l : List (Named CacheState)). find name l) (without_past CacheState name n ns e) ∙ find_past CacheState name n (sessions_without name ns) e ∙ rest

pub left_without : (a : App) (name : List ℕ) (cs : List (Named CacheState)) → SessionsLeft a nothing cs (sessions_without name cs)
left_without a name cs = λ other c d was is. by other c d was is (bytes_eq name other) refl
  where
    by : (other : List ℕ) (c d : CacheState) → find other cs ≡ Some c → find other (sessions_without name cs) ≡ Some d → (b : Bool) → bytes_eq name other ≡ b → (xs : List Source) × ((x : Source) → IsAmong x xs → ⊥) × StaysCleanExcept a xs c d
    by other c d was is true e =
        let one : name ≡ other = same_bytes name other e in
        absurd (let no : None ≡ Some d = sym (found_gone name cs) ∙ ap (λ (n : List ℕ). find n (sessions_without name cs)) one ∙ is in cc)
    by other c d was is false e =
        let apart : name ≡ other → ⊥ = λ same. let no : true ≡ false = sym (itself name) ∙ ap (bytes_eq name) same ∙ e in cc in
        let same : c ≡ d = let both : Some c ≡ Some d = sym was ∙ sym (find_without CacheState name other cs apart) ∙ is in cc in
        ([], (λ x none. absurd none), subst (StaysCleanExcept a [] c) same (left_same a [] c))

-- ---- what routes leave

pub leaves_view : (name body : List ℕ) (s t : OfficeState) (old new : List (Named CacheState)) → SessionsLeft s.app nothing old new → LeavesBy (View name) nothing body s t old new
unfolding LeavesBy
leaves_view name body s t old new h = h

pub leaves_named : (name body : List ℕ) (s t : OfficeState) (old new : List (Named CacheState)) → SessionsLeft s.app nothing old new → LeavesBy (Formulas name) nothing body s t old new
unfolding LeavesBy
leaves_named name body s t old new h = h

pub leaves_items : (name gallery : List ℕ) (from : ℕ) (body : List ℕ) (s t : OfficeState) (old new : List (Named CacheState)) → SessionsLeft s.app nothing old new → LeavesBy (Items name gallery from) nothing body s t old new
unfolding LeavesBy
leaves_items name gallery from body s t old new h = h

pub leaves_page : (table : List ℕ) (after : ℕ) (body : List ℕ) (s t : OfficeState) (old new : List (Named CacheState)) → SessionsLeft s.app nothing old new → LeavesBy (Page table after) nothing body s t old new
unfolding LeavesBy
leaves_page table after body s t old new h = h

pub leaves_plan : (body : List ℕ) (s t : OfficeState) (old new : List (Named CacheState)) → SessionsLeft s.app nothing old new → LeavesBy Plan nothing body s t old new
unfolding LeavesBy
leaves_plan body s t old new h = h

pub leaves_graph : (body : List ℕ) (s t : OfficeState) (old new : List (Named CacheState)) → SessionsLeft s.app nothing old new → LeavesBy Graph nothing body s t old new
unfolding LeavesBy
leaves_graph body s t old new h = h

pub leaves_end : (name body : List ℕ) (s t : OfficeState) (old new : List (Named CacheState)) → SessionsLeft s.app nothing old new → LeavesBy (End name) nothing body s t old new
unfolding LeavesBy
leaves_end name body s t old new h = h

pub leaves_edit : (desk body : List ℕ) (s t : OfficeState) (old new : List (Named CacheState)) → EachCacheBecame (λ k. WentOver s.app t.app) old new → LeavesBy (Edit desk) nothing body s t old new
unfolding LeavesBy
leaves_edit desk body s t old new h = (old, left_none s.app nothing old old (each_same s.app [] old), h)

pub leaves_replacement : (desk body : List ℕ) (s t : OfficeState) (old new : List (Named CacheState)) → ReplacementLeaves desk body nothing s t old new → LeavesBy (Replace desk) nothing body s t old new
unfolding LeavesBy
leaves_replacement desk body s t old new h = h

beside_more : (a : App) (one : List ℕ) (W : Writing) (old new : List (Named CacheState)) → AreLeftBeside a one W old new → AreLeftBeside a one (either nothing W) old new
beside_more a one W old new h = λ name c d far was is. let it = h name c d far was is in (it.0, (λ x among. inr (it.1 x among)), it.2)

pub leaves_begin : (name body : List ℕ) (s t : OfficeState) (old new : List (Named CacheState)) → AreLeftBeside s.app name any_table old new → LeavesBy (Begin name) nothing body s t old new
unfolding LeavesBy
leaves_begin name body s t old new h = beside_more s.app name any_table old new h

pub leaves_event : (name body : List ℕ) (s t : OfficeState) (old new : List (Named CacheState)) → AreLeftBeside s.app name any_table old new → LeavesBy (Event name) nothing body s t old new
unfolding LeavesBy
leaves_event name body s t old new h = beside_more s.app name any_table old new h

pub leaves_input : (name body : List ℕ) (s t : OfficeState) (old new : List (Named CacheState)) → AreLeftBeside s.app name any_table old new → LeavesBy (Input name) nothing body s t old new
unfolding LeavesBy
leaves_input name body s t old new h = beside_more s.app name any_table old new h

pub leaves_rows : (desk body : List ℕ) (s t : OfficeState) (old new : List (Named CacheState)) → AreEachLeft s.app (IsNamedBy (schema_of s.app).tables s.desks desk body) old new → LeavesBy (Rows desk) nothing body s t old new
unfolding LeavesBy
leaves_rows desk body s t old new h = left_each s.app (either nothing (IsNamedBy (schema_of s.app).tables s.desks desk body)) old new (h.0, (λ x among. inr (h.1 x among)), h.2)

-- so it is said of the route that was taken, over the office as it is seen
pub leaves_by : (route kind : Route) (body : List ℕ) (old made : OfficeView) (t : OfficeState) (ds : List (Named CacheState)) → route ≡ kind → made ≡ old → LeavesBy kind nothing body made.state t made.caches ds → LeavesBy route nothing body old.state t old.caches ds
leaves_by route kind body old made t ds is same h =
    subst (λ (s : OfficeView). LeavesBy route nothing body s.state t s.caches ds) same (subst (λ (r : Route). LeavesBy r nothing body made.state t made.caches ds) (sym is) h)

-- and where nothing was written
pub left_still : (a : App) (cs ds : List (Named CacheState)) → EachCacheBecame (λ k. StaysCleanExcept a []) cs ds → SessionsLeft a nothing cs ds
left_still a cs ds each = left_each a nothing cs ds (left_none a nothing cs ds each)

-- on another day it leaves all but what reaches the day
pub leaves_after : (route : Route) (V : Writing) (body : List ℕ) (s t : OfficeState) (cs ds es : List (Named CacheState)) → AreEachLeft s.app V cs ds → LeavesBy route nothing body s t ds es → LeavesBy route V body s t cs es
unfolding LeavesBy
leaves_after (Rows desk) V body s t cs ds es day h = λ name c e was is.
    let W : Writing = IsNamedBy (schema_of s.app).tables s.desks desk body in
    let all = left_after s.app V (either nothing W) cs ds es day h name c e was is in
    (all.0, (λ x among. elim (all.1 x among) [ inl v ↦ inl v | inr w ↦ inr (elim w [ inl none ↦ absurd none | inr named ↦ named ]) ]), all.2)
leaves_after (End name) V body s t cs ds es day h = left_after_none s.app V cs ds es day h
leaves_after (View name) V body s t cs ds es day h = left_after_none s.app V cs ds es day h
leaves_after (Formulas name) V body s t cs ds es day h = left_after_none s.app V cs ds es day h
leaves_after (Items name gallery from) V body s t cs ds es day h = left_after_none s.app V cs ds es day h
leaves_after (Page table after) V body s t cs ds es day h = left_after_none s.app V cs ds es day h
leaves_after Plan V body s t cs ds es day h = left_after_none s.app V cs ds es day h
leaves_after Graph V body s t cs ds es day h = left_after_none s.app V cs ds es day h
leaves_after (Begin name) V body s t cs ds es day h = left_after_beside s.app name V any_table cs ds es day h
leaves_after (Event name) V body s t cs ds es day h = left_after_beside s.app name V any_table cs ds es day h
leaves_after (Input name) V body s t cs ds es day h = left_after_beside s.app name V any_table cs ds es day h
leaves_after (Edit desk) V body s t cs ds es day (ks, left, over) = (ks, each_after s.app V cs ds ks day left, over)
leaves_after (Replace desk) V body s t cs ds es day (inl left) = inl (left.0, left_after_none s.app V cs ds es day left.1)
leaves_after (Replace desk) V body s t cs ds es day (inr none) = inr none

-- a request whose route was taken after the office went over to the moment
pub leaves_then : (s t u : OfficeState) (before moment : ℕ) (request : Asked) (route : Route) (cs ds es : List (Named CacheState)) → Routing request.method request.path (Ok route) → t ≡ s → AreEachLeft s.app (day_turned before moment) cs ds
    → LeavesBy route nothing request.body t u ds es → LeavesClean s before cs moment request u es
leaves_then s t u before moment request route cs ds es is same day h =
    inr (route, is, leaves_after route (day_turned before moment) request.body s u cs ds es day (subst (λ (x : OfficeState). LeavesBy route nothing request.body x u ds es) same h))

-- one without a route, or that stopped before it
pub leaves_unrouted : (s t : OfficeState) (before moment : ℕ) (request : Asked) (cs ds : List (Named CacheState)) → AreEachLeft s.app (day_turned before moment) cs ds → LeavesClean s before cs moment request t ds
leaves_unrouted s t before moment request cs ds day = inl (left_each s.app (day_turned before moment) cs ds day)

pub leaves_same : (s t : OfficeState) (before moment : ℕ) (request : Asked) (cs : List (Named CacheState)) → LeavesClean s before cs moment request t cs
leaves_same s t before moment request cs = leaves_unrouted s t before moment request cs cs (left_none s.app (day_turned before moment) cs cs (each_same s.app [] cs))

-- all were told of another day
pub each_turned : (a : App) (before now : ℕ) (cs ds : List (Named CacheState)) → (now / 86400 ≡ before / 86400 → ⊥) → EachCacheBecame (λ k. IsTurned now) cs ds → AreEachLeft a (day_turned before now) cs ds
each_turned a before now cs ds other each = (
  source.Today ∷ [],
  (λ x among. elim among [ inl e ↦ (sym e, other) | inr none ↦ absurd none ]),
  record {
    long = each.long;
    each = λ k c at.
        let it = each.each k c at in
        let is : IsTurned now c.it it.0.it = it.3 in
        (it.0, it.1, it.2, subst (λ (z : CacheState). StaysCleanExcept a (source.Today ∷ []) c.it z) (sym is.is) (day_left a (source.Today ∷ []) c.it is.told is.day (is.touched a).but));
  },
)

-- ---- what acts

-- the one at a place is found under its name
pub find_placed : (one : List ℕ) (cs : List (Named CacheState)) (p : ℕ) (old : Named CacheState) → position (is_named one) cs ≡ Some p → slice_get cs p ≡ Some old → find one cs ≡ Some old.it
find_placed one cs p old place there = ap (λ o. it_at o cs) place ∙ ap (option_map (λ (n : Named CacheState). n.it)) there

-- what became of it, and then of all others
pub at_told : (a : App) (one : List ℕ) (ws : List Source) (cs ds : List (Named CacheState)) (p : ℕ) (old : Named CacheState) (now : CacheState) → p < length cs → old ≡ get_or cs p old → position (is_named one) cs ≡ Some p
    → EachCacheBecame (IsToldAside a (Some p) (tables_in ws)) (slice_set cs p (record { name = old.name; it = now })) ds → StaysCleanExcept a ws old.it now → AreLeftAt a one (those ws) cs ds
at_told a one ws cs ds p old now within is place each left = λ c d was found.
    let there : slice_get cs p ≡ Some old = item_at cs p old within is in
    let first : c ≡ old.it = let both : Some c ≡ Some old.it = sym was ∙ find_placed one cs p old place there in cc in
    let so = find_at_each (λ k x y. (k ≡ p → y ≡ now)) one cs ds c (record {
      long = each.long ∙ length-set cs p (record { name = old.name; it = now });
      each = λ k x at. by k x at (cases_of k p);
    }) was in
    let at_p : so.1 ≡ p = let both : Some so.1 ≡ Some p = sym so.3 ∙ place in cc in
    let last : d ≡ now = let both : Some d ≡ Some so.0 = sym found ∙ so.2 in let one_more : d ≡ so.0 = cc in one_more ∙ so.4 at_p in
    (ws, (λ x h. h), subst (λ (z : CacheState). StaysCleanExcept a ws z d) (sym first) (subst (λ (z : CacheState). StaysCleanExcept a ws old.it z) (sym last) left))
  where
    by : (k : ℕ) (x : Named CacheState) → slice_get cs k ≡ Some x → (k ≡ p) ⊎ (k ≡ p → ⊥) → (y : Named CacheState) × (slice_get ds k ≡ Some y) × (y.name ≡ x.name) × (k ≡ p → y.it ≡ now)
    by k x at (inl e) =
        let there = item_at cs p old within is in
        let same : old ≡ x = one_at cs p old x there (subst (λ j. slice_get cs j ≡ Some x) e at) in
        let it = each.each k (record { name = old.name; it = now }) (subst (λ j. slice_get (slice_set cs p (record { name = old.name; it = now })) j ≡ Some (record { name = old.name; it = now })) (sym e) (set_here cs p old (record { name = old.name; it = now }) there)) in
        (it.0, it.1, it.2 ∙ ap (λ (z : Named CacheState). z.name) same, λ again. it.3.same (ap (is_other_place (Some p)) e ∙ other_itself p))
    by k x at (inr far) =
        let it = each.each k x (set_there cs k p x (record { name = old.name; it = now }) far at) in
        (it.0, it.1, it.2, λ e. absurd (far e))

-- nothing was written
pub acted_same : (a : App) (one : List ℕ) (cs : List (Named CacheState)) → AreActed a one nothing [] cs cs
acted_same a one cs = (
  (λ c d was is.
      let same : c ≡ d = let both : Some c ≡ Some d = sym was ∙ is in cc in
      ([], (λ x none. absurd none), subst (λ (z : CacheState). StaysCleanExcept a [] c z) same (left_same a [] c))),
  beside_same a one (either nothing (tables_of [])) cs,
)

pub acted_told : (a : App) (one : List ℕ) (ws : List Source) (cs ds : List (Named CacheState)) → AreLeftAt a one (those ws) cs ds → AreLeftBeside a one (tables_of ws) cs ds → AreActed a one nothing ws cs ds
acted_told a one ws cs ds own others = (
  (λ c d was is. let it = own c d was is in (it.0, (λ x among. inr (it.1 x among)), it.2)),
  beside_more a one (tables_of ws) cs ds others,
)

-- another day, and then it
acted_after : (a : App) (one : List ℕ) (V : Writing) (ws : List Source) (cs ds es : List (Named CacheState)) → AreEachLeft a V cs ds → AreActed a one nothing ws ds es → AreActed a one V ws cs es
acted_after a one V ws cs ds es first second = (
  (λ c e was is.
      let found = find_each (StaysCleanExcept a first.0) one cs ds c first.2 was in
      let next = second.0 found.0 e found.1 is in
      let all = first.0 ++ next.0 in (
        all,
        (λ x among. elim (among_either x first.0 next.0 among) [ inl h ↦ inl (first.1 x h) | inr h ↦ inr (elim (next.1 x h) [ inl none ↦ absurd none | inr w ↦ w ]) ]),
        left_then a all c found.0 e (left_wider a first.0 all c found.0 (λ x h. among_first x first.0 next.0 h) found.2) (left_wider a next.0 all found.0 e (λ x h. among_second x first.0 next.0 h) next.2),
      )),
  left_after_beside a one V (tables_of ws) cs ds es first second.1,
)

event_after : (lost : Type 0) (a : App) (m : ℕ) (name : List ℕ) (V : Writing) (body : List ℕ) (r : Result Asks (List ℕ)) (told : Option Tables) (ss : List (Named SessionState)) (said : List ℕ) (told' : Option Tables) (rs : List (Named SessionState)) (cs ds es : List (Named CacheState))
    → AreEachLeft a V cs ds → EventLeaves lost a m name nothing body r told ss said told' rs ds es → EventLeaves lost a m name V body r told ss said told' rs cs es
event_after lost a m name V body (Err words) told ss said told' rs cs ds es day h = acted_after a name V [] cs ds es day h
event_after lost a m name V body (Ok e) told ss said told' rs cs ds es day (ws, sends, acted) = (ws, sends, acted_after a name V ws cs ds es day acted)

input_after : (lost : Type 0) (a : App) (m : ℕ) (name : List ℕ) (V : Writing) (body : List ℕ) (r : Result Gives (List ℕ)) (told : Option Tables) (ss : List (Named SessionState)) (said : List ℕ) (told' : Option Tables) (rs : List (Named SessionState)) (cs ds es : List (Named CacheState))
    → AreEachLeft a V cs ds → InputLeaves lost a m name nothing body r told ss said told' rs ds es → InputLeaves lost a m name V body r told ss said told' rs cs es
input_after lost a m name V body (Err words) told ss said told' rs cs ds es day h = acted_after a name V [] cs ds es day h
input_after lost a m name V body (Ok i) told ss said told' rs cs ds es day (ws, sends, acted) = (ws, sends, acted_after a name V ws cs ds es day acted)

begin_after : (lost : Type 0) (a : App) (m : ℕ) (name : List ℕ) (V : Writing) (o : Option (List ℕ)) (told : Option Tables) (ss : List (Named SessionState)) (said : List ℕ) (told' : Option Tables) (rs : List (Named SessionState)) (cs ds es : List (Named CacheState))
    → AreEachLeft a V cs ds → BeginLeaves lost a m name nothing o told ss said told' rs ds es → BeginLeaves lost a m name V o told ss said told' rs cs es
begin_after lost a m name V (Some words) told ss said told' rs cs ds es day h = left_after_none a V cs ds es day h
begin_after lost a m name V None told ss said told' rs cs ds es day (ws, opens, others) = (ws, opens, left_after_beside a name V (tables_of ws) cs ds es day others)

acts_after : (lost : Type 0) (m : ℕ) (route : Route) (V : Writing) (body : List ℕ) (s : OfficeState) (said : List ℕ) (t : OfficeState) (cs ds es : List (Named CacheState)) → AreEachLeft s.app V cs ds → ActsClean lost m route nothing body s said t ds es → ActsClean lost m route V body s said t cs es
unfolding ActsClean
acts_after lost m (Event name) V body s said t cs ds es day h = event_after lost s.app m name V body _ s.tables s.sessions said t.tables t.sessions cs ds es day h
acts_after lost m (Input name) V body s said t cs ds es day h = input_after lost s.app m name V body _ s.tables s.sessions said t.tables t.sessions cs ds es day h
acts_after lost m (Begin name) V body s said t cs ds es day h = begin_after lost s.app m name V _ s.tables s.sessions said t.tables t.sessions cs ds es day h
acts_after lost m (End name) V body s said t cs ds es day h = tt
acts_after lost m (View name) V body s said t cs ds es day h = tt
acts_after lost m (Formulas name) V body s said t cs ds es day h = tt
acts_after lost m (Items name gallery from) V body s said t cs ds es day h = tt
acts_after lost m (Rows desk) V body s said t cs ds es day h = tt
acts_after lost m (Edit desk) V body s said t cs ds es day h = tt
acts_after lost m (Replace desk) V body s said t cs ds es day h = tt
acts_after lost m (Page table after) V body s said t cs ds es day h = tt
acts_after lost m Plan V body s said t cs ds es day h = tt
acts_after lost m Graph V body s said t cs ds es day h = tt

-- over an office that went over to the moment
pub acts_then : (k l n : Marks) (s t u : OfficeState) (before m moment : ℕ) (request : Asked) (route : Route) (said : List ℕ) (cs ds es : List (Named CacheState)) → Routing request.method request.path (Ok route) → t ≡ s → l ≡ k → m ≡ moment
    → AreEachLeft s.app (day_turned before moment) cs ds → ActsClean (SilenceCause l n) m route nothing request.body t said u ds es → LeavesActed (SilenceCause k n) s before cs moment request said u es
acts_then k l n s t u before m moment request route said cs ds es is state marks at day h =
    inl (
      route,
      is,
      acts_after (SilenceCause k n) moment route (day_turned before moment) request.body s said u cs ds es day
          (subst (λ (x : ℕ). ActsClean (SilenceCause k n) x route nothing request.body s said u ds es) at
          (subst (λ (x : Marks). ActsClean (SilenceCause x n) m route nothing request.body s said u ds es) marks
          (subst (λ (x : OfficeState). ActsClean (SilenceCause l n) m route nothing request.body x said u ds es) state h))),
    )

-- of the route that was taken
pub acts_event : (route : Route) (name body given : List ℕ) (old made : OfficeView) (now : Marks) (t : OfficeState) (said : List ℕ) (ds : List (Named CacheState)) → route ≡ Event name → made ≡ old → given ≡ body
    → EventLeaves (SilenceCause made.marks now) made.state.app made.moment name nothing given (checks event_in (λ (e : Asks). e.seq) (session_of name made.state.sessions) given) made.state.tables made.state.sessions said t.tables t.sessions made.caches ds
    → ActsClean (SilenceCause old.marks now) old.moment route nothing body old.state said t old.caches ds
unfolding ActsClean
acts_event route name body given old made now t said ds is same equal h =
    subst (λ (r : Route). ActsClean (SilenceCause old.marks now) old.moment r nothing body old.state said t old.caches ds) (sym is)
    (subst (λ (s : OfficeView). ActsClean (SilenceCause s.marks now) s.moment (Event name) nothing body s.state said t s.caches ds) same
    (subst (λ (b : List ℕ). ActsClean (SilenceCause made.marks now) made.moment (Event name) nothing b made.state said t made.caches ds) equal h))

pub acts_input : (route : Route) (name body given : List ℕ) (old made : OfficeView) (now : Marks) (t : OfficeState) (said : List ℕ) (ds : List (Named CacheState)) → route ≡ Input name → made ≡ old → given ≡ body
    → InputLeaves (SilenceCause made.marks now) made.state.app made.moment name nothing given (checks input_in (λ (i : Gives). i.seq) (session_of name made.state.sessions) given) made.state.tables made.state.sessions said t.tables t.sessions made.caches ds
    → ActsClean (SilenceCause old.marks now) old.moment route nothing body old.state said t old.caches ds
unfolding ActsClean
acts_input route name body given old made now t said ds is same equal h =
    subst (λ (r : Route). ActsClean (SilenceCause old.marks now) old.moment r nothing body old.state said t old.caches ds) (sym is)
    (subst (λ (s : OfficeView). ActsClean (SilenceCause s.marks now) s.moment (Input name) nothing body s.state said t s.caches ds) same
    (subst (λ (b : List ℕ). ActsClean (SilenceCause made.marks now) made.moment (Input name) nothing b made.state said t made.caches ds) equal h))

pub acts_begin : (route : Route) (name body : List ℕ) (old made : OfficeView) (now : Marks) (t : OfficeState) (said : List ℕ) (ds : List (Named CacheState)) → route ≡ Begin name → made ≡ old
    → BeginLeaves (SilenceCause made.marks now) made.state.app made.moment name nothing (begin_checks name made.state.sessions) made.state.tables made.state.sessions said t.tables t.sessions made.caches ds
    → ActsClean (SilenceCause old.marks now) old.moment route nothing body old.state said t old.caches ds
unfolding ActsClean
acts_begin route name body old made now t said ds is same h =
    subst (λ (r : Route). ActsClean (SilenceCause old.marks now) old.moment r nothing body old.state said t old.caches ds) (sym is)
    (subst (λ (s : OfficeView). ActsClean (SilenceCause s.marks now) s.moment (Begin name) nothing body s.state said t s.caches ds) same h)

-- the session was opened
pub opened_leaves : (lost : Type 0) (a : App) (m : ℕ) (name : List ℕ) (o : Option (List ℕ)) (told : Option Tables) (ss : List (Named SessionState)) (said : List ℕ) (told' : Option Tables) (rs : List (Named SessionState)) (cs ds : List (Named CacheState)) (ws : List Source) → o ≡ None
    → OpensSessionWriting lost a m name told ss said told' rs ws → AreLeftBeside a name (tables_of ws) cs ds → BeginLeaves lost a m name nothing o told ss said told' rs cs ds
opened_leaves lost a m name o told ss said told' rs cs ds ws none opens others =
    subst (λ (x : Option (List ℕ)). BeginLeaves lost a m name nothing x told ss said told' rs cs ds) (sym none) (ws, opens, beside_more a name (tables_of ws) cs ds others)

-- no check of a session that begins breaks
pub begin_none : (name : List ℕ) (ss : List (Named SessionState)) → is_in_directory name ss ≡ false → length ss < 256 → begin_checks name ss ≡ None
begin_none name ss new low = by (is_in_directory name ss) (nat_le most_sessions (length ss)) new (lt-leb most_sessions (length ss) low)
  where
    by : (a b : Bool) → a ≡ false → b ≡ false → (if a then Some (reply 200 ok_text) else (if b then Some (refusal 12) else None)) ≡ None
    by false false e h = refl
    by true b e h = absurd cc
    by false true e h = absurd cc

-- as many live as may
pub begin_full : (name : List ℕ) (ss : List (Named SessionState)) → is_in_directory name ss ≡ false → most_sessions ≤ length ss → begin_checks name ss ≡ Some (refusal 12)
begin_full name ss new full = by (is_in_directory name ss) (nat_le most_sessions (length ss)) new (le-leb most_sessions (length ss) full)
  where
    by : (a b : Bool) → a ≡ false → b ≡ true → (if a then Some (reply 200 ok_text) else (if b then Some (refusal 12) else None)) ≡ Some (refusal 12)
    by false true e h = refl
    by true b e h = absurd cc
    by false false e h = absurd cc

-- none was opened
pub checked_leaves : (lost : Type 0) (a : App) (m : ℕ) (name : List ℕ) (o : Option (List ℕ)) (words : List ℕ) (told : Option Tables) (ss : List (Named SessionState)) (said : List ℕ) (told' : Option Tables) (rs : List (Named SessionState)) (cs : List (Named CacheState)) → o ≡ Some words
    → BeginLeaves lost a m name nothing o told ss said told' rs cs cs
checked_leaves lost a m name o words told ss said told' rs cs is =
    subst (λ (x : Option (List ℕ)). BeginLeaves lost a m name nothing x told ss said told' rs cs cs) (sym is) (left_unchanged a cs)

-- a route by which nothing acts
abbrev pub IsQuiet : Route → Type 0
IsQuiet (Event name) = ⊥
IsQuiet (Input name) = ⊥
IsQuiet (Begin name) = ⊥
IsQuiet r = Unit {0}

acts_none : (kind : Route) (lost : Type 0) (m : ℕ) (body : List ℕ) (s : OfficeState) (said : List ℕ) (t : OfficeState) (cs ds : List (Named CacheState)) → IsQuiet kind → ActsClean lost m kind nothing body s said t cs ds
unfolding ActsClean
acts_none (Event name) lost m body s said t cs ds h = absurd h
acts_none (Input name) lost m body s said t cs ds h = absurd h
acts_none (Begin name) lost m body s said t cs ds h = absurd h
acts_none (End name) lost m body s said t cs ds h = tt
acts_none (View name) lost m body s said t cs ds h = tt
acts_none (Formulas name) lost m body s said t cs ds h = tt
acts_none (Items name gallery from) lost m body s said t cs ds h = tt
acts_none (Rows desk) lost m body s said t cs ds h = tt
acts_none (Edit desk) lost m body s said t cs ds h = tt
acts_none (Replace desk) lost m body s said t cs ds h = tt
acts_none (Page table after) lost m body s said t cs ds h = tt
acts_none Plan lost m body s said t cs ds h = tt
acts_none Graph lost m body s said t cs ds h = tt

pub acts_quiet : (route kind : Route) (lost : Type 0) (m : ℕ) (body : List ℕ) (s : OfficeState) (said : List ℕ) (t : OfficeState) (cs ds : List (Named CacheState)) → route ≡ kind → IsQuiet kind → ActsClean lost m route nothing body s said t cs ds
acts_quiet route kind lost m body s said t cs ds is quiet = subst (λ (r : Route). ActsClean lost m r nothing body s said t cs ds) (sym is) (acts_none kind lost m body s said t cs ds quiet)

-- where nothing acts there is nothing to say
pub ok_always : {X E : Type 0} (r : Result X E) (P : X → Type 0) → ((x : X) → P x) → IfOk r P
ok_always (Ok x) P h = h x
ok_always (Err e) P h = tt

-- ---- what stops

-- it holds where the tables are still told
pub still_told : (lost : Type 0) (Q : Type 0) (x y : Option Tables) → IsSome y → MayFallSilent lost (λ (t u : Tables). Q) x y → Q
still_told lost Q None None still h = absurd cc
still_told lost Q None (Some u) still h = absurd cc
still_told lost Q (Some t) None still h = absurd cc
still_told lost Q (Some t) (Some u) still h = h

-- and so does, of each of these sources, what holds over the tables that were told before
pub still_all : (lost : Type 0) (P : Tables → Source → Type 0) (ws : List Source) (x y : Option Tables) → IsSome y → MayFallSilent lost (λ (t u : Tables). AllSources (P t) ws) x y → (s : Source) → IsAmong s ws → IfSome x (λ t. P t s)
still_all lost P ws None y still h s among = tt
still_all lost P ws (Some t) None still h s among = absurd cc
still_all lost P ws (Some t) (Some u) still h s among = h s among

-- the cache of the session at a place became another, and so it is left
pub at_stopped : (a : App) (one : List ℕ) (W : Writing) (ws : List Source) (cs : List (Named CacheState)) (p : ℕ) (old : Named CacheState) (now : CacheState) → p < length cs → old ≡ get_or cs p old → position (is_named one) cs ≡ Some p
    → ((x : Source) → IsAmong x ws → W x) → StaysCleanExcept a ws old.it now → AreLeftAt a one (either nothing W) cs (slice_set cs p (record { name = old.name; it = now }))
at_stopped a one W ws cs p old now within is place all left = λ c d was found.
    let first : c ≡ old.it = let both : Some c ≡ Some old.it = sym was ∙ find_placed one cs p old place there in cc in
    let so = find_at_each (λ k x y. (k ≡ p → y ≡ now)) one cs (slice_set cs p new) c (record { long = length-set cs p new; each = λ k x at. by k x at (cases_of k p) }) was in
    let at_p : so.1 ≡ p = let both : Some so.1 ≡ Some p = sym so.3 ∙ place in cc in
    let last : d ≡ now = let both : Some d ≡ Some so.0 = sym found ∙ so.2 in let one_more : d ≡ so.0 = cc in one_more ∙ so.4 at_p in
    (ws, (λ x h. inr (all x h)), subst (λ (z : CacheState). StaysCleanExcept a ws z d) (sym first) (subst (λ (z : CacheState). StaysCleanExcept a ws old.it z) (sym last) left))
  where
    new : Named CacheState
    new = record { name = old.name; it = now }

    there : slice_get cs p ≡ Some old
    there = item_at cs p old within is

    by : (k : ℕ) (x : Named CacheState) → slice_get cs k ≡ Some x → (k ≡ p) ⊎ (k ≡ p → ⊥) → (y : Named CacheState) × (slice_get (slice_set cs p new) k ≡ Some y) × (y.name ≡ x.name) × (k ≡ p → y.it ≡ now)
    by k x at (inl e) =
        let same : old ≡ x = one_at cs p old x there (subst (λ j. slice_get cs j ≡ Some x) e at) in
        (new, subst (λ j. slice_get (slice_set cs p new) j ≡ Some new) (sym e) (set_here cs p old new there), ap (λ (z : Named CacheState). z.name) same, λ again. refl)
    by k x at (inr far) = (x, set_there cs k p x new far at, refl, λ e. absurd (far e))

-- nothing was done
pub stopped_same : (a : App) (one : List ℕ) (W : Writing) (told : Option Tables) (cs : List (Named CacheState)) → AreStopped a one nothing W told cs cs
stopped_same a one W told cs = (
  (λ still c d was is.
      let same : c ≡ d = let both : Some c ≡ Some d = sym was ∙ is in cc in
      ([], (λ x none. absurd none), subst (λ (z : CacheState). StaysCleanExcept a [] c z) same (left_same a [] c))),
  beside_same a one nothing cs,
)

-- another day, and then it
stopped_after : (a : App) (one : List ℕ) (V W : Writing) (told : Option Tables) (cs ds es : List (Named CacheState)) → AreEachLeft a V cs ds → AreStopped a one nothing W told ds es → AreStopped a one V W told cs es
stopped_after a one V W told cs ds es day (own, others) = (
  (λ still c e was is.
      let found = find_each (StaysCleanExcept a day.0) one cs ds c day.2 was in
      let next = own still found.0 e found.1 is in
      let all = day.0 ++ next.0 in (
        all,
        (λ x among. elim (among_either x day.0 next.0 among) [ inl h ↦ inl (day.1 x h) | inr h ↦ inr (elim (next.1 x h) [ inl none ↦ absurd none | inr w ↦ w ]) ]),
        left_then a all c found.0 e (left_wider a day.0 all c found.0 (λ x h. among_first x day.0 next.0 h) found.2) (left_wider a next.0 all found.0 e (λ x h. among_second x day.0 next.0 h) next.2),
      )),
  (λ name c e far was is.
      let all = left_after_beside a one V nothing cs ds es day (beside_more a one nothing ds es others) name c e far was is in
      (all.0, (λ x among. elim (all.1 x among) [ inl h ↦ h | inr none ↦ absurd none ]), all.2)),
)

stops_after : (m : ℕ) (route : Route) (V : Writing) (body : List ℕ) (s t : OfficeState) (cs ds es : List (Named CacheState)) → AreEachLeft s.app V cs ds → StopsClean m route nothing body s t ds es → StopsClean m route V body s t cs es
unfolding StopsClean
stops_after m (Event name) V body s t cs ds es day h = stopped_after s.app name V _ t.tables cs ds es day h
stops_after m (Input name) V body s t cs ds es day h = stopped_after s.app name V _ t.tables cs ds es day h
stops_after m (Begin name) V body s t cs ds es day h = left_after_none s.app V cs ds es day h
stops_after m (End name) V body s t cs ds es day h = tt
stops_after m (View name) V body s t cs ds es day h = tt
stops_after m (Formulas name) V body s t cs ds es day h = tt
stops_after m (Items name gallery from) V body s t cs ds es day h = tt
stops_after m (Rows desk) V body s t cs ds es day h = tt
stops_after m (Edit desk) V body s t cs ds es day h = tt
stops_after m (Replace desk) V body s t cs ds es day h = tt
stops_after m (Page table after) V body s t cs ds es day h = tt
stops_after m Plan V body s t cs ds es day h = tt
stops_after m Graph V body s t cs ds es day h = tt

-- over an office that went over to the moment
pub stops_then : (s t u : OfficeState) (before m moment : ℕ) (request : Asked) (route : Route) (cs ds es : List (Named CacheState)) → Routing request.method request.path (Ok route) → t ≡ s → m ≡ moment → AreEachLeft s.app (day_turned before moment) cs ds
    → StopsClean m route nothing request.body t u ds es → LeavesStopped s before cs moment request u es
stops_then s t u before m moment request route cs ds es is same at day h =
    inr (
      route,
      is,
      stops_after moment route (day_turned before moment) request.body s u cs ds es day
          (subst (λ (x : ℕ). StopsClean x route nothing request.body s u ds es) at (subst (λ (x : OfficeState). StopsClean m route nothing request.body x u ds es) same h)),
    )

-- one that was cut off before its route was taken
pub stops_unrouted : (s t : OfficeState) (before moment : ℕ) (request : Asked) (cs ds : List (Named CacheState)) → AreEachLeft s.app (day_turned before moment) cs ds → LeavesStopped s before cs moment request t ds
stops_unrouted s t before moment request cs ds day = inl (left_each s.app (day_turned before moment) cs ds day)

pub stops_same : (s t : OfficeState) (before moment : ℕ) (request : Asked) (cs : List (Named CacheState)) → LeavesStopped s before cs moment request t cs
stops_same s t before moment request cs = stops_unrouted s t before moment request cs cs (left_none s.app (day_turned before moment) cs cs (each_same s.app [] cs))

-- of the route that was taken
pub stops_event : (route : Route) (name body given : List ℕ) (old made : OfficeView) (t : OfficeState) (ds : List (Named CacheState)) → route ≡ Event name → made ≡ old → given ≡ body
    → AreStopped made.state.app name nothing (event_cut made.state.app made.moment name made.state.tables made.state.sessions (checks event_in (λ (e : Asks). e.seq) (session_of name made.state.sessions) given)) t.tables made.caches ds
    → StopsClean old.moment route nothing body old.state t old.caches ds
unfolding StopsClean
stops_event route name body given old made t ds is same equal h =
    subst (λ (r : Route). StopsClean old.moment r nothing body old.state t old.caches ds) (sym is)
    (subst (λ (s : OfficeView). StopsClean s.moment (Event name) nothing body s.state t s.caches ds) same
    (subst (λ (b : List ℕ). StopsClean made.moment (Event name) nothing b made.state t made.caches ds) equal h))

pub stops_input : (route : Route) (name body given : List ℕ) (old made : OfficeView) (t : OfficeState) (ds : List (Named CacheState)) → route ≡ Input name → made ≡ old → given ≡ body
    → AreStopped made.state.app name nothing (input_cut made.state.app made.moment name made.state.tables made.state.sessions (checks input_in (λ (i : Gives). i.seq) (session_of name made.state.sessions) given)) t.tables made.caches ds
    → StopsClean old.moment route nothing body old.state t old.caches ds
unfolding StopsClean
stops_input route name body given old made t ds is same equal h =
    subst (λ (r : Route). StopsClean old.moment r nothing body old.state t old.caches ds) (sym is)
    (subst (λ (s : OfficeView). StopsClean s.moment (Input name) nothing body s.state t s.caches ds) same
    (subst (λ (b : List ℕ). StopsClean made.moment (Input name) nothing b made.state t made.caches ds) equal h))

pub stops_begin : (route : Route) (name body : List ℕ) (old made : OfficeView) (t : OfficeState) (ds : List (Named CacheState)) → route ≡ Begin name → made ≡ old → SessionsLeft made.state.app nothing made.caches ds → StopsClean old.moment route nothing body old.state t old.caches ds
unfolding StopsClean
stops_begin route name body old made t ds is same h =
    subst (λ (r : Route). StopsClean old.moment r nothing body old.state t old.caches ds) (sym is) (subst (λ (s : OfficeView). StopsClean s.moment (Begin name) nothing body s.state t s.caches ds) same h)

stops_none : (m : ℕ) (kind : Route) (body : List ℕ) (s t : OfficeState) (cs ds : List (Named CacheState)) → IsQuiet kind → StopsClean m kind nothing body s t cs ds
unfolding StopsClean
stops_none m (Event name) body s t cs ds h = absurd h
stops_none m (Input name) body s t cs ds h = absurd h
stops_none m (Begin name) body s t cs ds h = absurd h
stops_none m (End name) body s t cs ds h = tt
stops_none m (View name) body s t cs ds h = tt
stops_none m (Formulas name) body s t cs ds h = tt
stops_none m (Items name gallery from) body s t cs ds h = tt
stops_none m (Rows desk) body s t cs ds h = tt
stops_none m (Edit desk) body s t cs ds h = tt
stops_none m (Replace desk) body s t cs ds h = tt
stops_none m (Page table after) body s t cs ds h = tt
stops_none m Plan body s t cs ds h = tt
stops_none m Graph body s t cs ds h = tt

pub stops_quiet : (m : ℕ) (route kind : Route) (body : List ℕ) (s t : OfficeState) (cs ds : List (Named CacheState)) → route ≡ kind → IsQuiet kind → StopsClean m route nothing body s t cs ds
stops_quiet m route kind body s t cs ds is quiet = subst (λ (r : Route). StopsClean m r nothing body s t cs ds) (sym is) (stops_none m kind body s t cs ds quiet)

pub err_always : {X E : Type 0} (r : Result X E) (P : Type 0) → P → OnErr r P
err_always (Ok x) P h = tt
err_always (Err e) P h = h
