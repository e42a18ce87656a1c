-- What a replacement leaves of an office is ready for a request, and which cells are clean in it.
use Rattle.std.proofs.Common.{◌≡◌, inl, inr, ℕ, ◌<◌, false, List, [], ◌∷◌, length, map, Option, Some, None, Result, Ok, Err, refl, ap, sym, ◌∙◌, subst}
use Rattle.std.specs.Prelude.{IfOk, OnErr, option_map, slice_get}
use Rattle.std.proofs.lemmas.List.{length-map}
use Rattle.std.proofs.lemmas.Option.{slice_get-map}
use Rattle.fx_base.specs.Silence.{MayFallSilent}
use Rattle.fx_base.specs.Telling.{Stays}
use Rattle.fx_base.proofs.Silences.{goes_weaker}
use Rattle.fx_core.specs.declared.names.Names.{Names}
use Rattle.fx_core.specs.declared.schema.Schema.{Schema}
use Rattle.fx_scalar.specs.ScalarFunctions.{IsToday}
use Rattle.serde_json.specs.Written.{compact_text}
use Rattle.app_cells.specs.declared.app.App.{App}
use Rattle.app_moves.specs.Places.{table_moves}
use Rattle.app_moves.proofs.Fits.{moves_fit}
use Rattle.app_moves.proofs.Moved.{each_fits}
use Rattle.app_replacements.specs.declared.body.Replacement.{Replacement}
use Rattle.numbered_requests.specs.Checked.{SessionsKeepReplies}
use Rattle.numbered_requests.specs.Directory.{put_named}
use Rattle.numbered_requests.specs.Replies.{IsAcceptedReply}
use Rattle.numbered_requests.specs.declared.directory.Named.{Named}
use Rattle.recalc.proofs.Leaving.{left_same}
use Rattle.recalc.proofs.Touching.{empty_right}
use Rattle.recalc.specs.Carrying.{IsBegunAnew}
use Rattle.recalc.specs.Changes.{StaysCleanExcept}
use Rattle.recalc.specs.Kept.{CacheState, stamp_of}
use Rattle.recalc.specs.app_semantics.Present.{present}
use Rattle.row_keeper.specs.MovedTables.{AreMoves, Reshapes}
use Rattle.row_keeper.specs.Tables.{AreStatesOf, Tables}
use Rattle.row_keeper.specs.declared.moves.TableMove.{TableMove}
use Rattle.row_keeper.specs.declared.rows.Reshaped.TheVariants.{Done, Broken}
use Rattle.row_keeper.specs.declared.rows.RowRefusal.{RowRefusal}
use Rattle.row_requests.specs.Sound.{AreSound}
use Rattle.row_requests.proofs.Soundness.{sound_stays}
use Rattle.session_requests.specs.Caching.{IsCached}
use Rattle.session_state.proofs.CarriedControls.{fits_over}
use Rattle.session_state.specs.Changes.{HoldsTables}
use Rattle.session_state.specs.Once.{LastRequest}
use Rattle.session_state.specs.Sessions.{SessionState}
use Rattle.session_views.specs.Shows.{LiveSessionsFit}
use Rattle.office.specs.Caches.{AreKept, EachCacheBecame, IsButRoom, IsCacheOf}
use Rattle.office.specs.DeskEdits.{accepted_edit_reply, desk_answered, seq_data}
use Rattle.office.specs.Leaving.{HaveNoneClean, ReplacementLeaves, nothing}
use Rattle.office.specs.Ready.{OfficeInvariant}
use Rattle.office.specs.Replacing.{IsAccepted, all_over, one_over, replace_checks, replaced}
use Rattle.office.specs.Rooms.{with_room}
use Rattle.office.specs.Served.{BecomesServed, GoesOver, IsReady, Served, StaysServed}
use Rattle.office.specs.State.{OfficeState, schema_of}
use Rattle.office.proofs.Caching.{kept_each}
use Rattle.office.proofs.Desks.{kept_so}
use Rattle.office.proofs.Directories.{put_all}
use Rattle.office.proofs.GoingOver.{kept_room}
use Rattle.office.proofs.Leaving.{find_each, left_still}
use Rattle.office.proofs.Places.{one_at, there_too}
use Rattle.office.proofs.Rooms.{over_same}
use Rattle.office.proofs.Sent.{kept_still}
use Rattle.office.proofs.StepLemmas.{left_all}

-- ---- an accepted app takes the place of the old one

-- tables that have moved are those of its schema
sound_moved : (lost : Type 0) (olds news : Schema) (moves : List TableMove) (x y : Option Tables) → AreMoves olds.tables news.tables moves → AreSound olds x → MayFallSilent lost (Reshapes news moves Done) x y → AreSound news y
sound_moved lost olds news moves None None fit h g = tt
sound_moved lost olds news moves None (Some b) fit h g = absurd cc
sound_moved lost olds news moves (Some a) None fit h g = tt
sound_moved lost olds news moves (Some a) (Some b) fit h g =
    subst (λ (t : Tables). AreStatesOf news.tables t.states) (sym g.1) (each_fits olds.tables a.states news.tables moves h fit.each)

-- its sessions fit it, and what is kept of their requests stays
pub over_fit : (n m : Names) (xs : List (Named SessionState)) → 0 < length m.screens → HoldsTables m → LiveSessionsFit n xs → LiveSessionsFit m (all_over n m xs)
over_fit n m [] some tables fit = tt
over_fit n m (x ∷ xs) some tables fit = (fits_over n m x.it some tables fit.0, over_fit n m xs some tables fit.1)

over_keep : (n m : Names) (xs : List (Named SessionState)) → SessionsKeepReplies xs → SessionsKeepReplies (all_over n m xs)
over_keep n m [] keep = tt
over_keep n m (x ∷ xs) keep = (keep.0, over_keep n m xs keep.1)

over_at : (n m : Names) (ss : List (Named SessionState)) (k : ℕ) (s r : Named SessionState) → slice_get ss k ≡ Some s → slice_get (all_over n m ss) k ≡ Some r → r ≡ one_over n m s
over_at n m ss k s r at there =
    let both : Some r ≡ Some (one_over n m s) = sym there ∙ slice_get-map (one_over n m) ss k ∙ ap (option_map (one_over n m)) at in cc

-- a cache that begins anew is that of any session, on its day
begun_cached : (a : App) (s : SessionState) (x : Option Tables) (m : ℕ) (c d : CacheState) → IsBegunAnew a c d → IsToday m c.values.day → IsCached a s x m d
begun_cached a s x m c d anew day = record {
  order = anew.order;
  right = ∣ (λ tables heard. empty_right (present a s tables m) [] d anew.order anew.empty) ∣₁;
  day = subst (IsToday m) (sym anew.day) day;
}

kept_anew : (a b : App) (x y : Option Tables) (m : ℕ) (ss : List (Named SessionState)) (cs ds : List (Named CacheState)) → AreKept a x m ss cs → EachCacheBecame (λ k. IsBegunAnew b) cs ds → AreKept b y m (all_over a.names b.names ss) ds
kept_anew a b x y m ss cs ds h each =
    kept_each a b x y m m (λ k. IsBegunAnew b) ss (all_over a.names b.names ss) cs ds h each (length-map ss (one_over a.names b.names))
    (λ k s r c d at there is named anew.
    subst (λ (z : Named SessionState). IsCacheOf b y m z d) (sym (over_at a.names b.names ss k s r at there))
    (record { name = named ∙ is.name; cached = begun_cached b (one_over a.names b.names s).it y m c.it d.it anew is.cached.day }))

ready_over : (lost : Type 0) (name body : List ℕ) (r : Replacement) (b : App) (old new : Served) (m : ℕ) → IsAccepted b → GoesOver lost name body r b old new → IsReady old m → IsReady new m
ready_over lost name body r b old new m accepted goes ready =
    let a = old.state.app in
    let told = new.state.tables in
    let moves = table_moves (schema_of a).tables r.moves (schema_of b).tables in
    let fit = moves_fit (schema_of a) (schema_of b) r.moves accepted.sound.names.schema goes.fine in
    let desk : LastRequest = record { last = r.seq; body = body; reply = accepted_edit_reply r.seq } in
    subst (λ (s : OfficeState). OfficeInvariant s.app new.in_transaction new.shape s.tables s.sessions s.desks new.caches m) (sym goes.state) (record {
      idle = goes.idle;
      shaped = goes.shape;
      sound = sound_moved lost (schema_of a) (schema_of b) moves old.state.tables told fit ready.sound goes.moved;
      kept = put_all LastRequest (λ (n : Named LastRequest). IsAcceptedReply n.it.reply) name desk old.state.desks ready.kept (compact_text (seq_data r.seq), refl);
      accepted = accepted.sound;
      loaded = accepted.loaded;
      opens = record { screen = accepted.opens; tables = accepted.tables };
      fit = over_fit a.names b.names old.state.sessions accepted.opens accepted.tables ready.fit;
      replies = over_keep a.names b.names old.state.sessions ready.replies;
      cached = kept_anew a b old.state.tables told m old.state.sessions old.caches new.caches ready.cached goes.anew;
    })

-- and no cell is clean
none_clean : (a : App) (old new : List (Named CacheState)) → EachCacheBecame (λ k. IsBegunAnew a) old new → HaveNoneClean a new
none_clean a old new each = λ name d k found clean.
    let it = find_each (λ c b. (i : ℕ) → stamp_of c i ≡ None) name new old d back found in
    let no : None ≡ Some clean.0 = sym (it.2 k) ∙ clean.1 in cc
  where
    back : EachCacheBecame (λ k c b. (i : ℕ) → stamp_of c i ≡ None) new old
    back = record {
      long = sym each.long;
      each = λ k d at.
          let was = there_too new old (sym each.long) k d at in
          let it = each.each k was.0 was.1 in
          let same = one_at new k it.0 d it.1 at in
          (was.0, was.1, sym it.2 ∙ ap (λ (z : Named CacheState). z.name) same, subst (λ (z : Named CacheState). (i : ℕ) → stamp_of z.it i ≡ None) same it.3.empty);
    }

-- room that was made before is no matter
pub anew_from : (a : App) (cs ds es : List (Named CacheState)) → EachCacheBecame (λ k. IsButRoom) cs ds → EachCacheBecame (λ k. IsBegunAnew a) ds es → EachCacheBecame (λ k. IsBegunAnew a) cs es
anew_from a cs ds es h g = record {
  long = g.long ∙ h.long;
  each = λ k c at.
      let d = h.each k c at in
      let e = g.each k d.0 d.1 in (
        e.0,
        e.1,
        e.2 ∙ d.2,
        record {
          order = e.3.order;
          empty = e.3.empty;
          emptied = e.3.emptied ∙ ap (λ (z : CacheState). z.emptied) d.3;
          day = e.3.day ∙ ap (λ (z : CacheState). z.values.day) d.3;
        },
      );
}

-- the state then, part by part
pub replaced_so : (name body named copy kept : List ℕ) (seq : ℕ) (b app : App) (told : Option Tables) (s : OfficeState) (mid sessions : List (Named SessionState)) (list desks : List (Named LastRequest))
    → app ≡ b → mid ≡ map (with_room b.names) s.sessions → sessions ≡ all_over s.app.names b.names mid → named ≡ name → copy ≡ body → kept ≡ accepted_edit_reply seq → list ≡ s.desks
    → desks ≡ put_named named (record { last = seq; body = copy; reply = kept }) list → record { app = app; tables = told; sessions = sessions; desks = desks } ≡ replaced name body seq b told s
replaced_so name body named copy kept seq b app told s mid sessions list desks app_is mid_is sessions_are name_is body_is kept_is list_is desks_are =
    let over : sessions ≡ all_over s.app.names b.names s.sessions = sessions_are ∙ ap (all_over s.app.names b.names) mid_is ∙ over_same s.app.names b.names s.sessions in
    let answered : desks ≡ desk_answered name body seq s.desks = kept_so name body named copy kept seq s.desks list desks name_is body_is kept_is list_is desks_are in
    λ i. record { app = app_is i; tables = told; sessions = over i; desks = answered i }

-- ---- all is left

-- part by part
pub stays_so : (lost : Type 0) (old new : Served) → new.state.app ≡ old.state.app → MayFallSilent lost Stays old.state.tables new.state.tables → new.state.sessions ≡ old.state.sessions → new.state.desks ≡ old.state.desks
    → EachCacheBecame (λ k. IsButRoom) old.caches new.caches → new.in_transaction ≡ false → new.shape ≡ old.shape → StaysServed lost old new
stays_so lost old new app goes sessions desks kept idle shape = record {
  left = record { tables = goes; others = λ i. record { app = app i; tables = new.state.tables; sessions = sessions i; desks = desks i } };
  kept = kept;
  idle = idle;
  shape = shape;
}

pub room_same : (cs : List (Named CacheState)) → EachCacheBecame (λ k. IsButRoom) cs cs
room_same cs = record { long = refl; each = λ k c at. (c, at, refl, refl) }

-- nothing was done
pub stays_same : (lost : Type 0) (x : Served) (m : ℕ) → IsReady x m → StaysServed lost x x
stays_same lost x m ready = record { left = left_all lost x.state x.state refl; kept = room_same x.caches; idle = ready.idle; shape = refl }

-- a moved row broke a rule, which moved nothing
pub broken_stays : (lost : Type 0) (news : Schema) (moves : List TableMove) (k : ℕ) (r : RowRefusal) (x y : Option Tables) → MayFallSilent lost (Reshapes news moves (Broken k r)) x y → MayFallSilent lost Stays x y
broken_stays lost news moves k r x y = goes_weaker lost (Reshapes news moves (Broken k r)) Stays (λ a b h. h.1) x y

ready_stays : (lost : Type 0) (old new : Served) (m : ℕ) → StaysServed lost old new → IsReady old m → IsReady new m
ready_stays lost old new m h ready =
    let a = old.state.app in
    let told = new.state.tables in
    subst (λ (s : OfficeState). OfficeInvariant s.app new.in_transaction new.shape s.tables s.sessions s.desks new.caches m) (sym h.left.others) (record {
      idle = h.idle;
      shaped = h.shape ∙ ready.shaped;
      sound = sound_stays (schema_of a) lost old.state.tables told ready.sound h.left.tables;
      kept = ready.kept;
      accepted = ready.accepted;
      loaded = ready.loaded;
      opens = ready.opens;
      fit = ready.fit;
      replies = ready.replies;
      cached = kept_room a told m old.state.sessions old.caches new.caches h.kept (kept_still a m lost old.state.tables told old.state.sessions old.caches h.left.tables ready.cached);
    })

-- other room leaves all clean cells so
room_left : (a : App) (c d : CacheState) → IsButRoom c d → StaysCleanExcept a [] c d
room_left a c d is =
    let same = left_same a [] c in
    subst (λ (z : CacheState). StaysCleanExcept a [] c z) (sym is) (record { emptied = same.emptied; left = λ equal end k far clean. clean })

-- the cells that are clean then
abbrev pub LeavesServed : List ℕ → List ℕ → Served → Served → Type 0
LeavesServed name body old new = ReplacementLeaves name body nothing old.state new.state old.caches new.caches

stays_clean : (lost : Type 0) (name body : List ℕ) (old new : Served) → StaysServed lost old new → LeavesServed name body old new
stays_clean lost name body old new h =
    inl (
      h.left.others,
      left_still old.state.app old.caches new.caches (record {
        long = h.kept.long;
        each = λ k c at. let d = h.kept.each k c at in (d.0, d.1, d.2, room_left old.state.app c.it d.0.it d.3);
      }),
    )

-- ---- the one or the other

becomes_ready : (lost : Type 0) (name body : List ℕ) (r : Replacement) (old new : Served) → BecomesServed lost name body r old new → (m : ℕ) → IsReady old m → IsReady new m
becomes_ready lost name body r old new (inl h) m ready = ready_stays lost old new m h ready
becomes_ready lost name body r old new (inr h) m ready = ready_over lost name body r h.0 old new m h.1 h.2 ready

becomes_clean : (lost : Type 0) (name body : List ℕ) (r : Replacement) (old new : Served) → replace_checks old.state.desks name body ≡ Ok r → BecomesServed lost name body r old new → LeavesServed name body old new
becomes_clean lost name body r old new checked (inl h) = stays_clean lost name body old new h
becomes_clean lost name body r old new checked (inr h) =
    inr (
      record { asked = r; checked = checked; app = h.0; is = h.2.state },
      subst (λ (a : App). HaveNoneClean a new.caches) (sym (ap (λ (s : OfficeState). s.app) h.2.state)) (none_clean h.0 old.caches new.caches h.2.anew),
    )

-- however a call ends
module _ {X E : Type 0} (lost : Type 0) (name body : List ℕ) (r : Replacement) (old new : Served) where
  pub ends_ready : (result : Result X E) → IfOk result (λ x. BecomesServed lost name body r old new) → OnErr result (StaysServed lost old new) → (m : ℕ) → IsReady old m → IsReady new m
  ends_ready (Ok x) becomes stays m ready = becomes_ready lost name body r old new becomes m ready
  ends_ready (Err e) becomes stays m ready = ready_stays lost old new m stays ready

  pub ends_clean : replace_checks old.state.desks name body ≡ Ok r → (result : Result X E) → IfOk result (λ x. BecomesServed lost name body r old new) → OnErr result (StaysServed lost old new) → LeavesServed name body old new
  ends_clean checked (Ok x) becomes stays = becomes_clean lost name body r old new checked becomes
  ends_clean checked (Err e) becomes stays = stays_clean lost name body old new stays
