-- A transaction of a session begins, goes on, and can be taken back.
use Rattle.std.proofs.Common.{◌≡◌, ℕ, List, [], Option, None, Some, length, take, true, false, refl, subst, sym, ap, ◌∙◌, arith}
use Rattle.std.proofs.Math.Seq.{take-length}
use Rattle.std.specs.Prelude.{IsSome}
use Rattle.fx_base.proofs.Silences.{goes_two}
use Rattle.fx_base.specs.Silence.{MayFallSilent, IsLater, SilenceCause}
use Rattle.fx_base.specs.Telling.{Stays}
use Rattle.fx_types.specs.Values.{Data}
use Rattle.fx_scalar.specs.ScalarFunctions.{IsToday}
use Rattle.fx_core.specs.declared.sources.Source.{Source}
use Rattle.recalc.proofs.Asked.{stays}
use Rattle.recalc.proofs.Leaving.{left_then, left_wider}
use Rattle.recalc.specs.Changes.{StaysCleanExcept}
use Rattle.recalc.specs.Kept.{IsInOrder, CacheState}
use Rattle.recalc.specs.Outcomes.{IsRightOver}
use Rattle.recalc.specs.app_cells.declared.app.App.{App}
use Rattle.recalc.specs.app_semantics.Sound.{IsSoundApp}
use Rattle.row_keeper.specs.Tables.{Tables}
use Rattle.row_keeper.specs.declared.keeper.Keeper.{Ghosts}
use Rattle.row_requests.specs.Sound.{AreSound}
use Rattle.session_state.specs.Changes.{FitsNames}
use Rattle.session_state.specs.Sessions.{SessionState}
use Rattle.session_requests.specs.Caching.{AreLater, SameSessionExcept, AreSources, GoesOnClean}
use Rattle.row_keeper.specs.Over.{Becomes}
use Rattle.row_keeper.specs.Shaped.{by, steady}
use Rattle.session_requests.specs.Running.{Runs, RunsWriting}
use Rattle.session_requests.specs.Scenes.{arrived, begun, quiet, scene}
use Rattle.session_requests.specs.Transactions.{CanBegin, CanGoBack, GoesOn, HasEnded, IsAccepted, IsUnderWay}
use Rattle.session_requests.specs.declared.transaction.Accepted.{Accepted}
use Rattle.session_requests.specs.declared.trigger.Trigger.{Trigger}
use Rattle.session_requests.proofs.Caches.{among_before}
use Rattle.session_requests.proofs.Readying.{sound_stays}
use Rattle.session_requests.proofs.RequestFitting.{fits_arrived, fits_begun}
use Rattle.session_requests.proofs.Resting.{arrived_but, begun_but, later_first}
use Rattle.session_requests.proofs.Undone.{but_then, cached_as, cached_stays, pending_undone, tables_same, tables_through}
use Rattle.session_requests.proofs.WorldEnding.{cached_from}
use Rattle.session_requests.proofs.Written.{front_two, told_through}

-- ---- it begins

pub begins : {K : Type 0} (g : Ghosts K) (a : App) (m : ℕ) (before s : SessionState) (c : CacheState) (k i : K) (ws : List Source) (lost : Type 0) → CanBegin g a m before s c k ws →
    MayFallSilent lost Stays (g.told k) (g.told i) → g.shaped i ≡ steady (g.shaped k) → g.in_transaction i ≡ true → g.began i ≡ g.told i → IsUnderWay g a m before s c i ws
begins g a m before s c k i ws lost h same shaped begun began = record {
  fits = h.fits;
  shaped = shaped ∙ ap steady h.shaped;
  rows = sound_stays lost a.names.schema (g.told k) (g.told i) same h.rows;
  begun = begun;
  cached = cached_stays a s lost (g.told k) (g.told i) m c same h.cached;
  but = h.but;
  later = later_first ws (g.began i) (g.told i) began;
  sources = h.sources;
}

-- ---- it goes on

-- where nothing was done
pub goes_on_here : {K : Type 0} (g : Ghosts K) (a : App) (c : CacheState) (k : K) (ws : List Source) → GoesOn g a c c k k ws ws
goes_on_here g a c k ws = record {
  prefix = take-length ws;
  began = stays _ (g.began k);
  loan = refl;
  visited = omega arith;
  clean = λ start left. left;
}

-- one part after another
pub goes_on_then : {K : Type 0} (g : Ghosts K) (a : App) (c d e : CacheState) (i j k : K) (us vs ws : List Source) → IsLater (g.marks i) (g.marks j) → IsLater (g.marks j) (g.marks k) →
    GoesOn g a c d i j us vs → GoesOn g a d e j k vs ws → GoesOn g a c e i k us ws
goes_on_then g a c d e i j k us vs ws before later h l = record {
  prefix = front_two us vs ws h.prefix l.prefix;
  began = goes_two Stays Stays Stays (λ x y z p q. q ∙ p) (g.marks i) (g.marks j) (g.marks k) before later (g.began i) (g.began j) (g.began k) h.began l.began;
  loan = l.loan ∙ h.loan;
  visited = omega (arith, h.visited, l.visited);
  clean = λ start left. l.clean start (h.clean start left);
}

-- ---- of a session that has changed in nothing that formulas read

still_under_way : {K : Type 0} (g : Ghosts K) (a : App) (m : ℕ) (before s r : SessionState) (c : CacheState) (k : K) (ws : List Source) → IsSoundApp a → FitsNames a.names r → ((us : List Source) → SameSessionExcept a.names us s r) →
    IsUnderWay g a m before s c k ws → IsUnderWay g a m before r c k ws
still_under_way g a m before s r c k ws sound fits but h = record {
  fits = fits;
  shaped = h.shaped;
  rows = h.rows;
  begun = h.begun;
  cached = cached_as a s r (g.told k) m c sound (but []) h.cached;
  but = but_then a.names ws before s r h.but (but ws);
  later = h.later;
  sources = h.sources;
}

pub arrived_under_way : {K : Type 0} (g : Ghosts K) (a : App) (m : ℕ) (before s r : SessionState) (c : CacheState) (k : K) (ws : List Source) → IsSoundApp a → r ≡ arrived s →
    IsUnderWay g a m before s c k ws → IsUnderWay g a m before r c k ws
arrived_under_way g a m before s r c k ws sound e h =
    still_under_way g a m before s r c k ws sound (fits_arrived a.names s r e h.fits) (λ us. arrived_but a.names us s r e) h

pub begun_under_way : {K : Type 0} (g : Ghosts K) (a : App) (m : ℕ) (before s q r : SessionState) (c : CacheState) (k : K) (ws : List Source) → IsSoundApp a → q ≡ quiet s → r ≡ arrived q →
    IsUnderWay g a m before s c k ws → IsUnderWay g a m before r c k ws
begun_under_way g a m before s q r c k ws sound e d h =
    still_under_way g a m before s r c k ws sound (fits_begun a.names s q r e d h.fits) (λ us. begun_but a.names us s q r e d) h

-- ---- it can be taken back

pub can_go_back : {K : Type 0} (g : Ghosts K) (a : App) (m : ℕ) (before s : SessionState) (c : CacheState) (k : K) (ws : List Source) → IsSoundApp a → (g.told k ≡ None → g.began k ≡ None) →
    IsUnderWay g a m before s c k ws → CanGoBack g a m before c k ws
can_go_back g a m before s c k ws sound silent h = record {
  shaped = h.shaped;
  rows = h.rows;
  begun = h.begun;
  pending = pending_undone a ws before s (g.began k) (g.told k) m c sound h.but h.later silent h.cached;
  later = h.later;
  sources = h.sources;
}

-- ---- what a performing leaves

-- what its world knows of an app, a moment and a session that are those with which it was made
pub left_under_way : {K : Type 0} (g : Ghosts K) (a b : App) (m n : ℕ) (before found s : SessionState) (c : CacheState) (k : K) (ws : List Source) → b ≡ a → n ≡ m → found ≡ before → FitsNames b.names s →
    g.shaped k ≡ by b.names.schema → AreSound b.names.schema (g.told k) → g.in_transaction k ≡ true → IsInOrder b c → ∥ IsRightOver b s (g.told k) n c ∥₁ → ∥ IsToday n c.values.day ∥₁ →
    SameSessionExcept b.names ws found s → AreSources b.names ws → AreLater ws (g.began k) (g.told k) → IsUnderWay g a m before s c k ws
left_under_way g a b m n before found s c k ws app moment first fits shaped rows begun order right day but sources later = record {
  fits = subst (λ (z : App). FitsNames z.names s) app fits;
  shaped = subst (λ (z : App). g.shaped k ≡ by z.names.schema) app shaped;
  rows = subst (λ (z : App). AreSound z.names.schema (g.told k)) app rows;
  begun = begun;
  cached = cached_from a b s (g.told k) m n c app moment order right day;
  but = subst (λ (z : SessionState). SameSessionExcept a.names ws z s) first (subst (λ (z : App). SameSessionExcept z.names ws found s) app but);
  later = later;
  sources = subst (λ (z : App). AreSources z.names ws) app sources;
}

-- clean cells are left so from any start on, where they are from what was kept as it began
pub leaves_but : (a : App) (us ws : List Source) (c d : CacheState) → take (length us) ws ≡ us → StaysCleanExcept a ws c d → GoesOnClean a us c ws d
leaves_but a us ws c d prefix left = λ start first. left_then a ws start c d (left_wider a us ws start c (among_before us ws prefix) first) left

pub carried_four : {A B C D : Type 0} (P : A → B → C → D → Type 0) (a : A) (b : B) (c : C) (d : D) (x : A) (y : B) (z : C) (w : D) → x ≡ a → y ≡ b → z ≡ c → w ≡ d → P a b c d → P x y z w
carried_four P a b c d x y z w e f h i p =
    subst (λ u. P u y z w) (sym e) (subst (λ u. P a u z w) (sym f) (subst (λ u. P a b u w) (sym h) (subst (λ u. P a b c u) (sym i) p)))

-- ---- it ends

-- it did not begin
pub not_begun : {K : Type 0} (g : Ghosts K) (a : App) (m : ℕ) (before s : SessionState) (c : CacheState) (k i : K) (ws : List Source) → CanBegin g a m before s c k ws → Becomes g k i Stays → g.shaped i ≡ g.shaped k →
    g.in_transaction i ≡ false → g.loan i ≡ g.loan k → HasEnded g a c c k i ws ws
not_begun g a m before s c k i ws h same shaped idle loan = record {
  shaped = shaped ∙ h.shaped;
  rows = sound_stays (SilenceCause (g.marks k) (g.marks i)) a.names.schema (g.told k) (g.told i) same h.rows;
  idle = idle;
  tables = tables_same ws (SilenceCause (g.marks k) (g.marks i)) (g.told k) (g.told i) same;
  sources = h.sources;
  prefix = take-length ws;
  loan = loan;
  clean = λ start left. left;
}

-- three calls, of which the first begins it and the last ends it
module _ {K : Type 0} (g : Ghosts K) (a : App) (m : ℕ) (before : SessionState) (c d : CacheState) (x i j k : K) (us ws : List Source) where
  -- the tables are as they were
  pub told_back : IsLater (g.marks x) (g.marks i) → IsLater (g.marks i) (g.marks j) → IsLater (g.marks j) (g.marks k) → Becomes g x i Stays → g.began i ≡ g.told i → GoesOn g a c d i j us ws →
      MayFallSilent (SilenceCause (g.marks j) (g.marks k)) Stays (g.began j) (g.told k) → Becomes g x k Stays
  told_back first second third begins began goes back =
      told_through (g.marks x) (g.marks i) (g.marks j) (g.marks k) Stays (g.told x) (g.told i) (g.began j) (g.told k) first second third begins
      (subst (λ (z : Option Tables). MayFallSilent (SilenceCause (g.marks i) (g.marks j)) Stays z (g.began j)) began goes.began) back

  pub taken_back : AreSound a.names.schema (g.told x) → GoesOn g a c d i j us ws → CanGoBack g a m before d j ws → Becomes g x k Stays → g.shaped k ≡ g.shaped j → g.in_transaction k ≡ false →
      g.loan k ≡ g.loan j → g.loan i ≡ g.loan x → HasEnded g a c d x k us ws
  taken_back rows goes h same shaped idle loan lent = record {
    shaped = shaped ∙ h.shaped;
    rows = sound_stays (SilenceCause (g.marks x) (g.marks k)) a.names.schema (g.told x) (g.told k) same rows;
    idle = idle;
    tables = tables_same ws (SilenceCause (g.marks x) (g.marks k)) (g.told x) (g.told k) same;
    sources = h.sources;
    prefix = goes.prefix;
    loan = loan ∙ goes.loan ∙ lent;
    clean = goes.clean;
  }

  pub kept : (P : Tables → Tables → Type 0) → IsLater (g.marks x) (g.marks i) → IsLater (g.marks i) (g.marks j) → IsLater (g.marks j) (g.marks k) → Becomes g x i Stays → g.began i ≡ g.told i → GoesOn g a c d i j us ws →
      CanGoBack g a m before d j ws → Becomes g i j P → Becomes g j k Stays → (IsSome (g.told j) → IsSome (g.began j)) → g.shaped k ≡ g.shaped j → g.in_transaction k ≡ false → g.loan k ≡ g.loan j → g.loan i ≡ g.loan x →
      HasEnded g a c d x k us ws
  kept P first second third begins began goes h acts ends heard shaped idle loan lent = record {
    shaped = shaped ∙ h.shaped;
    rows = sound_stays (SilenceCause (g.marks j) (g.marks k)) a.names.schema (g.told j) (g.told k) ends h.rows;
    idle = idle;
    tables = tables_through ws (g.marks x) (g.marks i) (g.marks j) (g.marks k) P (g.told x) (g.told i) (g.told j) (g.told k) (g.began j) first second third begins acts ends
        (subst (λ (z : Option Tables). MayFallSilent (SilenceCause (g.marks i) (g.marks j)) Stays z (g.began j)) began goes.began) heard h.later;
    sources = h.sources;
    prefix = goes.prefix;
    loan = loan ∙ goes.loan ∙ lent;
    clean = goes.clean;
  }

  -- what was accepted in it is so from the first call to the last
  pub accepted_through : (trigger : Trigger) (item : Option Data) (seq : ℕ) (s : SessionState) (vs : List Source) (r : Accepted) → IsLater (g.marks x) (g.marks i) → IsLater (g.marks i) (g.marks j) → IsLater (g.marks j) (g.marks k) →
      Becomes g x i Stays → IsAccepted g a m trigger item seq s d i j vs r → Becomes g j k Stays → IsAccepted g a m trigger item seq s d x k vs r
  accepted_through trigger item seq s vs r first second third begins h ends = record {
    accepts = record {
      value = h.accepts.value;
      end = h.accepts.end;
      runs = told_through (g.marks x) (g.marks i) (g.marks j) (g.marks k) (λ (t u : Tables). Runs a m trigger item (scene t (begun s)) h.accepts.value (scene u h.accepts.end)) (g.told x) (g.told i) (g.told j) (g.told k) first second third begins h.accepts.runs ends;
      said_is = h.accepts.said_is;
      left = h.accepts.left;
      fits = h.accepts.fits;
    };
    wrote = (
      h.wrote.0,
      h.wrote.1,
      told_through (g.marks x) (g.marks i) (g.marks j) (g.marks k) (λ (t u : Tables). RunsWriting a m trigger item (scene t (begun s)) h.wrote.0 (scene u h.wrote.1) vs) (g.told x) (g.told i) (g.told j) (g.told k) first second third begins h.wrote.2 ends,
    );
    kept = h.kept;
    whole = h.whole;
    cached = cached_stays a r.session (SilenceCause (g.marks j) (g.marks k)) (g.told j) (g.told k) m d ends h.cached;
  }

-- the cache was told of what was written
pub ended_touched : {K : Type 0} (g : Ghosts K) (a : App) (c d e : CacheState) (i k : K) (us ws : List Source) → HasEnded g a c d i k us ws → StaysCleanExcept a ws d e → HasEnded g a c e i k us ws
ended_touched g a c d e i k us ws h left = record {
  shaped = h.shaped;
  rows = h.rows;
  idle = h.idle;
  tables = h.tables;
  sources = h.sources;
  prefix = h.prefix;
  loan = h.loan;
  clean = λ start first. left_then a ws start d e (h.clean start first) left;
}
