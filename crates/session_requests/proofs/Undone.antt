-- What stands of a session's cache where the session or the tables have changed, and where they are as they were.
use Rattle.std.proofs.Common.{◌≡◌, ℕ, suc, ◌+◌, ◌<◌, List, [], ◌∷◌, drop, get_or, length, arith, Option, Some, None, refl, sym, subst, ap, ◌∙◌, inl, inr}
use Rattle.std.proofs.Math.Logic.{∥∥₁_map}
use Rattle.std.proofs.Math.Seq.{drop-cons}
use Rattle.std.specs.Option.{option_to_list}
use Rattle.std.specs.Prelude.{IsSome}
use Rattle.fx_base.proofs.Silences.{goes_two, later_then}
use Rattle.fx_base.specs.Silence.{MayFallSilent, IsLater, SilenceCause, Marks}
use Rattle.fx_base.specs.Telling.{Stays}
use Rattle.fx_scalar.specs.ScalarFunctions.{IsToday}
use Rattle.fx_core.specs.Reads.{IsAmong}
use Rattle.fx_core.specs.declared.names.Names.{Names}
use Rattle.fx_core.specs.declared.sources.Source.{Source}
use Rattle.recalc.specs.Asking.{IsHeardOf, ToldRows}
use Rattle.recalc.specs.app_cells.declared.app.App.{App}
use Rattle.recalc.specs.app_semantics.Present.{present}
use Rattle.recalc.specs.app_semantics.Sound.{IsSoundApp}
use Rattle.recalc.proofs.Agreeing.{changed}
use Rattle.recalc.proofs.Leaving.{left_same, left_then, left_wider}
use Rattle.recalc.specs.Changes.{StaysCleanExcept, IsTouched}
use Rattle.recalc.specs.Kept.{IsInOrder, IsRight, CacheState}
use Rattle.row_keeper.specs.Tables.{Tables, rows_of_tables, state_at}
use Rattle.row_queries.specs.declared.rows.Row.{Row}
use Rattle.row_requests.specs.Written.{SameTablesExcept}
use Rattle.session_state.specs.Sessions.{SessionState}
use Rattle.session_requests.specs.Caching.{AreLater, SameSessionExcept, AreSources, AreTouched, IsCached, IsPending, IsTouchedIf}
use Rattle.session_requests.proofs.Caches.{heard_back, plain_of, right_stays, sessions_give, tables_give}

-- ---- sessions that agree but in sources

pub but_back : (n : Names) (ws : List Source) (s r : SessionState) → SameSessionExcept n ws s r → SameSessionExcept n ws r s
but_back n ws s r h = record {
  held = λ x t typed far. sym (h.held x t typed far);
  chosen = λ k far. sym (h.chosen k far);
}

pub but_then : (n : Names) (ws : List Source) (s r q : SessionState) → SameSessionExcept n ws s r → SameSessionExcept n ws r q → SameSessionExcept n ws s q
but_then n ws s r q h k = record {
  held = λ x t typed far. k.held x t typed far ∙ h.held x t typed far;
  chosen = λ j far. k.chosen j far ∙ h.chosen j far;
}

-- ---- caches

-- what stands is still to be told of what was written
pub cached_pending : (a : App) (ws : List Source) (s r : SessionState) (told : Option Tables) (m : ℕ) (c : CacheState) → IsSoundApp a → SameSessionExcept a.names ws s r → IsCached a s told m c → IsPending a r told m ws c
cached_pending a ws s r told m c sound but h = record {
  order = h.order;
  right = ∥∥₁_map h.right (λ right tables heard. changed a s r tables tables m m [] ws c sound (λ x l. absurd l) (sessions_give a s r tables m ws but) (right tables heard));
  day = h.day;
}

-- where nothing was written that is held, it stands
pub pending_none : (a : App) (s : SessionState) (told : Option Tables) (m : ℕ) (c : CacheState) → IsPending a s told m [] c → IsCached a s told m c
pending_none a s told m c h = record { order = h.order; right = h.right; day = h.day }

pub cached_as : (a : App) (s r : SessionState) (told : Option Tables) (m : ℕ) (c : CacheState) → IsSoundApp a → SameSessionExcept a.names [] s r → IsCached a s told m c → IsCached a r told m c
cached_as a s r told m c sound but h = pending_none a r told m c (cached_pending a [] s r told m c sound but h)

-- sources that were touched have been told
pub pending_touched : (a : App) (ws : List Source) (s : SessionState) (told : Option Tables) (m : ℕ) (old new : CacheState) → AreTouched a ws old new → IsPending a s told m ws old → IsCached a s told m new
pending_touched a ws s told m old new touched h = record {
  order = touched.order h.order;
  right = ∥∥₁_map h.right (λ right tables heard. touched.right s tables m (right tables heard));
  day = subst (λ d. IsToday m d) (sym touched.day) h.day;
}

-- where the tables stay
pub cached_stays : (a : App) (s : SessionState) (lost : Type 0) (x y : Option Tables) (m : ℕ) (c : CacheState) → MayFallSilent lost Stays x y → IsCached a s x m c → IsCached a s y m c
cached_stays a s lost x y m c stays h = record { order = h.order; right = right_stays lost a s m c x y stays h.right; day = h.day }

pub pending_stays : (a : App) (s : SessionState) (lost : Type 0) (x y : Option Tables) (m : ℕ) (ws : List Source) (c : CacheState) → MayFallSilent lost Stays x y → IsPending a s x m ws c → IsPending a s y m ws c
pending_stays a s lost x y m ws c stays h = record {
  order = h.order;
  right = ∥∥₁_map h.right (λ right tables heard. right tables (heard_back lost x y tables stays heard));
  day = h.day;
}

-- ---- an undo

-- rows are told now, and what was heard as the transaction began is them but for what was written
pub right_before : (a : App) (s : SessionState) (ws : List Source) (began told : Option Tables) (m : ℕ) (c : CacheState) → IsSoundApp a → AreLater ws began told → (told ≡ None → began ≡ None) →
    ((tables : ToldRows) → IsHeardOf told tables → IsRight (present a s tables m) ws c) → (tables : ToldRows) → IsHeardOf began tables → IsRight (present a s tables m) ws c
right_before a s ws began told m c sound later quiet right None heard = right None tt
right_before a s ws None told m c sound later quiet right (Some rows) heard = absurd cc
right_before a s ws (Some t) None m c sound later quiet right (Some rows) heard = let no : Some t ≡ None = quiet refl in absurd cc
right_before a s ws (Some t) (Some u) m c sound later quiet right (Some rows) heard =
    let same : rows_of_tables t.states ≡ rows = cc in
    subst (λ (z : List (List Row)). IsRight (present a s (Some z) m) ws c) same
    (changed a s s (Some (rows_of_tables u.states)) (Some (rows_of_tables t.states)) m m ws ws c sound (λ x l. l) (tables_give a s u t m ws (λ k far. sym (later t u refl refl k far))) (right (Some (rows_of_tables u.states)) refl))

-- AN UNDO: of the session as it was and of the tables with which the transaction began, what stands is still to be told of all that
-- was written
pub pending_undone : (a : App) (ws : List Source) (before s : SessionState) (began told : Option Tables) (m : ℕ) (c : CacheState) → IsSoundApp a → SameSessionExcept a.names ws before s → AreLater ws began told → (told ≡ None → began ≡ None) →
    IsCached a s told m c → IsPending a before began m ws c
pending_undone a ws before s began told m c sound but later quiet h =
    let back = cached_pending a ws s before told m c sound (but_back a.names ws before s but) h in
    record {
      order = h.order;
      right = ∥∥₁_map back.right (λ right. right_before a before ws began told m c sound later quiet right);
      day = h.day;
    }

-- ---- sources that are touched one after another

-- so many of them are still to be touched
pub record AreTouchedTo (a : App) (ws rest : List Source) (old new : CacheState) : Type 0 where
  pub order : IsInOrder a old → IsInOrder a new
  pub right : (s : SessionState) (tables : ToldRows) (m : ℕ) → IsRight (present a s tables m) ws old → IsRight (present a s tables m) rest new
  pub within : (x : Source) → IsAmong x rest → IsAmong x ws
  pub but : StaysCleanExcept a ws old new
  pub day : new.values.day ≡ old.values.day

pub touched_first : (a : App) (ws : List Source) (c : CacheState) → AreTouchedTo a ws ws c c
touched_first a ws c = record { order = λ o. o; right = λ s tables m r. r; within = λ x l. l; but = left_same a ws c; day = refl }

pub touched_more : (a : App) (ws rest : List Source) (x : Source) (old mid new : CacheState) → IsTouched a x mid new → AreTouchedTo a ws (x ∷ rest) old mid → AreTouchedTo a ws rest old new
touched_more a ws rest x old mid new t h = record {
  order = λ o. t.order (h.order o);
  right = λ s tables m r. t.right s tables m rest (h.right s tables m r);
  within = λ y l. h.within y (inr l);
  but = left_then a ws old mid new h.but (left_wider a (x ∷ []) ws mid new (one_of (h.within x (inl refl))) t.but);
  day = t.day ∙ h.day;
}
  where
    one_of : IsAmong x ws → (y : Source) → IsAmong y (x ∷ []) → IsAmong y ws
    one_of there y (inl e) = subst (λ (z : Source). IsAmong z ws) e there
    one_of there y (inr none) = absurd none

pub touched_step : (a : App) (ws : List Source) (i : ℕ) (d : Source) (old mid new : CacheState) → i < length ws → IsTouched a (get_or ws i d) mid new → AreTouchedTo a ws (drop i ws) old mid → AreTouchedTo a ws (drop (i + 1) ws) old new
touched_step a ws i d old mid new low t h =
    let one : suc i ≡ i + 1 = omega arith in
    let first : drop i ws ≡ get_or ws i d ∷ drop (i + 1) ws = subst (λ (k : ℕ). drop i ws ≡ get_or ws i d ∷ drop k ws) one (drop-cons ws i d low) in
    touched_more a ws (drop (i + 1) ws) (get_or ws i d) old mid new t (subst (λ (rest : List Source). AreTouchedTo a ws rest old mid) first h)

pub touched_all : (a : App) (ws rest : List Source) (old new : CacheState) → rest ≡ [] → AreTouchedTo a ws rest old new → AreTouched a ws old new
touched_all a ws rest old new e h = record {
  order = h.order;
  right = λ s tables m r. subst (λ (l : List Source). IsRight (present a s tables m) l new) e (h.right s tables m r);
  but = h.but;
  day = h.day;
}

-- one source, or none
pub touched_if : (a : App) (o : Option Source) (old new : CacheState) → AreSources a.names (option_to_list o) → IsTouchedIf a o old new → AreTouched a (option_to_list o) old new
touched_if a None old new own h = subst (AreTouched a [] old) (sym h) (record { order = λ o. o; right = λ s tables m r. r; but = left_same a [] old; day = refl })
touched_if a (Some x) old new own h = touched_all a (x ∷ []) [] old new refl (touched_more a (x ∷ []) [] x old old new (h (plain_of a.names x (own x (inl refl)))) (touched_first a (x ∷ []) old))

-- ---- tables that were written

pub tables_same : (ws : List Source) (lost : Type 0) (x y : Option Tables) → MayFallSilent lost Stays x y → MayFallSilent lost (SameTablesExcept ws) x y
tables_same ws lost None y h = h
tables_same ws lost (Some t) None h = h
tables_same ws lost (Some t) (Some u) h = λ k far. ap (λ (z : Tables). state_at z.states k) h

-- a transaction began with the tables that were told before, and ends with those that are told now
pub tables_written : (ws : List Source) (lost first last : Type 0) (P : Tables → Tables → Type 0) (x began told y : Option Tables) → (began ≡ None → told ≡ None) → MayFallSilent lost P x y → MayFallSilent first Stays x began → MayFallSilent last Stays told y → AreLater ws began told →
    MayFallSilent lost (SameTablesExcept ws) x y
tables_written ws lost first last P None began told y heard h b e later = h
tables_written ws lost first last P (Some t) began told None heard h b e later = h
tables_written ws lost first last P (Some t) began None (Some u) heard h b e later = absurd cc
tables_written ws lost first last P (Some t) None (Some q) (Some u) heard h b e later = let no : Some q ≡ None = heard refl in absurd cc
tables_written ws lost first last P (Some t) (Some p) (Some q) (Some u) heard h b e later =
    subst (λ (z : Tables). SameTablesExcept ws t z) (sym e) (subst (λ (z : Tables). SameTablesExcept ws z q) b (later p q refl refl))

-- ---- what a transaction leaves

-- as the transaction began, the tables were told where they are told now
pub heard_none : (told began : Option Tables) → (IsSome told → IsSome began) → began ≡ None → told ≡ None
heard_none None began heard e = refl
heard_none (Some t) began heard e = let no = subst (λ (z : Option Tables). IsSome z) e (heard refl) in absurd cc

abbrev any : Tables → Tables → Type 0
any t u = Unit {0}

-- three calls that tell tables, one after another
pub tables_through : (ws : List Source) (k l m n : Marks) (P : Tables → Tables → Type 0) (x b t y began : Option Tables) → IsLater k l → IsLater l m → IsLater m n → MayFallSilent (SilenceCause k l) Stays x b → MayFallSilent (SilenceCause l m) P b t → MayFallSilent (SilenceCause m n) Stays t y →
    MayFallSilent (SilenceCause l m) Stays b began → (IsSome t → IsSome began) → AreLater ws began t → MayFallSilent (SilenceCause k n) (SameTablesExcept ws) x y
tables_through ws k l m n P x b t y began first second third begins acts ends stays heard later =
    tables_written ws (SilenceCause k n) (SilenceCause k m) (SilenceCause m n) any x began t y (heard_none t began heard)
    (goes_two any Stays any (λ x y z p q. tt) k m n (later_then k l m first second) third x t y (goes_two Stays P any (λ x y z p q. tt) k l m first second x b t begins acts) ends)
    (goes_two Stays Stays Stays (λ x y z p q. q ∙ p) k l m first second x b began begins stays) ends later
