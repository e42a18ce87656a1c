-- An edited app takes the place of the one that was served.
use Rattle.std.proofs.Common.{◌≡◌, ℕ, ◌<◌, Bool, List, [], ◌∷◌, length, map, Option, Some, refl, ap, sym, ◌∙◌, subst}
use Rattle.fx_types.specs.declared.controls.Control.{Control}
use Rattle.fx_core.specs.declared.names.ControlName.{ControlName}
use Rattle.fx_core.specs.declared.names.Names.{Names}
use Rattle.fx_core.specs.declared.schema.Schema.{Schema}
use Rattle.recalc.specs.Kept.{CacheState as Values}
use Rattle.row_keeper.specs.Shaped.{Shaped, by}
use Rattle.row_keeper.specs.Tables.{Tables}
use Rattle.row_requests.specs.Sound.{AreSound}
use Rattle.session_state.proofs.Carried.{fits_carried}
use Rattle.session_state.specs.Carrying.{AreAlike}
use Rattle.session_state.specs.Changes.{HoldsTables}
use Rattle.session_state.specs.Once.{LastRequest}
use Rattle.session_state.specs.Sessions.{SessionState}
use Rattle.app_cells.specs.declared.app.App.{App}
use Rattle.app_cells.specs.declared.frame.Frame.{Frame}
use Rattle.app_loader.specs.Edits.{IsLoaded}
use Rattle.app_loader.specs.app_texts.Frames.{app_frame, without_items}
use Rattle.numbered_requests.specs.Checked.{SessionsKeepReplies}
use Rattle.numbered_requests.specs.Replies.{KeepReplies}
use Rattle.numbered_requests.specs.declared.directory.Named.{Named}
use Rattle.office.specs.Caches.{AreKept}
use Rattle.office.specs.DeskEdits.{all_carried}
use Rattle.office.specs.Editing.{KeepsApp}
use Rattle.session_views.specs.Shows.{LiveSessionsFit}
use Rattle.office.specs.Ready.{OfficeInvariant}
use Rattle.office.specs.State.{schema_of}
use Rattle.session_requests.specs.Opening.{CanOpen}

-- sessions of it can be opened, since it has the same screens
pub can_open : (a b : App) → CanOpen a.names → KeepsApp a b → CanOpen b.names
can_open a b opens keeps = record {
  screen = subst (λ (ss : List (List ℕ)). 0 < length ss) (sym (ap (λ (f : Frame). f.screens) keeps.frame)) opens.screen;
  tables = keeps.tables;
}

-- it has the same screens, and controls of the same kinds
kinds_of : (cs : List ControlName) → map (λ (c : ControlName). c.kind) (map without_items cs) ≡ map (λ (c : ControlName). c.kind) cs
kinds_of [] = refl
kinds_of (c ∷ cs) = ap (λ (ks : List Control). c.kind ∷ ks) (kinds_of cs)

pub alike : (a b : App) → app_frame b ≡ app_frame a → AreAlike a.names b.names
alike a b e = record {
  screens = ap (λ (f : Frame). length f.screens) (sym e);
  controls = sym (kinds_of a.names.controls) ∙ ap (λ (f : Frame). map (λ (c : ControlName). c.kind) f.controls) (sym e) ∙ kinds_of b.names.controls;
}

-- the sessions fit it once they are carried
pub carried_fit : (n m : Names) (xs : List (Named SessionState)) → AreAlike n m → HoldsTables m → LiveSessionsFit n xs → LiveSessionsFit m (all_carried n m xs)
carried_fit n m [] alike tables fit = tt
carried_fit n m (x ∷ xs) alike tables fit = (fits_carried n m x.it alike tables fit.0, carried_fit n m xs alike tables fit.1)

-- and what is kept of their requests stays
pub carried_keep : (n m : Names) (xs : List (Named SessionState)) → SessionsKeepReplies xs → SessionsKeepReplies (all_carried n m xs)
carried_keep n m [] keep = tt
carried_keep n m (x ∷ xs) keep = (keep.0, carried_keep n m xs keep.1)

-- what was ready is so with an edited app, beside which the keeper stays as it is
pub ready_edited : (a b : App) (in_transaction : Bool) (shape : Shaped) (told : Option Tables) (ss rs : List (Named SessionState)) (ds es : List (Named LastRequest)) (cs later : List (Named Values)) (m : ℕ)
    → OfficeInvariant a in_transaction shape told ss ds cs m → KeepsApp a b → IsLoaded b → LiveSessionsFit b.names rs → KeepReplies es → SessionsKeepReplies rs → AreKept b told m rs later
    → OfficeInvariant b in_transaction shape told rs es later m
ready_edited a b in_transaction shape told ss rs ds es cs later m ready keeps loaded fit kept replies cached =
    let same : schema_of b ≡ schema_of a = ap (λ (f : Frame). f.schema) keeps.frame in
    record {
      idle = ready.idle;
      shaped = ready.shaped ∙ ap (λ (s : Schema). by s) (sym same);
      sound = subst (λ (s : Schema). AreSound s told) (sym same) ready.sound;
      kept = kept;
      accepted = keeps.sound;
      loaded = loaded;
      opens = can_open a b ready.opens keeps;
      fit = fit;
      replies = replies;
      cached = cached;
    }
