-- What is true of an office between two requests.
use Rattle.std.specs.Prelude.{◌≡◌, ℕ, Bool, false, List, Option}
use Rattle.app_cells.specs.declared.app.App.{App}
use Rattle.app_loader.specs.Edits.{IsLoaded}
use Rattle.app_loader.specs.app_semantics.Sound.{IsSoundApp}
use Rattle.session_views.specs.Shows.{LiveSessionsFit}
use Rattle.recalc.specs.Kept.{CacheState as Values}
use Rattle.row_keeper.specs.Shaped.{Shaped, by}
use Rattle.row_keeper.specs.Tables.{Tables}
use Rattle.session_requests.specs.Opening.{CanOpen}
use Rattle.session_state.specs.Once.{LastRequest}
use Rattle.session_state.specs.Sessions.{SessionState}
use Rattle.numbered_requests.specs.Checked.{SessionsKeepReplies}
use Rattle.numbered_requests.specs.Replies.{KeepReplies}
use Rattle.row_requests.specs.Sound.{AreSound}
use Rattle.numbered_requests.specs.declared.directory.Named.{Named}
use Rattle.office.specs.Caches.{AreKept}
use Rattle.office.specs.State.{OfficeState, schema_of}

-- an office between two requests serves an accepted app, of which sessions can be opened, and which
-- its sessions fit
pub record IsSettledOffice (s : OfficeState) : Type 0 where
  pub app : IsSoundApp s.app
  pub opens : CanOpen s.app.names
  pub fit : LiveSessionsFit s.app.names s.sessions

-- No transaction is begun, the keeper is shaped by the app's schema, its tables, where they are
-- told, are those of the schema, what is kept of desks are replies, the app is an accepted one that
-- can be edited, its sessions fit it, and each has its cache, which is right on the day of the last
-- request that had a route.
pub record OfficeInvariant (app : App) (in_transaction : Bool) (shape : Shaped)
    (told : Option Tables) (sessions : List (Named SessionState)) (desks : List (Named LastRequest))
    (caches : List (Named Values)) (moment : ℕ) : Type 0 where
  pub idle : in_transaction ≡ false
  pub shaped : shape ≡ by (schema_of app)
  pub sound : AreSound (schema_of app) told
  pub kept : KeepReplies desks
  pub accepted : IsSoundApp app
  pub loaded : IsLoaded app
  pub opens : CanOpen app.names
  pub fit : LiveSessionsFit app.names sessions
  pub replies : SessionsKeepReplies sessions
  pub cached : AreKept app told moment sessions caches
