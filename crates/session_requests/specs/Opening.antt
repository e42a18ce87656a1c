-- Sessions that are opened.
use Rattle.std.specs.Prelude.{◌≡◌, ◌<◌, ℕ, List, length, Option}
use Rattle.fx_base.specs.Silence.{MayFallSilent}
use Rattle.fx_core.specs.declared.names.Names.{Names}
use Rattle.fx_core.specs.declared.sources.Source.{Source}
use Rattle.recalc.specs.app_cells.declared.app.App.{App}
use Rattle.row_keeper.specs.Tables.{Tables}
use Rattle.session_state.specs.Changes.{FitsNames, HoldsTables}
use Rattle.session_state.specs.Sessions.{SessionState, opened}
use Rattle.session_requests.specs.Running.{Opens, OpensWriting}
use Rattle.session_requests.specs.Scenes.{quiet, scene, unasked}

-- a session can be opened: there is a screen, and an empty table fits each collection
pub record CanOpen (n : Names) : Type 0 where
  pub screen : 0 < length n.screens
  pub tables : HoldsTables n

-- A SESSION THAT IS OPENED, in one transaction: what is notified meanwhile is told to nobody, and
-- nothing was asked of it yet.
pub record OpensNew (lost : Type 0) (a : App) (m : ℕ) (told told' : Option Tables)
    (r : SessionState) : Type 0 where
  pub end : SessionState
  pub opens : MayFallSilent lost (λ (t u : Tables). Opens a m (scene t (opened a.names))
      (scene u end)) told told'
  pub left : r ≡ unasked (quiet end)
  pub fits : FitsNames a.names r

-- which sources it writes
abbrev pub OpensNewWriting : Type 0 → App → ℕ → Option Tables → Option Tables → SessionState
    → List Source → Type 0
OpensNewWriting lost a m told told' r ws = (h : OpensNew lost a m told told' r)
    × MayFallSilent lost (λ (t u : Tables). OpensWriting a m (scene t (opened a.names))
    (scene u h.end) ws) told told'
