-- What an accepted event or input makes of its session and of tables, in one transaction.
use Rattle.std.specs.Prelude.{◌≡◌, ℕ, List, Option}
use Rattle.app_wire.specs.ReplyBytes.{reply}
use Rattle.fx_base.specs.Silence.{MayFallSilent}
use Rattle.fx_types.specs.Values.{Data}
use Rattle.recalc.specs.app_cells.declared.app.App.{App}
use Rattle.row_keeper.specs.Tables.{Tables}
use Rattle.session_state.specs.Changes.{FitsNames}
use Rattle.session_state.specs.Sessions.{SessionState}
use Rattle.fx_core.specs.declared.sources.Source.{Source}
use Rattle.session_requests.specs.Running.{Runs, RunsWriting}
use Rattle.session_requests.specs.Scenes.{begun, quiet, scene}
use Rattle.session_requests.specs.declared.trigger.Trigger.{Trigger}
use Rattle.view_text.specs.ViewText.{event_text}

-- the reply to an accepted event or input: what was notified, its number, and the value where it is
-- a scalar or an error
abbrev pub accepted_reply : ℕ → Data → SessionState → List ℕ
accepted_reply seq value s = reply 200 (event_text s.notices seq value)

-- AN ACCEPTED EVENT OR INPUT: what is given or chosen stands in the session already. The formula of
-- its trigger acts, what was notified is told in the reply, and none of it is left. What it makes
-- of tables is said where they are told, and `lost` is why they may not be told any more.
pub record Accepts (lost : Type 0) (a : App) (m : ℕ) (trigger : Trigger) (item : Option Data)
    (seq : ℕ) (s : SessionState) (told : Option Tables) (said : List ℕ) (told' : Option Tables)
    (r : SessionState) : Type 0 where
  pub value : Data
  pub end : SessionState
  pub runs : MayFallSilent lost (λ (t u : Tables). Runs a m trigger item (scene t (begun s)) value
      (scene u end)) told told'
  pub said_is : said ≡ accepted_reply seq value end
  pub left : r ≡ quiet end
  pub fits : FitsNames a.names r

-- what it writes, besides what is given or chosen
abbrev pub AcceptsWriting : Type 0 → App → ℕ → Trigger → Option Data → SessionState → Option Tables
    → Option Tables → List Source → Type 0
AcceptsWriting lost a m trigger item s told told' ws
    = (value : Data) × (end : SessionState) × MayFallSilent lost
    (λ (t u : Tables). RunsWriting a m trigger item (scene t (begun s)) value (scene u end) ws) told
    told'
