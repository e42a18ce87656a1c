-- The office between two requests.
use Rattle.std.specs.Prelude.{ℕ, List, [], Option}
use Rattle.fx_base.specs.Silence.{Marks}
use Rattle.fx_core.specs.declared.schema.Schema.{Schema}
use Rattle.recalc.specs.Kept.{CacheState as Values}
use Rattle.row_keeper.specs.Tables.{Tables}
use Rattle.session_state.specs.Once.{LastRequest}
use Rattle.session_state.specs.Sessions.{SessionState}
use Rattle.app_cells.specs.declared.app.App.{App}
use Rattle.numbered_requests.specs.declared.directory.Named.{Named}

-- the tables of an app
abbrev pub schema_of : App → Schema
schema_of a = a.names.schema

-- The app; the tables, where the keeper tells them; the live sessions; and the desks of which a
-- request was accepted.
pub record OfficeState : Type 0 where
  pub app : App
  pub tables : Option Tables
  pub sessions : List (Named SessionState)
  pub desks : List (Named LastRequest)

-- An office as contracts see it: its state, the marks of its keeper, how many rows that one
-- visited, the loan through which it uses a keeper that is lent, the caches of its sessions, and
-- the moment of the last request that had a route.
pub record OfficeView : Type 0 where
  pub state : OfficeState
  pub marks : Marks
  pub visited : ℕ
  pub loan : Option ℕ
  pub caches : List (Named Values)
  pub moment : ℕ

-- an office that serves this app over these tables, with no session and no desk
abbrev pub started : App → Option Tables → OfficeState
started app tables = record { app = app; tables = tables; sessions = []; desks = [] }
