-- What a performing stands on, which no part of it changes.
use Rattle.std.specs.Prelude.{ℕ, List, [], ◌∷◌, Option, Some, None}
use Rattle.std.specs.Coded.{coded_list, coded_ℕ}
use base.Stored.{Gv, gnil, gnum, gcons}
use Rattle.recalc.specs.app_cells.contracts.app.App.{the_row as app_row}
use Rattle.recalc.specs.app_cells.declared.app.App.{App}
use Rattle.fx_core.specs.contracts.sources.Source.{the_row as source_row}
use Rattle.fx_core.specs.declared.sources.Source.{Source}
use Rattle.session_state.specs.contracts.session.Session.{the_row as session_row}
use Rattle.session_state.specs.Sessions.{SessionState}

-- the app, the moment, the session as the request found it, and the sources that were written
-- before
pub record WorldIdentity : Type 0 where
  pub app : App
  pub moment : ℕ
  pub before : SessionState
  pub earlier : List Source

abbrev pub anchor : App → ℕ → SessionState → List Source → WorldIdentity
anchor app moment before earlier = record {
  app = app;
  moment = moment;
  before = before;
  earlier = earlier;
}

-- a code in front of a list
unfoldable pub coded_onto : Gv → List (Option ℕ) → List (Option ℕ)
coded_onto gnil xs = None ∷ None ∷ xs
coded_onto (gnum n) xs = Some n ∷ xs
coded_onto (gcons a b) xs = None ∷ Some 0 ∷ coded_onto a (coded_onto b xs)

-- all of it as one list of numbers, from which it can be read again
unfoldable pub identity_code : WorldIdentity → List (Option ℕ)
identity_code a = coded_onto (app_row.coded.code a.app)
    (coded_onto (coded_ℕ.code a.moment) (coded_onto (session_row.coded.code a.before)
    (coded_onto ((coded_list source_row.coded).code a.earlier) [])))
