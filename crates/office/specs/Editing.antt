-- An app that is edited or replaced while it is served.
use Rattle.std.specs.Prelude.{◌≡◌, ◌⊎◌, ℕ, List, Ok}
use Rattle.app_cells.specs.declared.app.App.{App}
use Rattle.app_loader.specs.app_texts.Frames.{app_frame}
use Rattle.app_loader.specs.Verdicts.{AreSameBreaks}
use Rattle.app_loader.specs.app_semantics.Sound.{IsSoundApp}
use Rattle.app_wire.specs.Framing.{Asked}
use Rattle.app_wire.specs.Routing.{Routing}
use Rattle.app_wire.specs.declared.route.Route.TheVariants.{Edit, Replace}
use Rattle.office.specs.DeskEdits.{refusal_of}
use Rattle.fx_core.specs.declared.broken.Broken.{Broken}
use Rattle.numbered_requests.specs.Replies.{refusal_reply}
use Rattle.session_state.specs.Changes.{HoldsTables}

-- What an edit keeps: the app is sound, an empty table fits each of its collections, and it is the
-- same beside its formulas.
pub record KeepsApp (a b : App) : Type 0 where
  pub sound : IsSoundApp b
  pub tables : HoldsTables b.names
  pub frame : app_frame b ≡ app_frame a

-- the request is an edit, by its route
abbrev pub IsEdit : Asked → Type 0
IsEdit request = (name : List ℕ) × Routing request.method request.path (Ok (Edit name))

-- and a replacement
abbrev pub IsReplacement : Asked → Type 0
IsReplacement request = (name : List ℕ)
    × Routing request.method request.path (Ok (Replace name))

-- a request that may change the app
abbrev pub ChangesApp : Asked → Type 0
ChangesApp request = IsEdit request ⊎ IsReplacement request

-- two refusals of it (24), for the same breaks
pub record AreSameRefusals (said said' : List ℕ) : Type 0 where
  pub breaks : List Broken
  pub breaks' : List Broken
  pub same : AreSameBreaks breaks breaks'
  pub first : said ≡ refusal_reply (refusal_of breaks)
  pub second : said' ≡ refusal_reply (refusal_of breaks')
