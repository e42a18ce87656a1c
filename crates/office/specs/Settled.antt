-- Offices are settled whenever a request comes.
use Rattle.std.specs.Prelude.{◌≡◌, List, [], ◌∷◌, Option}
use Rattle.app_cells.specs.declared.app.App.{App}
use Rattle.app_loader.specs.app_texts.Frames.{app_frame}
use Rattle.app_loader.specs.app_semantics.Sound.{IsSoundApp}
use Rattle.fx_base.specs.Silence.{Marks}
use Rattle.row_keeper.specs.Tables.{Tables}
use Rattle.session_requests.specs.Opening.{CanOpen}
use Rattle.office.specs.Answers.{Exchange, Plays}
use Rattle.office.specs.Editing.{IsReplacement}
use Rattle.office.specs.Ready.{IsSettledOffice}
use Rattle.office.specs.Refused.{IsRefused}
use Rattle.office.specs.State.{OfficeState, started}

-- an office that begins with an accepted app is settled
abbrev pub StartsSettled : Type 0
StartsSettled = (app : App) (tables : Option Tables) → IsSoundApp app → CanOpen app.names
    → IsSettledOffice (started app tables)

-- none of these exchanges is a replacement that was accepted
abbrev pub KeepApps : List Exchange → Type 0
KeepApps [] = Unit {0}
KeepApps (x ∷ xs) = (IsReplacement x.asked → IsRefused x.said) × KeepApps xs

-- any requests leave it so, and its app but for formulas that are edited, where none replaces it
abbrev pub StaysSettled : Type 0
StaysSettled =
    (old new : OfficeState) (before now : Marks) (xs : List Exchange)
    → IsSettledOffice old → Plays old before xs new now
    → IsSettledOffice new × (KeepApps xs → app_frame new.app ≡ app_frame old.app)
