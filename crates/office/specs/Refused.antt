-- What is refused leaves the office as it was.
use Rattle.std.specs.Prelude.{◌≢◌, ℕ, List}
use Rattle.fx_base.specs.Silence.{SilenceCause, Marks}
use Rattle.app_wire.specs.Framing.{Asked}
use Rattle.app_wire.specs.ReplyBytes.{reply}
use Rattle.office.specs.State.{OfficeState}
use Rattle.office.specs.Step.{AnswersRequest, Left}

-- a reply with another status than 200: a refusal, also by want of memory or a fault of the keeper
abbrev pub IsRefused : List ℕ → Type 0
IsRefused said = (body : List ℕ) → said ≢ reply 200 body

-- After each such reply the app, the sessions and the desks are as they were, and so are the
-- tables, where they are told.
abbrev pub RefusedLeaves : Type 0
RefusedLeaves =
    (old new : OfficeState) (before now : Marks) (moment : ℕ) (request : Asked) (said : List ℕ)
    → AnswersRequest old before moment request said now new → IsRefused said
    → Left (SilenceCause before now) old new
