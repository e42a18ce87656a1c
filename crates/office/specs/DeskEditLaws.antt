-- Edits that come again, beside other desks, and with what outcomes.
use Rattle.std.specs.Prelude.{◌≡◌, ◌≢◌, ◌⊎◌, ℕ, List, Some}
use Rattle.app_loader.specs.Verdicts.{AreSameBreaks, IsSameApp}
use Rattle.fx_core.specs.declared.broken.Broken.{Broken}
use Rattle.numbered_requests.specs.Bodies.{edit_in}
use Rattle.numbered_requests.specs.Checks.{IsLastAsked}
use Rattle.numbered_requests.specs.Directory.{find}
use Rattle.numbered_requests.specs.Replies.{refusal_reply}
use Rattle.numbered_requests.specs.declared.edit.Edit.{Edit}
use Rattle.session_state.specs.Once.{LastRequest}
use Rattle.office.specs.DeskEdits.{Parts, PostsEdit, all_carried, refusal_of}

-- an edit leaves what is kept of every other desk
abbrev pub EditLeavesOthers : Type 0
EditLeavesOthers =
    (name other body said : List ℕ) (p p' : Parts) → name ≢ other → PostsEdit name body p said p'
    → find other p'.desks ≡ find other p.desks

-- the app and the sessions are left, or the sessions go over to the edited app
abbrev pub CarriesSessions : Type 0
CarriesSessions =
    (name body said : List ℕ) (p p' : Parts) → PostsEdit name body p said p'
    → ((p'.app ≡ p.app) × (p'.sessions ≡ p.sessions))
    ⊎ (p'.sessions ≡ all_carried p.app.names p'.app.names p.sessions)

-- the last accepted edit of a desk, when it comes again, gets the kept reply and leaves all
abbrev pub EditActsOnce : Type 0
EditActsOnce =
    (name said : List ℕ) (k : LastRequest) (p p' : Parts) → find name p.desks ≡ Some k
    → IsLastAsked Edit edit_in (λ (e : Edit). e.seq) k
    → PostsEdit name k.body p said p' → (said ≡ k.reply) × (p' ≡ p)

-- a refusal of the edited app for these breaks, which leaves all
abbrev pub RefusesEdit : Parts → List Broken → List ℕ → Parts → Type 0
RefusesEdit p bs said p' = (said ≡ refusal_reply (refusal_of bs)) × (p' ≡ p)

-- two refusals for the same breaks
pub record RefusesAlike (p : Parts) (said : List ℕ) (q : Parts) (said' : List ℕ) (q' : Parts) :
    Type 0 where
  pub breaks : List Broken
  pub breaks' : List Broken
  pub same : AreSameBreaks breaks breaks'
  pub first : RefusesEdit p breaks said q
  pub second : RefusesEdit p breaks' said' q'

-- An edit has one outcome: the same is said and kept of it, the sessions are the same and the app
-- is the same; or it is refused for the same breaks.
abbrev pub IsOneEditOutcome : Type 0
IsOneEditOutcome =
    (name body said said' : List ℕ) (p q q' : Parts) → PostsEdit name body p said q
    → PostsEdit name body p said' q'
    → ((said ≡ said') × (q' ≡ record q { app = q'.app }) × IsSameApp q.app q'.app)
    ⊎ RefusesAlike p said q said' q'
