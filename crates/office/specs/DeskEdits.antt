-- A desk edits a formula.
use Rattle.std.specs.Prelude.{◌≡◌, ℕ, List, map, codes, Result, Ok, Err}
use Rattle.serde_json.specs.Data.{Data, number, unsigned}
use Rattle.serde_json.specs.Written.{compact_text}
use Rattle.app_cells.specs.declared.app.App.{App}
use Rattle.app_loader.specs.Edits.{JudgedEdit}
use Rattle.app_wire.specs.ReplyBytes.{reply}
use Rattle.fx_types.specs.Words.{scalars_of}
use Rattle.fx_core.specs.BrokenText.{broken_line}
use Rattle.fx_core.specs.declared.broken.Broken.{Broken}
use Rattle.fx_core.specs.declared.names.Names.{Names}
use Rattle.numbered_requests.specs.Bodies.{edit_in}
use Rattle.numbered_requests.specs.Checks.{checks, desk_of}
use Rattle.numbered_requests.specs.Directory.{put_named}
use Rattle.numbered_requests.specs.Replies.{refusal_reply}
use Rattle.numbered_requests.specs.declared.directory.Named.{Named}
use Rattle.numbered_requests.specs.declared.edit.Edit.{Edit}
use Rattle.session_state.specs.Carrying.{carried}
use Rattle.session_state.specs.Once.{LastRequest}
use Rattle.session_state.specs.Sessions.{SessionState}
use Rattle.view_text.specs.JsonText.{tagged}
use Rattle.view_text.specs.declared.refused.Detail.TheVariants as detail
use Rattle.view_text.specs.declared.refused.Refusal.{Refusal}

-- `{"seq":..}`
abbrev pub seq_data : ℕ → Data
seq_data seq = tagged (codes "seq") (number (unsigned seq))

abbrev pub accepted_edit_reply : ℕ → List ℕ
accepted_edit_reply seq = reply 200 (compact_text (seq_data seq))

-- a refused edit tells each broken rule by its line (24)
abbrev pub lines_of : List Broken → List (List ℕ)
lines_of bs = map (λ (b : Broken). scalars_of (broken_line b)) bs

abbrev pub refusal_of : List Broken → Refusal
refusal_of bs = record { code = 24; detail = detail.Lines (lines_of bs) }

-- the parts of an office that an edit may change
pub record Parts : Type 0 where
  pub app : App
  pub sessions : List (Named SessionState)
  pub desks : List (Named LastRequest)

-- a session goes over to an edited app
abbrev pub one_carried : Names → Names → Named SessionState → Named SessionState
one_carried old new s = record s { it = carried old new s.it }

-- and so does each
abbrev pub all_carried : Names → Names → List (Named SessionState) → List (Named SessionState)
all_carried old new sessions = map (one_carried old new) sessions

-- an accepted edit leaves its number, its body and its reply
abbrev pub desk_answered : List ℕ → List ℕ → ℕ → List (Named LastRequest) → List (Named LastRequest)
desk_answered name body seq desks = put_named name
    (record { last = seq; body = body; reply = accepted_edit_reply seq }) desks

-- after an accepted edit: this app, the sessions that went over to it, and what is kept of the desk
abbrev pub edited : List ℕ → List ℕ → ℕ → App → Parts → Parts
edited name body seq b p = record {
  app = b;
  sessions = all_carried p.app.names b.names p.sessions;
  desks = desk_answered name body seq p.desks;
}

-- what is accepted changes the parts and is answered, and what is refused leaves all
abbrev pub EditEnds : List ℕ → List ℕ → ℕ → Result App (List Broken) → Parts → List ℕ → Parts
    → Type 0
EditEnds name body seq (Ok b) p said p' = (said ≡ accepted_edit_reply seq)
    × (p' ≡ edited name body seq b p)
EditEnds name body seq (Err bs) p said p' = (said ≡ refusal_reply (refusal_of bs)) × (p' ≡ p)

-- an edit that passed the checks of numbered requests
pub record MakesEdit (name body : List ℕ) (e : Edit) (p : Parts) (said : List ℕ) (p' : Parts) :
    Type 0 where
  pub verdict : Result App (List Broken)
  pub judged : JudgedEdit p.app e.cell e.text verdict
  pub ends : EditEnds name body e.seq verdict p said p'

-- after the checks: the first that breaks is the reply, and leaves all
abbrev pub EditsChecked : List ℕ → List ℕ → Result Edit (List ℕ) → Parts → List ℕ → Parts → Type 0
EditsChecked name body (Err words) p said p' = (said ≡ words) × (p' ≡ p)
EditsChecked name body (Ok e) p said p' = MakesEdit name body e p said p'

-- the checks of edits: JSON (9), its shape (10), a desk too many (12), and the number (13, 14, or
-- the kept reply)
abbrev pub edit_checks : List (Named LastRequest) → List ℕ → List ℕ → Result Edit (List ℕ)
edit_checks desks name body = checks edit_in (λ (e : Edit). e.seq) (desk_of name desks) body

-- THE route of edits
abbrev pub PostsEdit : List ℕ → List ℕ → Parts → List ℕ → Parts → Type 0
PostsEdit name body p said p' = EditsChecked name body (edit_checks p.desks name body) p said p'
