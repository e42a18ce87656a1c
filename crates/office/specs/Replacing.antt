-- A desk replaces the whole app, and the tables move.
use Rattle.std.specs.Prelude.{◌≡◌, ◌<◌, ℕ, List, map, length, Option, Some, None, Result, Ok, Err}
use Rattle.std.specs.Prelude.{option_and_then}
use Rattle.fx_base.specs.Silence.{MayFallSilent}
use Rattle.serde_json.specs.Data.{Data}
use Rattle.app_cells.specs.declared.app.App.{App}
use Rattle.app_loader.specs.Edits.{IsLoaded}
use Rattle.app_loader.specs.Judged.{JudgedValue}
use Rattle.app_loader.specs.app_semantics.Sound.{IsSoundApp}
use Rattle.app_moves.specs.Places.{table_moves}
use Rattle.app_moves.specs.Refusals.{moves_refusal, rows_refusal}
use Rattle.app_moves.specs.declared.moves.Move.{Move}
use Rattle.app_replacements.specs.Bodies.{app_in, replaced_in}
use Rattle.app_replacements.specs.declared.body.Replacement.{Replacement}
use Rattle.fx_core.specs.declared.broken.Broken.{Broken}
use Rattle.fx_core.specs.declared.names.Names.{Names}
use Rattle.numbered_requests.specs.Bodies.{json_of}
use Rattle.numbered_requests.specs.Checks.{checks, desk_of}
use Rattle.numbered_requests.specs.Replies.{refusal_reply}
use Rattle.numbered_requests.specs.declared.directory.Named.{Named}
use Rattle.row_keeper.specs.MovedTables.{Reshapes}
use Rattle.row_keeper.specs.Tables.{Tables}
use Rattle.row_keeper.specs.declared.rows.Reshaped.{Reshaped}
use Rattle.row_keeper.specs.declared.rows.Reshaped.TheVariants.{Done, Broken as RuleBroken}
use Rattle.row_keeper.specs.declared.rows.RowRefusal.{RowRefusal}
use Rattle.session_state.specs.CarriedOver.{carried_over}
use Rattle.session_state.specs.Changes.{HoldsTables}
use Rattle.session_state.specs.Once.{LastRequest}
use Rattle.session_state.specs.Sessions.{SessionState}
use Rattle.view_text.specs.declared.refused.Refusal.{Refusal}
use Rattle.office.specs.DeskEdits.{accepted_edit_reply, desk_answered, refusal_of}
use Rattle.office.specs.State.{OfficeState, schema_of}

-- ---- the office afterwards

-- a session goes over to the app that replaces the old one
abbrev pub one_over : Names → Names → Named SessionState → Named SessionState
one_over old new s = record s { it = carried_over old new s.it }

-- and so does each
abbrev pub all_over : Names → Names → List (Named SessionState) → List (Named SessionState)
all_over old new sessions = map (one_over old new) sessions

-- after an accepted replacement: this app, the sessions that went over to it, and what is kept of
-- the desk
abbrev pub replaced : List ℕ → List ℕ → ℕ → App → Option Tables → OfficeState → OfficeState
replaced name body seq b tables s = record {
  app = b;
  tables = tables;
  sessions = all_over s.app.names b.names s.sessions;
  desks = desk_answered name body seq s.desks;
}

-- what holds of an app that replaces another
pub record IsAccepted (b : App) : Type 0 where
  pub sound : IsSoundApp b
  pub loaded : IsLoaded b
  pub tables : HoldsTables b.names
  pub opens : 0 < length b.names.screens

-- ---- what becomes of it

-- a moved row breaks this rule in the new table of this number (27)
abbrev pub RefusesRows : App → ℕ → RowRefusal → List ℕ → Type 0
RefusesRows b k r said = (refusal : Refusal)
    × (rows_refusal (schema_of b).tables k r ≡ Some refusal) × (said ≡ refusal_reply refusal)

-- the tables have moved, and the app is accepted; or a moved row breaks a rule, and all stays
abbrev pub RowsEnd : List ℕ → List ℕ → ℕ → App → Reshaped → OfficeState → List ℕ → OfficeState
    → Type 0
RowsEnd name body seq b Done s said new = (said ≡ accepted_edit_reply seq)
    × (new ≡ replaced name body seq b new.tables s)
RowsEnd name body seq b (RuleBroken k r) s said new = RefusesRows b k r said
    × (new ≡ record s { tables = new.tables })

-- the old tables, and from where the new ones come
abbrev pub Moved : Type 0 → App → List Move → Reshaped → OfficeState → OfficeState → Type 0
Moved lost b moves r s new = MayFallSilent lost
    (Reshapes (schema_of b) (table_moves (schema_of s.app).tables moves (schema_of b).tables) r)
    s.tables new.tables

-- a move breaks a rule, or a column comes from one of another type (27), and all stays; or the
-- tables move
abbrev pub MovesEnd : Type 0 → List ℕ → List ℕ → Replacement → App → Option Refusal → OfficeState
    → List ℕ → OfficeState → Type 0
MovesEnd lost name body r b (Some refusal) s said new = (said ≡ refusal_reply refusal) × (new ≡ s)
MovesEnd lost name body r b None s said new = (outcome : Reshaped)
    × Moved lost b r.moves outcome s new
    × RowsEnd name body r.seq b outcome s said new

-- the app breaks rules (24), and all stays; or its tables come from the old ones
abbrev pub ReplacementEnds : Type 0 → List ℕ → List ℕ → Replacement → Result App (List Broken)
    → OfficeState → List ℕ → OfficeState → Type 0
ReplacementEnds lost name body r (Err bs) s said new =
    (said ≡ refusal_reply (refusal_of bs)) × (new ≡ s)
ReplacementEnds lost name body r (Ok b) s said new = IsAccepted b
    × MovesEnd lost name body r b
    (moves_refusal (schema_of s.app).tables (schema_of b).tables r.moves) s said new

-- the app that a body gives, as JSON
abbrev pub app_given : List ℕ → Option Data
app_given body = option_and_then app_in (json_of body)

-- a replacement that passed the checks of numbered requests
pub record Replaces (lost : Type 0) (name body : List ℕ) (r : Replacement) (s : OfficeState)
    (said : List ℕ) (new : OfficeState) : Type 0 where
  pub app : Data
  pub given : app_given body ≡ Some app
  pub verdict : Result App (List Broken)
  pub judged : JudgedValue app verdict
  pub ends : ReplacementEnds lost name body r verdict s said new

-- after the checks: the first that breaks is the reply, and leaves all
abbrev pub ReplacesChecked : Type 0 → List ℕ → List ℕ → Result Replacement (List ℕ) → OfficeState
    → List ℕ → OfficeState → Type 0
ReplacesChecked lost name body (Err words) s said new = (said ≡ words) × (new ≡ s)
ReplacesChecked lost name body (Ok r) s said new = Replaces lost name body r s said new

-- the checks of replacements: JSON (9), its shape (10), a desk too many (12), and the number (13,
-- 14, or the kept reply)
abbrev pub replace_checks : List (Named LastRequest) → List ℕ → List ℕ
    → Result Replacement (List ℕ)
replace_checks desks name body = checks replaced_in (λ (r : Replacement). r.seq)
    (desk_of name desks) body

-- THE route of replacements
abbrev pub PostsApp : Type 0 → List ℕ → List ℕ → OfficeState → List ℕ → OfficeState → Type 0
PostsApp lost name body s said new =
    ReplacesChecked lost name body (replace_checks s.desks name body) s said new

-- an accepted replacement: the body asks for it, and its app is served
pub record IsReplaced (name body : List ℕ) (s new : OfficeState) : Type 0 where
  pub asked : Replacement
  pub checked : replace_checks s.desks name body ≡ Ok asked
  pub app : App
  pub is : new ≡ replaced name body asked.seq app new.tables s

-- ---- the keeper

-- the keeper is called: the checks are passed, the app is accepted, and its moves break no rule
pub record ReachesMoves (name body : List ℕ) (r : Replacement) (s : OfficeState) : Type 0 where
  pub app : Data
  pub given : app_given body ≡ Some app
  pub new : App
  pub judged : JudgedValue app (Ok new)
  pub fine : moves_refusal (schema_of s.app).tables (schema_of new).tables r.moves ≡ None

abbrev pub ReachesChecked : List ℕ → List ℕ → Result Replacement (List ℕ) → OfficeState → Type 0
ReachesChecked name body (Err words) s = ⊥
ReachesChecked name body (Ok r) s = ReachesMoves name body r s

abbrev pub ReachesApp : List ℕ → List ℕ → OfficeState → Type 0
ReachesApp name body s = ReachesChecked name body (replace_checks s.desks name body) s
