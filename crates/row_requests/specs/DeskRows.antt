-- A desk posts changes of rows.
use Rattle.std.specs.Prelude.{◌≡◌, ℕ, List, map, codes, Option, Result, Ok, Err}
use Rattle.serde_json.specs.Data.{Data, array, member, no_members, number, object, unsigned}
use Rattle.serde_json.specs.View.{items_of}
use Rattle.serde_json.specs.Written.{compact_text}
use Rattle.app_wire.specs.ReplyBytes.{reply}
use Rattle.fx_base.specs.Silence.{MayFallSilent}
use Rattle.fx_core.specs.declared.schema.TableShape.{TableShape}
use Rattle.row_keeper.specs.Tables.{Tables}
use Rattle.session_state.specs.Once.{LastRequest}
use Rattle.view_text.specs.declared.refused.Refusal.{Refusal}
use Rattle.row_requests.specs.AnyKeeper.{MayEnd}
use Rattle.row_requests.specs.Bodies.{posted_in}
use Rattle.row_requests.specs.Changes.{perform}
use Rattle.numbered_requests.specs.Checks.{checks, desk_of}
use Rattle.numbered_requests.specs.Directory.{put_named}
use Rattle.numbered_requests.specs.Replies.{refusal_reply}
use Rattle.row_requests.specs.declared.bodies.Change.{Change}
use Rattle.row_requests.specs.declared.bodies.Posted.{Posted}
use Rattle.numbered_requests.specs.declared.directory.Named.{Named}

-- the checks of posted rows: JSON (9), its shape (10), a desk too many (12), and the number (13,
-- 14, or the kept reply)
abbrev pub desk_checks : List (Named LastRequest) → List ℕ → List ℕ → Result Posted (List ℕ)
desk_checks desks name body = checks posted_in (λ (p : Posted). p.seq) (desk_of name desks) body

-- what becomes of changes: the numbers of their rows, or why the first that is refused is
abbrev pub ChangesOutcome : Type 0
ChangesOutcome = Result (List ℕ) Refusal

-- in one transaction: all of them act, or none
abbrev pub DeskTransaction : List TableShape → List Change → ChangesOutcome → Tables → Tables
    → Type 0
DeskTransaction shapes changes (Ok ids) a b = perform shapes 0 changes a ≡ Ok (ids, b)
DeskTransaction shapes changes (Err r) a b = (perform shapes 0 changes a ≡ Err r) × (b ≡ a)

-- `{"ids":[..],"seq":..}`
abbrev pub ids_data : ℕ → Data
ids_data id = number (unsigned id)

abbrev pub accepted_data : ℕ → List ℕ → Data
accepted_data seq ids = object (member (codes "ids") (array (items_of (map ids_data ids)))
    (member (codes "seq") (number (unsigned seq)) no_members))

abbrev pub accepted_rows_reply : ℕ → List ℕ → List ℕ
accepted_rows_reply seq ids = reply 200 (compact_text (accepted_data seq ids))

-- what is said of an outcome
abbrev pub outcome_reply : ℕ → ChangesOutcome → List ℕ
outcome_reply seq (Ok ids) = accepted_rows_reply seq ids
outcome_reply seq (Err r) = refusal_reply r

-- the desks afterwards: an accepted request leaves its number, its body and its reply, a refused
-- one nothing
abbrev pub desks_after : List ℕ → List ℕ → ℕ → ChangesOutcome → List (Named LastRequest)
    → List (Named LastRequest)
desks_after name body seq (Ok ids) desks = put_named name
    (record { last = seq; body = body; reply = accepted_rows_reply seq ids }) desks
desks_after name body seq (Err r) desks = desks

-- A request that passed the checks: its changes act in one transaction, or the first that is
-- refused says why. Also where no tables are told it comes to what may come of these changes.
pub record KeepsRows (lost : Type 0) (shapes : List TableShape) (name body : List ℕ) (p : Posted)
    (tables : Option Tables) (desks : List (Named LastRequest)) (said : List ℕ)
    (tables' : Option Tables) (desks' : List (Named LastRequest)) : Type 0 where
  pub outcome : ChangesOutcome
  pub acts : MayFallSilent lost (DeskTransaction shapes p.changes outcome) tables tables'
  pub may : MayEnd shapes 0 p.changes outcome
  pub replied : said ≡ outcome_reply p.seq outcome
  pub keeps : desks' ≡ desks_after name body p.seq outcome desks

-- after the checks: the first that breaks is the reply, and leaves all
abbrev pub PostsChecked : Type 0 → List TableShape → List ℕ → List ℕ → Result Posted (List ℕ)
    → Option Tables → List (Named LastRequest) → List ℕ → Option Tables → List (Named LastRequest)
    → Type 0
PostsChecked lost shapes name body (Err words) tables desks said tables' desks'
    = (said ≡ words) × (tables' ≡ tables) × (desks' ≡ desks)
PostsChecked lost shapes name body (Ok p) tables desks said tables' desks'
    = KeepsRows lost shapes name body p tables desks said tables' desks'

-- THE route
abbrev pub PostsRows : Type 0 → List TableShape → List ℕ → List ℕ → Option Tables
    → List (Named LastRequest) → List ℕ → Option Tables → List (Named LastRequest) → Type 0
PostsRows lost shapes name body tables desks said tables' desks' =
    PostsChecked lost shapes name body (desk_checks desks name body) tables desks said tables'
    desks'

-- the checks that call no keeper are passed
abbrev pub ReachesRows : List ℕ → List ℕ → List (Named LastRequest) → Type 0
ReachesRows name body desks = (p : Posted) × (desk_checks desks name body ≡ Ok p)
