-- The checks that a numbered request passes before it acts, in their order. The first that breaks
-- is the reply.
use Rattle.std.specs.Prelude.{◌≡◌, ℕ, Bool, false, nat_le, if◌then◌else◌, List, length, Option}
use Rattle.std.specs.Prelude.{Some, None, unwrap_or, Result, Ok, Err}
use Rattle.serde_json.specs.Data as json
use Rattle.session_state.specs.Once.{LastRequest, nobody, turn_of}
use Rattle.session_state.specs.Sessions.{SessionState}
use Rattle.session_state.specs.declared.turn.Turn.{Turn}
use Rattle.session_state.specs.declared.turn.Turn.TheVariants.{New, Again, Reused, OutOfStep}
use Rattle.view_text.specs.declared.refused.Detail.TheVariants as detail
use Rattle.view_text.specs.declared.refused.Refusal.{Refusal}
use Rattle.numbered_requests.specs.Bodies.{json_of}
use Rattle.numbered_requests.specs.Directory.{find, is_in_directory}
use Rattle.numbered_requests.specs.Replies.{plain, refusal_reply}
use Rattle.numbered_requests.specs.declared.directory.Named.{Named}

-- the number is neither the last nor the next (13)
abbrev pub out_of_step : ℕ → Refusal
out_of_step last = record { code = 13; detail = detail.Number last }

-- what a number calls for: a new one nothing, the last one with its body the kept reply (14 with
-- another body)
abbrev pub turn_reply : Turn → List ℕ → Option (List ℕ)
turn_reply New kept = None
turn_reply Again kept = Some kept
turn_reply Reused kept = Some (refusal_reply (plain 14))
turn_reply (OutOfStep last) kept = Some (refusal_reply (out_of_step last))

abbrev pub number_reply : LastRequest → ℕ → List ℕ → Option (List ℕ)
number_reply k seq body = turn_reply (turn_of k seq body) k.reply

-- what is asked for, unless there is a reply already
abbrev pub unless_said : {T : Type 0} → Option (List ℕ) → T → Result T (List ℕ)
unless_said None it = Ok it
unless_said (Some said) it = Err said

-- the caller, which may be none (11) or one too many (12), and the number
abbrev pub number_checked : {T : Type 0} → (T → ℕ) → Result LastRequest ℕ → List ℕ → T
    → Result T (List ℕ)
number_checked number (Err code) body it = Err (refusal_reply (plain code))
number_checked number (Ok k) body it = unless_said (number_reply k (number it) body) it

-- what has the shape (10)
abbrev pub shaped : {T : Type 0} → Option T → Result T (List ℕ)
shaped None = Err (refusal_reply (plain 10))
shaped (Some it) = Ok it

-- what a body asks for, which may not even be JSON (9)
abbrev pub worded : {T : Type 0} → (json.Data → Option T) → Option json.Data → Result T (List ℕ)
worded asked None = Err (refusal_reply (plain 9))
worded asked (Some d) = shaped (asked d)

-- and then the caller and its number
abbrev pub then_numbered : {T : Type 0} → (T → ℕ) → Result LastRequest ℕ → List ℕ
    → Result T (List ℕ) → Result T (List ℕ)
then_numbered number caller body (Ok it) = number_checked number caller body it
then_numbered number caller body (Err said) = Err said

-- THE checks: JSON (9), its shape (10), the caller (11 or 12), and its number (13, 14, or the kept
-- reply)
abbrev pub checks : {T : Type 0} → (json.Data → Option T) → (T → ℕ) → Result LastRequest ℕ → List ℕ
    → Result T (List ℕ)
checks asked number caller body = then_numbered number caller body (worded asked (json_of body))

-- ---- callers

-- the most desks
abbrev pub most_desks : ℕ
most_desks = 64

-- a new desk has no room
abbrev pub is_directory_full : List ℕ → List (Named LastRequest) → Bool
is_directory_full name desks = if is_in_directory name desks then false else nat_le most_desks
    (length desks)

-- what is kept of a desk; of a new one nothing
abbrev pub kept_of : List ℕ → List (Named LastRequest) → LastRequest
kept_of name desks = unwrap_or (find name desks) nobody

-- what is kept of a desk, where it isn't one too many
abbrev pub desk_of : List ℕ → List (Named LastRequest) → Result LastRequest ℕ
desk_of name desks = if is_directory_full name desks then Err 12 else Ok (kept_of name desks)

-- what is kept of a session, where it is live
abbrev pub if_live : Option SessionState → Result LastRequest ℕ
if_live None = Err 11
if_live (Some s) = Ok s.kept

abbrev pub session_of : List ℕ → List (Named SessionState) → Result LastRequest ℕ
session_of name sessions = if_live (find name sessions)

-- ---- the last request once more

-- what is kept is the body of such a request, under the last number
pub record IsLastAsked (T : Type 0) (asked : json.Data → Option T) (number : T → ℕ)
    (k : LastRequest) : Type 0 where
  pub value : json.Data
  pub is_json : json_of k.body ≡ Some value
  pub it : T
  pub shape : asked value ≡ Some it
  pub last : number it ≡ k.last
