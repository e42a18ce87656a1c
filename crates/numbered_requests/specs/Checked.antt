-- What the checks of the program say.
use Rattle.std.specs.Prelude.{◌≡◌, ℕ, ◌≤◌, List, Result, Ok, Err}
use Rattle.std.specs.List.{AllByRecursion}
use Rattle.session_state.specs.Once.{LastRequest}
use Rattle.session_state.specs.Sessions.{SessionState}
use Rattle.numbered_requests.specs.Replies.{IsAcceptedReply, IsReply, said}
use Rattle.numbered_requests.specs.declared.checks.Checked.{Checked}
use Rattle.numbered_requests.specs.declared.checks.Checked.TheVariants.{Acts, Says}
use Rattle.numbered_requests.specs.declared.directory.Named.{Named}

-- the same as the checks say
abbrev pub IsChecked : {B : Type 0} → Result B (List ℕ) → Checked B → Type 0
IsChecked r (Acts asked) = r ≡ Ok asked
IsChecked r (Says reply) = r ≡ Err (said reply)

-- what is asked for is so, and a reply is one
abbrev pub IsSoundCheck : {B : Type 0} → (B → Type 0) → Checked B → Type 0
IsSoundCheck sound (Acts asked) = sound asked
IsSoundCheck sound (Says reply) = IsReply reply

-- what is kept of a caller of which a request was accepted is its reply
abbrev pub KeepsReply : LastRequest → Type 0
KeepsReply k = 1 ≤ k.last → IsAcceptedReply k.reply

-- so it is with each session
abbrev pub SessionsKeepReplies : List (Named SessionState) → Type 0
SessionsKeepReplies sessions = AllByRecursion (λ (n : Named SessionState). KeepsReply n.it.kept)
    sessions
