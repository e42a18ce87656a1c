-- What passed the checks is of a live session.
use Rattle.std.proofs.Common.{◌≡◌, ℕ, List, Option, Some, None, Result, Ok, Err, refl}
use Rattle.std.specs.Prelude.{IsSome}
use Rattle.serde_json.specs.Data as json
use Rattle.numbered_requests.specs.Bodies.{json_of}
use Rattle.numbered_requests.specs.Checks.{checks, if_live, session_of, then_numbered, worded}
use Rattle.numbered_requests.specs.Directory.{find}
use Rattle.numbered_requests.specs.declared.directory.Named.{Named}
use Rattle.session_state.specs.Sessions.{SessionState}

none_passed : (T : Type 0) (number : T → ℕ) (code : ℕ) (body : List ℕ) (it : T) (r : Result T (List ℕ)) → then_numbered number (Err code) body r ≡ Ok it → ⊥
none_passed T number code body it (Ok a) h = cc
none_passed T number code body it (Err words) h = cc

live_if : (T : Type 0) (number : T → ℕ) (body : List ℕ) (it : T) (r : Result T (List ℕ)) (o : Option SessionState) → then_numbered number (if_live o) body r ≡ Ok it → IsSome o
live_if T number body it r None h = absurd (none_passed T number 11 body it r h)
live_if T number body it r (Some s) h = refl

pub live : (T : Type 0) (asked : json.Data → Option T) (number : T → ℕ) (name body : List ℕ) (it : T) (sessions : List (Named SessionState)) → checks asked number (session_of name sessions) body ≡ Ok it → IsSome (find name sessions)
live T asked number name body it sessions h = live_if T number body it (worded asked (json_of body)) (find name sessions) h
