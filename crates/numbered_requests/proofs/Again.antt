-- The last request of a caller comes again.
use Rattle.std.proofs.Common.{◌≡◌, ℕ, ◌==◌, ◌+◌, Bool, true, false, if◌then◌else◌, bytes_eq, List, Option, Some, None, Result, Err, Ok, refl, ap, ◌∙◌, eq-eqb, arith}
use Rattle.serde_json.specs.Data as json
use Rattle.session_state.specs.Once.{LastRequest, turn_of}
use Rattle.session_state.specs.declared.turn.Turn.TheVariants.{New, Again, Reused, OutOfStep}
use Rattle.numbered_requests.specs.Bodies.{json_of}
use Rattle.numbered_requests.specs.Checks.{IsLastAsked, checks, number_reply, number_checked, shaped, then_numbered, turn_reply, unless_said, worded}
use Rattle.numbered_requests.proofs.Directories.{itself}

-- the number of the last request, with its body
picked : (a b c : Bool) (last : ℕ) → a ≡ false → b ≡ true → c ≡ true → (if a then New else (if b then (if c then Again else Reused) else OutOfStep last)) ≡ Again
picked true b c last e f g = absurd cc
picked false false c last e f g = absurd cc
picked false true false last e f g = absurd cc
picked false true true last e f g = refl

not_next : (n : ℕ) → (n == n + 1) ≡ false
not_next n = by (n == n + 1) refl
  where
    by : (b : Bool) → (n == n + 1) ≡ b → b ≡ false
    by true e = absurd (grind (arith, e))
    by false e = refl

again : (k : LastRequest) → turn_of k k.last k.body ≡ Again
again k = picked (k.last == k.last + 1) (k.last == k.last) (bytes_eq k.body k.body) k.last (not_next k.last) (eq-eqb k.last k.last refl) (itself k.body)

-- it gets the kept reply
pub comes_again : (T : Type 0) (asked : json.Data → Option T) (number : T → ℕ) (k : LastRequest) → IsLastAsked T asked number k → checks asked number (Ok k) k.body ≡ Err k.reply
comes_again T asked number k last =
    ap (λ o. then_numbered number (Ok k) k.body (worded asked o)) last.is_json
    ∙ ap (λ o. then_numbered number (Ok k) k.body (shaped o)) last.shape
    ∙ ap (λ n. unless_said (number_reply k n k.body) last.it) last.last
    ∙ ap (λ t. unless_said (turn_reply t k.reply) last.it) (again k)

-- ---- what passed the checks is what the body asks for

said_or : (T : Type 0) (o : Option (List ℕ)) (a it : T) → unless_said o a ≡ Ok it → a ≡ it
said_or T None a it e = cc
said_or T (Some words) a it e = absurd cc

counted : (T : Type 0) (number : T → ℕ) (caller : Result LastRequest ℕ) (body : List ℕ) (a it : T) → number_checked number caller body a ≡ Ok it → a ≡ it
counted T number (Err code) body a it e = absurd cc
counted T number (Ok k) body a it e = said_or T (number_reply k (number a) body) a it e

-- its JSON, and its shape
pub record Asks (T : Type 0) (asked : json.Data → Option T) (body : List ℕ) (it : T) : Type 0 where
  pub value : json.Data
  pub is_json : json_of body ≡ Some value
  pub shape : asked value ≡ Some it

pub passed : (T : Type 0) (asked : json.Data → Option T) (number : T → ℕ) (caller : Result LastRequest ℕ) (body : List ℕ) (it : T) → checks asked number caller body ≡ Ok it → Asks T asked body it
passed T asked number caller body it e = by (json_of body) refl e
  where
    in_shape : (d : json.Data) → json_of body ≡ Some d → (q : Option T) → asked d ≡ q → then_numbered number caller body (shaped q) ≡ Ok it → Asks T asked body it
    in_shape d f None g h = absurd cc
    in_shape d f (Some a) g h = record { value = d; is_json = f; shape = g ∙ ap (λ (x : T). Some x) (counted T number caller body a it h) }

    by : (o : Option json.Data) → json_of body ≡ o → then_numbered number caller body (worded asked o) ≡ Ok it → Asks T asked body it
    by None f h = absurd cc
    by (Some d) f h = in_shape d f (asked d) refl h
