-- Refusals without a detail.
use Rattle.std.proofs.Common.{◌≡◌, ℕ, ◌==◌, ◌||◌, Bool, true, false, refl, sym, subst, ap, arith}
use Rattle.std.specs.Fmt.{digits}
use Rattle.serde_json.proofs.OnLiterals.{serde_json_on_literals}
use Rattle.app_wire.specs.ReplyBytes.{refusal, refusal_body, reply}
use Rattle.view_text.specs.RefusalText.{refusal_text}
use Rattle.view_text.specs.Refusals.{refusal_status}
use Rattle.numbered_requests.specs.Replies.{is_plain_refusal, plain, refusal_reply}

plain_9 : refusal_text (plain 9) ≡ refusal_body 9
unfolding serde_json_on_literals digits
plain_9 = refl

plain_10 : refusal_text (plain 10) ≡ refusal_body 10
unfolding serde_json_on_literals digits
plain_10 = refl

plain_11 : refusal_text (plain 11) ≡ refusal_body 11
unfolding serde_json_on_literals digits
plain_11 = refl

plain_12 : refusal_text (plain 12) ≡ refusal_body 12
unfolding serde_json_on_literals digits
plain_12 = refl

plain_14 : refusal_text (plain 14) ≡ refusal_body 14
unfolding serde_json_on_literals digits
plain_14 = refl

plain_15 : refusal_text (plain 15) ≡ refusal_body 15
unfolding serde_json_on_literals digits
plain_15 = refl

plain_16 : refusal_text (plain 16) ≡ refusal_body 16
unfolding serde_json_on_literals digits
plain_16 = refl

plain_17 : refusal_text (plain 17) ≡ refusal_body 17
unfolding serde_json_on_literals digits
plain_17 = refl

plain_18 : refusal_text (plain 18) ≡ refusal_body 18
unfolding serde_json_on_literals digits
plain_18 = refl

plain_20 : refusal_text (plain 20) ≡ refusal_body 20
unfolding serde_json_on_literals digits
plain_20 = refl

plain_21 : refusal_text (plain 21) ≡ refusal_body 21
unfolding serde_json_on_literals digits
plain_21 = refl

plain_22 : refusal_text (plain 22) ≡ refusal_body 22
unfolding serde_json_on_literals digits
plain_22 = refl

-- one of these
same : (a b : ℕ) → (a == b) ≡ true → a ≡ b
same a b e = grind (arith, e)

body_of : (code known : ℕ) → refusal_text (plain known) ≡ refusal_body known → (code == known) ≡ true → refusal_text (plain code) ≡ refusal_body code
body_of code known is e = subst (λ n. refusal_text (plain n) ≡ refusal_body n) (sym (same code known e)) is

either : (a b : Bool) (C : Type 0) → (a ≡ true → C) → (b ≡ true → C) → (a || b) ≡ true → C
either true b C f g e = f refl
either false b C f g e = g e

-- the body of a refusal without a detail, as JSON
pub plain_body : (code : ℕ) → is_plain_refusal code ≡ true → refusal_text (plain code) ≡ refusal_body code
plain_body code = either ((code == 9) || (code == 10) || (code == 11) || (code == 12) || (code == 14) || (code == 15) || (code == 16) || (code == 17) || (code == 18) || (code == 20) || (code == 21)) (code == 22) C
    (either ((code == 9) || (code == 10) || (code == 11) || (code == 12) || (code == 14) || (code == 15) || (code == 16) || (code == 17) || (code == 18) || (code == 20)) (code == 21) C
    (either ((code == 9) || (code == 10) || (code == 11) || (code == 12) || (code == 14) || (code == 15) || (code == 16) || (code == 17) || (code == 18)) (code == 20) C
    (either ((code == 9) || (code == 10) || (code == 11) || (code == 12) || (code == 14) || (code == 15) || (code == 16) || (code == 17)) (code == 18) C
    (either ((code == 9) || (code == 10) || (code == 11) || (code == 12) || (code == 14) || (code == 15) || (code == 16)) (code == 17) C
    (either ((code == 9) || (code == 10) || (code == 11) || (code == 12) || (code == 14) || (code == 15)) (code == 16) C
    (either ((code == 9) || (code == 10) || (code == 11) || (code == 12) || (code == 14)) (code == 15) C
    (either ((code == 9) || (code == 10) || (code == 11) || (code == 12)) (code == 14) C
    (either ((code == 9) || (code == 10) || (code == 11)) (code == 12) C
    (either ((code == 9) || (code == 10)) (code == 11) C
    (either ((code == 9)) (code == 10) C
    (body_of code 9 plain_9)
    (body_of code 10 plain_10))
    (body_of code 11 plain_11))
    (body_of code 12 plain_12))
    (body_of code 14 plain_14))
    (body_of code 15 plain_15))
    (body_of code 16 plain_16))
    (body_of code 17 plain_17))
    (body_of code 18 plain_18))
    (body_of code 20 plain_20))
    (body_of code 21 plain_21))
    (body_of code 22 plain_22)
  where
    C : Type 0
    C = refusal_text (plain code) ≡ refusal_body code

pub plain_reply : (code : ℕ) → is_plain_refusal code ≡ true → refusal_reply (plain code) ≡ refusal code
unfolding refusal
plain_reply code e = ap (reply (refusal_status code)) (plain_body code e)
