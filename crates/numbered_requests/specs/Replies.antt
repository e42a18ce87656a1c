-- Replies, and what they say.
use Rattle.std.specs.Prelude.{◌≡◌, ℕ, ◌==◌, ◌||◌, Bool, List, Option, Some, None, IsTrue, IfSome}
use Rattle.std.specs.List.{AllByRecursion}
use Rattle.app_wire.specs.ReplyBytes.{is_fixed, refusal, reply}
use Rattle.view_text.specs.RefusalText.{refusal_text}
use Rattle.view_text.specs.Refusals.{refusal_status}
use Rattle.view_text.specs.declared.refused.Detail.TheVariants as detail
use Rattle.view_text.specs.declared.refused.Refusal.{Refusal}
use Rattle.session_state.specs.Once.{LastRequest}
use Rattle.numbered_requests.specs.declared.directory.Named.{Named}
use Rattle.numbered_requests.specs.declared.reply.Reply.{Reply}

-- the bytes of a reply: those of the refusal that takes no memory, where it is one
abbrev pub said_of : Option ℕ → List ℕ → List ℕ
said_of None bytes = bytes
said_of (Some code) bytes = refusal code

abbrev pub said : Reply → List ℕ
said r = said_of r.fixed r.bytes.items

-- its refusal is one that takes no memory, and its status is that of its first line
pub record IsReply (r : Reply) : Type 0 where
  pub fixed : IfSome r.fixed (λ code. IsTrue (is_fixed code))
  pub body : List ℕ
  pub whole : said r ≡ reply r.status body

-- a refusal without a detail
abbrev pub plain : ℕ → Refusal
plain code = record { code = code; detail = detail.None }

-- the whole reply of a refusal
abbrev pub refusal_reply : Refusal → List ℕ
refusal_reply r = reply (refusal_status r.code) (refusal_text r)

-- the refusals that have no detail and whose replies take memory
abbrev pub is_plain_refusal : ℕ → Bool
is_plain_refusal code =
    (code == 9) || (code == 10) || (code == 11) || (code == 12) || (code == 14) || (code == 15)
    || (code == 16) || (code == 17)
    || (code == 18) || (code == 20) || (code == 21) || (code == 22)

-- the whole reply of an accepted request
abbrev pub IsAcceptedReply : List ℕ → Type 0
IsAcceptedReply bytes = (body : List ℕ) × (bytes ≡ reply 200 body)

-- what is kept of each desk has such a reply
abbrev pub KeepReplies : List (Named LastRequest) → Type 0
KeepReplies desks = AllByRecursion (λ (n : Named LastRequest). IsAcceptedReply n.it.reply) desks
