-- Whole conversations: which bytes are answered, and how the office goes on.
use Rattle.std.specs.Prelude.{◌≡◌, ◌⊎◌, ℕ, ◌<◌, ◌≤◌, Bool, true, false, List, [], ◌∷◌, ◌++◌, length}
use Rattle.std.specs.Prelude.{drop, map, flat_map}
use Rattle.fx_base.specs.Silence.{IsLater, Marks}
use Rattle.app_wire.specs.Doorway.{Doorway, IsProperPrefix, Talk, Writes, WritesPart, with_last}
use Rattle.app_wire.specs.Doorway.{with_taken, with_written}
use Rattle.app_wire.specs.Framing.{Asked, Framing, IsStillOpen, nothing, refused, whole}
use Rattle.app_wire.specs.ReplyBytes.{refusal}
use Rattle.office.specs.State.{OfficeState}
use Rattle.office.specs.Step.{AnswersRequest}
use Rattle.office.specs.declared.converse.ConvEnd.{ConvEnd}
use Rattle.office.specs.declared.converse.ConvEnd.TheVariants.{Ended, Faulted, Full}

-- a request and the moment at which it was whole, with its reply, and the keeper's marks and the
-- office after it
pub record Exchange : Type 0 where
  pub asked : Asked
  pub moment : ℕ
  pub said : List ℕ
  pub marks : Marks
  pub state : OfficeState

-- their moments, and all of their replies
abbrev pub moments_of : List Exchange → List ℕ
moments_of xs = map (λ x. x.moment) xs

abbrev pub said_in : List Exchange → List ℕ
said_in xs = flat_map (λ x. x.said) xs

-- From old the office answers these, one after another, and is new then. The keeper's marks never
-- fall: the first are those at entry, the last those at exit.
abbrev pub Plays : OfficeState → Marks → List Exchange → OfficeState → Marks → Type 0
Plays old before [] new now = (new ≡ old) × (now ≡ before)
Plays old before (x ∷ xs) new now =
    IsLater before x.marks × AnswersRequest old before x.moment x.asked x.said x.marks x.state
    × Plays x.state x.marks xs new now

-- The bytes begin with the requests of these, one after another, and these bytes are left.
abbrev pub Frames : List ℕ → List Exchange → List ℕ → Type 0
Frames bytes [] left = left ≡ bytes
Frames bytes (x ∷ xs) left = (len : ℕ) × Framing bytes true (whole x.asked len)
    × Frames (drop len bytes) xs left

-- the most requests that are answered in one conversation
abbrev pub most_requests : ℕ
most_requests = 1000000

-- so many are answered in a conversation that ends so, where doors take one reply, or go on
abbrev pub IsAnswerCount : ConvEnd → Bool → ℕ → Type 0
IsAnswerCount Ended one count = (count < most_requests) × (one ≡ true → count ≤ 1)
IsAnswerCount Faulted one count = (count ≤ most_requests) × (one ≡ true → count ≤ 1)
IsAnswerCount Full one count = (count ≡ most_requests) × (one ≡ false)

-- the doors take a request after these: all but those that take one reply, which was given
abbrev pub GoesOn : Bool → List Exchange → Type 0
GoesOn true (x ∷ xs) = ⊥
GoesOn true [] = Unit {0}
GoesOn false xs = Unit {0}

-- the most bytes that one read takes
abbrev pub most_read : ℕ
most_read = 512

-- Of what follows the last request that was answered, no more was taken than one read takes: while
-- a request was whole, nothing was read.
abbrev pub TakesLittle : List ℕ → List ℕ → Type 0
TakesLittle left unread = (held : List ℕ) × (left ≡ held ++ unread) × (length held ≤ most_read)

-- What is left ends a conversation with these words: no byte is left, or it is refused, or memory
-- ran out in finding a request in it.
abbrev pub IsSpent : List ℕ → List ℕ → Type 0
IsSpent left words =
    (Framing left true nothing × (words ≡ []))
    ⊎ ((code : ℕ) × Framing left true (refused code) × (words ≡ refusal code))
    ⊎ ((0 < length left) × (words ≡ refusal 26))

-- The conversation is over, with these last words. Doors that take one reply take no word after it.
abbrev pub IsConversationOver : Bool → List Exchange → List ℕ → List ℕ → List ℕ → Type 0
IsConversationOver true (x ∷ xs) left unread words = (words ≡ []) × TakesLittle left unread
IsConversationOver true [] left unread words = IsSpent left words
IsConversationOver false xs left unread words = IsSpent left words

-- Doors failed in a read, with all replies written. What was taken and not answered begins no
-- request, or none that is whole.
pub record IsCutInRead (one : Bool) (xs : List Exchange) (left unread written : List ℕ) :
    Type 0 where
  pub on : GoesOn one xs
  pub held : List ℕ
  pub left_is : left ≡ held ++ unread
  pub begun : IsStillOpen held
  pub written_is : written ≡ said_in xs

-- they failed in a reply: all that came before it were written
pub record IsCutInReply (xs : List Exchange) (left unread written : List ℕ) : Type 0 where
  pub front : List Exchange
  pub last : Exchange
  pub xs_are : xs ≡ front ++ last ∷ []
  pub part : List ℕ
  pub cut : IsProperPrefix part last.said
  pub written_is : written ≡ said_in front ++ part
  pub little : TakesLittle left unread

-- they failed in the last words
pub record IsCutInWords (one : Bool) (xs : List Exchange) (left written : List ℕ) : Type 0 where
  pub on : GoesOn one xs
  pub words : List ℕ
  pub spent : IsSpent left words
  pub part : List ℕ
  pub cut : IsProperPrefix part words
  pub written_is : written ≡ said_in xs ++ part

-- how a conversation ended so, of which this is left behind the requests that were answered
abbrev pub EndsSo : ConvEnd → Bool → List Exchange → List ℕ → List ℕ → List ℕ → Type 0
EndsSo Ended one xs left unread written = (words : List ℕ)
    × IsConversationOver one xs left unread words × (written ≡ said_in xs ++ words)
EndsSo Full one xs left unread written = (written ≡ said_in xs) × TakesLittle left unread
EndsSo Faulted one xs left unread written =
    IsCutInRead one xs left unread written ⊎ IsCutInReply xs left unread written
    ⊎ IsCutInWords one xs left written

-- In a conversation of these bytes these requests were answered, it ended so, and this was taken of
-- it and written to it.
pub record IsTalk (one : Bool) (end : ConvEnd) (xs : List Exchange) (bytes taken written : List ℕ) :
    Type 0 where
  pub unread : List ℕ
  pub bytes_are : bytes ≡ taken ++ unread
  pub left : List ℕ
  pub frames : Frames bytes xs left
  pub ends : EndsSo end one xs left unread written

-- this more was read and written
abbrev pub with_bytes : List ℕ → List ℕ → Talk → Talk
with_bytes taken written t = with_written written (with_taken taken t)

-- this was read of the present conversation and written to it, and nothing else was done
pub record Talked (taken written : List ℕ) (a b : Doorway) : Type 0 where
  pub front : a.unread ≡ taken ++ b.unread
  pub is : b ≡ record a { unread = b.unread; begun = with_last (with_bytes taken written) a.begun }

-- so much of the present conversation
pub record Converses (one : Bool) (end : ConvEnd) (xs : List Exchange) (a b : Doorway) :
    Type 0 where
  pub taken : List ℕ
  pub written : List ℕ
  pub talk : IsTalk one end xs a.unread taken written
  pub talked : Talked taken written a b

-- the last words were written, or a first part of them where the conversation ended by a fault
abbrev pub SaysLastWords : ConvEnd → List ℕ → Doorway → Doorway → Type 0
SaysLastWords Ended words a b = Writes words a b
SaysLastWords Faulted words a b = WritesPart words a b
SaysLastWords Full words a b = ⊥

-- a conversation of no bytes gets none, and changes nothing, also where the doors fail in it
abbrev pub IsSilent : Type 0
IsSilent =
    (one : Bool) (end : ConvEnd) (old new : OfficeState) (before now : Marks) (xs : List Exchange)
    (taken written : List ℕ)
    → Plays old before xs new now → IsTalk one end xs [] taken written
    → (written ≡ []) × (xs ≡ []) × (new ≡ old) × (now ≡ before)
