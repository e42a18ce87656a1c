-- The next request of a conversation over doors.
use Rattle.std.specs.Prelude.{◌≡◌, ◌⊎◌, ◌<◌, ◌≤◌, ℕ, true, List, [], ◌++◌, length, drop, Option}
use Rattle.std.specs.Prelude.{Some, None, Result, Ok, Err}
use Rattle.fx_number.specs.declared.memory.Memory.{Memory}
use Rattle.app_wire.specs.Doorway.{Doorway, DoorsTake}
use Rattle.app_wire.specs.Framing.{asked, nothing, refused, whole, Framing, IsStillOpen}
use Rattle.app_wire.specs.declared.framer.Fed.{Fed}
use Rattle.app_wire.specs.declared.framer.Fed.TheVariants as fed
use Rattle.app_wire.specs.declared.next.Found.{Found}
use Rattle.app_wire.specs.declared.next.Found.TheVariants as next

-- what an answer of the framer found, if it did
abbrev pub frame_found : Result Fed Memory → Option Found
frame_found (Ok fed.Need) = None
frame_found (Ok (fed.Whole request)) = Some (next.Whole request)
frame_found (Ok (fed.Refused code)) = Some (next.Refused code)
frame_found (Err e) = Some next.Memory

-- what was read is held after what was held
pub record Keeps (held held' : List ℕ) (a b : Doorway) : Type 0 where
  pub read : List ℕ
  pub held_is : held' ≡ held ++ read
  pub takes : DoorsTake read a b

-- nothing was read, or the last read, of at most 512 bytes, was made while no request was whole and
-- none refused
abbrev pub ReadsLittle : List ℕ → List ℕ → Type 0
ReadsLittle held read =
    (read ≡ [])
    ⊎ ((earlier : List ℕ) × (last : List ℕ) × IsStillOpen (held ++ earlier) × (length last ≤ 512)
    × (read ≡ earlier ++ last))

-- What the rest of the conversation, to its end, begins with, where these bytes of it came, and
-- what of them is held then. Memory runs out only where a byte is left.
abbrev pub Begins : Found → List ℕ → List ℕ → List ℕ → Type 0
Begins (next.Whole request) rest came held' =
    (len : ℕ) × Framing rest true (whole (asked request) len) × (len ≤ length came)
    × (held' ≡ drop len came)
Begins (next.Refused code) rest came held' = Framing rest true (refused code) × (held' ≡ came)
Begins next.Quiet rest came held' = Framing rest true nothing × (held' ≡ came)
Begins next.Memory rest came held' = 0 < length rest
Begins next.Failed rest came held' = IsStillOpen came × (held' ≡ came)

-- it was found by reading this, and nothing else was done with the doors
pub record FindsNext (found : Found) (held held' : List ℕ) (a b : Doorway) : Type 0 where
  pub read : List ℕ
  pub takes : DoorsTake read a b
  pub little : ReadsLittle held read
  pub begins : Begins found (held ++ a.unread) (held ++ read) held'

-- a refusal has one of the codes of framing, also where nothing is told
abbrev pub HasCode : Found → Type 0
HasCode (next.Refused code) =
    (code ≡ 1) ⊎ (code ≡ 2) ⊎ (code ≡ 3) ⊎ (code ≡ 4) ⊎ (code ≡ 5) ⊎ (code ≡ 6)
HasCode (next.Whole request) = Unit {0}
HasCode next.Quiet = Unit {0}
HasCode next.Memory = Unit {0}
HasCode next.Failed = Unit {0}
