-- What doors tell of their conversations, and what each call of them does to it.
use Rattle.std.specs.Prelude.{◌≡◌, ℕ, ◌<◌, Bool, true, false, List, [], ◌∷◌, ◌++◌, length, Option}
use Rattle.std.specs.Prelude.{Some}
use Rattle.fx_base.specs.Faults.{counted}

-- What was done with a conversation that has become the present one: the bytes that were read of
-- it, those that were written to it, and how often it was hung up.
pub record Talk : Type 0 where
  pub taken : List ℕ
  pub written : List ℕ
  pub hang_ups : ℕ

pub record Doorway : Type 0 where
  -- the port that is listened on, if one is
  pub port : Option ℕ
  -- the conversations still to come
  pub coming : List (List ℕ)
  -- what is unread of the present one
  pub unread : List ℕ
  -- what was done with each that has become the present one, the present one last
  pub begun : List Talk

-- nothing was done yet
abbrev pub fresh_talk : Talk
fresh_talk = record { taken = []; written = []; hang_ups = 0 }

-- these bytes more were read
abbrev pub with_taken : List ℕ → Talk → Talk
with_taken bytes t = record t { taken = t.taken ++ bytes }

-- these bytes more were written
abbrev pub with_written : List ℕ → Talk → Talk
with_written bytes t = record t { written = t.written ++ bytes }

-- it was hung up once more
abbrev pub with_hang_up : Talk → Talk
with_hang_up t = record t { hang_ups = counted t.hang_ups }

-- the last of them, changed so
abbrev pub with_last : (Talk → Talk) → List Talk → List Talk
with_last f [] = []
with_last f (t ∷ []) = f t ∷ []
with_last f (t ∷ next ∷ more) = t ∷ with_last f (next ∷ more)

-- this port is listened on
abbrev pub Listens : ℕ → Doorway → Doorway → Type 0
Listens port a b = b ≡ record a { port = Some port }

-- the first that was still to come is now the present one, or none is left
abbrev pub NextComes : Bool → Doorway → Doorway → Type 0
NextComes true a b =
    (first : List ℕ) × (rest : List (List ℕ)) × (a.coming ≡ first ∷ rest)
    × (b ≡ record a { coming = rest; unread = first; begun = a.begun ++ fresh_talk ∷ [] })
NextComes false a b = (a.coming ≡ []) × (b ≡ a)

-- these bytes were read of the present conversation, and nothing else was done
pub record DoorsTake (bytes : List ℕ) (a b : Doorway) : Type 0 where
  pub front : a.unread ≡ bytes ++ b.unread
  pub rest : b ≡ record a { unread = b.unread; begun = with_last (with_taken bytes) a.begun }

-- these bytes were read; none, into some room, only at the end of the input
pub record DoorsRead (bytes : List ℕ) (room : ℕ) (a b : Doorway) : Type 0 where
  pub takes : DoorsTake bytes a b
  pub end : length bytes ≡ 0 → 0 < room → b.unread ≡ []

-- these bytes were written to the present conversation
abbrev pub Writes : List ℕ → Doorway → Doorway → Type 0
Writes bytes a b = b ≡ record a { begun = with_last (with_written bytes) a.begun }

-- a first part of these bytes, and not all of them
pub record IsProperPrefix (part bytes : List ℕ) : Type 0 where
  pub rest : List ℕ
  pub is : bytes ≡ part ++ rest
  pub short : 0 < length rest

-- such a part of these bytes was written
pub record WritesPart (bytes : List ℕ) (a b : Doorway) : Type 0 where
  pub part : List ℕ
  pub cut : IsProperPrefix part bytes
  pub sent : Writes part a b

-- the present conversation is over
abbrev pub Closes : Doorway → Doorway → Type 0
Closes a b = b ≡ record a { unread = []; begun = with_last with_hang_up a.begun }
