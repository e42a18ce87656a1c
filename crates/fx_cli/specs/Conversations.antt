-- Lists of conversations, and how a replay of them ends.
use Rattle.std.specs.Prelude.{◌≡◌, ◌⊎◌, ℕ, ◌<◌, ◌≤◌, Bool, true, false, List, [], ◌∷◌, ◌++◌, length}
use Rattle.std.specs.Prelude.{flat_map, Option, Some, None, IsSome}
use Rattle.fx_base.specs.Faults.{Rose}
use Rattle.fx_base.specs.Silence.{Marks}
use Rattle.fx_base.specs.Telling.{Stays, Tells}
use Rattle.app_wire.specs.Doorway.{Doorway, Listens}
use Rattle.app_wire.specs.Moments.{Ticks}
use Rattle.app_wire.specs.declared.clock.Clock as clock
use Rattle.app_wire.specs.declared.doors.Doors as doors
use Rattle.office.specs.Answers.{Exchange, IsAnswerCount, IsTalk, Plays, moments_of}
use Rattle.office.specs.State.{OfficeView, OfficeState}
use Rattle.office.specs.declared.converse.ConvEnd.{ConvEnd}
use Rattle.office.specs.declared.converse.ConvEnd.TheVariants as conv
use Rattle.fx_cli.specs.declared.replay.ReplayEnd.{ReplayEnd}
use Rattle.fx_cli.specs.declared.replay.ReplayEnd.TheVariants.{Done, Fault, Full}

-- How an office stands: its state, and the marks of its keeper.
pub record OfficeAt : Type 0 where
  pub state : OfficeState
  pub marks : Marks

-- how an office that is seen so stands
abbrev pub office_at : OfficeView → OfficeAt
office_at office = record { state = office.state; marks = office.marks }

-- How a service stands: its office; whether each of its conversations has one reply; the faults
-- that its doors counted; and what clock and doors tell.
pub record ServiceAt : Type 0 where
  pub office : OfficeAt
  pub one : Bool
  pub faults : ℕ
  pub clock : Option (List ℕ)
  pub doors : Option Doorway

-- how one stands with this office, these doors and this clock
abbrev pub service_at : {D C : Type 0} → doors.Ghosts D → clock.Ghosts C → OfficeAt → D → C
    → ServiceAt
service_at d c office doors clock = record {
  office = office;
  one = d.single doors;
  faults = d.faults doors;
  clock = c.told clock;
  doors = d.told doors;
}

-- What was answered in a conversation, how it ended, how the office stands after it, and the doors'
-- count of faults as it came and as it was over.
pub record Conversation : Type 0 where
  pub exchanges : List Exchange
  pub end : ConvEnd
  pub office : OfficeAt
  pub before : ℕ
  pub after : ℕ

-- From this office and this count it was held, over doors of one reply or of more. It broke off
-- only by a fault that was counted in it.
pub record IsHeld (one : Bool) (old : OfficeAt) (count : ℕ) (c : Conversation) : Type 0 where
  pub plays : Plays old.state old.marks c.exchanges c.office.state c.office.marks
  pub few : IsAnswerCount c.end one (length c.exchanges)
  pub since : count ≤ c.before
  pub later : c.before ≤ c.after
  pub cause : c.end ≡ conv.Faulted → Rose c.before c.after

-- a replay goes on after such an end: one that broke off ends it but where each conversation has
-- one reply
abbrev pub GoesOnAfter : Bool → ConvEnd → Type 0
GoesOnAfter one conv.Ended = Unit {0}
GoesOnAfter one conv.Faulted = one ≡ true
GoesOnAfter one conv.Full = ⊥

-- They were held one after another, each from where the one before left the office and the count,
-- and after each the replay went on.
abbrev pub HeldInTurn : Bool → OfficeAt → ℕ → List Conversation → OfficeAt → ℕ → Type 0
HeldInTurn one old count [] new now = (new ≡ old) × (now ≡ count)
HeldInTurn one old count (c ∷ cs) new now = IsHeld one old count c × GoesOnAfter one c.end
    × HeldInTurn one c.office c.after cs new now

-- the moments of all their requests
abbrev pub all_moments : List Conversation → List ℕ
all_moments cs = flat_map (λ c. moments_of c.exchanges) cs

-- The doors took the next conversation, of these bytes, and hung it up once. Nothing else that is
-- told changed.
pub record SendsOne (one : Bool) (c : Conversation) (a b : Doorway) : Type 0 where
  pub bytes : List ℕ
  pub taken : List ℕ
  pub written : List ℕ
  pub talk : IsTalk one c.end c.exchanges bytes taken written
  pub came : a.coming ≡ bytes ∷ b.coming
  pub begun : b.begun ≡ a.begun ++ record { taken = taken; written = written; hang_ups = 1 } ∷ []
  pub unread : b.unread ≡ []
  pub port : b.port ≡ a.port

-- these, one after another
abbrev pub Sends : Bool → List Conversation → Doorway → Doorway → Type 0
Sends one [] a b = b ≡ a
Sends one (c ∷ cs) a b = (between : Doorway) × SendsOne one c a between × Sends one cs between b

-- A replay ended so before it took the most conversations: none was left, or the doors failed in
-- going to the next one.
abbrev pub EndsEarly : ReplayEnd → ℕ → ℕ → Type 0
EndsEarly Done count now = count ≤ now
EndsEarly Fault count now = Rose count now
EndsEarly Full count now = ⊥

-- It ended so behind so many conversations: as is said where it took the most, or before that.
abbrev pub EndsBetween : ℕ → ReplayEnd → ReplayEnd → ℕ → ℕ → ℕ → Type 0
EndsBetween most at_most end held count now = ((held ≡ most) × (end ≡ at_most) × (now ≡ count))
    ⊎ ((held < most) × EndsEarly end count now)

-- It ended so by a conversation: one that broke off, where conversations have more than one reply,
-- or one of the most requests.
abbrev pub ConversationEndsIn : ReplayEnd → Bool → ConvEnd → Type 0
ConversationEndsIn Done one end = ⊥
ConversationEndsIn Fault one end = (end ≡ conv.Faulted) × (one ≡ false)
ConversationEndsIn Full one end = end ≡ conv.Full

-- it ended so, with a last conversation that ended it, or without one
abbrev pub ReplayEnds : ℕ → ReplayEnd → ReplayEnd → Bool → OfficeAt → ℕ → ℕ → Option Conversation
    → OfficeAt → ℕ → Type 0
ReplayEnds most at_most end one mid count held None new now
    = EndsBetween most at_most end held count now × (new ≡ mid)
ReplayEnds most at_most end one mid count held (Some c) new now =
    (held < most) × IsHeld one mid count c × ConversationEndsIn end one c.end × (now ≡ c.after)
    × (new ≡ c.office)

-- with the last one, if there is one
abbrev pub and_last : List Conversation → Option Conversation → List Conversation
and_last held None = held
and_last held (Some c) = held ++ c ∷ []

-- none is left to come
abbrev pub LeavesNone : ReplayEnd → Doorway → Type 0
LeavesNone Done b = b.coming ≡ []
LeavesNone Fault b = Unit {0}
LeavesNone Full b = Unit {0}

-- A replay of at most so many conversations ended so, which is said where it took the most: these
-- conversations were held, with the moments that the clock gave.
pub record Replayed (most : ℕ) (at_most : ReplayEnd) (old new : ServiceAt) (end : ReplayEnd) :
    Type 0 where
  pub held : List Conversation
  pub last : Option Conversation
  pub mid : OfficeAt
  pub between : ℕ
  pub is_held : HeldInTurn old.one old.office old.faults held mid between
  pub ends : ReplayEnds most at_most end old.one mid between (length held) last new.office
      new.faults
  pub ticks : Ticks old.clock (all_moments (and_last held last)) new.clock
  pub told : Tells (λ a b. Sends old.one (and_last held last) a b
      × (length held < most → LeavesNone end b)) old.doors new.doors

-- the next conversation was held, and ended so
pub record HoldsNext (end : ConvEnd) (old new : ServiceAt) : Type 0 where
  pub conversation : Conversation
  pub ended : conversation.end ≡ end
  pub left : conversation.office ≡ new.office
  pub counted : conversation.after ≡ new.faults
  pub held : IsHeld old.one old.office old.faults conversation
  pub ticks : Ticks old.clock (moments_of conversation.exchanges) new.clock
  pub told : Tells (SendsOne old.one conversation) old.doors new.doors

-- how a conversation that ended so ends a replay, if it does
abbrev pub StopsAt : ConvEnd → Bool → Option ReplayEnd → Type 0
StopsAt end one None = GoesOnAfter one end
StopsAt end one (Some stop) = ConversationEndsIn stop one end

-- what is said where the most conversations were taken: a replay came to its limit, and who listens
-- on a port is done
abbrev pub end_at_most : Option ℕ → ReplayEnd
end_at_most None = Full
end_at_most (Some port) = Done

-- The doors listened on the port, if there is one, and only then may a fault have been counted.
abbrev pub ListensOn : Option ℕ → ServiceAt → ServiceAt → Type 0
ListensOn None old new = new ≡ old
ListensOn (Some port) old new = (old.faults ≤ new.faults)
    × Tells (Listens port) old.doors new.doors
    × (new.office ≡ old.office) × (new.clock ≡ old.clock) × (new.one ≡ old.one)

-- The doors listened on the port, if there is one, and then at most so many conversations were
-- held.
pub record ListensAndReplays (port : Option ℕ) (most : ℕ) (old new : ServiceAt) (end : ReplayEnd) :
    Type 0 where
  pub between : ServiceAt
  pub listens : ListensOn port old between
  pub replayed : Replayed most (end_at_most port) between new end

-- The doors couldn't listen on the port: a fault was counted, and nothing else happened.
pub record IsDeaf (port : Option ℕ) (old new : ServiceAt) (end : ReplayEnd) : Type 0 where
  pub has_port : IsSome port
  pub ended : end ≡ Fault
  pub rose : Rose old.faults new.faults
  pub office_stays : new.office ≡ old.office
  pub clock_stays : new.clock ≡ old.clock
  pub doors_stay : Tells Stays old.doors new.doors

-- An app was served on this port, or on none, for at most so many conversations, and that ended so.
abbrev pub Serves : Option ℕ → ℕ → ServiceAt → ServiceAt → ReplayEnd → Type 0
Serves port most old new end =
    ListensAndReplays port most old new end ⊎ IsDeaf port old new end
