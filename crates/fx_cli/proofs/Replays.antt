-- One conversation more.
use Rattle.std.proofs.Common.{◌≡◌, ℕ, ◌+◌, ◌<◌, Bool, true, List, [], ◌∷◌, ◌++◌, Option, Some, length, refl, ap, sym, ◌∙◌, subst, append_assoc}
use Rattle.std.proofs.lemmas.List.{append-nil, length-append}
use Rattle.fx_base.specs.Telling.{Tells}
use Rattle.app_wire.specs.Doorway.{Closes, NextComes, Doorway, fresh_talk, with_hang_up, with_last}
use Rattle.app_wire.specs.Moments.{Ticks}
use Rattle.app_wire.proofs.Doorways.{last_at_end}
use Rattle.office.specs.Answers.{Converses, moments_of, with_bytes}
use Rattle.office.proofs.Plays.{two}
use Rattle.office.specs.declared.converse.ConvEnd.{ConvEnd}
use Rattle.fx_cli.specs.Conversations.{Conversation, ConversationEndsIn, GoesOnAfter, HeldInTurn, HoldsNext, IsHeld, LeavesNone, OfficeAt, Replayed, Sends, SendsOne, ServiceAt, all_moments}
use Rattle.fx_cli.specs.declared.replay.ReplayEnd.{ReplayEnd}
use Rattle.fx_cli.specs.declared.replay.ReplayEnd.TheVariants.{Done, Fault, Full}

-- moments, and then more
pub ticks_join : (old : Option (List ℕ)) (moments : List ℕ) (mid : Option (List ℕ)) (more : List ℕ) (new : Option (List ℕ))
    → Ticks old moments mid → Ticks mid more new → Ticks old (moments ++ more) new
ticks_join old [] mid more new h k = subst (λ o. Ticks o more new) h k
ticks_join old (x ∷ xs) mid more new h k = (h.0, h.1, ticks_join h.0 xs mid more new h.2 k)

moments_more : (cs : List Conversation) (c : Conversation) → all_moments (cs ++ c ∷ []) ≡ all_moments cs ++ moments_of c.exchanges
moments_more [] c = append-nil (moments_of c.exchanges)
moments_more (d ∷ ds) c = ap (λ ms. moments_of d.exchanges ++ ms) (moments_more ds c) ∙ sym (append_assoc (moments_of d.exchanges) (all_moments ds) (moments_of c.exchanges))

pub ticks_more : (old : Option (List ℕ)) (cs : List Conversation) (mid : Option (List ℕ)) (c : Conversation) (new : Option (List ℕ))
    → Ticks old (all_moments cs) mid → Ticks mid (moments_of c.exchanges) new → Ticks old (all_moments (cs ++ c ∷ [])) new
ticks_more old cs mid c new h k = subst (λ ms. Ticks old ms new) (sym (moments_more cs c)) (ticks_join old (all_moments cs) mid (moments_of c.exchanges) new h k)

-- a conversation that came, was talked to, and was hung up
pub sends_one : (one : Bool) (c : Conversation) (w x y z : Doorway) → NextComes true w x → Converses one c.end c.exchanges x y → Closes y z → SendsOne one c w z
sends_one one c w x y z came t closed =
    let whole : z ≡ record x { unread = []; begun = with_last with_hang_up (with_last (with_bytes t.taken t.written) x.begun) } =
    closed ∙ ap (λ (d : Doorway). record d { unread = []; begun = with_last with_hang_up d.begun }) t.talked.is in
    record {
      bytes = x.unread;
      taken = t.taken;
      written = t.written;
      talk = t.talk;
      came = came.2 ∙ ap (λ (d : Doorway). d.unread ∷ d.coming) (sym came.3) ∙ ap (λ (d : Doorway). x.unread ∷ d.coming) (sym whole);
      begun = ap (λ (d : Doorway). d.begun) whole
          ∙ ap (λ (d : Doorway). with_last with_hang_up (with_last (with_bytes t.taken t.written) d.begun)) came.3
          ∙ ap (with_last with_hang_up) (last_at_end (with_bytes t.taken t.written) w.begun fresh_talk)
          ∙ last_at_end with_hang_up w.begun (with_bytes t.taken t.written fresh_talk);
      unread = ap (λ (d : Doorway). d.unread) whole;
      port = ap (λ (d : Doorway). d.port) whole ∙ ap (λ (d : Doorway). d.port) came.3;
    }

pub sends_more : (one : Bool) (cs : List Conversation) (c : Conversation) (x y z : Doorway) → Sends one cs x y → SendsOne one c y z → Sends one (cs ++ c ∷ []) x z
sends_more one [] c x y z h k = (z, subst (λ d. SendsOne one c d z) h k, refl)
sends_more one (d ∷ ds) c x y z h k = (h.0, h.1, sends_more one ds c h.0 y z h.2 k)

pub held_more : (one : Bool) (old : OfficeAt) (count : ℕ) (cs : List Conversation) (mid : OfficeAt) (between : ℕ) → HeldInTurn one old count cs mid between
    → (c : Conversation) → IsHeld one mid between c → GoesOnAfter one c.end → HeldInTurn one old count (cs ++ c ∷ []) c.office c.after
held_more one old count [] mid between h c k on = (subst (λ n. IsHeld one old n c) h.1 (subst (λ s. IsHeld one s between c) h.0 k), on, (refl, refl))
held_more one old count (d ∷ ds) mid between h c k on = (h.0, h.1, held_more one d.office d.after ds mid between h.2 c k on)

leaves_any : (stop : ReplayEnd) (one : Bool) (end : ConvEnd) → ConversationEndsIn stop one end → (b : Doorway) → LeavesNone stop b
leaves_any Done one end is b = absurd is
leaves_any Fault one end is b = tt
leaves_any Full one end is b = tt

-- a conversation that ends a replay
pub replay_stops : (most : ℕ) (at_most : ReplayEnd) (old mid new : ServiceAt) (cs : List Conversation) (end : ConvEnd) (stop : ReplayEnd) → mid.one ≡ old.one → length cs < most
    → Ticks old.clock (all_moments cs) mid.clock → HeldInTurn old.one old.office old.faults cs mid.office mid.faults → Tells (Sends old.one cs) old.doors mid.doors
    → HoldsNext end mid new → ConversationEndsIn stop old.one end → Replayed most at_most old new stop
replay_stops most at_most old mid new cs end stop same few ticks is_held sends h is = record {
  held = cs;
  last = Some h.conversation;
  mid = mid.office;
  between = mid.faults;
  is_held = is_held;
  ends = (few, subst (λ o. IsHeld o mid.office mid.faults h.conversation) same h.held, subst (ConversationEndsIn stop old.one) (sym h.ended) is, sym h.counted, sym h.left);
  ticks = ticks_more old.clock cs mid.clock h.conversation new.clock ticks h.ticks;
  told = two (λ x y z s k. (sends_more old.one cs h.conversation x y z s k, λ _. leaves_any stop old.one end is z)) sends
      (subst (λ o. Tells (SendsOne o h.conversation) mid.doors new.doors) same h.told);
}

-- one after which it goes on
pub held_on : (old mid new : ServiceAt) (cs : List Conversation) (n : ℕ) (end : ConvEnd) → mid.one ≡ old.one
    → Ticks old.clock (all_moments cs) mid.clock → HeldInTurn old.one old.office old.faults cs mid.office mid.faults → length cs ≡ n → Tells (Sends old.one cs) old.doors mid.doors
    → HoldsNext end mid new → GoesOnAfter old.one end
    → (cs' : List Conversation) × Ticks old.clock (all_moments cs') new.clock × HeldInTurn old.one old.office old.faults cs' new.office new.faults × (length cs' ≡ n + 1)
    × Tells (Sends old.one cs') old.doors new.doors
held_on old mid new cs n end same ticks is_held e sends h on = (
  cs ++ h.conversation ∷ [],
  ticks_more old.clock cs mid.clock h.conversation new.clock ticks h.ticks,
  subst (λ k. HeldInTurn old.one old.office old.faults (cs ++ h.conversation ∷ []) new.office k) h.counted
      (subst (λ s. HeldInTurn old.one old.office old.faults (cs ++ h.conversation ∷ []) s h.conversation.after) h.left
      (held_more old.one old.office old.faults cs mid.office mid.faults is_held h.conversation
      (subst (λ o. IsHeld o mid.office mid.faults h.conversation) same h.held) (subst (GoesOnAfter old.one) (sym h.ended) on))),
  length-append cs (h.conversation ∷ []) ∙ ap (λ k. k + 1) e,
  two (sends_more old.one cs h.conversation) sends (subst (λ o. Tells (SendsOne o h.conversation) mid.doors new.doors) same h.told),
)
