-- What a service says of the doors by how it ends.
use Rattle.std.proofs.Common.{◌≡◌, inl, inr, ℕ, ◌≤◌, Bool, List, [], ◌∷◌, length, Option, Some, None, ap, sym, ◌∙◌, subst, arith}
use Rattle.std.specs.Prelude.{IfSome}
use Rattle.fx_base.specs.Faults.{Rose}
use Rattle.fx_base.specs.Telling.{Tells}
use Rattle.fx_base.proofs.Silences.{rose_before}
use Rattle.app_wire.specs.Doorway.{Doorway}
use Rattle.office.proofs.Plays.{two}
use Rattle.fx_cli.specs.Conversations.{Conversation, HeldInTurn, ListensOn, OfficeAt, ReplayEnds, Sends, Serves, ServiceAt, and_last, end_at_most}
use Rattle.fx_cli.specs.declared.replay.ReplayEnd.{ReplayEnd}
use Rattle.fx_cli.specs.declared.replay.ReplayEnd.TheVariants.{Done, Fault, Full}

-- no count falls in conversations that were held
held_later : (one : Bool) (old : OfficeAt) (count : ℕ) (cs : List Conversation) (new : OfficeAt) (now : ℕ) → HeldInTurn one old count cs new now → count ≤ now
held_later one old count [] new now h = omega (arith, h.1)
held_later one old count (c ∷ cs) new now h = omega (arith, h.0.since, h.0.later, held_later one c.office c.after cs new now h.2)

-- nor in listening
listens_later : (port : Option ℕ) (old new : ServiceAt) → ListensOn port old new → old.faults ≤ new.faults
listens_later None old new h = omega (arith, ap (λ (s : ServiceAt). s.faults) h)
listens_later (Some port) old new h = h.0

-- taking the most conversations is no fault
most_is_no_fault : (port : Option ℕ) → Fault ≡ end_at_most port → ⊥
most_is_no_fault None e = let same : Fault ≡ Full = e in cc
most_is_no_fault (Some port) e = let same : Fault ≡ Done = e in cc

ends_rose : (port : Option ℕ) (most : ℕ) (one : Bool) (mid new : OfficeAt) (count held : ℕ) (last : Option Conversation) (now : ℕ)
    → ReplayEnds most (end_at_most port) Fault one mid count held last new now → Rose count now
ends_rose port most one mid new count held None now (inl h, same) = absurd (most_is_no_fault port h.1)
ends_rose port most one mid new count held None now (inr h, same) = h.1
ends_rose port most one mid new count held (Some c) now h =
    subst (Rose count) (sym h.3) (rose_before count c.before c.after h.1.since (h.1.cause h.2.0))

-- a service that ends by a fault counted it
pub service_rose : (port : Option ℕ) (most : ℕ) (old new : ServiceAt) → Serves port most old new Fault → Rose old.faults new.faults
service_rose port most old new (inr deaf) = deaf.rose
service_rose port most old new (inl heard) =
    let between = heard.between in
    let replayed = heard.replayed in
    rose_before old.faults between.faults new.faults (listens_later port old between heard.listens)
    (rose_before between.faults replayed.between new.faults (held_later between.one between.office between.faults replayed.held replayed.mid replayed.between replayed.is_held)
    (ends_rose port most between.one replayed.mid new.office replayed.between (length replayed.held) replayed.last new.faults replayed.ends))

-- conversations leave the port
sends_port : (one : Bool) (cs : List Conversation) (a b : Doorway) → Sends one cs a b → b.port ≡ a.port
sends_port one [] a b h = ap (λ (d : Doorway). d.port) h
sends_port one (c ∷ cs) a b h = sends_port one cs h.0 b h.2 ∙ h.1.port

-- a service that was not cut off listens on its port still
pub still_listens : (port : Option ℕ) (most : ℕ) (old new : ServiceAt) (end : ReplayEnd) → (end ≡ Fault → ⊥) → Serves port most old new end
    → IfSome port (λ p. Tells (λ (a b : Doorway). b.port ≡ Some p) old.doors new.doors)
still_listens None most old new end on h = tt
still_listens (Some port) most old new end on (inr deaf) = absurd (on deaf.ended)
still_listens (Some port) most old new end on (inl heard) =
    let held = and_last heard.replayed.held heard.replayed.last in
    two (λ x y z s k. sends_port heard.between.one held y z k.0 ∙ ap (λ (d : Doorway). d.port) s) heard.listens.1 heard.replayed.told
