-- A conversation of no bytes.
use Rattle.std.proofs.Common.{◌≡◌, ℕ, inl, inr, Bool, true, false, List, [], ◌∷◌, length, refl, ap, ◌∙◌, subst, arith}
use Rattle.std.proofs.lemmas.List.{length-append}
use Rattle.fx_base.specs.Silence.{Marks}
use Rattle.app_wire.specs.Doorway.{IsProperPrefix}
use Rattle.app_wire.specs.Framing.{IsRequestBegun, Refuses}
use Rattle.app_wire.proofs.Blanks.{front_byte}
use Rattle.office.specs.Answers.{EndsSo, Exchange, Frames, IsConversationOver, IsSpent, IsTalk, Plays}
use Rattle.office.specs.State.{OfficeState}
use Rattle.office.specs.declared.converse.ConvEnd.{ConvEnd}
use Rattle.office.specs.declared.converse.ConvEnd.TheVariants.{Ended, Faulted, Full}

-- no request of no bytes
unbegun : IsRequestBegun [] → ⊥
unbegun (inl h) = omega (arith, h.some)
unbegun (inr h) = omega (arith, front_byte [] h.head.start h.head.front)

-- and no refusal
unrefused : (code : ℕ) → Refuses [] true code → ⊥
unrefused code (inl h) = omega (arith, front_byte [] h.1.len h.1.front)
unrefused code (inr (inl h)) = omega (arith, h.1.long)
unrefused code (inr (inr (inl h))) = omega (arith, front_byte [] h.1.start h.1.front)
unrefused code (inr (inr (inr (inl h)))) = omega (arith, front_byte [] h.1.start h.1.front)
unrefused code (inr (inr (inr (inr (inl h))))) = omega (arith, front_byte [] h.1.start h.1.front)
unrefused code (inr (inr (inr (inr (inr h))))) = unbegun h.2

-- no request begins there
unanswered : (xs : List Exchange) (left : List ℕ) → Frames [] xs left → (xs ≡ []) × (left ≡ [])
unanswered [] left h = (refl, h)
unanswered (x ∷ xs) left h = absurd (omega (arith, front_byte [] h.1.head.start h.1.head.front))

-- nothing is said
unsaid : (words : List ℕ) → IsSpent [] words → words ≡ []
unsaid words (inl h) = h.1
unsaid words (inr (inl h)) = absurd (unrefused h.0 h.1)
unsaid words (inr (inr h)) = absurd (omega (arith, h.0))

no_last : (one : Bool) (unread words : List ℕ) → IsConversationOver one [] [] unread words → words ≡ []
no_last true unread words h = unsaid words h
no_last false unread words h = unsaid words h

-- nothing breaks off there
uncut : (part : List ℕ) → IsProperPrefix part [] → ⊥
uncut part h = omega (arith, h.short, ap length h.is, length-append part h.rest)

ends_silent : (end : ConvEnd) (one : Bool) (unread written : List ℕ) → EndsSo end one [] [] unread written → written ≡ []
ends_silent Ended one unread written h = h.2 ∙ no_last one unread h.0 h.1
ends_silent Full one unread written h = h.0
ends_silent Faulted one unread written (inl h) = h.written_is
ends_silent Faulted one unread written (inr (inl h)) = absurd (omega (arith, ap length h.xs_are, length-append h.front (h.last ∷ [])))
ends_silent Faulted one unread written (inr (inr h)) = absurd (uncut h.part (subst (IsProperPrefix h.part) (unsaid h.words h.spent) h.cut))

plays_none : (old new : OfficeState) (before now : Marks) (xs : List Exchange) → xs ≡ [] → Plays old before xs new now → (new ≡ old) × (now ≡ before)
plays_none old new before now xs none plays = subst (λ ys. Plays old before ys new now) none plays

pub silent : (one : Bool) (end : ConvEnd) (old new : OfficeState) (before now : Marks) (xs : List Exchange) (taken written : List ℕ)
    → Plays old before xs new now → IsTalk one end xs [] taken written → (written ≡ []) × (xs ≡ []) × (new ≡ old) × (now ≡ before)
silent one end old new before now xs taken written plays talk =
    let none = unanswered xs talk.left talk.frames in
    let same = plays_none old new before now xs none.0 plays in (
      ends_silent end one talk.unread written (subst (λ ys. EndsSo end one ys [] talk.unread written) none.0 (subst (λ l. EndsSo end one xs l talk.unread written) none.1 talk.ends)),
      none.0,
      same.0,
      same.1,
    )
