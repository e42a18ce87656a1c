use Rattle.std.proofs.Common.{◌≡◌, [], ◌∷◌, ◌++◌, inl, inr, refl, sym, ◌∙◌, subst, arith}
use Rattle.fx_base.proofs.Silences.{later_then}
use Rattle.app_wire.specs.Framing.{asked}
use Rattle.app_wire.specs.ReplyBytes.{refusal}
use Rattle.office.specs.Answers.{Exchange, most_requests}
use Rattle.office.specs.Step.{AnswersRequest}
use Rattle.office.specs.declared.converse.ConvEnd.TheVariants.{Ended, Faulted}
use Rattle.office.proofs.Plays.{breaks_off, breaks_reading, count_answered, count_one, count_saying, ends_one, ends_quiet, ends_saying, fills, goes_first, goes_on, goes_on_before, is_number, length_more, plays_more, three, ticks_more, two}
use Rattle.office.proofs.machine.Office.converse.Goals as goal

pub last_words-requires : goal.last_words-requires
last_words-requires g c = is_number c.in-Refused.code c.in-Refused.ensures.code

pub loop-answered-init : goal.loop-answered-init
loop-answered-init g c = record {
  told = ([], refl, (refl, refl), refl, λ a e. (a, e, rw c.new-framer.ensures (goes_first a)));
  only = λ below. absurd (omega (arith, below));
  single = refl;
  later = omega arith;
  marks = record { faults = omega arith; doubt = omega arith };
  loan = refl;
}

pub loop-answered-preserved : goal.loop-answered-preserved
loop-answered-preserved g c =
    let inv = c.loop-answered.invariant.told in
    let x : Exchange = record { asked = asked c.in-Whole.request; moment = c.now-moment.result; said = c.whole.result.now; marks = c.answer-reply.new.self.marks; state = c.answer-reply.new.self.state } in
    let answered = subst (λ t. AnswersRequest c.loop-answered.self.state c.loop-answered.self.marks x.moment x.asked t x.marks x.state) (sym c.whole.ensures) c.answer-reply.ensures.answered in
    let same = c.in-Ok.ensures.single ∙ c.in-Whole.ensures.single ∙ c.loop-answered.invariant.single in
    record {
      told = (
        inv.0 ++ x ∷ [],
        ticks_more _ inv.0 _ _ x inv.1 c.now-moment.ensures,
        plays_more c.args.self.now.state c.args.self.now.marks inv.0 c.loop-answered.self.state c.loop-answered.self.marks inv.2 x c.answer-reply.ensures.later answered,
        length_more inv.0 x c.loop-answered.answered inv.3,
        three (goes_on inv.0 x c.loop-answered.framer c.next_request.new.framer c.in-Whole.request refl) inv.4 c.in-Whole.ensures.found c.in-Ok.ensures.ok,
      );
      only = λ _. sym same ∙ sym c.one.ensures ∙ c.if-one.false;
      single = same;
      later = omega (arith, c.loop-answered.invariant.later, c.in-Whole.ensures.later, c.in-Ok.ensures.cause.later);
      marks = later_then _ _ _ c.loop-answered.invariant.marks c.answer-reply.ensures.later;
      loan = c.answer-reply.ensures.loan ∙ c.loop-answered.invariant.loan;
    }

pub returns-in-Err-clause-talked : goal.returns-in-Err-clause-talked
returns-in-Err-clause-talked g c =
    let inv = c.loop-answered.invariant.told in
    let x : Exchange = record { asked = asked c.in-Whole.request; moment = c.now-moment.result; said = c.whole.result.now; marks = c.answer-reply.new.self.marks; state = c.answer-reply.new.self.state } in
    let answered = subst (λ t. AnswersRequest c.loop-answered.self.state c.loop-answered.self.marks x.moment x.asked t x.marks x.state) (sym c.whole.ensures) c.answer-reply.ensures.answered in (
      inv.0 ++ x ∷ [],
      ticks_more _ inv.0 _ _ x inv.1 c.now-moment.ensures,
      plays_more c.args.self.now.state c.args.self.now.marks inv.0 c.loop-answered.self.state c.loop-answered.self.marks inv.2 x c.answer-reply.ensures.later answered,
      count_answered _ (g.D.Doors.single c.args.doors.now) c.loop-answered.answered (length_more inv.0 x c.loop-answered.answered inv.3) c.loop-answered-test.true c.loop-answered.invariant.only,
      three (breaks_off (g.D.Doors.single c.args.doors.now) inv.0 x c.loop-answered.framer c.next_request.new.framer c.in-Whole.request refl) inv.4 c.in-Whole.ensures.found c.in-Err.ensures.err,
    )

pub returns-then-one-clause-talked : goal.returns-then-one-clause-talked
returns-then-one-clause-talked g c =
    let inv = c.loop-answered.invariant.told in
    let x : Exchange = record { asked = asked c.in-Whole.request; moment = c.now-moment.result; said = c.whole.result.now; marks = c.answer-reply.new.self.marks; state = c.answer-reply.new.self.state } in
    let answered = subst (λ t. AnswersRequest c.loop-answered.self.state c.loop-answered.self.marks x.moment x.asked t x.marks x.state) (sym c.whole.ensures) c.answer-reply.ensures.answered in
    let single = sym (c.in-Ok.ensures.single ∙ c.in-Whole.ensures.single ∙ c.loop-answered.invariant.single) ∙ sym c.one.ensures ∙ c.if-one.true in (
      inv.0 ++ x ∷ [],
      ticks_more _ inv.0 _ _ x inv.1 c.now-moment.ensures,
      plays_more c.args.self.now.state c.args.self.now.marks inv.0 c.loop-answered.self.state c.loop-answered.self.marks inv.2 x c.answer-reply.ensures.later answered,
      count_one _ (g.D.Doors.single c.args.doors.now) c.loop-answered.answered (length_more inv.0 x c.loop-answered.answered inv.3) single c.loop-answered.invariant.only,
      three (ends_one (g.D.Doors.single c.args.doors.now) inv.0 x c.loop-answered.framer c.next_request.new.framer c.in-Whole.request single refl) inv.4 c.in-Whole.ensures.found c.in-Ok.ensures.ok,
    )

pub returns-in-Refused-clause-talked : goal.returns-in-Refused-clause-talked
returns-in-Refused-clause-talked g c =
    let inv = c.loop-answered.invariant.told in
    let single = g.D.Doors.single c.args.doors.now in
    let on = goes_on_before single inv.0 c.loop-answered.answered inv.3 c.loop-answered.invariant.only in (
      inv.0,
      inv.1,
      inv.2,
      count_saying c.last_words.result single c.loop-answered.answered inv.3 c.last_words.ensures.never_full c.loop-answered-test.true c.loop-answered.invariant.only,
      three (λ a b x d i f w. ends_saying single c.last_words.result inv.0 _ c.loop-answered.framer _ (refusal c.in-Refused.code) on a b x d i f (inr (inl (c.in-Refused.code, f.begins.0, refl))) w)
          inv.4 c.in-Refused.ensures.found c.last_words.ensures.said,
    )

pub returns-in-Memory-clause-talked : goal.returns-in-Memory-clause-talked
returns-in-Memory-clause-talked g c =
    let inv = c.loop-answered.invariant.told in
    let single = g.D.Doors.single c.args.doors.now in
    let on = goes_on_before single inv.0 c.loop-answered.answered inv.3 c.loop-answered.invariant.only in (
      inv.0,
      inv.1,
      inv.2,
      count_saying c.last_words-in-Memory.result single c.loop-answered.answered inv.3 c.last_words-in-Memory.ensures.never_full c.loop-answered-test.true c.loop-answered.invariant.only,
      three (λ a b x d i f w. ends_saying single c.last_words-in-Memory.result inv.0 _ c.loop-answered.framer _ (refusal 26) on a b x d i f (inr (inr (f.begins, refl))) w)
          inv.4 c.in-Memory.ensures.found c.last_words-in-Memory.ensures.said,
    )

pub returns-in-Quiet-clause-talked : goal.returns-in-Quiet-clause-talked
returns-in-Quiet-clause-talked g c =
    let inv = c.loop-answered.invariant.told in
    let single = g.D.Doors.single c.args.doors.now in (
      inv.0,
      inv.1,
      inv.2,
      count_saying Ended single c.loop-answered.answered inv.3 (λ e. cc) c.loop-answered-test.true c.loop-answered.invariant.only,
      two (ends_quiet single inv.0 c.loop-answered.framer c.next_request.new.framer (goes_on_before single inv.0 c.loop-answered.answered inv.3 c.loop-answered.invariant.only))
          inv.4 c.in-Quiet.ensures.found,
    )

pub returns-in-Failed-clause-talked : goal.returns-in-Failed-clause-talked
returns-in-Failed-clause-talked g c =
    let inv = c.loop-answered.invariant.told in
    let single = g.D.Doors.single c.args.doors.now in (
      inv.0,
      inv.1,
      inv.2,
      count_saying Faulted single c.loop-answered.answered inv.3 (λ e. cc) c.loop-answered-test.true c.loop-answered.invariant.only,
      two (breaks_reading single inv.0 c.loop-answered.framer c.next_request.new.framer (goes_on_before single inv.0 c.loop-answered.answered inv.3 c.loop-answered.invariant.only))
          inv.4 c.in-Failed.ensures.found,
    )

pub returns-clause-talked : goal.returns-clause-talked
returns-clause-talked g c =
    let inv = c.loop-answered.invariant.told in
    let most : c.loop-answered.answered ≡ most_requests = omega (arith, c.loop-answered-test.false, c.loop-answered.auto.answered-end) in (
      inv.0,
      inv.1,
      inv.2,
      (inv.3 ∙ most, c.loop-answered.invariant.only (omega (arith, most))),
      λ a e. let it = inv.4 a e in (it.0, it.1, fills (g.D.Doors.single c.args.doors.now) inv.0 c.loop-answered.framer a it.0 it.2),
    )
