use Rattle.std.proofs.Common.{arith, inl, inr, refl}
use Rattle.std.proofs.lemmas.Result.{on_ok_weaker}
use Rattle.recalc.proofs.cache.Cache.bring.Goals as goal

pub returns-then-not-is_due-clause-brought : goal.returns-then-not-is_due-clause-brought
returns-then-not-is_due-clause-brought g c = inr (refl, c.is_due.ensures.no c.if-not-is_due.true)

pub returns-in-Some-clause-brought : goal.returns-in-Some-clause-brought
returns-in-Some-clause-brought g c = on_ok_weaker c.renew.result (λ b. inl b) c.renew.ensures.brought

pub returns-in-Some-clause-ticks : goal.returns-in-Some-clause-ticks
returns-in-Some-clause-ticks g c =
    let due = c.is_due.ensures.yes c.if-not-is_due.false in
    on_ok_weaker c.renew.result (λ m. inl (due.0, due.1, m)) c.renew.ensures.ticks

pub returns-then-not-is_due-clause-visits : goal.returns-then-not-is_due-clause-visits
returns-then-not-is_due-clause-visits g c = λ right t told. inr (refl, omega arith)
