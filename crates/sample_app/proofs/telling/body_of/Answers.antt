use Rattle.std.proofs.Common.{◌≡◌, ◌<◌, ◌+◌, ◌∙◌, ℕ, List, drop, length, true, false, sym, subst, arith}
use Rattle.sample_app.proofs.Bodies.{body_here, body_past, is_here, rest}
use Rattle.sample_app.proofs.telling.body_of.Goals as goal

pub returns-then-starts_with : goal.returns-then-starts_with
returns-then-starts_with c =
    let at = c.loop-at.at in
    let reply = c.args.reply.now in
    let within : at < length reply = omega (arith, c.loop-at-test.true) in
    let is : is_here (drop at reply) ≡ true = subst (λ (bs : List ℕ). is_here bs ≡ true) (rest at reply) (sym c.if-starts_with.ensures.value) in
    rest (at + 4) reply ∙ sym (body_here at reply within is) ∙ c.loop-at.invariant

pub loop-at-preserved : goal.loop-at-preserved
loop-at-preserved c =
    let at = c.loop-at.at in
    let reply = c.args.reply.now in
    let within : at < length reply = omega (arith, c.loop-at-test.true) in
    let is : is_here (drop at reply) ≡ false = subst (λ (bs : List ℕ). is_here bs ≡ false) (rest at reply) (sym c.if-starts_with.ensures.value) in
    sym (body_past at reply within is) ∙ c.loop-at.invariant
