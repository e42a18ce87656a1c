use Rattle.std.proofs.Common.{ap, arith, length, sym, ◌∙◌}
use Rattle.app_texts.proofs.GivenTexts.{empty_so, long_so}
use Rattle.app_texts.proofs.edits.given_cell.Goals as goal

pub returns-then-count-most-clause-broken : goal.returns-then-count-most-clause-broken
returns-then-count-most-clause-broken c =
    long_so c.args.frame.now c.args.spot.now c.args.text.now (length c.as_str-count.result.now) c.in_ok-broken.broken
    (sym c.is_named.ensures ∙ c.if-is_named.false) (ap length c.as_str-count.ensures.bytes) (omega (arith, c.if-count-most.true, c.most.ensures)) c.in_ok-broken.ensures

pub returns-then-count-eq0-clause-given : goal.returns-then-count-eq0-clause-given
returns-then-count-eq0-clause-given c =
    empty_so c.args.frame.now c.args.spot.now c.args.text.now (length c.as_str-count.result.now)
    (sym c.is_named.ensures ∙ c.if-is_named.false) (ap length c.as_str-count.ensures.bytes) c.if-count-eq0.true
