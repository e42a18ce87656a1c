use Rattle.std.proofs.Common.{◌∙◌, Some, ap, arith, sym}
use Rattle.office.proofs.Leaving.{begin_full, begin_none}
use Rattle.office.proofs.sessions.said_unopened.Goals as goal

pub returns-then-sessions-ge-MOST_SESSIONS-clause-said : goal.returns-then-sessions-ge-MOST_SESSIONS-clause-said
returns-then-sessions-ge-MOST_SESSIONS-clause-said c =
    ap Some c.in_ok-refuse_plain.ensures.said ∙ sym (begin_full c.args.name.now c.args.sessions.now (sym c.is_among.ensures ∙ c.if-is_among.false) c.if-sessions-ge-MOST_SESSIONS.true)

pub returns-clause-said : goal.returns-clause-said
returns-clause-said c = sym (begin_none c.args.name.now c.args.sessions.now (sym c.is_among.ensures ∙ c.if-is_among.false) (omega (arith, c.if-sessions-ge-MOST_SESSIONS.false)))
