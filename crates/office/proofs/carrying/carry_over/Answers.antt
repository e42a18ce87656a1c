use Rattle.std.proofs.Common.{◌≡◌, ◌∙◌, ap, get_or, set, sym}
use Rattle.std.proofs.lemmas.List.Edits.{map_over_more}
use Rattle.numbered_requests.specs.declared.directory.Named.{Named}
use Rattle.session_state.specs.Sessions.{SessionState}
use Rattle.office.specs.Replacing.{one_over}
use Rattle.office.proofs.carrying.carry_over.Goals as goal

pub loop-session-preserved : goal.loop-session-preserved
loop-session-preserved c =
    let at : Named SessionState = get_or c.loop-session.sessions c.loop-session.session-index c.session-item.result in
    let put : record { name = at.name; it = c.carry_over.new.self } ≡ one_over c.args.old.now c.args.new.now at = λ i. record { name = at.name; it = c.carry_over.ensures i } in
    ap (set c.loop-session.sessions c.loop-session.session-index) (put ∙ ap (one_over c.args.old.now c.args.new.now) (sym c.session-item.is))
    ∙ map_over_more (one_over c.args.old.now c.args.new.now) c.args.sessions.now c.loop-session.sessions c.loop-session.session-index c.session-item.result c.loop-session-test.true c.loop-session.invariant c.session-item.is
