use Rattle.std.proofs.Common.{List, subst}
use Rattle.row_requests.specs.AnyKeeper.{MayEnd}
use Rattle.row_requests.specs.declared.bodies.Change.{Change}
use Rattle.row_requests.proofs.AnyKeepers.{ends_detail}
use Rattle.row_requests.proofs.transaction.prepare_rows.Goals as goal

pub prepare_reply-requires : goal.prepare_reply-requires
prepare_reply-requires g c =
    let tables = c.args.schema.now.tables in
    ends_detail tables c.args.posted.now.changes c.in-Ok.outcome (subst (λ (cs : List Change). MayEnd tables 0 cs c.in-Ok.outcome) c.as_slice.ensures c.in-Ok.ensures.may)
