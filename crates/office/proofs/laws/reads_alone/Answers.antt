use Rattle.office.proofs.Isolation.{ReplyLaws, reads_alone}
use Rattle.office.proofs.laws.reads_alone.Goals as goal

pub returns : goal.returns
returns c =
    let laws : ReplyLaws = record {
      fresh = c.one_fresh_at.ensures;
      holds = c.fitting_holds.ensures;
      view = c.one_view_reply.ensures;
      items = c.one_items_reply.ensures;
    } in
    reads_alone laws c.one_route.ensures
