use Rattle.std.proofs.Common.{◌≡◌, map, take}
use Rattle.std.specs.List.{All}
use Rattle.app_wire.specs.Framing.{asked}
use Rattle.fx_base.specs.Silence.{IsLater}
use Rattle.numbered_requests.specs.Replies.{IsReply, said}
use Rattle.fx_cli.specs.Conversations.{office_at}
use Rattle.fx_cli.specs.Sampled.{IsPlayed}
use Rattle.fx_cli.proofs.sampling.play.Given as goal

abbrev pub invariant-loop-request : goal.invariant-loop-request
invariant-loop-request g l = record {
  played : IsPlayed (map asked (take l.request-index l.requests)) (map said l.replies.items) (office_at l.fn.office) (office_at l.office);
  whole : All IsReply l.replies.items;
  later : IsLater l.fn.office.marks l.office.marks;
  loan : l.office.loan ≡ l.fn.office.loan;
}
