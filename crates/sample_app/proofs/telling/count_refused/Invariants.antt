use Rattle.std.proofs.Common.{◌≡◌, ◌≤◌, map, take}
use Rattle.numbered_requests.specs.Replies.{said}
use Rattle.sample_app.specs.Summary.{refused as refused_in}
use Rattle.sample_app.proofs.telling.count_refused.Given as goal

abbrev pub invariant-loop-reply : goal.invariant-loop-reply
invariant-loop-reply l = record {
  few : l.refused ≤ l.reply-index;
  counted : l.refused ≡ refused_in (map said (take l.reply-index l.replies));
}
