use Rattle.std.proofs.Common.{◌∙◌}
use Rattle.numbered_requests.proofs.JsonValues.{count_is}
use Rattle.numbered_requests.proofs.values.member_count.Goals as goal

pub returns-in-Some : goal.returns-in-Some
returns-in-Some c = c.len.ensures.len ∙ count_is c.in-Some.members.now.entries _ c.in-Some.ensures
