use Rattle.std.proofs.Common.{◌≡◌, ◌++◌}
use Rattle.serde_json.specs.View.{members_view}
use Rattle.row_requests.specs.GivenRows.{given_in, given_view}
use Rattle.row_requests.proofs.bodies.given_in.Given as goal

abbrev pub invariant-loop-key : goal.invariant-loop-key
invariant-loop-key l =
    given_view l.items.items ++ given_in (members_view l.key-iterator) ≡ given_in (members_view l.members.entries)
