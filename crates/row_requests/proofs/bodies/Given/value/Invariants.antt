use Rattle.std.proofs.Common.{◌≡◌, drop}
use Rattle.row_requests.specs.Changes.{given_at}
use Rattle.row_requests.specs.GivenRows.{given_view}
use Rattle.row_requests.proofs.bodies.Given.value.Given as goal

abbrev pub invariant-loop-other : goal.invariant-loop-other
invariant-loop-other l =
    given_at l.name (given_view (drop l.other-index l.other-items)) ≡ given_at l.name (given_view l.other-items)
