use Rattle.std.proofs.Common.{◌≡◌, drop}
use Rattle.row_requests.specs.Changes.{first_refusal}
use Rattle.row_requests.specs.GivenRows.{given_view}
use Rattle.row_requests.proofs.judging.judge.Given as goal

abbrev pub invariant-loop-name : goal.invariant-loop-name
invariant-loop-name l =
    first_refusal l.at l.columns (given_view (drop l.name-index l.name-items)) ≡ first_refusal l.at l.columns (given_view l.name-items)
