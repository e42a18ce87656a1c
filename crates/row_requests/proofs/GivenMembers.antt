-- What the members of an object give for a row.
use Rattle.serde_json.specs.Data.{Members, member, no_members}
use Rattle.numbered_requests.proofs.JsonValues.{of_value}
use Rattle.row_requests.specs.GivenRows.{AreScalars, given_in}

pub given_scalars : (ms : Members) → AreScalars (given_in ms)
given_scalars no_members = tt
given_scalars (member key d ms) = (of_value d, given_scalars ms)
