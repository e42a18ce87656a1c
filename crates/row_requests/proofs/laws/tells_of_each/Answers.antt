use Rattle.row_requests.proofs.AnyKeepers.{tells_of_each}
use Rattle.row_requests.proofs.laws.tells_of_each.Goals as goal

pub returns : goal.returns
returns c = tells_of_each
