use Rattle.user_calls.proofs.Law.{calls_are_worth}
use Rattle.user_calls.proofs.laws.calls_are_worth_their_bodies.Goals as goal

pub returns : goal.returns
returns c = calls_are_worth
