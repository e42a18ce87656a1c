use Rattle.fx_deeds.proofs.Changing.{changed_within}
use Rattle.fx_deeds.proofs.Allowing.{changed_only}
use Rattle.fx_deeds.specs.Changed.{IsChanged, written}
use Rattle.fx_deeds.specs.Writable.{IsOneOf}
use Rattle.fx_deeds.proofs.Attempts.{attempt_changing}
use Rattle.fx_deeds.proofs.changes.change.Goals as goal

pub returns-clause-attempt : goal.returns-clause-attempt
returns-clause-attempt g c =
    attempt_changing c.change.result _ _ (IsOneOf (written c.args.change)) (λ d. IsChanged c.args.change d) (changed_within c.args.change) (changed_only c.args.change) c.change.ensures.fixed c.change.ensures.done c.change.ensures.stops
    c.change.ensures.counts.0 c.change.ensures.counts.1
