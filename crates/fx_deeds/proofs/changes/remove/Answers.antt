use Rattle.std.proofs.Common.{◌∷◌, []}
use Rattle.fx_core.specs.declared.sources.Source.TheVariants as source
use Rattle.fx_deeds.proofs.Changing.{row_removed_within}
use Rattle.fx_deeds.proofs.Allowing.{row_removed_only}
use Rattle.fx_deeds.specs.Changed.{IsRowRemoved}
use Rattle.fx_deeds.specs.Writable.{IsOneOf}
use Rattle.fx_deeds.proofs.Attempts.{attempt_changing}
use Rattle.fx_deeds.proofs.changes.remove.Goals as goal

pub returns-clause-attempt : goal.returns-clause-attempt
returns-clause-attempt g c =
    attempt_changing c.remove.result _ _ (IsOneOf (source.Table c.args.table ∷ [])) (λ f. IsRowRemoved c.args.table c.args.id f) (row_removed_within c.args.table c.args.id) (row_removed_only c.args.table c.args.id)
    c.remove.ensures.fixed c.remove.ensures.was c.remove.ensures.stops c.remove.ensures.counts.0 c.remove.ensures.counts.1
