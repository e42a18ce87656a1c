use Rattle.std.proofs.Common.{◌∷◌, []}
use Rattle.fx_core.specs.declared.sources.Source.TheVariants as source
use Rattle.fx_deeds.proofs.Changing.{row_changed_within}
use Rattle.fx_deeds.proofs.Allowing.{row_changed_only}
use Rattle.fx_deeds.specs.Changed.{IsRowChanged}
use Rattle.row_keeper.specs.Tables.{columns_at}
use Rattle.fx_deeds.specs.Writable.{IsOneOf}
use Rattle.fx_deeds.proofs.Attempts.{attempt_changing}
use Rattle.fx_deeds.proofs.changes.replace.Goals as goal

pub returns-clause-attempt : goal.returns-clause-attempt
returns-clause-attempt g c =
    let columns = columns_at (g.W.Env.fixed c.args.world.now).schema.tables c.args.table in
    attempt_changing c.replace.result _ _ (IsOneOf (source.Table c.args.table ∷ [])) (λ p. IsRowChanged columns c.args.table c.args.id c.args.cells.now p) (row_changed_within columns c.args.table c.args.id c.args.cells.now)
    (row_changed_only columns c.args.table c.args.id c.args.cells.now) c.replace.ensures.fixed c.replace.ensures.put c.replace.ensures.stops c.replace.ensures.counts.0 c.replace.ensures.counts.1
