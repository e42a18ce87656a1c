use Rattle.std.proofs.Common.{◌∷◌, []}
use Rattle.fx_core.specs.declared.sources.Source.TheVariants as source
use Rattle.fx_deeds.proofs.Changing.{row_made_within}
use Rattle.fx_deeds.proofs.Allowing.{row_made_only}
use Rattle.fx_deeds.specs.Changed.{IsRowMade}
use Rattle.row_keeper.specs.Tables.{columns_at}
use Rattle.fx_deeds.specs.Writable.{IsOneOf}
use Rattle.fx_deeds.proofs.Attempts.{attempt_changing}
use Rattle.fx_deeds.proofs.changes.insert.Goals as goal

pub returns-clause-attempt : goal.returns-clause-attempt
returns-clause-attempt g c =
    let columns = columns_at (g.W.Env.fixed c.args.world.now).schema.tables c.args.table in
    attempt_changing c.insert.result _ _ (IsOneOf (source.Table c.args.table ∷ [])) (λ p. IsRowMade columns c.args.table c.args.cells.now p) (row_made_within columns c.args.table c.args.cells.now)
    (row_made_only columns c.args.table c.args.cells.now) c.insert.ensures.fixed c.insert.ensures.put c.insert.ensures.stops c.insert.ensures.counts.0 c.insert.ensures.counts.1
