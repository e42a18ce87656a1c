use Rattle.std.proofs.Common.{◌∙◌, ap, ap₂}
use Rattle.std.specs.Prelude.{cond}
use Rattle.row_keeper.specs.Shaped.{gone_back, steady}
use Rattle.sql_keeper.specs.View.{SqlView, schema_then, sql_shape}
use Rattle.sql_keeper.proofs.EndLemmas.{ended_shape}
use Rattle.sql_keeper.proofs.keeper.SqlKeeper.end.Goals as goal

pub returns-clause-shaped : goal.returns-clause-shaped
returns-clause-shaped c =
    let s = c.self.inside in
    ended_shape c.args.with_changes s.schema c.schema_after.result s.was c.take-was.new.self c.take-was.ensures.after (c.schema_after.ensures ∙ ap₂ (λ x y. cond c.args.with_changes x (schema_then x y)) c.take-schema.ensures.value c.take-was.ensures.value)
    ∙ ap (λ (w : SqlView). cond c.args.with_changes (steady (sql_shape w)) (gone_back (sql_shape w))) c.self.view_is
