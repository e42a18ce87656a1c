use Rattle.std.proofs.Common.{subst}
use Rattle.std.specs.Prelude.{IfOk}
use Rattle.fx_types.specs.ValueView.{view}
use Rattle.fx_env.specs.Telling.{tables_told}
use Rattle.row_queries.specs.Answers.{IsScanValue}
use Rattle.fx_deeds.proofs.table_rows.scan_row.Goals as goal

pub returns-clause-value : goal.returns-clause-value
returns-clause-value g c =
    subst (λ q. IfOk c.scan.result (λ v. IsScanValue (g.W.Env.fixed c.args.world.now).schema.tables (tables_told (g.W.Env.told c.scan.new.self)) q (view v))) c.in_ok-query.ensures c.scan.ensures.value
