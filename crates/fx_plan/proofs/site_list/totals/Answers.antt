use Rattle.std.proofs.Common.{arith}
use Rattle.fx_plan.proofs.Listing.{totals_none}
use Rattle.fx_plan.proofs.site_list.totals.Goals as goal

pub returns-in-len2-up : goal.returns-in-len2-up
returns-in-len2-up c = totals_none c.args.schema.now.tables c.args.depth c.args.rows.now c.args.columns.now (omega arith)
