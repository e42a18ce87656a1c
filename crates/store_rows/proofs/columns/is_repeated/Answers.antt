use Rattle.std.proofs.Common.{◌∙◌, ◌+◌}
use Rattle.fx_types.specs.ValueView.{view}
use Rattle.row_keeper.specs.RowRules.{has_value}
use Rattle.store_rows.proofs.RuleLemmas.{any_other}
use Rattle.store_rows.proofs.columns.is_repeated.Goals as goal

pub returns : goal.returns
returns c = c.any_repeats.ensures ∙ any_other (has_value (c.args.place + 1) (view c.args.cell.now)) c.args.id c.args.rows.now
