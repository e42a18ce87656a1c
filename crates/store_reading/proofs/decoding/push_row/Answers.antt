use Rattle.std.proofs.Common.{◌∙◌, ◌++◌, ◌∷◌, [], ap}
use Rattle.row_queries.specs.TableRows.{IsHeldRow}
use Rattle.row_lines.proofs.CellLemmas.{all_more}
use Rattle.store_reading.proofs.DecodeLemmas.{row_is}
use Rattle.store_reading.proofs.decoding.push_row.Goals as goal

pub returns-in_ok-push-in-Some-clause-held : goal.returns-in_ok-push-in-Some-clause-held
returns-in_ok-push-in-Some-clause-held c = rw c.in_ok-push-in-Some.ensures.items (all_more (IsHeldRow c.args.table.now) c.args.rows.now.items c.in-Some.row c.requires (rw c.in-Some.is at c.in_ok-row.ensures.held))

pub returns-in_ok-push-in-Some-clause-row : goal.returns-in_ok-push-in-Some-clause-row
returns-in_ok-push-in-Some-clause-row c = c.in_ok-push-in-Some.ensures.items ∙ ap (λ r. c.args.rows.now.items ++ r ∷ []) (row_is c.args.table.now.columns c.in-Some.row c.args.id c.args.body.now (rw c.in-Some.is at c.in_ok-row.ensures.id) (rw c.in-Some.is at c.in_ok-row.ensures.told))
