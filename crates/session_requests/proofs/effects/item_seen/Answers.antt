use Rattle.std.proofs.Common.{◌∙◌, ap}
use Rattle.recalc.specs.Values.{CellValues}
use Rattle.session_requests.proofs.Posted.{item_over}
use Rattle.session_requests.proofs.effects.item_seen.Goals as goal

pub returns : goal.returns
returns c = item_over c.args.names.now c.as_slice.result.now c.args.cache.now.values c.args.item c.row_of.result (c.as_slice.ensures ∙ ap (λ (w : CellValues). w.cells) c.values.ensures) c.row_of.ensures
