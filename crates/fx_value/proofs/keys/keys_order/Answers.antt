use Rattle.fx_value.proofs.KeyLemmas.{keys_order, keys_tell}
use Rattle.fx_value.proofs.keys.keys_order.Goals as goal

pub returns : goal.returns
returns c = record { order = keys_order; tell = keys_tell }
