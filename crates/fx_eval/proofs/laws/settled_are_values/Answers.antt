use Rattle.fx_eval.proofs.SettledTrees.{settled_small, settled_ready, settled_values}
use Rattle.fx_eval.proofs.laws.settled_are_values.Goals as goal

pub returns : goal.returns
returns c = record {
  ready = let h = c.settled_have_types.ensures in settled_ready c.values_fit.ensures h.queries h.searches c.settled_are_no_more.ensures;
  worth = let h = c.settled_are_worth.ensures in settled_values h.queries h.searches;
  small = settled_small c.settled_are_no_more.ensures;
}
