use Rattle.std.proofs.Common.{◌≡◌, ℕ, vec_len}
use Rattle.depend_graph.specs.Search.{visit_state}
use Rattle.depend_graph.specs.declared.state.State.TheVariants.{New}
use Rattle.depend_graph.proofs.search.Search.new.Given as goal

abbrev pub invariant-loop : goal.invariant-loop
invariant-loop l = (vec_len l.states ≡ l.counter) × ((n : ℕ) → visit_state l.states.items n ≡ New)
