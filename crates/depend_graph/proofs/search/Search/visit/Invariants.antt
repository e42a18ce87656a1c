use Rattle.std.proofs.Common.{◌≡◌, ◌≢◌, ℕ, vec_len}
use Rattle.std.specs.List.{sum_by}
use Rattle.depend_graph.specs.Lists.{lists_of}
use Rattle.depend_graph.specs.Search.{visit_state, work_of, IsSearchState}
use Rattle.depend_graph.specs.declared.state.State.TheVariants.{New}
use Rattle.depend_graph.proofs.search.Search.visit.Given as goal

abbrev pub invariant-loop-last : goal.invariant-loop-last
invariant-loop-last l = record {
  len : vec_len l.self.states ≡ vec_len l.fn.self.states;
  search : IsSearchState (lists_of l.reads) l.self.states.items l.self.path.items l.self.order.items;
  seen : visit_state l.self.states.items l.number ≢ New;
  stay : (n : ℕ) → visit_state l.self.states.items n ≡ New → visit_state l.fn.self.states.items n ≡ New;
}

abbrev pub decreases-loop-last : goal.decreases-loop-last
decreases-loop-last l = sum_by work_of l.self.states.items
