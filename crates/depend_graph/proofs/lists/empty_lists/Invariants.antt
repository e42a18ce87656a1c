use Rattle.std.proofs.Common.{◌≡◌, ℕ, [], vec_len}
use Rattle.depend_graph.specs.Lists.{nth_list, lists_of}
use Rattle.depend_graph.proofs.lists.empty_lists.Given as goal

abbrev pub invariant-loop : goal.invariant-loop
invariant-loop l = (vec_len l.lists ≡ l.counter) × ((place : ℕ) → nth_list (lists_of l.lists.items) place ≡ [])
