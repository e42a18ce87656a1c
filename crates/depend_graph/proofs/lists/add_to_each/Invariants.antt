use Rattle.std.proofs.Common.{◌≡◌, take, vec_len}
use Rattle.depend_graph.specs.Lists.{lists_of, AddsEach}
use Rattle.depend_graph.proofs.lists.add_to_each.Given as goal

abbrev pub invariant-loop-place : goal.invariant-loop-place
invariant-loop-place l = (vec_len l.lists ≡ vec_len l.initial.lists) × AddsEach (take l.place-index l.places) l.item (lists_of l.initial.lists.items) (lists_of l.lists.items)
