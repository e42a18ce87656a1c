-- Why there is no order.
use Rattle.std.specs.Prelude.{ℕ, List}
use Rattle.depend_graph.specs.declared.end.OrderEnd.{OrderEnd}
use Rattle.depend_graph.specs.declared.end.OrderEnd.TheVariants.{Cycle, Memory}
use Rattle.depend_graph.specs.Order.{IsClosedPath, IsCircle}
use Rattle.depend_graph.specs.Lists.{nth_list}
use Rattle.std.specs.List.{Contains}

-- a cycle is named by a closed path; want of memory is free
abbrev pub HasOrderCause : List (ℕ × ℕ) → OrderEnd → Type 0
HasOrderCause edges (Cycle path) = IsClosedPath edges path.items
HasOrderCause edges Memory = Unit {0}

-- the same, where the edges are told by what each number reads
abbrev pub HasCauseIn : List (List ℕ) → OrderEnd → Type 0
HasCauseIn reads (Cycle path) = IsCircle (λ a b. Contains (nth_list reads a) b) path.items
HasCauseIn reads Memory = Unit {0}
