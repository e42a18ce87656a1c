-- Why functions have no order.
use Rattle.std.specs.Prelude.{List}
use Rattle.depend_graph.specs.Order.{IsClosedPath}
use Rattle.fx_core.specs.Term.{Term}
use Rattle.fx_udf.specs.declared.end.ExpandEnd.{ExpandEnd}
use Rattle.fx_udf.specs.declared.end.ExpandEnd.TheVariants.{Recursion, Memory}
use Rattle.fx_udf.specs.Calling.{calls_in}

-- functions that call one another in a circle are named by a closed path of calls; want of memory
-- is free
abbrev pub HasNoOrder : List Term → ExpandEnd → Type 0
HasNoOrder bodies (Recursion path) = IsClosedPath (calls_in bodies) path.items
HasNoOrder bodies Memory = Unit {0}
HasNoOrder bodies e = ⊥
