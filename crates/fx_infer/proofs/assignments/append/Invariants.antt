use Rattle.std.proofs.Common.{◌≡◌, ◌++◌, map}
use Rattle.fx_infer.specs.GivenView.{given_type_view}
use Rattle.fx_infer.proofs.assignments.append.Given as goal

-- what is left, behind what is there, is the whole
abbrev pub invariant-loop-one : goal.invariant-loop-one
invariant-loop-one l =
    map given_type_view l.given.items ++ map given_type_view l.one-iterator.rest.items
    ≡ map given_type_view l.fn.given.items ++ map given_type_view l.fn.more.items
