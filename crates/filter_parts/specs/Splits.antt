-- Calls over a table, parted by marks: one for each part behind the table.
use Rattle.std.specs.Prelude.{Bool, true, false, List, ◌∷◌}
use Rattle.fx_core.specs.Term.{Term, Terms, of, nil, cons}
use Rattle.fx_core.specs.Term as top

-- the parts at the places that are marked, in their order
abbrev pub marked : List Bool → Terms → Terms
marked (true ∷ bs) (cons c cs) = cons c (marked bs cs)
marked (false ∷ bs) (cons c cs) = marked bs cs
marked bs cs = nil

-- the parts at the other places
abbrev pub unmarked : List Bool → Terms → Terms
unmarked (true ∷ bs) (cons c cs) = unmarked bs cs
unmarked (false ∷ bs) (cons c cs) = cons c (unmarked bs cs)
unmarked bs cs = nil

-- a call with those of its parts that are marked, and the others; of any other tree all stays
abbrev pub split_with : List Bool → Term → Term × Terms
split_with bs (of (top.over f) (cons q cs)) =
    (of (top.over f) (cons q (marked bs cs)), unmarked bs cs)
split_with bs t = (t, nil)
