use Rattle.std.proofs.Common.{◌<◌, ◌≤◌, List, ℕ, length, get_or, subst, Vec, vec_len, arith}
use Rattle.std.specs.declared.alloc.Global.{Global}
use Rattle.std.proofs.lemmas.List.{take_all, length-map}
use Rattle.depend_graph.specs.Lists.{lists_of, AddsEach}
use Rattle.depend_graph.proofs.Adding.{adds_more}
use Rattle.depend_graph.proofs.lists.add_to_each.Goals as goal

pub loop-place-preserved : goal.loop-place-preserved
loop-place-preserved c =
    let below : get_or c.args.places.now c.loop-place.place-index 0 < vec_len c.args.lists.now = c.requires c.loop-place.place-index 0 (omega arith) in
    let within : get_or c.args.places.now c.loop-place.place-index 0 < length (lists_of c.loop-place.lists.items) = omega (arith, length-map c.loop-place.lists.items (λ (v : Vec ℕ Global). v.items)) in
    (omega arith, adds_more c.args.places.now c.loop-place.place-index c.args.item _ (lists_of c.loop-place.lists.items) _ (omega arith) within c.loop-place.invariant.1 c.in_ok-add_at.ensures.ok)

pub returns-clause-ok : goal.returns-clause-ok
returns-clause-ok c =
    let long : length c.args.places.now ≤ c.loop-place.place-index = omega arith in
    let P : List ℕ → Type 0 = λ ps. AddsEach ps c.args.item (lists_of c.args.lists.now.items) (lists_of c.loop-place.lists.items) in
    subst P (take_all c.loop-place.place-index c.args.places.now long) c.loop-place.invariant.1
