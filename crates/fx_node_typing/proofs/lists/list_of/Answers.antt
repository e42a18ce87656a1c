use Rattle.std.proofs.Common.{◌≡◌, List, [], length, map, ap, arith}
use Rattle.std.proofs.lemmas.List.{nil_from_length}
use Rattle.fx_typing.specs.Builds.{typed_list}
use Rattle.fx_typing.specs.declared.typed.Typed.{Typed}
use Rattle.fx_typing.specs.TypedView.{typed}
use Rattle.fx_node_typing.proofs.Exits.{as_same}
use Rattle.fx_node_typing.proofs.lists.list_of.Goals as goal

pub returns-then-is_empty : goal.returns-then-is_empty
returns-then-is_empty c =
    let n : length c.args.parts.items ≡ 0 = grind arith in
    as_same typed (typed_list (map typed c.args.parts.items)) (typed_list []) c.empty_list.result
    (ap (λ (xs : List Typed). typed_list (map typed xs)) (nil_from_length c.args.parts.items n)) c.empty_list.ensures
