use Rattle.std.proofs.Common.{◌≡◌, ◌++◌, drop, map}
use Rattle.fx_typing.specs.Rounds as rounds
use Rattle.fx_resolve.specs.PartView.{judged_part}
use Rattle.fx_core.specs.Tree.{tree_field_names}
use Rattle.fx_infer.specs.GivenView.{given_type_view}
use Rattle.fx_infer.proofs.giving.give_fields.Given as goal

-- what is left, behind what is there, is the whole
abbrev pub invariant-loop-place : goal.invariant-loop-place
invariant-loop-place l =
    map given_type_view l.given.items ++ rounds.fields_given l.screen (tree_field_names (drop l.place l.fields)) (map judged_part (drop l.place l.values))
    ≡ map given_type_view l.fn.given.items ++ rounds.fields_given l.screen (tree_field_names l.fields) (map judged_part l.values)
