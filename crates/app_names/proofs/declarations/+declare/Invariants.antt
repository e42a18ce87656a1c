use Rattle.std.proofs.Common.{◌≡◌, ◌++◌, ◌+◌, ◌*◌, drop}
use Rattle.fx_core.specs.Tree.{forest, forest_size, field_trees, tree_size}
use Rattle.app_names.specs.Declarations.{declared_among}
use Rattle.app_names.proofs.declarations.+declare.Given as goal

abbrev pub decreases-declare : goal.decreases-declare
decreases-declare l = 2 * tree_size l.whole.now + 1

abbrev pub decreases-declare_below : goal.decreases-declare_below
decreases-declare_below l = 2 * tree_size l.whole.now

abbrev pub decreases-declare_all : goal.decreases-declare_all
decreases-declare_all l = 2 * forest_size (forest l.parts.now)

abbrev pub decreases-declare_fields : goal.decreases-declare_fields
decreases-declare_fields l = 2 * forest_size (field_trees l.fields.now)

abbrev pub invariant-declare_all-loop-part : goal.invariant-declare_all-loop-part
invariant-declare_all-loop-part l =
    l.found.items ++ declared_among l.functions l.screen (forest (drop l.part-index l.parts)) ≡ l.fn.found.items ++ declared_among l.functions l.screen (forest l.parts)

abbrev pub invariant-declare_fields-loop-part : goal.invariant-declare_fields-loop-part
invariant-declare_fields-loop-part l =
    l.found.items ++ declared_among l.functions l.screen (field_trees (drop l.part-index l.fields)) ≡ l.fn.found.items ++ declared_among l.functions l.screen (field_trees l.fields)
