use Rattle.std.proofs.Common.{◌≡◌, ◌++◌, ◌+◌, ◌*◌, drop, false}
use Rattle.fx_core.specs.Tree.{tree_size, forest_size, forest, tree_field_names, field_trees}
use Rattle.fx_parser.specs.Printing.{shown_further, shown_further_fields, shown_strands}
use Rattle.fx_parser.proofs.write.+print.Given as goal

abbrev pub invariant-write_further-loop-part : goal.invariant-write_further-loop-part
invariant-write_further-loop-part l = l.out ++ shown_further l.between l.line (forest (drop l.part-index l.parts)) ≡ l.initial.out ++ shown_further l.between l.line (forest l.parts)

abbrev pub invariant-write_further_fields-loop-name : goal.invariant-write_further_fields-loop-name
invariant-write_further_fields-loop-name l = l.out ++ shown_further_fields (tree_field_names (drop l.name-index l.fields)) (field_trees (drop l.name-index l.fields)) ≡ l.initial.out ++ shown_further_fields (tree_field_names l.fields) (field_trees l.fields)

abbrev pub invariant-write_strands-loop-part : goal.invariant-write_strands-loop-part
invariant-write_strands-loop-part l = l.out ++ shown_strands l.after_text (forest (drop l.part-index l.parts)) ≡ l.initial.out ++ shown_strands false (forest l.parts)

abbrev pub decreases-write : goal.decreases-write
decreases-write l = 8 * tree_size l.expr.now

abbrev pub decreases-write_within : goal.decreases-write_within
decreases-write_within l = 8 * tree_size l.expr.now + 1

abbrev pub decreases-write_dot : goal.decreases-write_dot
decreases-write_dot l = 8 * tree_size l.part.now + 2

abbrev pub decreases-write_alias : goal.decreases-write_alias
decreases-write_alias l = 8 * tree_size l.part.now + 2

abbrev pub decreases-write_pair : goal.decreases-write_pair
decreases-write_pair l = 8 * (tree_size l.left.now + tree_size l.right.now) + 2

abbrev pub decreases-write_further : goal.decreases-write_further
decreases-write_further l = 8 * forest_size (forest l.parts.now) + 2

abbrev pub decreases-write_parts : goal.decreases-write_parts
decreases-write_parts l = 8 * forest_size (forest l.parts.now) + 3

abbrev pub decreases-write_args : goal.decreases-write_args
decreases-write_args l = 8 * forest_size (forest l.parts.now) + 4

abbrev pub decreases-write_list : goal.decreases-write_list
decreases-write_list l = 8 * forest_size (forest l.parts.now) + 4

abbrev pub decreases-write_all : goal.decreases-write_all
decreases-write_all l = 8 * forest_size (forest l.parts.now) + 5

abbrev pub decreases-write_any : goal.decreases-write_any
decreases-write_any l = 8 * forest_size (forest l.parts.now) + 5

abbrev pub decreases-write_record : goal.decreases-write_record
decreases-write_record l = 8 * forest_size (field_trees l.fields.now) + 4

abbrev pub decreases-write_fields : goal.decreases-write_fields
decreases-write_fields l = 8 * forest_size (field_trees l.fields.now) + 3

abbrev pub decreases-write_further_fields : goal.decreases-write_further_fields
decreases-write_further_fields l = 8 * forest_size (field_trees l.fields.now) + 2

abbrev pub decreases-write_field : goal.decreases-write_field
decreases-write_field l = 8 * tree_size l.part.now + 2

abbrev pub decreases-write_woven : goal.decreases-write_woven
decreases-write_woven l = 8 * forest_size (forest l.parts.now) + 4

abbrev pub decreases-write_strands : goal.decreases-write_strands
decreases-write_strands l = 8 * forest_size (forest l.parts.now) + 3

abbrev pub decreases-write_strand : goal.decreases-write_strand
decreases-write_strand l = 8 * tree_size l.part.now + 2

abbrev pub decreases-write_island : goal.decreases-write_island
decreases-write_island l = 8 * tree_size l.part.now + 1
