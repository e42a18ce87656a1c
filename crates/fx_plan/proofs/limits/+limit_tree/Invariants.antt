use Rattle.std.proofs.Common.{◌≡◌, ◌+◌, ◌*◌, ◌++◌, drop}
use Rattle.fx_core.specs.Term.{all, field_terms, term_size, terms_size}
use Rattle.fx_plan.specs.Limits.{depth_at, each_limited, fields_limited}
use Rattle.fx_plan.proofs.limits.+limit_tree.Given as goal

abbrev pub decreases-limit_tree : goal.decreases-limit_tree
decreases-limit_tree l = 4 * term_size l.core.now + 1

abbrev pub decreases-limit_parts : goal.decreases-limit_parts
decreases-limit_parts l = 4 * term_size l.core.now

abbrev pub decreases-limit_dot : goal.decreases-limit_dot
decreases-limit_dot l = 4 * term_size l.part.now + 3

abbrev pub decreases-limit_coerced : goal.decreases-limit_coerced
decreases-limit_coerced l = 4 * term_size l.part.now + 3

abbrev pub decreases-limit_within : goal.decreases-limit_within
decreases-limit_within l = 4 * (term_size l.outer.now + term_size l.formula.now) + 3

abbrev pub decreases-limit_over : goal.decreases-limit_over
decreases-limit_over l = 4 * (term_size l.table.now + terms_size (all l.parts.now)) + 3

abbrev pub decreases-limit_record : goal.decreases-limit_record
decreases-limit_record l = 4 * terms_size (field_terms l.fields.now) + 3

abbrev pub decreases-limit_act : goal.decreases-limit_act
decreases-limit_act l = 4 * terms_size (all l.parts.now) + 3

abbrev pub decreases-limit_call : goal.decreases-limit_call
decreases-limit_call l = 4 * terms_size (all l.parts.now) + 3

abbrev pub decreases-limit_user : goal.decreases-limit_user
decreases-limit_user l = 4 * terms_size (all l.parts.now) + 3

abbrev pub decreases-limit_list : goal.decreases-limit_list
decreases-limit_list l = 4 * terms_size (all l.parts.now) + 3

abbrev pub decreases-limit_chain : goal.decreases-limit_chain
decreases-limit_chain l = 4 * terms_size (all l.parts.now) + 3

abbrev pub decreases-limit_form : goal.decreases-limit_form
decreases-limit_form l = 4 * terms_size (all l.parts.now) + 3

abbrev pub decreases-limit_among : goal.decreases-limit_among
decreases-limit_among l = 4 * terms_size (all l.parts.now) + 1

abbrev pub decreases-limit_all : goal.decreases-limit_all
decreases-limit_all l = 4 * terms_size (all l.parts.now)

abbrev pub decreases-limit_fields : goal.decreases-limit_fields
decreases-limit_fields l = 4 * terms_size (field_terms l.fields.now)

-- the parts so far, with what is left, are all
abbrev pub invariant-limit_all-loop-at : goal.invariant-limit_all-loop-at
invariant-limit_all-loop-at l =
    l.items ++ each_limited l.schema.tables l.limit (depth_at l.scoped l.depth) l.at (drop l.at l.parts) ≡ each_limited l.schema.tables l.limit (depth_at l.scoped l.depth) 0 l.parts

-- likewise the fields
abbrev pub invariant-limit_fields-loop-name : goal.invariant-limit_fields-loop-name
invariant-limit_fields-loop-name l =
    l.items ++ fields_limited l.schema.tables l.limit l.depth (drop l.name-index l.fields) ≡ fields_limited l.schema.tables l.limit l.depth l.fields
