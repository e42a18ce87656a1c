use Rattle.std.proofs.Common.{◌≡◌, drop}
use Rattle.fx_plan.specs.QueryExpressions.{are_constant}
use Rattle.fx_core.specs.Term.{all, field_terms, term_size, terms_size}
use Rattle.fx_plan.proofs.conditions.+is_constant.Given as goal

abbrev pub decreases-is_constant : goal.decreases-is_constant
decreases-is_constant l = term_size l.core.now

abbrev pub decreases-are_constant : goal.decreases-are_constant
decreases-are_constant l = terms_size (all l.parts.now)

abbrev pub decreases-are_constant_fields : goal.decreases-are_constant_fields
decreases-are_constant_fields l = terms_size (field_terms l.fields.now)

-- those that were seen are constant
abbrev pub invariant-are_constant-loop-part : goal.invariant-are_constant-loop-part
invariant-are_constant-loop-part l = are_constant l.scope (all (drop l.part-index l.parts)) ≡ are_constant l.scope (all l.parts)

abbrev pub invariant-are_constant_fields-loop-part : goal.invariant-are_constant_fields-loop-part
invariant-are_constant_fields-loop-part l = are_constant l.scope (field_terms (drop l.part-index l.fields)) ≡ are_constant l.scope (field_terms l.fields)
