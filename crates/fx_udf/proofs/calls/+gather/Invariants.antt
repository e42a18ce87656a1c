use Rattle.std.proofs.Common.{◌≡◌, ◌+◌, ◌*◌, ◌++◌, drop}
use Rattle.fx_core.specs.Term.{all, field_terms, term_size, terms_size}
use Rattle.fx_udf.specs.Calling.{called_among}
use Rattle.fx_udf.proofs.calls.+gather.Given as goal

abbrev pub decreases-gather : goal.decreases-gather
decreases-gather l = 2 * term_size l.core.now + 1

abbrev pub decreases-gather_all : goal.decreases-gather_all
decreases-gather_all l = 2 * terms_size (all l.parts.now)

abbrev pub decreases-gather_fields : goal.decreases-gather_fields
decreases-gather_fields l = 2 * terms_size (field_terms l.fields.now)

-- what is gathered, with what is left, is all
abbrev pub invariant-gather_all-loop-part : goal.invariant-gather_all-loop-part
invariant-gather_all-loop-part l = l.called.items ++ called_among (all (drop l.part-index l.items)) ≡ l.fn.called.items ++ called_among (all l.items)

abbrev pub invariant-gather_fields-loop-part : goal.invariant-gather_fields-loop-part
invariant-gather_fields-loop-part l = l.called.items ++ called_among (field_terms (drop l.part-index l.items)) ≡ l.fn.called.items ++ called_among (field_terms l.items)
