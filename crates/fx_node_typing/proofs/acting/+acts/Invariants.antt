use Rattle.std.proofs.Common.{◌≡◌, drop}
use Rattle.fx_core.specs.Term.{all, field_terms, term_size, terms_size}
use Rattle.fx_typing.specs.Acts.{any_acts}
use Rattle.fx_node_typing.proofs.acting.+acts.Given as goal

abbrev pub decreases-acts : goal.decreases-acts
decreases-acts l = term_size l.core.now

abbrev pub decreases-any_acts : goal.decreases-any_acts
decreases-any_acts l = terms_size (all l.parts.now)

abbrev pub decreases-any_field_acts : goal.decreases-any_field_acts
decreases-any_field_acts l = terms_size (field_terms l.fields.now)

abbrev pub invariant-any_acts-loop-part : goal.invariant-any_acts-loop-part
invariant-any_acts-loop-part l = any_acts (all (drop l.part-index l.part-items)) ≡ any_acts (all l.parts)

abbrev pub invariant-any_field_acts-loop-part : goal.invariant-any_field_acts-loop-part
invariant-any_field_acts-loop-part l = any_acts (field_terms (drop l.part-index l.part-items)) ≡ any_acts (field_terms l.fields)
