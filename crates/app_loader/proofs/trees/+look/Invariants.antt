use Rattle.std.proofs.Common.{drop}
use Rattle.fx_core.specs.Term.{all, field_terms, term_size, terms_size}
use Rattle.fx_semantics.specs.NamedTypes.{HaveLawfulTypes}
use Rattle.app_loader.proofs.trees.+look.Given as goal

abbrev pub decreases-look_at_tree : goal.decreases-look_at_tree
decreases-look_at_tree l = term_size l.core.now

abbrev pub decreases-look_at_trees : goal.decreases-look_at_trees
decreases-look_at_trees l = terms_size (all l.parts.now)

abbrev pub decreases-look_at_fields : goal.decreases-look_at_fields
decreases-look_at_fields l = terms_size (field_terms l.fields.now)

-- where the types that are left are lawful, all are
abbrev pub invariant-look_at_trees-loop-part : goal.invariant-look_at_trees-loop-part
invariant-look_at_trees-loop-part l = HaveLawfulTypes (all (drop l.part-index l.part-items)) → HaveLawfulTypes (all l.parts)

abbrev pub invariant-look_at_fields-loop-part : goal.invariant-look_at_fields-loop-part
invariant-look_at_fields-loop-part l = HaveLawfulTypes (field_terms (drop l.part-index l.part-items)) → HaveLawfulTypes (field_terms l.fields)
