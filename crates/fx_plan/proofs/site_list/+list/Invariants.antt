use Rattle.std.proofs.Common.{◌≡◌, ◌+◌, ◌*◌, drop}
use Rattle.fx_plan.specs.declared.site_list.Scoped.TheVariants.{Nothing}
use Rattle.fx_plan.specs.SitePlaces.{place_position, stand_at}
use Rattle.fx_plan.specs.Sites.{listed, uses_among}
use Rattle.fx_core.specs.Term.{all, field_terms, term_size, terms_size}
use Rattle.fx_plan.proofs.site_list.+list.Given as goal

abbrev pub decreases-list : goal.decreases-list
decreases-list l = 2 * term_size l.core.now + 1

abbrev pub decreases-list_parts : goal.decreases-list_parts
decreases-list_parts l = 2 * term_size l.core.now

abbrev pub decreases-list_among : goal.decreases-list_among
decreases-list_among l = 2 * terms_size (all l.parts.now)

abbrev pub decreases-list_fields : goal.decreases-list_fields
decreases-list_fields l = 2 * terms_size (field_terms l.fields.now)

-- what is listed, with what is left, is all
abbrev pub invariant-list_among-loop-at : goal.invariant-list_among-loop-at
invariant-list_among-loop-at l =
    listed l.sites.items (uses_among l.schema.tables (stand_at l.scoped (place_position l.place)) l.at (all (drop l.at l.parts)))
    ≡ listed l.fn.sites.items (uses_among l.schema.tables (stand_at l.scoped (place_position l.place)) 0 (all l.parts))

abbrev pub invariant-list_fields-loop-part : goal.invariant-list_fields-loop-part
invariant-list_fields-loop-part l =
    listed l.sites.items (uses_among l.schema.tables (stand_at Nothing (place_position l.place)) l.part-index (field_terms (drop l.part-index l.fields)))
    ≡ listed l.fn.sites.items (uses_among l.schema.tables (stand_at Nothing (place_position l.place)) 0 (field_terms l.fields))
