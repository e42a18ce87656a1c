use Rattle.std.proofs.Common.{◌≡◌, ap, arith, sym, ◌∙◌}
use Rattle.std.proofs.lemmas.Result.{on_ok_weaker}
use Rattle.fx_plan.specs.declared.site_list.Scoped.TheVariants.{Nothing}
use Rattle.fx_plan.specs.SitePlaces.{scope_opened, parts_in, place_position, stand_at, within_call}
use Rattle.fx_plan.specs.Sites.{Position, listed, own_use, part_at, takes_whole, uses_among, uses_in}
use Rattle.fx_plan.proofs.Delegable.{field_falls, part_falls}
use Rattle.fx_plan.proofs.Listing.{listed_then, next_field, next_part, over_listed, uses_split, with_listed}
use Rattle.fx_plan.proofs.site_list.+list.Goals as goal
use Rattle.fx_core.specs.TermView.{core_branch}

pub list-returns : goal.list-returns
list-returns t c =
    let ts = c.args.schema.now.tables in
    let p = place_position c.args.place.now in
    on_ok_weaker c.list_parts.result
    (λ h. listed_then c.args.sites.now.items c.list_own.new.sites.items _ (own_use ts p c.args.core.now) (uses_among ts (part_at ts p c.args.core.now) 0 (parts_in c.args.core.now))
    c.in_ok-is_asked.ensures.sites h
    ∙ ap (λ us. listed c.args.sites.now.items us) (sym (uses_split ts p c.args.core.now)))
    c.list_parts.ensures

pub list_among-list-requires : goal.list_among-list-requires
list_among-list-requires t c = (
  let h = part_falls c.args.parts.now c.loop-at.at c.index-parts-at.result c.loop-at-test.true c.index-parts-at.is in omega (arith, h),
  c.requires,
)

pub list_among-loop-at-preserved : goal.list_among-loop-at-preserved
list_among-loop-at-preserved t c =
    let ts = c.args.schema.now.tables in
    next_part ts (stand_at c.args.scoped (place_position c.args.place.now)) c.loop-at.at c.loop-at.sites.items c.list.new.sites.items _
    c.args.parts.now c.index-parts-at.result c.loop-at-test.true c.index-parts-at.is
    (c.in_ok-list.ensures
    ∙ ap (λ q. listed c.loop-at.sites.items (uses_in ts q c.index-parts-at.result)) (c.in_ok-stand.ensures ∙ ap (λ b. scope_opened b (place_position c.args.place.now)) c.opens.ensures))
    c.loop-at.invariant

pub list_fields-list-requires : goal.list_fields-list-requires
list_fields-list-requires t c = (
  let h = field_falls c.args.fields.now c.loop-part.part-index c.loop-part-item.result c.loop-part-test.true c.loop-part-item.is in omega (arith, h),
  c.requires,
)

pub list_fields-loop-part-preserved : goal.list_fields-loop-part-preserved
list_fields-loop-part-preserved t c =
    next_field c.args.schema.now.tables (stand_at Nothing (place_position c.args.place.now)) c.loop-part.part-index c.loop-part.sites.items _ _
    c.args.fields.now c.loop-part-item.result c.loop-part-test.true c.loop-part-item.is c.in_ok-list.ensures c.loop-part.invariant

pub list_parts-returns-in_ok-list-in-Over : goal.list_parts-returns-in_ok-list-in-Over
list_parts-returns-in_ok-list-in-Over t c =
    let ts = c.args.schema.now.tables in
    let p = place_position c.args.place.now in
    let around = place_position c.within-inside-in-Over.result in
    let first : Position = record around { delegated = c.in_ok-takes_whole-in-Over.field-0; inner = c.args.is_asked } in
    let table : c.list.new.sites.items ≡ listed c.args.sites.now.items (uses_in ts first c.in-Over.rows.value) = cc (c.in_ok-list-in-Over.ensures) in
    on_ok_weaker c.list_among-in-Over.result
    (λ h. over_listed ts p c.in-Over.fun c.in-Over.rows.value c.in-Over.parts c.args.core.now c.formulas_of-scoped.result around first
    c.args.sites.now.items c.list.new.sites.items _ (sym (ap core_branch c.in-Over.is) ∙ c.core.view_is)
    (c.within-inside-in-Over.ensures ∙ ap (λ n. within_call n p) c.function_name-in-Over.ensures)
    (ap (λ b. record around { delegated = b; inner = c.args.is_asked }) c.in_ok-takes_whole-in-Over.ensures
    ∙ ap (λ b. record around { delegated = takes_whole ts p.depth c.args.core.now; inner = b }) c.requires.asked)
    table (cc (c.formulas_of-scoped.ensures, c.as_slice-behind.ensures)) (cc (h, c.as_slice-behind.ensures)))
    c.list_among-in-Over.ensures

pub list_parts-returns-in_ok-open-in-With : goal.list_parts-returns-in_ok-open-in-With
list_parts-returns-in_ok-open-in-With t c =
    let ts = c.args.schema.now.tables in
    let p = place_position c.args.place.now in
    let around = place_position c.within-inside-in-With.result in
    let behind = place_position c.in_ok-open-in-With.field-0 in
    let scope : c.list-in-With.new.sites.items ≡ listed c.args.sites.now.items (uses_in ts around c.in-With.record.value) = cc (c.in_ok-list-in-With.ensures) in
    on_ok_weaker c.list-in-With-2.result
    (λ h. with_listed ts p c.in-With.record.value c.in-With.formula.value c.args.core.now around behind c.args.sites.now.items c.list-in-With.new.sites.items _
    (sym (ap core_branch c.in-With.is) ∙ c.core.view_is) c.within-inside-in-With.ensures c.in_ok-open-in-With.ensures scope (cc h))
    c.list-in-With-2.ensures
