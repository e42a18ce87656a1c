use Rattle.std.proofs.Common.{◌≡◌, ◌∙◌, ap, arith}
use Rattle.std.proofs.lemmas.Result.{IfOk-weaker}
use Rattle.fx_types.specs.TypeView.{shape}
use Rattle.fx_plan.proofs.Delegable.{field_falls, part_falls}
use Rattle.fx_plan.specs.declared.site_list.Scoped.TheVariants.{Others}
use Rattle.fx_core.specs.Term.{all, cons, of}
use Rattle.fx_core.specs.Term as top
use Rattle.fx_plan.proofs.RowLimits.{act_limited, call_limited, chain_limited, form_limited, list_limited, over_limited, rec_limited, user_limited}
use Rattle.fx_plan.specs.Limits.{depth_at, each_limited, fields_limited, with_limited_parts}
use Rattle.fx_plan.proofs.limits.+limit_tree.Goals as goal

pub limit_over-returns : goal.limit_over-returns
limit_over-returns t c =
    let ts = c.args.schema.now.tables in
    let parts = c.args.parts.now in
    IfOk-weaker c.call_over.result
    (λ z. z ≡ of (top.over c.args.fun) (cons c.in_ok-rows.rows (all c.in_ok-others.others)))
    (λ z. z ≡ with_limited_parts ts c.args.limit c.args.depth (of (top.over c.args.fun) (cons c.args.table.now (all parts))))
    (λ z e. e ∙ over_limited ts c.args.limit c.args.depth c.args.fun c.args.table.now parts c.in_ok-rows.rows c.in_ok-others.others c.args.takes_first c.formulas_of-scoped.result
    c.in_ok-rows.ensures c.requires.first
    (c.in_ok-others.ensures ∙ ap (λ z. each_limited ts c.args.limit (depth_at c.formulas_of-scoped.result c.args.depth) 0 z) c.as_slice-2.ensures)
    (cc (c.formulas_of-scoped.ensures, c.as_slice.ensures)))
    c.call_over.ensures

pub limit_record-returns : goal.limit_record-returns
limit_record-returns t c =
    let ts = c.args.schema.now.tables in
    c.record_of.ensures
    ∙ rec_limited ts c.args.limit c.args.depth c.args.fields.now c.in_ok-items.items (c.in_ok-items.ensures ∙ ap (fields_limited ts c.args.limit c.args.depth) c.as_slice.ensures)

pub limit_act-returns : goal.limit_act-returns
limit_act-returns t c =
    let ts = c.args.schema.now.tables in
    let made : c.act.result ≡ of (top.act c.args.deed.now) (all c.in_ok-items.items) = cc (c.act.ensures, c.in_ok-copy.ensures) in
    made
    ∙ act_limited ts c.args.limit c.args.depth c.args.deed.now c.is_update.result c.args.parts.now c.in_ok-items.items
    (c.in_ok-items.ensures ∙ ap (λ z. each_limited ts c.args.limit (depth_at (Others c.is_update.result) c.args.depth) 0 z) c.as_slice.ensures) c.is_update.ensures

pub limit_call-returns : goal.limit_call-returns
limit_call-returns t c =
    c.call.ensures ∙ call_limited c.args.schema.now.tables c.args.limit c.args.depth c.args.fun c.args.parts.now c.in_ok-items.items c.in_ok-items.ensures

pub limit_user-returns : goal.limit_user-returns
limit_user-returns t c =
    c.user.ensures ∙ user_limited c.args.schema.now.tables c.args.limit c.args.depth c.args.function c.args.parts.now c.in_ok-items.items c.in_ok-items.ensures

pub limit_list-returns : goal.limit_list-returns
limit_list-returns t c =
    let made : c.list.result ≡ of (top.list (shape c.args.ty.now)) (all c.in_ok-items.items) = cc (c.list.ensures, c.in_ok-copy.ensures) in
    made ∙ list_limited c.args.schema.now.tables c.args.limit c.args.depth (shape c.args.ty.now) c.args.parts.now c.in_ok-items.items c.in_ok-items.ensures

pub limit_chain-returns : goal.limit_chain-returns
limit_chain-returns t c =
    c.chain.ensures ∙ chain_limited c.args.schema.now.tables c.args.limit c.args.depth c.args.parts.now c.in_ok-items.items c.in_ok-items.ensures

pub limit_form-returns : goal.limit_form-returns
limit_form-returns t c =
    c.form.ensures ∙ form_limited c.args.schema.now.tables c.args.limit c.args.depth c.args.form c.args.parts.now c.in_ok-items.items c.in_ok-items.ensures

pub limit_all-limit_tree-requires : goal.limit_all-limit_tree-requires
limit_all-limit_tree-requires t c = (
  let h = part_falls c.args.parts.now c.loop-at.at c.index-parts-at.result c.loop-at-test.true c.index-parts-at.is in omega (arith, h),
  c.requires,
)

pub limit_fields-limit_tree-requires : goal.limit_fields-limit_tree-requires
limit_fields-limit_tree-requires t c = (
  let h = field_falls c.args.fields.now c.loop-name.name-index c.loop-name-item.result c.loop-name-test.true c.loop-name-item.is in omega (arith, h),
  c.requires,
)
