use Rattle.std.proofs.Common.{◌≡◌, ◌∙◌, ◌+◌, ◌||◌, ap, drop, false, length, map, sym, take, true}
use Rattle.fx_typing.specs.Plans.{is_inside, opens_rows, plan_at}
use Rattle.fx_resolve.proofs.Planned.{opens_step}
use Rattle.fx_resolve.proofs.plans.opens_rows.Goals as goal
use Rattle.fx_resolve.specs.PartView.{judged_part}
use Rattle.fx_resolve.specs.PlanView.{grant, tree_head}

pub returns-then-is_inside : goal.returns-then-is_inside
returns-then-is_inside c =
    let s = opens_step c.args.names.now (grant c.args.whole) (tree_head c.args.head.now) (length c.args.parts.now) c.args.parts.now c.loop-place.place c.loop-place-test.true in
    let rest = opens_rows c.args.names.now (grant c.args.whole) (tree_head c.args.head.now) (length c.args.parts.now) (map judged_part (take (c.loop-place.place + 1) c.args.parts.now)) (map judged_part (drop (c.loop-place.place + 1) c.args.parts.now)) in
    let t : is_inside (plan_at c.args.names.now (grant c.args.whole) (tree_head c.args.head.now) (length c.args.parts.now) (map judged_part (take c.loop-place.place c.args.parts.now))).standing ≡ true = ap (λ p. is_inside p.standing) (sym c.plan_at-plan.ensures) ∙ sym c.is_inside.ensures ∙ c.if-is_inside.true in
    sym (sym c.loop-place.invariant ∙ s ∙ ap (λ b. b || rest) t)

pub loop-place-preserved : goal.loop-place-preserved
loop-place-preserved c =
    let s = opens_step c.args.names.now (grant c.args.whole) (tree_head c.args.head.now) (length c.args.parts.now) c.args.parts.now c.loop-place.place c.loop-place-test.true in
    let rest = opens_rows c.args.names.now (grant c.args.whole) (tree_head c.args.head.now) (length c.args.parts.now) (map judged_part (take (c.loop-place.place + 1) c.args.parts.now)) (map judged_part (drop (c.loop-place.place + 1) c.args.parts.now)) in
    let t : is_inside (plan_at c.args.names.now (grant c.args.whole) (tree_head c.args.head.now) (length c.args.parts.now) (map judged_part (take c.loop-place.place c.args.parts.now))).standing ≡ false = ap (λ p. is_inside p.standing) (sym c.plan_at-plan.ensures) ∙ sym c.is_inside.ensures ∙ c.if-is_inside.false in
    sym (ap (λ b. b || rest) t) ∙ sym s ∙ c.loop-place.invariant
