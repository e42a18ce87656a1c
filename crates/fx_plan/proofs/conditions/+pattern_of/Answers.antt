use Rattle.std.proofs.Common.{arith, sym, ◌∙◌}
use Rattle.fx_plan.proofs.Delegable.{constant_kept, no_negation, part_falls}
use Rattle.fx_plan.proofs.conditions.+pattern_of.Goals as goal

pub pattern_of-returns-then-is_constant : goal.pattern_of-returns-then-is_constant
pattern_of-returns-then-is_constant t c =
    constant_kept c.args.table.now c.args.scope c.args.condition.now c.args.constants.now c.keep.new.constants c.in_ok-place.place
    (sym c.is_constant.ensures ∙ c.if-is_constant.true) c.in_ok-place.ensures.0 c.in_ok-place.ensures.1

pub negation-returns-in-len2-up : goal.negation-returns-in-len2-up
negation-returns-in-len2-up t c = sym (no_negation c.args.table.now c.args.scope c.args.parts.now c.args.constants.now (omega arith))

pub patterns_of-pattern_of-requires : goal.patterns_of-pattern_of-requires
patterns_of-pattern_of-requires t c = (
  let h = part_falls c.args.conditions.now c.loop-condition.condition-index c.condition-item.result c.loop-condition-test.true c.condition-item.is in omega (arith, h),
  c.requires,
)
