use Rattle.std.proofs.Common.{arith, add-one, sym, refl, ◌<◌}
use Rattle.fx_grammar.proofs.Turns.{comes_first, tail_ends, tail_goes, tail_too_deep}
use Rattle.fx_parser.proofs.Found.{percent_found, percent_none}
use Rattle.fx_parser.proofs.operator_tails.percents.Goals as goal

pub loop-others-init : goal.loop-others-init
loop-others-init c = record { comes = comes_first _ _; shallow = c.requires; shorter = omega arith }

pub returns-then-deepest-limit-clause-gives : goal.returns-then-deepest-limit-clause-gives
returns-then-deepest-limit-clause-gives c = tail_too_deep _ _ _ _ _ _ _ _ _ c.loop-others.invariant.comes (percent_found _ _ c.in-Some.ensures.value) c.if-deepest-limit.true

pub loop-others-preserved : goal.loop-others-preserved
loop-others-preserved c =
    let b = c.if-deepest-limit.false in let s = c.in-Some.ensures.shorter in let v = c.loop-others.invariant.shorter in
    record {
      comes = rw (c.in_ok-tree.ensures, add-one) (tail_goes _ _ _ _ _ _ _ _ _ c.loop-others.invariant.comes (percent_found _ _ c.in-Some.ensures.value) s b);
      shallow = omega arith;
      shorter = omega arith;
    }

pub returns-clause-gives : goal.returns-clause-gives
returns-clause-gives c = tail_ends _ _ _ _ _ _ _ c.loop-others.invariant.comes (percent_none _ c.in_default.ensures.value)
