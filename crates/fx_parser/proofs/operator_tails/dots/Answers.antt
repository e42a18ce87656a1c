use Rattle.std.proofs.Common.{arith, add-one, sym, refl, ◌<◌}
use Rattle.fx_grammar.proofs.Turns.{comes_first, tail_ends, tail_too_deep}
use Rattle.fx_parser.proofs.Found.{dot_found, dot_none, dots_go}
use Rattle.fx_parser.proofs.operator_tails.dots.Goals as goal

pub loop-name-init : goal.loop-name-init
loop-name-init c = record { comes = comes_first _ _; shallow = c.requires; shorter = omega arith }

pub returns-then-deepest-limit-clause-gives : goal.returns-then-deepest-limit-clause-gives
returns-then-deepest-limit-clause-gives c = tail_too_deep _ _ _ _ _ _ _ _ _ c.loop-name.invariant.comes (dot_found _ _ _ c.in-Some.ensures.value) c.if-deepest-limit.true

pub loop-name-preserved : goal.loop-name-preserved
loop-name-preserved c =
    let b = c.if-deepest-limit.false in let s = c.in-Some.ensures.shorter in let v = c.loop-name.invariant.shorter in
    record {
      comes = dots_go _ _ _ _ _ _ _ _ _ _ c.loop-name.invariant.comes c.in-Some.ensures.value s b c.in_ok-name.ensures c.in_ok-tree.ensures;
      shallow = omega arith;
      shorter = omega arith;
    }

pub returns-clause-gives : goal.returns-clause-gives
returns-clause-gives c = tail_ends _ _ _ _ _ _ _ c.loop-name.invariant.comes (dot_none _ c.in_default.ensures.value)
