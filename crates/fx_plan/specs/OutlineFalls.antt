-- What is in a pattern is smaller than it.
use Rattle.std.specs.Prelude.{◌+◌, ◌≤◌, List, [], ◌∷◌}
use Rattle.std.proofs.Common.{arith}
use Rattle.fx_plan.specs.Outlines.{Outline, outline_size, outlines_size}
use Rattle.fx_plan.specs.OutlineView.{outline}
use Rattle.fx_plan.specs.declared.patterns.PatternNode.{PatternNode}
use Rattle.fx_plan.specs.declared.patterns.PatternNode.TheVariants as n
use Rattle.fx_plan.specs.declared.patterns.Pattern.TheDeep.{deep-PatternNode}
use denote.Param.Weighed.{most}

pub pattern_falls : (a : PatternNode) → deep-PatternNode a ≤ outline_size (outline a)
pattern_falls n.All = omega arith
pattern_falls (n.Flag k) = omega arith
pattern_falls (n.Const i) = omega arith
pattern_falls (n.Compare op k i) = omega arith
pattern_falls (n.IsBlank k) = omega arith
pattern_falls (n.Starts k i) = omega arith
pattern_falls (n.Contains k i) = omega arith
pattern_falls (n.And ts) = omega arith
pattern_falls (n.Or ts) = omega arith
pattern_falls (n.Not a) = omega arith

pub outlines_fall : (os : List Outline) → most (λ o. outline_size o + 1) os ≤ outlines_size os
outlines_fall [] = omega arith
outlines_fall (o ∷ os) = omega (arith, outlines_fall os)
