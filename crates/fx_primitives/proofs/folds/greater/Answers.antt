use Rattle.std.proofs.Common.{arith}
use Rattle.std.proofs.lemmas.Int.{ints}
use Rattle.fx_primitives.proofs.FoldLemmas.{greatest_right}
use Rattle.fx_primitives.proofs.folds.greater.Goals as goal

pub returns-else-units : goal.returns-else-units
returns-else-units c = λ zs h. greatest_right zs c.args.a c.args.b c.in-Some.x c.in-Some-b.y c.in-Some.is c.in-Some-b.is (omega (arith, ints)) h
