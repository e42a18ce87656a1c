use Rattle.std.proofs.Common.{arith, ◌∙◌}
use Rattle.std.proofs.lemmas.Int.{ints}
use Rattle.std.proofs.lemmas.Str.{chars-nil}
use Rattle.fx_eval.proofs.Averages.{sum_out}
use Rattle.fx_eval.proofs.demands.sum_value.Goals as goal

pub returns-in_ok-of-in-None : goal.returns-in_ok-of-in-None
returns-in_ok-of-in-None c = λ zs s. sum_out zs c.args.totals.now _ _ s c.if-totals-eq0.false (omega (arith, ints)) c.in-None.ensures (c.in_ok-of-in-None.ensures ∙ chars-nil)
