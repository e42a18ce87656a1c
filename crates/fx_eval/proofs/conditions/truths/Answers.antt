use Rattle.std.proofs.Common.{◌∙◌, ap, map}
use Rattle.fx_types.specs.ValueView.{view}
use Rattle.fx_eval.proofs.Turns.{truths_seen}
use Rattle.fx_eval.proofs.conditions.truths.Goals as goal

pub returns : goal.returns
returns c = ap (map view) c.in_ok-each_truth.ensures ∙ truths_seen c.args.rows.now
