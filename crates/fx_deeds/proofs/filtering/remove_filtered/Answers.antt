use Rattle.std.proofs.Common.{◌∙◌, ap, map}
use Rattle.fx_base.specs.Silence.{SilenceCause}
use Rattle.fx_types.specs.ValueView.{view}
use Rattle.fx_deeds.proofs.CutUpdates.{cut_removed_if}
use Rattle.fx_deeds.proofs.Attempts.{attempt_none}
use Rattle.fx_deeds.proofs.filtering.remove_filtered.Goals as goal

pub returns-in_err-records-in-Ok-clause-attempt : goal.returns-in_err-records-in-Ok-clause-attempt
returns-in_err-records-in-Ok-clause-attempt g c = attempt_none _ _

pub returns-in-Err-clause-attempt : goal.returns-in-Err-clause-attempt
returns-in-Err-clause-attempt g c = attempt_none _ _

pub returns-in_ok-records-in-Ok-clause-cut : goal.returns-in_ok-records-in-Ok-clause-cut
returns-in_ok-records-in-Ok-clause-cut g c =
    cut_removed_if c.remove_rows.result (SilenceCause (g.W.Env.marks c.args.world.now) (g.W.Env.marks c.remove_rows.new.world)) (g.W.World.state c.args.world.now) (g.W.World.state c.remove_rows.new.world) c.args.table (view c.args.filtered) c.as_slice.result.now c.as_slice-in-Ok.result.now c.in-Ok.ensures.1 (c.as_slice.ensures ∙ c.in-Ok.ensures.0)
    (ap (map view) c.as_slice-in-Ok.ensures.value ∙ c.in_ok-records-in-Ok.ensures) c.remove_rows.ensures.cut
