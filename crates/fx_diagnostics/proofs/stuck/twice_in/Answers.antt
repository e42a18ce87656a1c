use Rattle.std.proofs.Common.{◌∙◌, sym}
use Rattle.fx_diagnostics.proofs.Twice.{twice_step}
use Rattle.fx_diagnostics.proofs.stuck.twice_in.Goals as goal

pub loop-place-preserved : goal.loop-place-preserved
loop-place-preserved c =
    twice_step c.args.fields.now c.loop-place.place c.index-fields-place.result c.loop-place-test.true c.index-fields-place.is (sym c.has_field.ensures ∙ c.if-has_field.false)
    ∙ c.loop-place.invariant
