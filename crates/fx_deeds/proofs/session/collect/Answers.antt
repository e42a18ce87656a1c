use Rattle.std.proofs.Common.{◌∙◌, ap, sym, refl}
use Rattle.std.specs.Prelude.{map, option_map}
use Rattle.fx_types.specs.Types.{booleans}
use Rattle.fx_types.specs.ValueView.{view}
use Rattle.fx_deeds.proofs.Adding.{error_fits, gathers}
use Rattle.fx_deeds.proofs.Attempts.{attempt_none, look_attempts, look_then}
use Rattle.fx_deeds.proofs.session.collect.Goals as goal

pub returns-in-Some-clause-fits : goal.returns-in-Some-clause-fits
returns-in-Some-clause-fits g c = error_fits (map view c.args.values.now) (view c.in-Some.error) booleans (sym c.in_ok-error.ensures ∙ ap (option_map view) c.in-Some.is)

pub make-requires : goal.make-requires
make-requires g c =
    gathers (g.W.Env.fixed c.args.world.now) (g.W.Env.fixed c.rows_held.new.world) (g.W.World.names c.rows_held.new.world) c.args.collection (map view c.args.values.now) _ _ c.rows_held.ensures.look.passed.fixed (g.met.W.World.typed c.rows_held.new.world) c.requires c.in_ok-rows.ensures.fits c.in_ok-rows-2.ensures

pub returns-clause-fits : goal.returns-clause-fits
returns-clause-fits g c = c.make.ensures.fits booleans refl

pub returns-in_err-error-clause-attempt : goal.returns-in_err-error-clause-attempt
returns-in_err-error-clause-attempt g c = attempt_none _ _

pub returns-in-Some-clause-attempt : goal.returns-in-Some-clause-attempt
returns-in-Some-clause-attempt g c = attempt_none _ _

pub returns-in_err-rows-clause-attempt : goal.returns-in_err-rows-clause-attempt
returns-in_err-rows-clause-attempt g c = look_attempts _ _ _ c.rows_held.ensures.look

pub returns-in_err-rows-2-clause-attempt : goal.returns-in_err-rows-2-clause-attempt
returns-in_err-rows-2-clause-attempt g c = look_attempts _ _ _ c.rows_held.ensures.look

pub returns-clause-attempt : goal.returns-clause-attempt
returns-clause-attempt g c = look_then _ _ _ _ c.rows_held.ensures.look c.make.ensures.attempt
