use Rattle.std.proofs.Common.{◌≡◌, ◌∙◌, true, ap, sym, subst, refl}
use Rattle.std.specs.Prelude.{map, option_map}
use Rattle.fx_types.specs.Types.{booleans, tables}
use Rattle.fx_types.specs.ValueView.{view}
use Rattle.fx_semantics.specs.Rows.{table_of}
use Rattle.fx_value.specs.Fits.{fits_in}
use Rattle.fx_deeds.proofs.Adding.{error_fits, gathers}
use Rattle.fx_deeds.proofs.Attempts.{attempt_none}
use Rattle.fx_deeds.proofs.session.clear_collect.Goals as goal

pub returns-in-Some-clause-fits : goal.returns-in-Some-clause-fits
returns-in-Some-clause-fits g c = error_fits (map view c.args.values.now) (view c.in-Some.error) booleans (sym c.in_ok-error.ensures ∙ ap (option_map view) c.in-Some.is)

pub make-requires : goal.make-requires
make-requires g c =
    gathers (g.W.Env.fixed c.args.world.now) (g.W.Env.fixed c.args.world.now) (g.W.World.names c.args.world.now) c.args.collection (map view c.args.values.now) _ _ refl (g.met.W.World.typed c.args.world.now) c.requires
    (λ cs h. subst (λ z. fits_in (table_of z) (tables cs) ≡ true) (sym c.new.ensures) refl) c.in_ok-rows.ensures

pub returns-clause-fits : goal.returns-clause-fits
returns-clause-fits g c = c.make.ensures.fits booleans refl

pub returns-in_err-error-clause-attempt : goal.returns-in_err-error-clause-attempt
returns-in_err-error-clause-attempt g c = attempt_none _ _

pub returns-in-Some-clause-attempt : goal.returns-in-Some-clause-attempt
returns-in-Some-clause-attempt g c = attempt_none _ _

pub returns-in_err-rows-clause-attempt : goal.returns-in_err-rows-clause-attempt
returns-in_err-rows-clause-attempt g c = attempt_none _ _
