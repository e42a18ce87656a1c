use Rattle.std.proofs.Common.{◌≡◌, true, subst, sym}
use Rattle.fx_types.specs.Types.{records}
use Rattle.fx_semantics.specs.Around.{record_of}
use Rattle.fx_value.specs.Fits.{fits_in}
use Rattle.fx_deeds.proofs.Adding.{appended_fits, gathers_rows}
use Rattle.fx_deeds.proofs.Attempts.{attempt_none, look_attempts, look_then}
use Rattle.fx_deeds.proofs.collections.append.Goals as goal

pub make-requires : goal.make-requires
make-requires g c =
    let cs = c.requires.0 in
    gathers_rows (g.W.Env.fixed c.args.world.now) (g.W.Env.fixed c.rows_held.new.world) (g.W.World.names c.rows_held.new.world) c.args.collection cs _ c.rows_held.ensures.look.passed.fixed (g.met.W.World.typed c.rows_held.new.world) c.requires.1
    (appended_fits cs _ _ c.args.row c.in_ok-push.ensures.ok (c.in_ok-rows.ensures.fits cs c.requires.1) c.requires.2)

pub returns-clause-fits : goal.returns-clause-fits
returns-clause-fits g c = λ cs h. c.make.ensures.fits (records cs) (subst (λ z. fits_in (record_of z) (records cs) ≡ true) (sym c.in_ok-copy.ensures) h)

pub returns-in_err-copy-clause-attempt : goal.returns-in_err-copy-clause-attempt
returns-in_err-copy-clause-attempt g c = attempt_none _ _

pub returns-in_err-rows-clause-attempt : goal.returns-in_err-rows-clause-attempt
returns-in_err-rows-clause-attempt g c = look_attempts _ _ _ c.rows_held.ensures.look

pub returns-in_err-push-clause-attempt : goal.returns-in_err-push-clause-attempt
returns-in_err-push-clause-attempt g c = look_attempts _ _ _ c.rows_held.ensures.look

pub returns-clause-attempt : goal.returns-clause-attempt
returns-clause-attempt g c = look_then _ _ _ _ c.rows_held.ensures.look c.make.ensures.attempt
