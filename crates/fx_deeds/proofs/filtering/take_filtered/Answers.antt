use Rattle.std.proofs.Common.{◌≡◌, ◌∙◌, true, map, refl, ap, subst, sym}
use Rattle.fx_types.specs.Types.{booleans, tables}
use Rattle.fx_types.specs.Values.{boolean}
use Rattle.fx_types.specs.ValueView.{view}
use Rattle.fx_semantics.specs.Rows.{rows_in, table_of}
use Rattle.fx_value.specs.Fits.{fits_in}
use Rattle.fx_deeds.proofs.Adding.{gathers_rows}
use Rattle.fx_deeds.proofs.CutUpdates.{held_cut}
use Rattle.fx_deeds.proofs.Holding.{taken_if, takes_if}
use Rattle.fx_deeds.proofs.Lefting.{left_fits, made_records, rows_back}
use Rattle.fx_deeds.specs.Collections.{RemainAfterFilter, AreTakenIf}
use Rattle.fx_deeds.specs.Deeds.{OrError}
use Rattle.fx_deeds.specs.RemainingRows.{record_rows}
use Rattle.fx_deeds.proofs.Attempts.{attempt_none, look_attempts, look_then}
use Rattle.fx_deeds.proofs.filtering.take_filtered.Goals as goal

pub rows_left-requires : goal.rows_left-requires
rows_left-requires g c = made_records c.as_slice-in-Ok-2.result.now c.as_slice.result.now (ap (map view) c.as_slice-in-Ok-2.ensures.value ∙ c.in_ok-kept-in-Ok.ensures)

pub make-requires : goal.make-requires
make-requires g c =
    let cs = c.requires.0 in
    gathers_rows (g.W.Env.fixed c.args.world.now) (g.W.Env.fixed c.rows_held.new.world) (g.W.World.names c.rows_held.new.world) c.args.collection cs _ c.rows_held.ensures.look.passed.fixed (g.met.W.World.typed c.rows_held.new.world) c.requires.1
    (left_fits cs c.as_slice-in-Ok.result.now (record_rows c.as_slice-in-Ok-2.result.now) c.in_ok-left-in-Ok.left c.in_ok-left-in-Ok.ensures
    (subst (λ z. fits_in (table_of z) (tables cs) ≡ true) (sym c.as_slice-in-Ok.ensures) (c.in_ok-rows-in-Ok.ensures.fits cs c.requires.1)))

pub returns-in_ok-left-in-Ok-clause-done : goal.returns-in_ok-left-in-Ok-clause-done
returns-in_ok-left-in-Ok-clause-done g c =
    let vs = c.as_slice-in-Ok-2.result.now in
    let kept = rows_back vs c.as_slice.result.now (ap (map view) c.as_slice-in-Ok-2.ensures.value ∙ c.in_ok-kept-in-Ok.ensures) ∙ c.as_slice.ensures ∙ c.in-Ok.ensures.0 in
    taken_if c.make.result _ _ _ _ _ _ c.args.collection c.in_ok-rows-in-Ok.rows c.in_ok-left-in-Ok.left (record_rows vs) (view c.args.filtered) c.rows_held.ensures.look.passed.later c.make.ensures.attempt.passed.later c.in-Ok.ensures.1 kept
    (subst (λ z. RemainAfterFilter z (record_rows vs) c.in_ok-left-in-Ok.left) c.as_slice-in-Ok.ensures c.in_ok-left-in-Ok.ensures) c.in_ok-rows-in-Ok.ensures.held c.make.ensures.done

pub returns-in_ok-left-in-Ok-clause-fits : goal.returns-in_ok-left-in-Ok-clause-fits
returns-in_ok-left-in-Ok-clause-fits g c = c.make.ensures.fits booleans refl

pub returns-in_err-kept-in-Ok-clause-attempt : goal.returns-in_err-kept-in-Ok-clause-attempt
returns-in_err-kept-in-Ok-clause-attempt g c = attempt_none _ _

pub returns-in-Err-clause-attempt : goal.returns-in-Err-clause-attempt
returns-in-Err-clause-attempt g c = attempt_none _ _

pub returns-in_err-rows-in-Ok-clause-attempt : goal.returns-in_err-rows-in-Ok-clause-attempt
returns-in_err-rows-in-Ok-clause-attempt g c = look_attempts _ _ _ c.rows_held.ensures.look

pub returns-in_err-left-in-Ok-clause-attempt : goal.returns-in_err-left-in-Ok-clause-attempt
returns-in_err-left-in-Ok-clause-attempt g c = look_attempts _ _ _ c.rows_held.ensures.look

pub returns-in_ok-left-in-Ok-clause-attempt : goal.returns-in_ok-left-in-Ok-clause-attempt
returns-in_ok-left-in-Ok-clause-attempt g c = look_then _ _ _ _ c.rows_held.ensures.look c.make.ensures.attempt

pub returns-in_ok-left-in-Ok-clause-cut : goal.returns-in_ok-left-in-Ok-clause-cut
returns-in_ok-left-in-Ok-clause-cut g c =
    let vs = c.as_slice-in-Ok-2.result.now in
    let d = view c.args.filtered in
    let kept = rows_back vs c.as_slice.result.now (ap (map view) c.as_slice-in-Ok-2.ensures.value ∙ c.in_ok-kept-in-Ok.ensures) ∙ c.as_slice.ensures ∙ c.in-Ok.ensures.0 in
    held_cut c.make.result _ _ _ _ _ _ c.args.collection c.in_ok-rows-in-Ok.rows c.in_ok-left-in-Ok.left (boolean true) (λ s x t. OrError d (AreTakenIf c.args.collection (rows_in d) s x t) s x t) c.rows_held.ensures.look.passed.later c.make.ensures.attempt.passed.later
    (takes_if c.args.collection c.in_ok-rows-in-Ok.rows c.in_ok-left-in-Ok.left (record_rows vs) d c.in-Ok.ensures.1 kept
    (subst (λ z. RemainAfterFilter z (record_rows vs) c.in_ok-left-in-Ok.left) c.as_slice-in-Ok.ensures c.in_ok-left-in-Ok.ensures)) c.in_ok-rows-in-Ok.ensures.held c.make.ensures.cut
