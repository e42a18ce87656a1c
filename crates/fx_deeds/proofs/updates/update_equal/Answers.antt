use Rattle.std.proofs.Common.{◌≡◌, ◌∙◌, true, refl, map, ap, subst, sym}
use Rattle.fx_types.specs.Types.{booleans, column_list}
use Rattle.fx_types.specs.Values.{boolean}
use Rattle.fx_types.specs.ValueView.{view}
use Rattle.fx_semantics.specs.Around.{record_of}
use Rattle.fx_core.specs.declared.sources.Source.TheVariants as source
use Rattle.fx_deeds.proofs.CutUpdates.{held_cut}
use Rattle.fx_deeds.proofs.Holding.{same_columns, updated_in, updates_in}
use Rattle.fx_deeds.proofs.Lefting.{made_records, rows_back}
use Rattle.fx_deeds.specs.Collections.{AreUpdatedIn, AreWith}
use Rattle.fx_deeds.specs.Fitting.{CanChangeAll}
use Rattle.fx_deeds.specs.RemainingRows.{record_rows}
use Rattle.fx_deeds.specs.RowValues.{columns_of_rows}
use Rattle.fx_deeds.proofs.Attempts.{attempt_none, look_attempts, look_then}
use Rattle.fx_deeds.proofs.updates.update_equal.Goals as goal

pub rows_with-requires-clause-records : goal.rows_with-requires-clause-records
rows_with-requires-clause-records g c = made_records c.as_slice-2.result.now c.args.kept.now (ap (map view) c.as_slice-2.ensures.value ∙ c.in_ok-kept.ensures)

pub rows_with-requires-clause-can : goal.rows_with-requires-clause-can
rows_with-requires-clause-can g c =
    let cs = c.requires.0 in
    let e : map view c.as_slice-2.result.now ≡ map record_of c.args.kept.now = ap (map view) c.as_slice-2.ensures.value ∙ c.in_ok-kept.ensures in
    subst (λ z. CanChangeAll z (record_rows c.as_slice-2.result.now) (map view c.args.changes.now)) (same_columns (g.W.Env.fixed c.args.world.now).types c.args.collection cs (column_list c.in_ok-columns.columns) c.requires.1 c.in_ok-columns.ensures)
    (subst (λ z. CanChangeAll cs z (map view c.args.changes.now)) (sym (rows_back c.as_slice-2.result.now c.args.kept.now e)) c.requires.2)

pub returns-clause-done : goal.returns-clause-done
returns-clause-done g c =
    let cs = column_list c.in_ok-columns.columns in
    let e : map view c.as_slice-2.result.now ≡ map record_of c.args.kept.now = ap (map view) c.as_slice-2.ensures.value ∙ c.in_ok-kept.ensures in
    updated_in c.make.result _ _ _ _ _ _ c.args.collection (g.W.Env.fixed c.args.world.now).types cs c.in_ok-rows.rows c.in_ok-made.made c.args.kept.now (record_rows c.as_slice-2.result.now) (map view c.args.changes.now)
    c.rows_held.ensures.look.passed.later c.make.ensures.attempt.passed.later c.in_ok-columns.ensures (rows_back c.as_slice-2.result.now c.args.kept.now e)
    (subst (λ z. AreWith cs z (record_rows c.as_slice-2.result.now) (map view c.args.changes.now) c.in_ok-made.made) c.as_slice.ensures c.in_ok-made.ensures.with) c.in_ok-rows.ensures.held c.make.ensures.done

pub returns-clause-fits : goal.returns-clause-fits
returns-clause-fits g c = c.make.ensures.fits booleans refl

pub returns-in_err-columns-clause-attempt : goal.returns-in_err-columns-clause-attempt
returns-in_err-columns-clause-attempt g c = attempt_none _ _

pub returns-in_err-kept-clause-attempt : goal.returns-in_err-kept-clause-attempt
returns-in_err-kept-clause-attempt g c = attempt_none _ _

pub returns-in_err-rows-clause-attempt : goal.returns-in_err-rows-clause-attempt
returns-in_err-rows-clause-attempt g c = look_attempts _ _ _ c.rows_held.ensures.look

pub returns-in_err-made-clause-attempt : goal.returns-in_err-made-clause-attempt
returns-in_err-made-clause-attempt g c = look_attempts _ _ _ c.rows_held.ensures.look

pub returns-clause-attempt : goal.returns-clause-attempt
returns-clause-attempt g c = look_then _ _ _ _ c.rows_held.ensures.look c.make.ensures.attempt

pub returns-clause-cut : goal.returns-clause-cut
returns-clause-cut g c =
    let cs = column_list c.in_ok-columns.columns in
    let types = (g.W.Env.fixed c.args.world.now).types in
    let e : map view c.as_slice-2.result.now ≡ map record_of c.args.kept.now = ap (map view) c.as_slice-2.ensures.value ∙ c.in_ok-kept.ensures in
    held_cut c.make.result _ _ _ _ _ _ c.args.collection c.in_ok-rows.rows c.in_ok-made.made (boolean true) (AreUpdatedIn (columns_of_rows (types (source.Gathered c.args.collection))) c.args.collection c.args.kept.now (map view c.args.changes.now))
    c.rows_held.ensures.look.passed.later c.make.ensures.attempt.passed.later
    (updates_in c.args.collection types cs c.in_ok-rows.rows c.in_ok-made.made c.args.kept.now (record_rows c.as_slice-2.result.now) (map view c.args.changes.now) c.in_ok-columns.ensures (rows_back c.as_slice-2.result.now c.args.kept.now e)
    (subst (λ z. AreWith cs z (record_rows c.as_slice-2.result.now) (map view c.args.changes.now) c.in_ok-made.made) c.as_slice.ensures c.in_ok-made.ensures.with)) c.in_ok-rows.ensures.held c.make.ensures.cut
