use Rattle.std.proofs.Common.{◌≡◌, ◌++◌, ◌∙◌, ◌∷◌, map, Some, ap, subst, sym, true}
use Rattle.std.specs.Prelude.{IfOk, option_map}
use Rattle.std.specs.List.{find}
use Rattle.fx_base.specs.Silence.{SilenceCause}
use Rattle.fx_types.specs.Types.{records}
use Rattle.fx_types.specs.ValueView.{view}
use Rattle.fx_tables.specs.Unions.{is_fault}
use Rattle.fx_core.specs.SourceTypes.{columns_of}
use Rattle.fx_value.specs.Fits.{fits_in}
use Rattle.fx_deeds.proofs.Adding.{error_fits}
use Rattle.fx_deeds.proofs.Deeding.{by_error, goes_nowhere, is_error, no_error}
use Rattle.fx_deeds.proofs.Tabling.{of_shape, patched_table, rest_none, to_table}
use Rattle.fx_deeds.specs.Deeds.{IsPatched, OfTable, PatchesBase, row_id_value}
use Rattle.fx_deeds.specs.Finding.{CanPatchRows}
use Rattle.fx_deeds.specs.RowValues.{rows_among, values_among}
use Rattle.fx_deeds.proofs.CutRows.{cut_patched}
use Rattle.fx_deeds.proofs.Attempts.{attempt_none}
use Rattle.fx_deeds.proofs.table_rows.patch_table.Goals as goal

pub returns-in-Some-clause-done : goal.returns-in-Some-clause-done
returns-in-Some-clause-done g c =
    let w = c.args.world.now in
    let schema = (g.W.Env.fixed w).schema in
    let b = view c.args.base.now in
    let ys = map view c.args.changes.now in
    let x = view c.in-Some.error in
    let rows = c.as_slice.ensures ∙ c.in_ok-changes.ensures ∙ ap (λ z. z ++ rows_among ys) c.new.ensures in
    let found : find is_fault (row_id_value b ∷ values_among (rows_among ys)) ≡ Some x =
    ap (λ z. find is_fault (row_id_value b ∷ values_among z)) (sym rows) ∙ is_error c.in_ok-error.field-0 _ c.in-Some.error c.in_ok-error.ensures c.in-Some.is in
    goes_nowhere (SilenceCause (g.W.Env.marks w) (g.W.Env.marks w)) (λ s t. IsPatched schema c.args.table b ys s x t) (g.W.World.state w)
    (λ s. by_error (row_id_value b ∷ values_among (rows_among ys)) (OfTable schema c.args.table (λ p. PatchesBase p c.args.table (rows_among ys) b s x s)) s x found)

pub returns-in-Some-clause-fits : goal.returns-in-Some-clause-fits
returns-in-Some-clause-fits g c =
    to_table (g.W.Env.fixed c.args.world.now).schema c.args.table c.in_ok-shape.shape (λ q. fits_in (view c.in-Some.error) (records (columns_of q)) ≡ true) c.in_ok-shape.ensures
    (error_fits (row_id_value (view c.args.base.now) ∷ values_among c.as_slice.result.now) (view c.in-Some.error) (records (columns_of c.in_ok-shape.shape)) (sym c.in_ok-error.ensures ∙ ap (option_map view) c.in-Some.is))

pub patch_base-requires-clause-can : goal.patch_base-requires-clause-can
patch_base-requires-clause-can g c =
    let ys = map view c.args.changes.now in
    let p = c.in_ok-shape.shape in
    let d = row_id_value (view c.args.base.now) in
    let rows = c.as_slice-2.ensures ∙ c.in_ok-changes.ensures ∙ ap (λ z. z ++ rows_among ys) c.new.ensures in
    let none = ap (λ z. find is_fault (values_among z)) (c.as_slice-2.ensures ∙ sym c.as_slice.ensures)
    ∙ rest_none d (values_among c.as_slice.result.now) (no_error c.in_ok-error.field-0 (find is_fault (d ∷ values_among c.as_slice.result.now)) c.in_ok-error.ensures c.in_default.not-Some) in
    (subst (CanPatchRows p) (sym rows) (of_shape (g.W.Env.fixed c.args.world.now).schema c.args.table p (λ q. CanPatchRows q (rows_among ys)) c.in_ok-shape.ensures c.requires), none)

pub returns-clause-done : goal.returns-clause-done
returns-clause-done g c =
    let old = c.args.world.now in
    let new = c.patch_base.new.world in
    let b = view c.args.base.now in
    let ys = map view c.args.changes.now in
    let rows = c.as_slice-2.ensures ∙ c.in_ok-changes.ensures ∙ ap (λ z. z ++ rows_among ys) c.new.ensures in
    let first = c.as_slice.ensures ∙ c.in_ok-changes.ensures ∙ ap (λ z. z ++ rows_among ys) c.new.ensures in
    let none = ap (λ z. find is_fault (row_id_value b ∷ values_among z)) (sym first) ∙ no_error c.in_ok-error.field-0 _ c.in_ok-error.ensures c.in_default.not-Some in
    patched_table c.patch_base.result (SilenceCause (g.W.Env.marks old) (g.W.Env.marks new)) (g.W.World.state old) (g.W.World.state new) (g.W.Env.fixed old).schema c.args.table c.in_ok-shape.shape b ys c.as_slice-2.result.now c.in_ok-shape.ensures rows
    none c.patch_base.ensures.done

pub returns-clause-fits : goal.returns-clause-fits
returns-clause-fits g c = to_table (g.W.Env.fixed c.args.world.now).schema c.args.table c.in_ok-shape.shape (λ q. IfOk c.patch_base.result (λ x. fits_in (view x) (records (columns_of q)) ≡ true)) c.in_ok-shape.ensures c.patch_base.ensures.fits

pub returns-in_err-shape-clause-attempt : goal.returns-in_err-shape-clause-attempt
returns-in_err-shape-clause-attempt g c = attempt_none _ _

pub returns-in_err-changes-clause-attempt : goal.returns-in_err-changes-clause-attempt
returns-in_err-changes-clause-attempt g c = attempt_none _ _

pub returns-in_err-error-clause-attempt : goal.returns-in_err-error-clause-attempt
returns-in_err-error-clause-attempt g c = attempt_none _ _

pub returns-in-Some-clause-attempt : goal.returns-in-Some-clause-attempt
returns-in-Some-clause-attempt g c = attempt_none _ _

pub returns-clause-cut : goal.returns-clause-cut
returns-clause-cut g c =
    let b = view c.args.base.now in
    let ys = map view c.args.changes.now in
    let rows = c.as_slice-2.ensures ∙ c.in_ok-changes.ensures ∙ ap (λ z. z ++ rows_among ys) c.new.ensures in
    let first = c.as_slice.ensures ∙ c.in_ok-changes.ensures ∙ ap (λ z. z ++ rows_among ys) c.new.ensures in
    let none = ap (λ z. find is_fault (row_id_value b ∷ values_among z)) (sym first) ∙ no_error c.in_ok-error.field-0 _ c.in_ok-error.ensures c.in_default.not-Some in
    cut_patched c.patch_base.result (SilenceCause (g.W.Env.marks c.args.world.now) (g.W.Env.marks c.patch_base.new.world)) (g.W.World.state c.args.world.now) (g.W.World.state c.patch_base.new.world) (g.W.Env.fixed c.args.world.now).schema c.args.table c.in_ok-shape.shape b ys c.as_slice-2.result.now c.in_ok-shape.ensures rows none c.patch_base.ensures.cut
