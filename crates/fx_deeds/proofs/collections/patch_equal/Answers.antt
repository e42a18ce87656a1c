use Rattle.std.proofs.Common.{◌≡◌, ◌∙◌, None, map, ap, subst, sym}
use Rattle.std.specs.Prelude.{option_map}
use Rattle.std.specs.List.{find}
use Rattle.fx_base.specs.Silence.{SilenceCause}
use Rattle.fx_types.specs.Types.{column_list, records}
use Rattle.fx_types.specs.ValueView.{view}
use Rattle.fx_tables.specs.Unions.{is_fault}
use Rattle.fx_core.specs.declared.sources.Source.TheVariants as source
use Rattle.fx_deeds.proofs.Adding.{error_fits}
use Rattle.fx_deeds.proofs.Deeding.{no_error}
use Rattle.fx_deeds.proofs.CutOff.{cut_by}
use Rattle.fx_deeds.proofs.Holding.{patched_in, patches_in}
use Rattle.fx_deeds.specs.Collections.{IsPatchedIn, PatchesGathered}
use Rattle.fx_deeds.specs.RowValues.{changed_row, columns_of_rows, values_among}
use Rattle.fx_deeds.proofs.Attempts.{attempt_none}
use Rattle.fx_deeds.proofs.collections.patch_equal.Goals as goal

pub returns-in-Some-clause-fits : goal.returns-in-Some-clause-fits
returns-in-Some-clause-fits g c = λ cs h. error_fits (values_among c.as_slice.result.now) (view c.in-Some.error) (records cs) (sym c.in_ok-error.ensures ∙ ap (option_map view) c.in-Some.is)

pub returns-clause-done : goal.returns-clause-done
returns-clause-done g c =
    let cs = column_list c.in_ok-columns.columns in
    patched_in c.patch_row.result (SilenceCause (g.W.Env.marks c.args.world.now) (g.W.Env.marks c.patch_row.new.world)) (g.W.World.state c.args.world.now) (g.W.World.state c.patch_row.new.world) c.args.collection (g.W.Env.fixed c.args.world.now).types cs (view c.args.base.now) (map view c.args.changes.now) c.new.result c.in_ok-changes.changes c.in_ok-row.row c.in_ok-changed.changed
    c.in_ok-columns.ensures c.new.ensures c.in_ok-changes.ensures
    (subst (λ z. find is_fault (values_among z) ≡ None) c.as_slice.ensures (no_error c.in_ok-error.field-0 _ c.in_ok-error.ensures c.in_default.not-Some)) c.in_ok-row.ensures
    (c.in_ok-changed.ensures.row ∙ ap (λ z. changed_row cs z c.in_ok-row.row) c.as_slice-2.ensures) c.patch_row.ensures.done

pub returns-in_err-changes-clause-attempt : goal.returns-in_err-changes-clause-attempt
returns-in_err-changes-clause-attempt g c = attempt_none _ _

pub returns-in_err-error-clause-attempt : goal.returns-in_err-error-clause-attempt
returns-in_err-error-clause-attempt g c = attempt_none _ _

pub returns-in-Some-clause-attempt : goal.returns-in-Some-clause-attempt
returns-in-Some-clause-attempt g c = attempt_none _ _

pub returns-in_err-columns-clause-attempt : goal.returns-in_err-columns-clause-attempt
returns-in_err-columns-clause-attempt g c = attempt_none _ _

pub returns-in_err-row-clause-attempt : goal.returns-in_err-row-clause-attempt
returns-in_err-row-clause-attempt g c = attempt_none _ _

pub returns-in_err-changed-clause-attempt : goal.returns-in_err-changed-clause-attempt
returns-in_err-changed-clause-attempt g c = attempt_none _ _

pub returns-clause-cut : goal.returns-clause-cut
returns-clause-cut g c =
    let cs = column_list c.in_ok-columns.columns in
    cut_by c.patch_row.result (SilenceCause (g.W.Env.marks c.args.world.now) (g.W.Env.marks c.patch_row.new.world)) (λ s n d t. PatchesGathered c.args.collection c.in_ok-row.row c.in_ok-changed.changed s d t)
    (λ s n d t. IsPatchedIn (columns_of_rows ((g.W.Env.fixed c.args.world.now).types (source.Gathered c.args.collection))) c.args.collection (view c.args.base.now) (map view c.args.changes.now) s d t) (g.W.World.state c.args.world.now) (g.W.World.state c.patch_row.new.world)
    (λ s n d t. patches_in c.args.collection (g.W.Env.fixed c.args.world.now).types cs (view c.args.base.now) (map view c.args.changes.now) c.new.result c.in_ok-changes.changes c.in_ok-row.row c.in_ok-changed.changed c.in_ok-columns.ensures c.new.ensures c.in_ok-changes.ensures
    (subst (λ z. find is_fault (values_among z) ≡ None) c.as_slice.ensures (no_error c.in_ok-error.field-0 _ c.in_ok-error.ensures c.in_default.not-Some)) c.in_ok-row.ensures
    (c.in_ok-changed.ensures.row ∙ ap (λ z. changed_row cs z c.in_ok-row.row) c.as_slice-2.ensures) s d t) c.patch_row.ensures.cut
