use Rattle.std.proofs.Common.{◌++◌, ◌∙◌, ◌∷◌, [], ap, subst, sym}
use Rattle.fx_base.specs.Silence.{SilenceCause}
use Rattle.fx_types.specs.ValueView.{view}
use Rattle.fx_semantics.specs.Around.{record_of}
use Rattle.fx_semantics.specs.Rows.{rows_in}
use Rattle.std.specs.Prelude.{Some}
use Rattle.fx_deeds.proofs.Deeding.{goes_nowhere}
use Rattle.fx_deeds.proofs.Tabling.{updates_none, updates_row}
use Rattle.fx_deeds.specs.Finding.{CanChangeRows, IsUpdatedRow}
use Rattle.fx_deeds.specs.Found.{NamesRow}
use Rattle.fx_deeds.proofs.CutOff.{cut_nowhere, cut_staying, on_any}
use Rattle.fx_deeds.proofs.CutUpdates.{cut_put}
use Rattle.fx_deeds.specs.Deeds.{AreUpdated}
use Rattle.fx_deeds.proofs.Attempts.{attempt_none}
use Rattle.fx_deeds.proofs.table_rows.update_row.Goals as goal

pub returns-in-Err-clause-done : goal.returns-in-Err-clause-done
returns-in-Err-clause-done g c =
    let w = c.args.world.now in
    goes_nowhere (SilenceCause (g.W.Env.marks w) (g.W.Env.marks w)) (IsUpdatedRow c.args.shape.now c.args.table c.args.row.now (view c.args.change.now) (Some c.in-Err.error)) (g.W.World.state w)
    (λ s. updates_none c.args.shape.now c.args.table c.args.row.now (view c.args.change.now) c.in-Err.error s (subst (NamesRow (record_of c.args.row.now)) c.in-Err.is c.in_ok-named.ensures))

pub put_changed-requires-clause-can : goal.put_changed-requires-clause-can
put_changed-requires-clause-can g c =
    let rows = c.as_slice.ensures ∙ c.in_ok-changes.ensures ∙ ap (λ z. z ++ rows_in (view c.args.change.now)) c.new.ensures in
    subst (CanChangeRows c.args.shape.now) (sym rows) c.requires.can

pub returns-clause-done : goal.returns-clause-done
returns-clause-done g c =
    let rows = c.as_slice.ensures ∙ c.in_ok-changes.ensures ∙ ap (λ z. z ++ rows_in (view c.args.change.now)) c.new.ensures in
    updates_row (SilenceCause (g.W.Env.marks c.args.world.now) (g.W.Env.marks c.put_changed.new.world)) (g.W.World.state c.args.world.now) (g.W.World.state c.put_changed.new.world) c.args.shape.now c.args.table c.in-Ok.id c.args.row.now (view c.args.change.now) c.as_slice.result.now c.in_ok-patched-in-Ok.patched.cells
    c.in_ok-patched-in-Ok.patched.put c.in_ok-end-in-Ok.end (subst (NamesRow (record_of c.args.row.now)) c.in-Ok.is c.in_ok-named.ensures) rows c.in_ok-end-in-Ok.ensures.end c.in_ok-patched-in-Ok.ensures.done

pub returns-in_err-named-clause-attempt : goal.returns-in_err-named-clause-attempt
returns-in_err-named-clause-attempt g c = attempt_none _ _

pub returns-in_err-changes-clause-attempt : goal.returns-in_err-changes-clause-attempt
returns-in_err-changes-clause-attempt g c = attempt_none _ _

pub returns-in-Err-clause-attempt : goal.returns-in-Err-clause-attempt
returns-in-Err-clause-attempt g c = attempt_none _ _

pub returns-in_err-named-clause-cut : goal.returns-in_err-named-clause-cut
returns-in_err-named-clause-cut g c =
    on_any _ (cut_nowhere (SilenceCause (g.W.Env.marks c.args.world.now) (g.W.Env.marks c.args.world.now)) (λ s n d t. AreUpdated c.args.shape.now c.args.table (c.args.row.now ∷ []) (view c.args.change.now ∷ []) s d t) (g.W.World.state c.args.world.now))

pub returns-in_err-changes-clause-cut : goal.returns-in_err-changes-clause-cut
returns-in_err-changes-clause-cut g c =
    on_any _ (cut_nowhere (SilenceCause (g.W.Env.marks c.args.world.now) (g.W.Env.marks c.args.world.now)) (λ s n d t. AreUpdated c.args.shape.now c.args.table (c.args.row.now ∷ []) (view c.args.change.now ∷ []) s d t) (g.W.World.state c.args.world.now))

pub returns-in_err-patched-in-Ok-clause-cut : goal.returns-in_err-patched-in-Ok-clause-cut
returns-in_err-patched-in-Ok-clause-cut g c =
    on_any _ (cut_staying (SilenceCause (g.W.Env.marks c.args.world.now) (g.W.Env.marks c.put_changed.new.world)) (λ s n d t. AreUpdated c.args.shape.now c.args.table (c.args.row.now ∷ []) (view c.args.change.now ∷ []) s d t) (g.W.World.state c.args.world.now) (g.W.World.state c.put_changed.new.world) c.in_err-patched-in-Ok.ensures.stops)

pub returns-in_err-end-in-Ok-clause-cut : goal.returns-in_err-end-in-Ok-clause-cut
returns-in_err-end-in-Ok-clause-cut g c =
    let rows = c.as_slice.ensures ∙ c.in_ok-changes.ensures ∙ ap (λ z. z ++ rows_in (view c.args.change.now)) c.new.ensures in
    on_any _
    (cut_put (SilenceCause (g.W.Env.marks c.args.world.now) (g.W.Env.marks c.put_changed.new.world)) (g.W.World.state c.args.world.now) (g.W.World.state c.put_changed.new.world) c.args.shape.now c.args.table c.in-Ok.id c.args.row.now (view c.args.change.now) c.as_slice.result.now c.in_ok-patched-in-Ok.patched.cells c.in_ok-patched-in-Ok.patched.put
    (subst (NamesRow (record_of c.args.row.now)) c.in-Ok.is c.in_ok-named.ensures) rows c.in_ok-patched-in-Ok.ensures.done)
