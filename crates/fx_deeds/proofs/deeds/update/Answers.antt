use Rattle.std.proofs.Common.{◌∙◌, ◌∷◌, [], map, ap, subst, sym}
use Rattle.std.specs.Prelude.{option_map}
use Rattle.fx_base.specs.Silence.{SilenceCause}
use Rattle.fx_types.specs.Types.{booleans}
use Rattle.fx_types.specs.ValueView.{view}
use Rattle.fx_core.specs.declared.deeds.Deed.TheVariants as deed
use Rattle.fx_core.specs.declared.sources.Source.TheVariants as source
use Rattle.fx_deeds.proofs.Adding.{error_fits}
use Rattle.fx_deeds.proofs.Deeding.{no_error}
use Rattle.fx_deeds.proofs.Holding.{all_can}
use Rattle.fx_deeds.proofs.Targets.{can_update}
use Rattle.fx_deeds.specs.Doable.{CanUpdate}
use Rattle.fx_deeds.specs.Done.{errors_in}
use Rattle.fx_deeds.specs.Writable.{IsOneOf, DeedMayWrite}
use Rattle.fx_deeds.proofs.CutOff.{cut_nowhere, on_any}
use Rattle.fx_deeds.proofs.CutUpdates.{cut_update, cut_update_in}
use Rattle.fx_deeds.specs.CutOff.{IsUpdateBegun}
use Rattle.fx_deeds.specs.State.{eval_frame}
use Rattle.fx_deeds.proofs.Attempts.{attempt_none, attempt_wider}
use Rattle.fx_deeds.proofs.deeds.update.Goals as goal

pub returns-in-Some-clause-fits : goal.returns-in-Some-clause-fits
returns-in-Some-clause-fits g c = error_fits (errors_in (map view c.args.changes.now)) (view c.in-Some.error) booleans (sym c.in_ok-error.ensures ∙ ap (option_map view) c.in-Some.is)

pub update_table-requires : goal.update_table-requires
update_table-requires g c =
    let w = c.args.world.now in
    can_update (g.W.Env.fixed w) (g.W.World.names w) c.in-Table.table (g.met.W.World.typed w) (g.met.W.World.shaped w) c.args.rows.now (map view c.args.changes.now)
    (no_error c.in_ok-error.field-0 _ c.in_ok-error.ensures c.in_default.not-Some) (subst (λ p. CanUpdate (g.W.Env.fixed w).types p c.args.rows.now (map view c.args.changes.now)) c.in-Table.is c.requires)

pub update_equal-requires : goal.update_equal-requires
update_equal-requires g c =
    let can = subst (λ p. CanUpdate (g.W.Env.fixed c.args.world.now).types p c.args.rows.now (map view c.args.changes.now)) c.in-Gathered.is c.requires in
    (can.0, can.1, all_can can.0 c.args.rows.now (map view c.args.changes.now) can.2 can.3 can.4)

pub returns-in_err-error-clause-attempt : goal.returns-in_err-error-clause-attempt
returns-in_err-error-clause-attempt g c = attempt_none _ _

pub returns-in-Some-clause-attempt : goal.returns-in-Some-clause-attempt
returns-in-Some-clause-attempt g c = attempt_none _ _

pub returns-in-Table-clause-attempt : goal.returns-in-Table-clause-attempt
returns-in-Table-clause-attempt g c = attempt_wider _ _ (IsOneOf (source.Table c.in-Table.table ∷ [])) (DeedMayWrite (deed.UpdateIf c.args.target)) (λ x w. subst (λ p. DeedMayWrite (deed.UpdateIf p) x) (sym c.in-Table.is) w) c.update_table.ensures.attempt

pub returns-in-Gathered-clause-attempt : goal.returns-in-Gathered-clause-attempt
returns-in-Gathered-clause-attempt g c = attempt_wider _ _ (IsOneOf (source.Gathered c.in-Gathered.collection ∷ [])) (DeedMayWrite (deed.UpdateIf c.args.target)) (λ x w. subst (λ p. DeedMayWrite (deed.UpdateIf p) x) (sym c.in-Gathered.is) w) c.update_equal.ensures.attempt

pub returns-in_err-error-clause-cut : goal.returns-in_err-error-clause-cut
returns-in_err-error-clause-cut g c =
    on_any _ (cut_nowhere (SilenceCause (g.W.Env.marks c.args.world.now) (g.W.Env.marks c.args.world.now)) (IsUpdateBegun (eval_frame (g.W.Env.fixed c.args.world.now)) c.args.target c.args.rows.now (map view c.args.changes.now)) (g.W.World.state c.args.world.now))

pub returns-in-Table-clause-cut : goal.returns-in-Table-clause-cut
returns-in-Table-clause-cut g c =
    cut_update c.update_table.result (SilenceCause (g.W.Env.marks c.args.world.now) (g.W.Env.marks c.update_table.new.world)) (g.W.World.state c.args.world.now) (g.W.World.state c.update_table.new.world) (eval_frame (g.W.Env.fixed c.args.world.now)) c.args.target c.in-Table.table c.args.rows.now (map view c.args.changes.now) c.in-Table.is
    (no_error c.in_ok-error.field-0 _ c.in_ok-error.ensures c.in_default.not-Some) c.update_table.ensures.cut

pub returns-in-Gathered-clause-cut : goal.returns-in-Gathered-clause-cut
returns-in-Gathered-clause-cut g c =
    cut_update_in c.update_equal.result (SilenceCause (g.W.Env.marks c.args.world.now) (g.W.Env.marks c.update_equal.new.world)) (g.W.World.state c.args.world.now) (g.W.World.state c.update_equal.new.world) (eval_frame (g.W.Env.fixed c.args.world.now)) c.args.target c.in-Gathered.collection c.args.rows.now (map view c.args.changes.now) c.in-Gathered.is
    (no_error c.in_ok-error.field-0 _ c.in_ok-error.ensures c.in_default.not-Some) c.update_equal.ensures.cut
