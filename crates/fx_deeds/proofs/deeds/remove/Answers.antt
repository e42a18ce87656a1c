use Rattle.fx_core.specs.declared.deeds.Target.TheVariants as target
use Rattle.std.proofs.Common.{◌∙◌, ◌∷◌, [], ap, sym, subst, refl}
use Rattle.std.specs.Prelude.{map, option_map, take}
use Rattle.fx_base.specs.Silence.{SilenceCause}
use Rattle.fx_types.specs.Types.{booleans}
use Rattle.fx_types.specs.ValueView.{view}
use Rattle.fx_core.specs.declared.deeds.Deed.TheVariants as deed
use Rattle.fx_core.specs.declared.sources.Source.TheVariants as source
use Rattle.fx_deeds.proofs.Adding.{error_fits}
use Rattle.fx_deeds.specs.Writable.{IsOneOf, DeedMayWrite}
use Rattle.fx_deeds.specs.State.{eval_frame}
use Rattle.fx_deeds.proofs.CutRows.{cut_among, cut_as}
use Rattle.fx_deeds.proofs.Deeding.{no_error}
use Rattle.fx_deeds.specs.Collections.{AreTaken}
use Rattle.fx_deeds.specs.Deeds.{AreRemoved}
use Rattle.fx_deeds.specs.RowValues.{columns_of_rows}
use Rattle.fx_deeds.proofs.Attempts.{attempt_none, attempt_wider}
use Rattle.fx_deeds.proofs.deeds.remove.Goals as goal

pub returns-in-Some-clause-fits : goal.returns-in-Some-clause-fits
returns-in-Some-clause-fits g c = error_fits (map view c.args.values.now) (view c.in-Some.error) booleans (sym c.in_ok-error.ensures ∙ ap (option_map view) c.in-Some.is)

pub returns-in_err-error-clause-attempt : goal.returns-in_err-error-clause-attempt
returns-in_err-error-clause-attempt g c = attempt_none _ _

pub returns-in-Some-clause-attempt : goal.returns-in-Some-clause-attempt
returns-in-Some-clause-attempt g c = attempt_none _ _

pub returns-in-Table-clause-attempt : goal.returns-in-Table-clause-attempt
returns-in-Table-clause-attempt g c = attempt_wider _ _ (IsOneOf (source.Table c.in-Table.table ∷ [])) (DeedMayWrite (deed.Remove c.args.target)) (λ x w. subst (λ p. DeedMayWrite (deed.Remove p) x) (sym c.in-Table.is) w) c.remove_rows.ensures.attempt

pub returns-in-Gathered-clause-attempt : goal.returns-in-Gathered-clause-attempt
returns-in-Gathered-clause-attempt g c = attempt_wider _ _ (IsOneOf (source.Gathered c.in-Gathered.collection ∷ [])) (DeedMayWrite (deed.Remove c.args.target)) (λ x w. subst (λ p. DeedMayWrite (deed.Remove p) x) (sym c.in-Gathered.is) w) c.remove_equal.ensures.attempt

pub returns-in-Table-clause-cut : goal.returns-in-Table-clause-cut
returns-in-Table-clause-cut g c =
    let ys = map view c.args.values.now in
    cut_as c.remove_rows.result (SilenceCause (g.W.Env.marks c.args.world.now) (g.W.Env.marks c.remove_rows.new.world)) (g.W.World.state c.args.world.now) (g.W.World.state c.remove_rows.new.world) (eval_frame (g.W.Env.fixed c.args.world.now)) (deed.Remove c.args.target) (deed.Remove (target.Table c.in-Table.table)) c.args.values.now c.args.values.now (ap deed.Remove c.in-Table.is) refl
    (cut_among c.remove_rows.result (SilenceCause (g.W.Env.marks c.args.world.now) (g.W.Env.marks c.remove_rows.new.world)) (g.W.World.state c.args.world.now) (g.W.World.state c.remove_rows.new.world) ys (λ s n x t. AreRemoved c.in-Table.table (take n ys) s x t) (no_error c.in_ok-error.field-0 _ c.in_ok-error.ensures c.in_default.not-Some) c.remove_rows.ensures.cut)

pub returns-in-Gathered-clause-cut : goal.returns-in-Gathered-clause-cut
returns-in-Gathered-clause-cut g c =
    let ys = map view c.args.values.now in
    let k = c.in-Gathered.collection in
    cut_as c.remove_equal.result (SilenceCause (g.W.Env.marks c.args.world.now) (g.W.Env.marks c.remove_equal.new.world)) (g.W.World.state c.args.world.now) (g.W.World.state c.remove_equal.new.world) (eval_frame (g.W.Env.fixed c.args.world.now)) (deed.Remove c.args.target) (deed.Remove (target.Gathered k)) c.args.values.now c.args.values.now (ap deed.Remove c.in-Gathered.is) refl
    (cut_among c.remove_equal.result (SilenceCause (g.W.Env.marks c.args.world.now) (g.W.Env.marks c.remove_equal.new.world)) (g.W.World.state c.args.world.now) (g.W.World.state c.remove_equal.new.world) ys (λ s n x t. AreTaken (columns_of_rows ((g.W.Env.fixed c.args.world.now).types (source.Gathered k))) k (take n ys) s x t) (no_error c.in_ok-error.field-0 _ c.in_ok-error.ensures c.in_default.not-Some) c.remove_equal.ensures.cut)
