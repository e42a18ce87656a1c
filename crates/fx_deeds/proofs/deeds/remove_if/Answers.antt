use Rattle.fx_core.specs.declared.deeds.Target.TheVariants as target
use Rattle.fx_core.specs.declared.deeds.Deed.TheVariants as deed
use Rattle.std.proofs.Common.{[], ◌∷◌, subst, sym, ap, refl}
use Rattle.fx_core.specs.declared.sources.Source.TheVariants as source
use Rattle.fx_deeds.specs.Writable.{IsOneOf, DeedMayWrite}
use Rattle.fx_deeds.specs.State.{eval_frame}
use Rattle.fx_base.specs.Silence.{SilenceCause}
use Rattle.fx_deeds.proofs.CutRows.{cut_as}
use Rattle.fx_deeds.proofs.Attempts.{attempt_wider}
use Rattle.fx_deeds.proofs.deeds.remove_if.Goals as goal

pub returns-in-Table-clause-attempt : goal.returns-in-Table-clause-attempt
returns-in-Table-clause-attempt g c = attempt_wider _ _ (IsOneOf (source.Table c.in-Table.table ∷ [])) (DeedMayWrite (deed.RemoveIf c.args.target)) (λ x w. subst (λ p. DeedMayWrite (deed.RemoveIf p) x) (sym c.in-Table.is) w) c.remove_filtered.ensures.attempt

pub returns-in-Gathered-clause-attempt : goal.returns-in-Gathered-clause-attempt
returns-in-Gathered-clause-attempt g c = attempt_wider _ _ (IsOneOf (source.Gathered c.in-Gathered.collection ∷ [])) (DeedMayWrite (deed.RemoveIf c.args.target)) (λ x w. subst (λ p. DeedMayWrite (deed.RemoveIf p) x) (sym c.in-Gathered.is) w) c.take_filtered.ensures.attempt

pub returns-in-Table-clause-cut : goal.returns-in-Table-clause-cut
returns-in-Table-clause-cut g c = cut_as c.remove_filtered.result (SilenceCause (g.W.Env.marks c.args.world.now) (g.W.Env.marks c.remove_filtered.new.world)) (g.W.World.state c.args.world.now) (g.W.World.state c.remove_filtered.new.world) (eval_frame (g.W.Env.fixed c.args.world.now)) (deed.RemoveIf c.args.target) (deed.RemoveIf (target.Table c.in-Table.table)) (c.args.filtered ∷ []) (c.args.filtered ∷ []) (ap deed.RemoveIf c.in-Table.is) refl c.remove_filtered.ensures.cut

pub returns-in-Gathered-clause-cut : goal.returns-in-Gathered-clause-cut
returns-in-Gathered-clause-cut g c = cut_as c.take_filtered.result (SilenceCause (g.W.Env.marks c.args.world.now) (g.W.Env.marks c.take_filtered.new.world)) (g.W.World.state c.args.world.now) (g.W.World.state c.take_filtered.new.world) (eval_frame (g.W.Env.fixed c.args.world.now)) (deed.RemoveIf c.args.target) (deed.RemoveIf (target.Gathered c.in-Gathered.collection)) (c.args.filtered ∷ []) (c.args.filtered ∷ []) (ap deed.RemoveIf c.in-Gathered.is) refl c.take_filtered.ensures.cut
