use Rattle.std.proofs.Common.{subst}
use Rattle.fx_base.specs.Silence.{SilenceCause}
use Rattle.fx_types.specs.ValueView.{view}
use Rattle.fx_deeds.proofs.Deeding.{goes_nowhere}
use Rattle.fx_deeds.proofs.Tabling.{numbers_none, numbers_one, numbers_wrong}
use Rattle.fx_deeds.specs.Deeds.{PatchesById, row_id_value}
use Rattle.fx_deeds.specs.Found.{NamesRow}
use Rattle.fx_deeds.proofs.CutRows.{cut_new, cut_numbered}
use Rattle.fx_deeds.proofs.Attempts.{attempt_none}
use Rattle.fx_deeds.proofs.table_rows.patch_numbered.Goals as goal

pub returns-then-branch-clause-done : goal.returns-then-branch-clause-done
returns-then-branch-clause-done g c =
    numbers_none c.patch_new.result (SilenceCause (g.W.Env.marks c.args.world.now) (g.W.Env.marks c.patch_new.new.world)) (g.W.World.state c.args.world.now) (g.W.World.state c.patch_new.new.world) c.args.shape.now c.args.table c.args.changes.now (row_id_value (view c.args.base.now)) (c.in_ok-has_blank_number.ensures.blank c.if-branch.true)
    c.patch_new.ensures.done

pub returns-in-Ok-clause-done : goal.returns-in-Ok-clause-done
returns-in-Ok-clause-done g c =
    numbers_one c.patch_row.result (SilenceCause (g.W.Env.marks c.args.world.now) (g.W.Env.marks c.patch_row.new.world)) (g.W.World.state c.args.world.now) (g.W.World.state c.patch_row.new.world) c.args.shape.now c.args.table c.in-Ok.id c.args.changes.now (row_id_value (view c.args.base.now))
    (c.in_ok-has_blank_number.ensures.other c.if-branch.false) (subst (NamesRow (view c.args.base.now)) c.in-Ok.is c.in_ok-named.ensures) c.patch_row.ensures.done

pub returns-in-Err-clause-done : goal.returns-in-Err-clause-done
returns-in-Err-clause-done g c =
    let w = c.args.world.now in
    let d = row_id_value (view c.args.base.now) in
    goes_nowhere (SilenceCause (g.W.Env.marks w) (g.W.Env.marks w)) (λ s t. PatchesById c.args.shape.now c.args.table c.args.changes.now d s (view c.in-Err.error) t) (g.W.World.state w)
    (λ s. numbers_wrong c.args.shape.now c.args.table c.args.changes.now c.in-Err.error d s (c.in_ok-has_blank_number.ensures.other c.if-branch.false) (subst (NamesRow (view c.args.base.now)) c.in-Err.is c.in_ok-named.ensures))

pub returns-in_err-has_blank_number-clause-attempt : goal.returns-in_err-has_blank_number-clause-attempt
returns-in_err-has_blank_number-clause-attempt g c = attempt_none _ _

pub returns-in_err-named-clause-attempt : goal.returns-in_err-named-clause-attempt
returns-in_err-named-clause-attempt g c = attempt_none _ _

pub returns-in-Err-clause-attempt : goal.returns-in-Err-clause-attempt
returns-in-Err-clause-attempt g c = attempt_none _ _

pub returns-then-branch-clause-cut : goal.returns-then-branch-clause-cut
returns-then-branch-clause-cut g c =
    cut_new c.patch_new.result (SilenceCause (g.W.Env.marks c.args.world.now) (g.W.Env.marks c.patch_new.new.world)) (g.W.World.state c.args.world.now) (g.W.World.state c.patch_new.new.world) c.args.shape.now c.args.table c.args.changes.now (row_id_value (view c.args.base.now)) (c.in_ok-has_blank_number.ensures.blank c.if-branch.true) c.patch_new.ensures.cut

pub returns-in-Ok-clause-cut : goal.returns-in-Ok-clause-cut
returns-in-Ok-clause-cut g c =
    cut_numbered c.patch_row.result (SilenceCause (g.W.Env.marks c.args.world.now) (g.W.Env.marks c.patch_row.new.world)) (g.W.World.state c.args.world.now) (g.W.World.state c.patch_row.new.world) c.args.shape.now c.args.table c.in-Ok.id c.args.changes.now (row_id_value (view c.args.base.now)) (c.in_ok-has_blank_number.ensures.other c.if-branch.false)
    (subst (NamesRow (view c.args.base.now)) c.in-Ok.is c.in_ok-named.ensures) c.patch_row.ensures.cut
