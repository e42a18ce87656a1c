use Rattle.std.proofs.Common.{map}
use Rattle.fx_base.specs.Silence.{SilenceCause}
use Rattle.fx_types.specs.ValueView.{view}
use Rattle.fx_deeds.proofs.Tabling.{of_shape}
use Rattle.fx_deeds.specs.Finding.{CanChangeEach}
use Rattle.std.specs.Prelude.{take}
use Rattle.fx_deeds.proofs.CutOff.{cut_nowhere, on_any}
use Rattle.fx_deeds.proofs.CutUpdates.{cut_of_table}
use Rattle.fx_deeds.specs.Deeds.{AreUpdated, OfTable}
use Rattle.fx_deeds.proofs.Attempts.{attempt_none}
use Rattle.fx_deeds.proofs.table_rows.update_table.Goals as goal

pub update_rows-requires-clause-can : goal.update_rows-requires-clause-can
update_rows-requires-clause-can g c =
    of_shape (g.W.Env.fixed c.args.world.now).schema c.args.table c.in_ok-shape.shape (λ p. CanChangeEach p (map view c.args.changes.now)) c.in_ok-shape.ensures c.requires

pub returns-in_err-shape-clause-attempt : goal.returns-in_err-shape-clause-attempt
returns-in_err-shape-clause-attempt g c = attempt_none _ _

pub returns-in_err-shape-clause-cut : goal.returns-in_err-shape-clause-cut
returns-in_err-shape-clause-cut g c =
    on_any _
    (cut_nowhere (SilenceCause (g.W.Env.marks c.args.world.now) (g.W.Env.marks c.args.world.now)) (λ s n d t. OfTable (g.W.Env.fixed c.args.world.now).schema c.args.table (λ p. AreUpdated p c.args.table (take n c.args.rows.now) (map view c.args.changes.now) s d t)) (g.W.World.state c.args.world.now))

pub returns-clause-cut : goal.returns-clause-cut
returns-clause-cut g c =
    cut_of_table c.update_rows.result (SilenceCause (g.W.Env.marks c.args.world.now) (g.W.Env.marks c.update_rows.new.world)) (g.W.World.state c.args.world.now) (g.W.World.state c.update_rows.new.world) (g.W.Env.fixed c.args.world.now).schema c.args.table c.in_ok-shape.shape c.args.rows.now (map view c.args.changes.now) c.in_ok-shape.ensures c.update_rows.ensures.cut
