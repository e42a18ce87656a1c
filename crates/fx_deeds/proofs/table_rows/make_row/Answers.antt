use Rattle.fx_base.specs.Silence.{SilenceCause}
use Rattle.fx_types.specs.ValueView.{view}
use Rattle.fx_deeds.proofs.Tabling.{cells_there, columns_there, made_fits, makes_row}
use Rattle.fx_deeds.proofs.CutOff.{cut_staying, on_any}
use Rattle.fx_deeds.proofs.CutRows.{cut_row}
use Rattle.fx_deeds.specs.Deeds.{MakesRow}
use Rattle.fx_deeds.proofs.table_rows.make_row.Goals as goal

pub insert-requires : goal.insert-requires
insert-requires g c = cells_there (g.W.Env.fixed c.args.world.now).schema c.args.table c.args.shape.now c.args.cells c.requires.shape c.requires.cells

pub put_answer-requires-clause-fit : goal.put_answer-requires-clause-fit
put_answer-requires-clause-fit g c = made_fits c.args.shape.now _ c.args.cells c.in_ok-put.put c.in_ok-put.ensures.sound c.requires.cells

pub returns-clause-done : goal.returns-clause-done
returns-clause-done g c =
    makes_row (SilenceCause (g.W.Env.marks c.args.world.now) (g.W.Env.marks c.insert.new.world)) (g.W.World.state c.args.world.now) (g.W.World.state c.insert.new.world) c.args.shape.now _ c.args.table c.args.cells c.in_ok-put.put (view c.in_ok-put_answer.field-0) (columns_there (g.W.Env.fixed c.args.world.now).schema c.args.table c.args.shape.now c.requires.shape)
    c.in_ok-put_answer.ensures.answer c.in_ok-put.ensures.put

pub returns-in_err-put-clause-cut : goal.returns-in_err-put-clause-cut
returns-in_err-put-clause-cut g c = on_any c.from_residual.result (cut_staying (SilenceCause (g.W.Env.marks c.args.world.now) (g.W.Env.marks c.insert.new.world)) (λ s n x t. MakesRow c.args.shape.now c.args.table c.args.cells s x t) (g.W.World.state c.args.world.now) (g.W.World.state c.insert.new.world) c.in_err-put.ensures.stops)

pub returns-in_err-put_answer-clause-cut : goal.returns-in_err-put_answer-clause-cut
returns-in_err-put_answer-clause-cut g c =
    on_any c.from_residual-in_err-put_answer.result
    (cut_row (SilenceCause (g.W.Env.marks c.args.world.now) (g.W.Env.marks c.insert.new.world)) c.args.shape.now _ c.args.table c.args.cells c.in_ok-put.put (g.W.World.state c.args.world.now) (g.W.World.state c.insert.new.world) (columns_there (g.W.Env.fixed c.args.world.now).schema c.args.table c.args.shape.now c.requires.shape) c.in_ok-put.ensures.put)
