use Rattle.std.proofs.Common.{◌∙◌, ◌+◌, ap, sym}
use Rattle.fx_base.specs.Telling.{Stays}
use Rattle.fx_base.proofs.Silences.{goes_two, later_then}
use Rattle.row_imports.proofs.Folding.{more_counted, step_on}
use Rattle.row_imports.proofs.imports.import_lines.Goals as goal

pub loop-line-preserved : goal.loop-line-preserved
loop-line-preserved g c =
    let told = g.K.Keeper.told in
    let began = g.K.Keeper.began in
    let marks = g.K.Keeper.marks in
    let l = c.loop-line in
    record {
      at = ap (λ n. n + 1) l.invariant.at;
      counts = more_counted l.counts c.in-Ok-counted.more c.in-Ok.acted l.line-index (sym c.counted.ensures ∙ c.in-Ok-counted.is) l.invariant.counts;
      goes = step_on c.args.shape.now.columns c.args.heading.now c.args.lines.now l.line-index c.line-item.result l.counts c.in-Ok-counted.more c.in-Ok.acted
          (marks c.args.keeper.now) (marks l.keeper) (marks c.put_line.new.keeper) (told c.args.keeper.now) (told l.keeper) (told c.put_line.new.keeper)
          c.line-item.is c.loop-line-test.true (sym c.counted.ensures ∙ c.in-Ok-counted.is) l.invariant.later c.in-Ok.ensures.cause.later l.invariant.goes c.in-Ok.ensures.done;
      stays = goes_two Stays Stays Stays (λ a b d p q. q ∙ p) (marks c.args.keeper.now) (marks l.keeper) (marks c.put_line.new.keeper) l.invariant.later c.in-Ok.ensures.cause.later
          (began c.args.keeper.now) (began l.keeper) (began c.put_line.new.keeper) l.invariant.stays c.in-Ok.ensures.began;
      later = later_then (marks c.args.keeper.now) (marks l.keeper) (marks c.put_line.new.keeper) l.invariant.later c.in-Ok.ensures.cause.later;
      begun = c.in-Ok.ensures.open;
      shaped = c.in-Ok.ensures.shaped ∙ l.invariant.shaped;
      loan = c.in-Ok.ensures.loan ∙ l.invariant.loan;
    }
