use Rattle.std.proofs.Common.{arith, subst, sym, ◌+◌}
use Rattle.std.proofs.lemmas.Option.{slice_get-get_or}
use Rattle.recalc.proofs.Among.{among_at}
use Rattle.session_requests.proofs.CellsBehind.{AreAlone, HasBehind, alone_more, behind_more}
use Rattle.session_requests.proofs.refresh_inputs.cells_behind.Goals as goal

pub loop-source-preserved : goal.loop-source-preserved
loop-source-preserved c =
    let a = c.args.app.now in
    let reads = c.args.reads.now in
    let i = c.loop-source.source-index in
    let cells = c.loop-source.cells.items in
    let low = c.loop-source-test.true in
    let items = c.in_ok-put.ensures in
    record {
      had = subst (HasBehind a reads (i + 1)) (sym items) (behind_more a reads i cells _ c.alone_behind.result (slice_get-get_or reads i _ low) c.alone_behind.ensures.there c.loop-source.invariant.had);
      alone = subst (AreAlone a) (sym items) (alone_more a cells c.alone_behind.result c.alone_behind.ensures.alone c.loop-source.invariant.alone);
    }

pub returns-clause-behind : goal.returns-clause-behind
returns-clause-behind c = λ x d among behind alone.
    let at = among_at x c.args.reads.now among in
    let low = at.1 in
    let end = c.loop-source-test.false in
    c.loop-source.invariant.had at.0 d x (omega (arith, low, end)) at.2 behind alone
