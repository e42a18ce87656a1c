use Rattle.std.proofs.Common.{◌≡◌, ◌∙◌, arith, subst}
use Rattle.sqlite.specs.Held.{state}
use Rattle.sqlite.specs.State.{HasCleanDisk}
use Rattle.sql_shaping.specs.NewTables.{PutsLasts}
use Rattle.sql_shaping.proofs.NewLemmas.{inside_more, puts_more}
use Rattle.sql_shaping.proofs.keeping.insert_lasts.Goals as goal

pub loop-tab-preserved : goal.loop-tab-preserved
loop-tab-preserved g c =
    let old = state g.S.Store c.args.tx.now.conn.now in
    let mid = state g.S.Store c.loop-tab.tx.conn.now in
    let new = state g.S.Store c.insert_last.new.tx.conn.now in
    let early : HasCleanDisk new → HasCleanDisk mid = λ clean. omega (arith, clean, c.insert_last.ensures.runs.survives.clean) in
    let so_far = c.loop-tab.invariant in
    record {
      same = c.insert_last.ensures.same_reference ∙ so_far.same;
      on = λ clean begun.
          let was = so_far.on (early clean) begun in
          let is = c.in_ok-insert_last.ensures.on clean was.0 in
          (is.under_way, is.committed ∙ was.1);
      runs = inside_more old mid new so_far.on so_far.runs c.insert_last.ensures.runs;
      done = λ clean up none.
          let was = so_far.done (early clean) up none in
          puts_more old mid new c.loop-tab.tab _ was (c.in_ok-insert_last.ensures.ok clean was.goes_on);
    }

pub returns-in_err-insert_last-clause-runs : goal.returns-in_err-insert_last-clause-runs
returns-in_err-insert_last-clause-runs g c =
    let old = state g.S.Store c.args.tx.now.conn.now in
    let mid = state g.S.Store c.loop-tab.tx.conn.now in
    let new = state g.S.Store c.insert_last.new.tx.conn.now in
    inside_more old mid new c.loop-tab.invariant.on c.loop-tab.invariant.runs c.insert_last.ensures.runs

pub returns-clause-ok : goal.returns-clause-ok
returns-clause-ok g c = λ clean up none.
    let all : c.loop-tab.tab ≡ c.args.count = omega arith in
    subst (λ n. PutsLasts (state g.S.Store c.args.tx.now.conn.now) (state g.S.Store c.loop-tab.tx.conn.now) n) all (c.loop-tab.invariant.done clean up none)
