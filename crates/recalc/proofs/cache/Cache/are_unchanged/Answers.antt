use Rattle.std.proofs.Common.{◌≡◌, ◌<◌, ◌≤◌, arith, false}
use Rattle.fx_core.specs.declared.sources.Source.{Source}
use Rattle.recalc.specs.app_cells.Reach.{is_cell}
use Rattle.recalc.specs.Kept.{version_of}
use Rattle.recalc.proofs.Among.{among_at, found_there, one_more}
use Rattle.recalc.proofs.cache.Cache.are_unchanged.Goals as goal

pub returns-then-not-is_unchanged-clause-no : goal.returns-then-not-is_unchanged-clause-no
returns-then-not-is_unchanged-clause-no c = λ f.
    let p = found_there (λ (s : Source). (is_cell s ≡ false) × (c.args.number < version_of c.args.self.now s)) c.args.sources.now c.loop-source.source-index _ c.loop-source-test.true (c.is_unchanged.ensures.no c.if-not-is_unchanged.true) in
    (p.0, p.2.0, p.1, p.2.1)

pub loop-source-preserved : goal.loop-source-preserved
loop-source-preserved c =
    one_more (λ (s : Source). is_cell s ≡ false → version_of c.args.self.now s ≤ c.args.number) c.args.sources.now c.loop-source.source-index _ c.loop-source-test.true c.loop-source.invariant
    (c.is_unchanged.ensures.yes c.if-not-is_unchanged.false)

pub returns-clause-yes : goal.returns-clause-yes
returns-clause-yes c = λ t s plain among.
    let at = among_at s c.args.sources.now among in
    let low = at.1 in
    let end = c.loop-source-test.false in
    c.loop-source.invariant at.0 s (omega (arith, low, end)) at.2 plain
