use Rattle.std.proofs.Common.{◌≡◌, ℕ, Some, arith, true}
use Rattle.fx_core.specs.declared.sources.Source.{Source}
use Rattle.recalc.specs.app_cells.Leaning.{cell_behind}
use Rattle.recalc.specs.Clearing.{is_marked_cell}
use Rattle.recalc.proofs.Among.{among_at, found_there, one_more}
use Rattle.recalc.proofs.cache.Cache.is_any_marked.Goals as goal

pub returns-then-is_marked_behind-clause-yes : goal.returns-then-is_marked_behind-clause-yes
returns-then-is_marked_behind-clause-yes c = λ t.
    let p = found_there (λ (s : Source). (d : ℕ) × (cell_behind c.args.app.now.names s ≡ Some d) × (is_marked_cell c.args.self.now d ≡ true)) c.args.sources.now c.loop-source.source-index _ c.loop-source-test.true
    (c.is_marked_behind.ensures.yes c.if-is_marked_behind.true) in
    (p.0, p.2.0, p.1, p.2.1, p.2.2)

pub loop-source-preserved : goal.loop-source-preserved
loop-source-preserved c =
    one_more (λ (s : Source). (d : ℕ) → cell_behind c.args.app.now.names s ≡ Some d → is_marked_cell c.args.self.now d ≡ true → ⊥) c.args.sources.now c.loop-source.source-index _ c.loop-source-test.true
    c.loop-source.invariant (c.is_marked_behind.ensures.no c.if-is_marked_behind.false)

pub returns-clause-no : goal.returns-clause-no
returns-clause-no c = λ f s d among behind mark.
    let at = among_at s c.args.sources.now among in
    let low = at.1 in
    let end = c.loop-source-test.false in
    c.loop-source.invariant at.0 s (omega (arith, low, end)) at.2 d behind mark
