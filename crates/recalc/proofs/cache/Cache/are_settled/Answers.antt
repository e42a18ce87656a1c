use Rattle.std.proofs.Common.{◌≡◌, ℕ, Some, arith, true}
use Rattle.fx_core.specs.declared.sources.Source.{Source}
use Rattle.recalc.specs.app_cells.Leaning.{cell_behind}
use Rattle.recalc.specs.app_semantics.Needed.{is_alone}
use Rattle.recalc.specs.Kept.{IsSettled}
use Rattle.recalc.proofs.Among.{among_at, found_there, one_more}
use Rattle.recalc.proofs.cache.Cache.are_settled.Goals as goal

pub returns-then-not-is_settled_behind-clause-no : goal.returns-then-not-is_settled_behind-clause-no
returns-then-not-is_settled_behind-clause-no c = λ f.
    let p = found_there (λ (s : Source). (d : ℕ) × (cell_behind c.args.app.now.names s ≡ Some d) × (is_alone c.args.app.now.cells d ≡ true) × (IsSettled c.args.self.now d c.args.number → ⊥)) c.args.sources.now c.loop-source.source-index _
    c.loop-source-test.true (c.is_settled_behind.ensures.no c.if-not-is_settled_behind.true) in
    (p.0, p.2.0, p.1, p.2.1, p.2.2, p.2.3)

pub loop-source-preserved : goal.loop-source-preserved
loop-source-preserved c =
    one_more (λ (s : Source). (d : ℕ) → cell_behind c.args.app.now.names s ≡ Some d → is_alone c.args.app.now.cells d ≡ true → IsSettled c.args.self.now d c.args.number) c.args.sources.now c.loop-source.source-index _ c.loop-source-test.true
    c.loop-source.invariant (c.is_settled_behind.ensures.yes c.if-not-is_settled_behind.false)

pub returns-clause-yes : goal.returns-clause-yes
returns-clause-yes c = λ t s d among behind alone.
    let at = among_at s c.args.sources.now among in
    let low = at.1 in
    let end = c.loop-source-test.false in
    c.loop-source.invariant at.0 s (omega (arith, low, end)) at.2 d behind alone
