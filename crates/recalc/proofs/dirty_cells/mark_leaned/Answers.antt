use Rattle.std.proofs.Common.{◌≡◌, ◌∙◌, ℕ, List, Some, arith, inl, inr, true}
use Rattle.fx_core.specs.declared.sources.Source.{Source}
use Rattle.recalc.specs.app_cells.Leaning.{cell_behind}
use Rattle.recalc.specs.app_semantics.Needed.{is_alone}
use Rattle.recalc.proofs.Among.{among_at, found_there, one_more}
use Rattle.recalc.specs.Needing.{is_marked}
use Rattle.recalc.proofs.dirty_cells.mark_leaned.Goals as goal

pub loop-source-preserved : goal.loop-source-preserved
loop-source-preserved c =
    let xs : List Source = c.args.sources.now in
    let i : ℕ = c.loop-source.source-index in
    record {
      long = c.mark_behind.ensures.long ∙ c.loop-source.invariant.long;
      still = λ k h. c.mark_behind.ensures.still k (c.loop-source.invariant.still k h);
      there = one_more (λ (s : Source). (d : ℕ) → cell_behind c.args.app.now.names s ≡ Some d → is_alone c.args.app.now.cells d ≡ true → is_marked c.mark_behind.new.marks d ≡ true) xs i _ c.loop-source-test.true
          (λ j s low at d behind alone. c.mark_behind.ensures.still d (c.loop-source.invariant.there j s low at d behind alone)) c.mark_behind.ensures.there;
      only = λ k h. elim (c.mark_behind.ensures.only k h) [
        | inl was ↦ c.loop-source.invariant.only k was
        | inr on ↦
            let p = found_there (λ (s : Source). (cell_behind c.args.app.now.names s ≡ Some k) × (is_alone c.args.app.now.cells k ≡ true)) xs i _ c.loop-source-test.true on in
            inr (p.0, p.1, p.2.0, p.2.1)
      ];
    }

pub returns-clause-there : goal.returns-clause-there
returns-clause-there c = λ s d among behind alone.
    let at = among_at s c.args.sources.now among in
    let low = at.1 in
    let end = c.loop-source-test.false in
    c.loop-source.invariant.there at.0 s (omega (arith, low, end)) at.2 d behind alone
