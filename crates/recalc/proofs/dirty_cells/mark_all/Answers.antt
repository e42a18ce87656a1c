use Rattle.std.proofs.Common.{◌≡◌, ◌∙◌, ℕ, List, arith, get_or, inl, inr, subst, sym, true}
use Rattle.std.proofs.lemmas.Bool.{cases_eq}
use Rattle.std.specs.List.{Contains}
use Rattle.recalc.proofs.Marking.{at_place, contains_at}
use Rattle.recalc.specs.Needing.{is_marked}
use Rattle.recalc.proofs.dirty_cells.mark_all.Goals as goal

pub loop-cell-preserved : goal.loop-cell-preserved
loop-cell-preserved c =
    let xs : List ℕ = c.args.cells.now in
    let i : ℕ = c.loop-cell.cell-index in
    let low = c.loop-cell-test.true in
    let there : Contains xs (get_or xs i 0) = contains_at xs i low in
    let long = c.loop-cell.invariant.long in
    let within = c.requires (get_or xs i 0) there in
    record {
      long = c.mark.ensures.long ∙ long;
      there = λ j lt. elim (cases_eq j i) [
        | inl q ↦ subst (λ m. is_marked c.mark.new.marks (get_or xs m 0) ≡ true) (sym q) (c.mark.ensures.there (omega (arith, within, long)))
        | inr other ↦ c.mark.ensures.still (get_or xs j 0) (c.loop-cell.invariant.there j (omega (arith, lt, other)))
      ];
      only = λ k h. elim (c.mark.ensures.only k h) [
        | inl was ↦ c.loop-cell.invariant.only k was
        | inr is ↦ inr (subst (Contains xs) (sym is) there)
      ];
    }

pub returns-clause-there : goal.returns-clause-there
returns-clause-there c = λ k h.
    let end = c.loop-cell-test.false in
    let low = h.1 in
    subst (λ n. is_marked c.loop-cell.marks n ≡ true) (at_place c.args.cells.now k h) (c.loop-cell.invariant.there h.0 (omega (arith, low, end)))
