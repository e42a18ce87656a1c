use Rattle.std.proofs.Common.{arith, get_or, inl, inr, subst, sym}
use Rattle.std.proofs.lemmas.Bool.{cases_eq}
use Rattle.recalc.proofs.Marking.{at_place}
use Rattle.recalc.specs.Kept.{IsClean}
use Rattle.recalc.proofs.cache.Cache.all_stand.Goals as goal

pub loop-cell-preserved : goal.loop-cell-preserved
loop-cell-preserved c = λ j lt. elim (cases_eq j c.loop-cell.cell-index) [
  | inl q ↦ subst (λ m. IsClean c.args.app.now c.args.self.now (get_or c.args.cells.now m 0)) (sym q) (c.stands.ensures.yes c.if-not-stands.false)
  | inr other ↦ c.loop-cell.invariant j (omega (arith, lt, other))
]

pub returns : goal.returns
returns c = λ t k there.
    let end = c.loop-cell-test.false in
    let low = there.1 in
    subst (IsClean c.args.app.now c.args.self.now) (at_place c.args.cells.now k there) (c.loop-cell.invariant there.0 (omega (arith, low, end)))
