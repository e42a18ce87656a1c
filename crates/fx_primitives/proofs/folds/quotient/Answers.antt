use Rattle.std.proofs.Common.{arith, ◌∙◌, ap}
use Rattle.std.proofs.lemmas.Int.{ints, to_z-of_z}
use Rattle.std.specs.Prelude.{unsigned_abs}
use Rattle.fx_number.specs.Decimal.{nearest}
use Rattle.fx_primitives.proofs.Rounding.{quotient_is, negative_is, positive_is}
use Rattle.fx_primitives.proofs.folds.quotient.Goals as goal

pub returns-then-total-lt0 : goal.returns-then-total-lt0
returns-then-total-lt0 c =
    let fits = c.ranges.total in
    let n = simp to_z-of_z at c.unsigned_abs.ensures.value in
    let e = ap (λ m. nearest m c.from-count.result) n ∙ ap (λ d. nearest (unsigned_abs c.args.total) d) c.from-count.ensures in
    let q = quotient_is c.args.total c.args.count _ c.requires.count c.requires.low c.requires.high e in
    let s = q.small in
    negative_is _ _ c.args.total c.args.count (nearest c.unsigned_abs.result c.from-count.result) c.number_of.ensures q (omega (arith, ints)) (omega (arith, ints))

pub returns-else-total-lt0 : goal.returns-else-total-lt0
returns-else-total-lt0 c =
    let fits = c.ranges.total in
    let n = simp to_z-of_z at c.unsigned_abs.ensures.value in
    let e = ap (λ m. nearest m c.from-count.result) n ∙ ap (λ d. nearest (unsigned_abs c.args.total) d) c.from-count.ensures in
    let q = quotient_is c.args.total c.args.count _ c.requires.count c.requires.low c.requires.high e in
    let s = q.small in
    positive_is _ _ c.args.total c.args.count (nearest c.unsigned_abs.result c.from-count.result) c.number_of-else-total-lt0.ensures q (omega (arith, ints)) (omega (arith, ints))
