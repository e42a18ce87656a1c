use Rattle.std.proofs.Common.{◌<◌, None, Some, arith, length, subst, sym}
use Rattle.std.proofs.lemmas.Option.{slice_get_within}
use Rattle.recalc.proofs.Filling.{filling_on, filling_passed}
use Rattle.recalc.proofs.Finding.{at_cell}
use Rattle.recalc.specs.Carrying.{IsCarriedAt, IsOldCell}
use Rattle.recalc.proofs.cache.Cache.carry_next.Goals as goal
use Rattle.recalc.proofs.cache.Cache.carry_next.Goals.{In-Some}

-- the cell that was found
old_one : (c : In-Some) → IsOldCell c.args.old.now c.args.new.now c.in-Some.was c.args.cell
old_one c =
    let low : c.args.cell < length c.args.cells.now = omega (arith, c.requires.there, c.requires.cells.long) in
    c.requires.cells.same c.args.cell c.in-Some.was (at_cell c.args.cells.now c.args.cell c.place_at.result (Some c.in-Some.was) low c.place_at.ensures c.in-Some.is)

pub overflow_cast-was : goal.overflow_cast-was
overflow_cast-was c =
    let cell = old_one (goal.at.overflow_cast-was c).In-Some in
    let low = slice_get_within c.args.old.now.cells c.in-Some.was cell.before cell.there in
    omega (arith, low, c.requires.was_in_order.few)

pub carry_cell-requires-clause-same : goal.carry_cell-requires-clause-same
carry_cell-requires-clause-same c = old_one (goal.at.carry_cell-requires-clause-same c).In-Some

pub returns-in-Some : goal.returns-in-Some
returns-in-Some c = λ before i low at h.
    filling_on c.args.old.now c.args.new.now before c.args.from.now c.carry_cell.new.from c.args.self.now c.carry_cell.new.self i c.in-Some.was c.requires.sound low
    (subst (IsOldCell c.args.old.now c.args.new.now c.in-Some.was) (sym at) (old_one (goal.at.returns-in-Some c).In-Some))
    (subst (λ n. IsCarriedAt c.args.old.now c.args.new.now c.in-Some.was n c.args.from.now c.carry_cell.new.from c.args.self.now c.carry_cell.new.self) (sym at) c.carry_cell.ensures) h

pub returns-in_default : goal.returns-in_default
returns-in_default c = λ before i low at h.
    let there : c.args.cell < length c.args.cells.now = omega (arith, c.requires.there, c.requires.cells.long) in
    filling_passed c.args.old.now c.args.new.now before c.args.from.now c.args.self.now i low
    (λ j cell clean had. c.requires.cells.other c.args.cell j (at_cell c.args.cells.now c.args.cell c.place_at.result None there c.place_at.ensures c.in_default.is) (subst (IsOldCell c.args.old.now c.args.new.now j) at cell)) h
