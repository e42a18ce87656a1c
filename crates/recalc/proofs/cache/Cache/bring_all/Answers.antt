use Rattle.std.proofs.Common.{◌≡◌, ◌<◌, ◌≤◌, ◌∙◌, ℕ, List, ap, arith, get_or, length, refl, subst, sym}
use Rattle.fx_scalar.specs.ScalarFunctions.{IsToday}
use Rattle.recalc.proofs.Asked.{read_none, read_on, still_asks}
use Rattle.recalc.specs.Asking.{Keeping, keeping}
use Rattle.recalc.specs.app_cells.declared.app.App.{App}
use Rattle.recalc.proofs.Marking.{at}
use Rattle.recalc.proofs.CellVisits.{Visited, all_visits, told_back, visited_more}
use Rattle.row_keeper.specs.Tables.{rows_of_tables}
use Rattle.recalc.proofs.Turns.{ticks_more, ticks_start}
use Rattle.recalc.proofs.Turns.{all_made, all_ticks, brought_more, brought_start, has_next, may_rise, parts_clean, steps_rise}
use Rattle.recalc.specs.Kept.{CacheState}
use Rattle.recalc.specs.Steps.{KeepsClean}
use Rattle.recalc.proofs.cache.Cache.bring_all.Goals as goal

-- a lent order
lent : (a : App) (xs : List ℕ) (i : ℕ) → xs ≡ a.order → i < length xs → i < length a.order
lent a xs i e low = subst (λ (ys : List ℕ). i < length ys) e low

item : (a : App) (xs : List ℕ) (i : ℕ) → xs ≡ a.order → at a i ≡ get_or xs i 0
item a xs i e = ap (λ (ys : List ℕ). get_or ys i 0) (sym e)

pub bring-requires-clause-asks : goal.bring-requires-clause-asks
bring-requires-clause-asks g c = still_asks c.args.app.now (g.K.Keeper.shaped c.args.keeper.now) (g.K.Keeper.shaped c.loop-number.keeper) c.loop-number.invariant.read.shaped c.requires.asks

pub bring-requires-clause-day : goal.bring-requires-clause-day
bring-requires-clause-day g c = subst (IsToday c.args.moment) (sym c.loop-number.invariant.brought.left.day) c.requires.day

pub bring-requires-clause-room : goal.bring-requires-clause-room
bring-requires-clause-room g c =
    let xs : List ℕ = c.as_slice-order.result.now in
    let i : ℕ = c.loop-number.number-index in
    has_next c.args.app.now c.args.roots.now c.args.marks.now c.args.self.now i c.loop-number.self c.args.steps.now c.loop-number.steps c.requires.sound c.requires.order.few c.requires.room
    (lent c.args.app.now xs i c.as_slice-order.ensures c.loop-number-test.true) c.loop-number.invariant.brought

pub bring-requires-clause-leans : goal.bring-requires-clause-leans
bring-requires-clause-leans g c =
    let xs : List ℕ = c.as_slice-order.result.now in
    let i : ℕ = c.loop-number.number-index in
    let now : CacheState = c.loop-number.self in
    parts_clean c.args.app.now c.args.roots.now c.args.marks.now c.args.self.now i (get_or xs i 0) now now c.args.steps.now c.loop-number.steps c.loop-number.steps c.requires.sound
    (lent c.args.app.now xs i c.as_slice-order.ensures c.loop-number-test.true) (item c.args.app.now xs i c.as_slice-order.ensures) c.requires.marks c.loop-number.invariant.brought

pub loop-number-init : goal.loop-number-init
loop-number-init g c = record {
  order = c.requires.order;
  right = λ h. h;
  brought = brought_start c.args.app.now c.args.roots.now c.args.marks.now c.args.self.now c.args.steps.now;
  read = read_none (keeping (g.K.Keeper.told c.args.keeper.now) (g.K.Keeper.began c.args.keeper.now) (g.K.Keeper.shaped c.args.keeper.now) (g.K.Keeper.in_transaction c.args.keeper.now) (g.K.Keeper.marks c.args.keeper.now) (g.K.Keeper.visited c.args.keeper.now) (g.K.Keeper.loan c.args.keeper.now));
  alone = λ none. refl;
  idle = λ same. refl;
  visits = λ right t told. ticks_start (Visited c.args.app.now c.args.session.now (rows_of_tables t.states) c.args.moment (g.K.Keeper.visited c.args.keeper.now) (g.K.Keeper.visited c.args.keeper.now)) c.args.app.now c.args.roots.now c.args.self.now c.args.steps.now
      (0, refl, omega arith);
}

pub loop-number-preserved : goal.loop-number-preserved
loop-number-preserved g c =
    let xs : List ℕ = c.as_slice-order.result.now in
    let i : ℕ = c.loop-number.number-index in
    let first : Keeping = keeping (g.K.Keeper.told c.args.keeper.now) (g.K.Keeper.began c.args.keeper.now) (g.K.Keeper.shaped c.args.keeper.now) (g.K.Keeper.in_transaction c.args.keeper.now) (g.K.Keeper.marks c.args.keeper.now) (g.K.Keeper.visited c.args.keeper.now) (g.K.Keeper.loan c.args.keeper.now) in
    let before : Keeping = keeping (g.K.Keeper.told c.loop-number.keeper) (g.K.Keeper.began c.loop-number.keeper) (g.K.Keeper.shaped c.loop-number.keeper) (g.K.Keeper.in_transaction c.loop-number.keeper) (g.K.Keeper.marks c.loop-number.keeper) (g.K.Keeper.visited c.loop-number.keeper) (g.K.Keeper.loan c.loop-number.keeper) in
    let after : Keeping = keeping (g.K.Keeper.told c.bring.new.keeper) (g.K.Keeper.began c.bring.new.keeper) (g.K.Keeper.shaped c.bring.new.keeper) (g.K.Keeper.in_transaction c.bring.new.keeper) (g.K.Keeper.marks c.bring.new.keeper) (g.K.Keeper.visited c.bring.new.keeper) (g.K.Keeper.loan c.bring.new.keeper) in
    record {
      order = c.in_ok-bring.ensures.order;
      right = λ h. c.in_ok-bring.ensures.right (c.loop-number.invariant.right h);
      brought = brought_more c.args.app.now c.args.roots.now c.args.marks.now c.args.self.now i (get_or xs i 0) c.loop-number.self c.bring.new.self c.args.steps.now c.loop-number.steps c.bring.new.steps c.requires.sound
          (lent c.args.app.now xs i c.as_slice-order.ensures c.loop-number-test.true) (item c.args.app.now xs i c.as_slice-order.ensures) c.requires.marks c.loop-number.invariant.brought c.in_ok-bring.ensures.brought c.in_ok-bring.ensures.ticks;
      read = read_on first before after c.loop-number.invariant.read c.in_ok-bring.ensures.read;
      alone = λ none. c.in_ok-bring.ensures.alone none ∙ c.loop-number.invariant.alone none;
      idle = λ same.
          let risen = steps_rise c.args.app.now c.args.roots.now c.args.marks.now c.args.self.now i c.loop-number.self c.args.steps.now c.loop-number.steps c.loop-number.invariant.brought in
          let more = may_rise c.args.app.now c.args.marks.now (get_or xs i 0) c.loop-number.self c.bring.new.self c.loop-number.steps c.bring.new.steps c.in_ok-bring.ensures.ticks in
          c.in_ok-bring.ensures.idle (omega (arith, same, risen, more)) ∙ c.loop-number.invariant.idle (omega (arith, same, risen, more));
      visits = λ right t told.
          let rows = rows_of_tables t.states in
          let there = told_back before after c.in_ok-bring.ensures.read t told in
          let step = visited_more c.args.app.now c.args.session.now rows c.args.moment (get_or xs i 0) c.loop-number.steps c.bring.new.steps (g.K.Keeper.visited c.args.keeper.now) (g.K.Keeper.visited c.loop-number.keeper) (g.K.Keeper.visited c.bring.new.keeper)
          (c.in_ok-bring.ensures.visits (c.loop-number.invariant.right right) t told) in
          ticks_more c.args.app.now c.args.roots.now c.args.marks.now c.args.self.now i (get_or xs i 0) c.loop-number.self c.bring.new.self c.args.steps.now c.loop-number.steps c.bring.new.steps c.requires.sound
          (lent c.args.app.now xs i c.as_slice-order.ensures c.loop-number-test.true) (item c.args.app.now xs i c.as_slice-order.ensures) c.requires.marks c.loop-number.invariant.brought
          (Visited c.args.app.now c.args.session.now rows c.args.moment (g.K.Keeper.visited c.args.keeper.now) (g.K.Keeper.visited c.loop-number.keeper))
          (Visited c.args.app.now c.args.session.now rows c.args.moment (g.K.Keeper.visited c.args.keeper.now) (g.K.Keeper.visited c.bring.new.keeper)) step.0 step.1 c.in_ok-bring.ensures.brought c.in_ok-bring.ensures.ticks
          (c.loop-number.invariant.visits right t there);
    }

pub returns-in_err-bring-clause-left : goal.returns-in_err-bring-clause-left
returns-in_err-bring-clause-left g c = subst (λ (x : CacheState). KeepsClean c.args.app.now c.args.self.now x) (sym c.in_err-bring.ensures.stopped) c.loop-number.invariant.brought.left

pub returns-clause-made : goal.returns-clause-made
returns-clause-made g c =
    let xs : List ℕ = c.as_slice-order.result.now in
    let i : ℕ = c.loop-number.number-index in
    all_made c.args.app.now c.args.roots.now c.args.marks.now c.args.self.now c.loop-number.self i c.args.steps.now c.loop-number.steps c.requires.sound
    (subst (λ (ys : List ℕ). length ys ≤ i) c.as_slice-order.ensures c.loop-number-test.false) c.requires.marks c.loop-number.invariant.brought

pub returns-clause-ticks : goal.returns-clause-ticks
returns-clause-ticks g c =
    all_ticks c.args.app.now c.args.roots.now c.args.marks.now c.args.self.now c.loop-number.self c.loop-number.number-index c.args.steps.now c.loop-number.steps c.loop-number.invariant.brought

pub returns-in_err-bring-clause-right : goal.returns-in_err-bring-clause-right
returns-in_err-bring-clause-right g c = λ h. c.in_err-bring.ensures.right (c.loop-number.invariant.right h)

pub returns-clause-visits : goal.returns-clause-visits
returns-clause-visits g c = λ right t told.
    all_visits c.args.app.now c.args.session.now (rows_of_tables t.states) c.args.moment c.args.roots.now c.args.self.now c.loop-number.self c.loop-number.number-index c.args.steps.now c.loop-number.steps (g.K.Keeper.visited c.args.keeper.now) (g.K.Keeper.visited c.loop-number.keeper)
    (c.loop-number.invariant.visits right t told)
