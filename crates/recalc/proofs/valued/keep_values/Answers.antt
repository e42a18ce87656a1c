use Rattle.std.proofs.Common.{◌∙◌, ℕ, List, map}
use Rattle.fx_types.specs.ValueView.{view}
use Rattle.recalc.specs.Asking.{Keeping, keeping}
use Rattle.recalc.specs.Reading.{cell_value}
use Rattle.app_semantics.specs.Needed.{is_alone}
use Rattle.row_keeper.specs.Tables.{rows_told}
use Rattle.recalc.proofs.Asked.{heard_before, read_on, still_asks}
use Rattle.recalc.proofs.Kept.{all_fresh, more_kept, number_blank, number_within, steps_all, steps_more}
use Rattle.recalc.proofs.valued.keep_values.Goals as goal

pub keep_value-requires-clause-number : goal.keep_value-requires-clause-number
keep_value-requires-clause-number g c = number_within c.args.app.now c.as_slice-order.result.now c.loop-number.number-index c.requires.sound c.as_slice-order.ensures c.loop-number-test.true

pub keep_value-requires-clause-blank : goal.keep_value-requires-clause-blank
keep_value-requires-clause-blank g c =
    number_blank c.args.app.now c.args.session.now (rows_told (g.K.Keeper.told c.loop-number.keeper)) (view c.args.day.now) c.as_slice-order.result.now c.loop-number.number-index (cell_value (map view c.loop-number.values.items))
    c.requires.sound c.as_slice-order.ensures c.loop-number-test.true c.loop-number.invariant.kept

pub keep_value-requires-clause-asks : goal.keep_value-requires-clause-asks
keep_value-requires-clause-asks g c = still_asks c.args.app.now (g.K.Keeper.shaped c.args.keeper.now) (g.K.Keeper.shaped c.loop-number.keeper) c.loop-number.invariant.read.shaped c.requires.asks

pub loop-number-preserved : goal.loop-number-preserved
loop-number-preserved g c =
    let xs : List ℕ = c.as_slice-order.result.now in
    let i : ℕ = c.loop-number.number-index in
    let first : Keeping = keeping (g.K.Keeper.told c.args.keeper.now) (g.K.Keeper.began c.args.keeper.now) (g.K.Keeper.shaped c.args.keeper.now) (g.K.Keeper.in_transaction c.args.keeper.now) (g.K.Keeper.marks c.args.keeper.now) (g.K.Keeper.visited c.args.keeper.now) (g.K.Keeper.loan c.args.keeper.now) in
    let before : Keeping = keeping (g.K.Keeper.told c.loop-number.keeper) (g.K.Keeper.began c.loop-number.keeper) (g.K.Keeper.shaped c.loop-number.keeper) (g.K.Keeper.in_transaction c.loop-number.keeper) (g.K.Keeper.marks c.loop-number.keeper) (g.K.Keeper.visited c.loop-number.keeper) (g.K.Keeper.loan c.loop-number.keeper) in
    let after : Keeping = keeping (g.K.Keeper.told c.keep_value.new.keeper) (g.K.Keeper.began c.keep_value.new.keeper) (g.K.Keeper.shaped c.keep_value.new.keeper) (g.K.Keeper.in_transaction c.keep_value.new.keeper) (g.K.Keeper.marks c.keep_value.new.keeper) (g.K.Keeper.visited c.keep_value.new.keeper) (g.K.Keeper.loan c.keep_value.new.keeper) in
    record {
      long = c.in_ok-keep_value.ensures.long;
      kept = more_kept c.args.app.now c.args.session.now (rows_told before.told) (rows_told after.told) (view c.args.day.now) xs i (cell_value (map view c.loop-number.values.items)) (cell_value (map view c.keep_value.new.values.items))
          c.requires.sound (λ tables h. heard_before before after c.in_ok-keep_value.ensures.read tables h) c.as_slice-order.ensures c.loop-number-test.true c.loop-number.invariant.kept c.in_ok-keep_value.ensures.fits c.in_ok-keep_value.ensures.others
          c.in_ok-keep_value.ensures.value;
      read = read_on first before after c.loop-number.invariant.read c.in_ok-keep_value.ensures.read;
      alone = λ none. c.in_ok-keep_value.ensures.alone none ∙ c.loop-number.invariant.alone none;
      steps = steps_more (is_alone c.args.app.now.cells) xs c.args.app.now.order i c.args.steps.now c.loop-number.steps c.keep_value.new.steps
          c.as_slice-order.ensures c.loop-number-test.true c.in_ok-keep_value.ensures.steps c.loop-number.invariant.steps;
    }

pub returns-clause-fresh : goal.returns-clause-fresh
returns-clause-fresh g c =
    all_fresh c.args.app.now c.args.session.now (rows_told (g.K.Keeper.told c.loop-number.keeper)) (view c.args.day.now) c.as_slice-order.result.now c.loop-number.number-index (cell_value (map view c.loop-number.values.items))
    c.requires.sound c.as_slice-order.ensures c.loop-number-test.false c.loop-number.invariant.kept

pub returns-clause-steps : goal.returns-clause-steps
returns-clause-steps g c =
    steps_all (is_alone c.args.app.now.cells) c.as_slice-order.result.now c.args.app.now.order c.loop-number.number-index c.args.steps.now c.loop-number.steps
    c.as_slice-order.ensures c.loop-number-test.false c.loop-number.invariant.steps
