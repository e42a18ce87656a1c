use Rattle.std.proofs.Common.{List, map, subst, sym, take, arith}
use Rattle.fx_types.specs.Values.{Data}
use Rattle.fx_types.specs.ValueView.{view}
use Rattle.fx_value.specs.Aggregates.{numbers_in, SumsUp}
use Rattle.fx_tables.proofs.SumSteps.{seen_more}
use Rattle.fx_tables.proofs.sums.totals.Goals as goal

pub loop-value-preserved : goal.loop-value-preserved
loop-value-preserved c =
    let xs = c.args.values.now in
    let i = c.loop-value.value-index in
    let inv = c.loop-value.invariant in
    let made = c.with_value-totals.ensures in
    let P : List Data → Type 0 = λ ds. SumsUp (numbers_in ds) c.with_value-totals.result in
    record {
      sums = subst P (sym (seen_more xs i c.value-item.result c.loop-value-test.true c.value-item.is)) (made.adds (map view (take i xs)) inv.sums);
      within = made.within;
      few = omega (arith, made.few, inv.few);
    }
