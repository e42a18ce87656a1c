use Rattle.std.proofs.Common.{List, map, take, subst, sym}
use Rattle.std.specs.List.{All}
use Rattle.std.proofs.lemmas.List.Elements.{All-push}
use Rattle.fx_types.specs.Values.{Data}
use Rattle.fx_types.specs.ValueView.{view}
use Rattle.fx_value.specs.Keys.{IsProper}
use Rattle.fx_tables.specs.Seen.{HoldsFirsts}
use Rattle.fx_tables.proofs.DistinctSteps.{goes_with_earlier, scalar_at}
use Rattle.fx_tables.proofs.SumSteps.{seen_more}
use Rattle.fx_tables.proofs.first_values.distinct.Goals as goal

pub take_first-requires : goal.take_first-requires
take_first-requires c = scalar_at c.args.values.now c.loop-value.value-index c.value-item.result c.loop-value-test.true c.value-item.is c.requires

pub loop-value-preserved : goal.loop-value-preserved
loop-value-preserved c =
    let xs = c.args.values.now in
    let i = c.loop-value.value-index in
    let x = c.value-item.result in
    let in' = c.loop-value-test.true in
    let inv = c.loop-value.invariant in
    let made = c.in_ok-take_first.ensures in
    let more = sym (seen_more xs i x in' c.value-item.is) in
    let before = map view (take i xs) in
    let P : List Data → Type 0 = λ ds. HoldsFirsts c.take_first.new.seen c.take_first.new.rows.items ds in
    record {
      firsts = subst P more (made.adds before inv.firsts (goes_with_earlier xs i x in' c.value-item.is c.requires) inv.proper);
      proper = subst (All IsProper) more (All-push IsProper before (view x) inv.proper made.proper);
    }
