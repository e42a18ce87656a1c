use Rattle.std.proofs.Common.{◌∙◌, ap, map, sym, take, ◌∷◌, [], arith}
use Rattle.std.proofs.lemmas.List.{map-append}
use Rattle.fx_types.specs.ValueView.{view}
use Rattle.fx_tables.specs.AggregateCalls.{characters_in, separated}
use Rattle.fx_tables.proofs.KeptRows.{values_more}
use Rattle.fx_tables.proofs.texts.parts.Goals as goal

pub loop-value-preserved : goal.loop-value-preserved
loop-value-preserved c =
    let vs = c.args.values.now in
    let i = c.loop-value.value-index in
    let v = c.value-item.result in
    let done = map view (take i vs) in
    let wider = ap (map characters_in) (values_more vs i v (omega arith) c.value-item.is) ∙ map-append characters_in done (view v ∷ []) in
    c.in_ok-push_part.ensures (map characters_in done) c.loop-value.invariant ∙ ap (separated c.args.separator.now) (sym wider)
