use Rattle.std.proofs.Common.{◌≡◌, List, ap, map, set, subst}
use Rattle.std.proofs.lemmas.List.{map-set}
use Rattle.fx_types.specs.ValueView.{view}
use Rattle.fx_types.specs.Values.{Data}
use Rattle.recalc.specs.Values.{CellValues}
use Rattle.recalc.specs.contracts.valued.Valued.{the_view}
use Rattle.recalc.proofs.valued.Valued.put.Goals as goal

pub returns : goal.returns
returns c =
    let s : CellValues = the_view c.self.inside in
    let now : CellValues = record s { cells = map view (set c.self.inside.values.items c.args.cell c.args.value) } in
    subst (λ (x : CellValues). now ≡ record x { cells = set x.cells c.args.cell (view c.args.value) }) c.self.view_is
    (ap (λ (xs : List Data). record s { cells = xs }) (map-set view c.self.inside.values.items c.args.cell c.args.value))
