use Rattle.std.proofs.Common.{◌≡◌, ◌∙◌, List, ap, map, set, subst}
use Rattle.std.proofs.lemmas.List.{map-set}
use Rattle.fx_types.specs.ValueView.{view}
use Rattle.fx_types.specs.Values.{Data, blank}
use Rattle.fx_types.specs.declared.values.Value.{Value}
use Rattle.fx_types.specs.declared.values.Value.TheVariants.{Blank}
use Rattle.recalc.specs.Values.{CellValues}
use Rattle.recalc.specs.contracts.valued.Valued.{the_view}
use Rattle.recalc.proofs.valued.Valued.take.Goals as goal

pub returns-clause-left : goal.returns-clause-left
returns-clause-left c =
    let s : CellValues = the_view c.self.inside in
    let now : Value → CellValues = λ v. record s { cells = map view (set c.self.inside.values.items c.args.cell v) } in
    ap now c.replace.ensures.after
    ∙ subst (λ (x : CellValues). now Blank ≡ record x { cells = set x.cells c.args.cell blank }) c.self.view_is
    (ap (λ (xs : List Data). record s { cells = xs }) (map-set view c.self.inside.values.items c.args.cell Blank))
