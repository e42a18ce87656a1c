use Rattle.std.proofs.Common.{◌≡◌, List, [], ◌∷◌, map, subst}
use Rattle.fx_typing.specs.Rounds.{AreFinalTypes, StillChanges}
use Rattle.app_cells.specs.declared.cell.Cell.{Cell}
use Rattle.app_loader.specs.Cells.{round_cell}
use Rattle.app_loader.specs.JudgedFormulas.{ReportsBreaks, unsettled}
use Rattle.app_loader.proofs.Ended.{unsettled_end}
use Rattle.app_loader.proofs.judging.app_of.Goals as goal

pub returns-in-Ok-clause-app : goal.returns-in-Ok-clause-app
returns-in-Ok-clause-app c = c.typed_app.ensures.app c.args.first (subst (λ (cs : List Cell). AreFinalTypes (map round_cell cs) c.args.first c.in-Ok.names) c.deref.ensures.value c.in-Ok.ensures.types)

pub returns-in-Ok-clause-refused : goal.returns-in-Ok-clause-refused
returns-in-Ok-clause-refused c = c.typed_app.ensures.refused c.args.first (subst (λ (cs : List Cell). AreFinalTypes (map round_cell cs) c.args.first c.in-Ok.names) c.deref.ensures.value c.in-Ok.ensures.types)

pub returns-in-Err-clause-refused : goal.returns-in-Err-clause-refused
returns-in-Err-clause-refused c =
    unsettled_end c.args.first c.args.limit c.args.cells.items c.in-Err.end
    (subst (λ (cs : List Cell). ReportsBreaks (λ bs. (bs ≡ unsettled ∷ []) × StillChanges (map round_cell cs) c.args.first) c.in-Err.end) c.deref.ensures.value c.in-Err.ensures.unsettled)
