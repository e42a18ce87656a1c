use Rattle.std.proofs.Common.{List, subst}
use Rattle.app_cells.specs.declared.cell.Cell.{Cell}
use Rattle.app_loader.specs.Admitted.{AreRefused}
use Rattle.app_loader.specs.JudgedFormulas.{AreSomeBreaks, ReportsBreaks}
use Rattle.app_loader.proofs.Ended.{refused_end}
use Rattle.app_loader.proofs.judging.typed_app.Goals as goal

pub returns-in-Err-clause-refused : goal.returns-in-Err-clause-refused
returns-in-Err-clause-refused c =
    let told = subst (λ (cs : List Cell). ReportsBreaks (AreSomeBreaks (AreRefused c.args.names cs)) c.in-Err.end) c.deref.ensures.value c.in-Err.ensures.refused in
    λ first f. refused_end first c.args.limit c.args.cells.items c.args.names f c.in-Err.end told
