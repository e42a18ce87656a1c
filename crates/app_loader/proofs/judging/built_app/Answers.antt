use Rattle.std.proofs.Common.{subst, sym}
use Rattle.app_loader.specs.Types.{HaveLawfulTrees}
use Rattle.app_loader.proofs.Below.{edges_below}
use Rattle.app_loader.proofs.BreakLists.{as_many}
use Rattle.app_loader.proofs.Ended.{app_ok, cyclic_err, trees_ok}
use Rattle.app_loader.proofs.Elaborated.{rising_reads}
use Rattle.app_loader.proofs.judging.built_app.Goals as goal

pub infos_of-requires-clause-lawful : goal.infos_of-requires-clause-lawful
infos_of-requires-clause-lawful c = c.requires.fit.lawful.schema

pub infos_of-requires-clause-each : goal.infos_of-requires-clause-each
infos_of-requires-clause-each c = sym (as_many c.args.names c.args.cells.items c.args.trees.items c.requires.typed)

pub ordered_app-requires-clause-below : goal.ordered_app-requires-clause-below
ordered_app-requires-clause-below c =
    edges_below c.admitted_is_typed.ensures.typed c.args.names c.args.limit c.args.cells.items c.in_ok-infos.infos c.requires.fit.lawful c.requires.fit.numbered c.in_ok-infos.ensures

pub ordered_app-requires-clause-reads : goal.ordered_app-requires-clause-reads
ordered_app-requires-clause-reads c = rising_reads c.args.names c.args.limit c.args.cells.items c.in_ok-infos.infos c.in_ok-infos.ensures

pub returns-clause-app : goal.returns-clause-app
returns-clause-app c = λ first f. app_ok first c.args.limit c.args.cells.items c.args.names c.in_ok-infos.infos f c.in_ok-infos.ensures c.ordered_app.result c.ordered_app.ensures.app

pub returns-clause-refused : goal.returns-clause-refused
returns-clause-refused c = λ first f. cyclic_err first c.args.limit c.args.cells.items c.args.names c.in_ok-infos.infos f c.in_ok-infos.ensures c.ordered_app.result c.ordered_app.ensures.refused

pub returns-clause-trees : goal.returns-clause-trees
returns-clause-trees c =
    trees_ok c.args.names c.args.limit c.in_ok-infos.infos (subst HaveLawfulTrees c.as_slice.ensures c.look_at_infos.ensures) c.ordered_app.result c.ordered_app.ensures.app
