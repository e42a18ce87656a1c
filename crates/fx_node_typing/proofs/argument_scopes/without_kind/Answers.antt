use Rattle.fx_types.specs.Types.{column_list}
use Rattle.fx_typing.proofs.Tellings.{kind_by}
use Rattle.fx_node_typing.proofs.argument_scopes.without_kind.Goals as goal

pub returns-in-Some : goal.returns-in-Some
returns-in-Some c = kind_by c.in_ok-kind.kind _ (column_list c.args.columns.now) c.in_ok-kind.ensures c.in-Some.ensures

pub returns : goal.returns
returns c = kind_by c.in_ok-kind.kind _ (column_list c.args.columns.now) c.in_ok-kind.ensures c.in-None.ensures
