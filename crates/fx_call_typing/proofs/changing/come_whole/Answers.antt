use Rattle.std.proofs.Common.{List, ℕ, ap, sym}
use Rattle.fx_types.specs.Types.{Shape, column_list, records}
use Rattle.fx_typing.specs.TypedView.{typed}
use Rattle.fx_typing.specs.Local.{by_way}
use Rattle.fx_typing.specs.Ways.{way}
use Rattle.fx_node_typing.proofs.Exits.{as_same}
use Rattle.fx_call_typing.proofs.changing.come_whole.Goals as goal

pub returns : goal.returns
returns c =
    let come = λ (cs : List (List ℕ × Shape)). by_way (way (records (column_list c.args.fields)) (records (column_list cs))) c.args.core (records (column_list cs)) in
    as_same typed (come c.args.columns.now) (come c.in_ok-whole.whole) c.come_to.result (ap come (sym c.in_ok-whole.ensures)) c.come_to.ensures
