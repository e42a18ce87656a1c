use Rattle.std.proofs.Common.{◌≡◌, ◌∙◌, ap, sym, subst, Some}
use Rattle.std.specs.Option.{IfSome}
use Rattle.fx_value.specs.Order.{IsScalar}
use Rattle.row_queries.specs.TableRows.{value_at}
use Rattle.row_keeper.specs.Slots.{now_at, now_in_slot}
use Rattle.row_keeper.proofs.table.entries_at.Goals as goal

pub entries_for-requires : goal.entries_for-requires
entries_for-requires c k =
    let at : now_at c.args.slots.now.by_id.entries c.args.id ≡ Some c.in-Some-cells.cells.now = ap now_in_slot (sym c.in-Some.ensures.value) ∙ c.in-Some-cells.ensures in
    subst (λ o. IfSome o (λ cells. IsScalar (value_at cells k))) at (c.requires c.args.id k)
