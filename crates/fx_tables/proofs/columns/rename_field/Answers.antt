use Rattle.std.proofs.Common.{◌≡◌, subst, sym, None}
use Rattle.fx_types.specs.Lookup.{item_named}
use Rattle.fx_value.specs.Columns.{Row}
use Rattle.fx_tables.proofs.ColumnSteps.{lacks_without}
use Rattle.fx_tables.proofs.columns.rename_field.Goals as goal

pub with_field-requires : goal.with_field-requires
with_field-requires c =
    let P : Row → Type 0 = λ r. item_named c.args.to r ≡ None in
    subst P (sym c.take_field-value.ensures.others) (lacks_without c.args.to c.args.from.now c.args.row c.requires)
