use Rattle.std.proofs.Common.{◌∙◌, ap, subst, sym, unwrap_or}
use Rattle.fx_types.specs.Lookup.{item_named}
use Rattle.fx_types.specs.Rising.{AreNamesRising}
use Rattle.fx_types.specs.Values.{blank}
use Rattle.fx_value.specs.Columns.{fields_without}
use Rattle.fx_tables.proofs.ColumnSteps.{rising_without}
use Rattle.fx_tables.proofs.columns.take_field.Goals as goal

pub from_rising-requires : goal.from_rising-requires
from_rising-requires c =
    let n = c.args.name.now in
    subst AreNamesRising (sym (c.take_value-value.ensures.others ∙ ap (fields_without n) c.into_items-items.ensures.fields)) (rising_without n c.args.row c.into_items-items.ensures.rising)

pub returns-clause-value : goal.returns-clause-value
returns-clause-value c = c.take_value-value.ensures.value ∙ ap (λ r. unwrap_or (item_named c.args.name.now r) blank) c.into_items-items.ensures.fields

pub returns-clause-others : goal.returns-clause-others
returns-clause-others c = c.from_rising.ensures ∙ c.take_value-value.ensures.others ∙ ap (fields_without c.args.name.now) c.into_items-items.ensures.fields
