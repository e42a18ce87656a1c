use Rattle.std.proofs.Common.{arith, subst, sym, List, ℕ}
use Rattle.fx_types.specs.Rising.{AreNamesRising}
use Rattle.fx_types.specs.TypeView.{columns_view}
use Rattle.fx_types.specs.declared.types.Ty.{Ty}
use Rattle.fx_node_typing.proofs.Fields.{rising_columns, all_columns, all_cores, record_is}
use Rattle.fx_node_typing.proofs.records.record_by.Goals as goal

pub from_rising-requires : goal.from_rising-requires
from_rising-requires c =
    let done = c.in-None.ensures.steps in
    let P : List (List ℕ × Ty) → Type 0 = λ cs. AreNamesRising (columns_view cs) in
    subst P (sym (all_columns c.loop-name.columns.items c.loop-name.name-iterator.rest.items c.args.fields.items (omega arith) c.loop-name.invariant.columns))
    (rising_columns c.args.fields.items c.requires)

pub returns : goal.returns
returns c =
    let done = c.in-None.ensures.steps in
    record_is c.loop-name.columns.items c.loop-name.parts c.from_rising.result c.record_of.result c.args.fields.items
    (all_columns c.loop-name.columns.items c.loop-name.name-iterator.rest.items c.args.fields.items (omega arith) c.loop-name.invariant.columns)
    (all_cores c.loop-name.parts c.loop-name.name-iterator.rest.items c.args.fields.items (omega arith) c.loop-name.invariant.parts)
    c.from_rising.ensures c.record_of.ensures
