use Rattle.std.proofs.Common.{arith}
use Rattle.row_lines.proofs.SchemaLemmas.{schema_tells}
use Rattle.row_lines.proofs.schemas.body_of.Goals as goal

pub returns-clause-told : goal.returns-clause-told
returns-clause-told c =
    schema_tells c.args.schema.now c.as_slice-tables.result.now c.loop-table.table-index c.loop-table.body.items c.as_slice-tables.ensures (omega arith)
    c.loop-table.invariant.written c.loop-table.invariant.short
