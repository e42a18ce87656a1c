use Rattle.std.proofs.Common.{arith}
use Rattle.row_keeper.proofs.Records.{begins, ends_at, lacks_at, long_at, step_at}
use Rattle.row_keeper.proofs.row_tables.table.Goals as goal

pub loop-place-init : goal.loop-place-init
loop-place-init c = begins c.args.shape.now c.args.rows.now _ c.requires.lawful c.requires.fit c.in_ok-records.ensures

pub add_column-requires-clause-new : goal.add_column-requires-clause-new
add_column-requires-clause-new c =
    lacks_at c.args.shape.now c.as_slice-columns.result.now c.as_slice-columns.ensures c.loop-place.place c.index-columns-place.result _ c.as_str.ensures.scalars c.args.rows.now _ c.loop-place-test.true c.index-columns-place.is c.loop-place.invariant

pub add_column-requires-clause-long : goal.add_column-requires-clause-long
add_column-requires-clause-long c = long_at c.args.shape.now c.loop-place.place c.args.rows.now _ _ c.in_ok-cells.ensures c.loop-place.invariant

pub loop-place-preserved : goal.loop-place-preserved
loop-place-preserved c =
    step_at c.args.shape.now c.as_slice-columns.result.now c.as_slice-columns.ensures c.loop-place.place c.index-columns-place.result _ c.as_str.ensures.scalars c.args.rows.now _ _ _ c.requires.lawful c.loop-place-test.true c.index-columns-place.is c.loop-place.invariant c.in_ok-cells.ensures
    c.in_ok-records-2.ensures

pub returns : goal.returns
returns c = ends_at c.args.shape.now c.as_slice-columns.result.now c.as_slice-columns.ensures c.loop-place.place c.args.rows.now _ (omega arith) c.loop-place.invariant
