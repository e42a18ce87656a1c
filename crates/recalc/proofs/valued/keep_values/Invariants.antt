use Rattle.std.proofs.Common.{◌≡◌, ◌+◌, length, map, take}
use Rattle.std.specs.List.{count_by}
use Rattle.fx_types.specs.ValueView.{view}
use Rattle.recalc.specs.Asking.{HasRead, ReadsNone, keeping}
use Rattle.recalc.specs.Reading.{cell_value}
use Rattle.row_keeper.specs.Tables.{rows_told}
use Rattle.app_semantics.specs.Needed.{is_alone}
use Rattle.recalc.proofs.Kept.{AreKept}
use Rattle.recalc.proofs.valued.keep_values.Given as goal

abbrev pub invariant-loop-number : goal.invariant-loop-number
invariant-loop-number g l = record {
  long : length l.values.items ≡ length l.app.cells;
  kept : AreKept l.app l.session (rows_told (g.K.Keeper.told l.keeper)) (view l.day) (take l.number-index l.app.order) (cell_value (map view l.values.items));
  read : HasRead
      (keeping (g.K.Keeper.told l.fn.keeper) (g.K.Keeper.began l.fn.keeper) (g.K.Keeper.shaped l.fn.keeper) (g.K.Keeper.in_transaction l.fn.keeper) (g.K.Keeper.marks l.fn.keeper) (g.K.Keeper.visited l.fn.keeper) (g.K.Keeper.loan l.fn.keeper))
      (keeping (g.K.Keeper.told l.keeper) (g.K.Keeper.began l.keeper) (g.K.Keeper.shaped l.keeper) (g.K.Keeper.in_transaction l.keeper) (g.K.Keeper.marks l.keeper) (g.K.Keeper.visited l.keeper) (g.K.Keeper.loan l.keeper));
  alone : ReadsNone l.app → l.keeper ≡ l.fn.keeper;
  steps : l.steps ≡ l.fn.steps + count_by (is_alone l.app.cells) (take l.number-index l.app.order);
}
