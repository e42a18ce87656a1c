use Rattle.std.proofs.Common.{◌≡◌}
use Rattle.recalc.specs.Asking.{HasRead, ReadsNone, keeping}
use Rattle.recalc.proofs.CellVisits.{Visited}
use Rattle.recalc.proofs.Turns.{IsBroughtTo, TicksWith}
use Rattle.recalc.specs.Visits.{WhereTold}
use Rattle.recalc.specs.Kept.{IsInOrder}
use Rattle.recalc.specs.Outcomes.{IsRightOver}
use Rattle.recalc.proofs.cache.Cache.bring_all.Given as goal

abbrev pub invariant-loop-number : goal.invariant-loop-number
invariant-loop-number g l = record {
  order : IsInOrder l.app l.self;
  right : IsRightOver l.app l.session (g.K.Keeper.told l.fn.keeper) l.moment l.fn.self → IsRightOver l.app l.session (g.K.Keeper.told l.keeper) l.moment l.self;
  brought : IsBroughtTo l.app l.roots l.marks l.fn.self l.number-index l.self l.fn.steps l.steps;
  read : HasRead
      (keeping (g.K.Keeper.told l.fn.keeper) (g.K.Keeper.began l.fn.keeper) (g.K.Keeper.shaped l.fn.keeper) (g.K.Keeper.in_transaction l.fn.keeper) (g.K.Keeper.marks l.fn.keeper) (g.K.Keeper.visited l.fn.keeper) (g.K.Keeper.loan l.fn.keeper))
      (keeping (g.K.Keeper.told l.keeper) (g.K.Keeper.began l.keeper) (g.K.Keeper.shaped l.keeper) (g.K.Keeper.in_transaction l.keeper) (g.K.Keeper.marks l.keeper) (g.K.Keeper.visited l.keeper) (g.K.Keeper.loan l.keeper));
  alone : ReadsNone l.app → l.keeper ≡ l.fn.keeper;
  idle : l.steps ≡ l.fn.steps → l.keeper ≡ l.fn.keeper;
  visits : IsRightOver l.app l.session (g.K.Keeper.told l.fn.keeper) l.moment l.fn.self → WhereTold (g.K.Keeper.told l.keeper) (λ rows.
      TicksWith (Visited l.app l.session rows l.moment (g.K.Keeper.visited l.fn.keeper) (g.K.Keeper.visited l.keeper)) l.app l.roots l.fn.self l.self l.number-index l.fn.steps l.steps);
}
