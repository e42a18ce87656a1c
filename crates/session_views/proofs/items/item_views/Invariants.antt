use Rattle.session_views.specs.Visits.{ItemAtVisits}
use Rattle.session_views.proofs.Visiting.{VisitedUpTo}
use Rattle.recalc.specs.fx_eval.Visits.{AtMost}
use Rattle.recalc.specs.Visits.{WhereTold}
use Rattle.std.proofs.Common.{◌≡◌, ◌+◌, ◌*◌, ◌≤◌, length, ℕ}
use Rattle.recalc.specs.app_semantics.Present.{present}
use Rattle.session_views.specs.Bounds.{formulas_for}
use Rattle.session_views.specs.Looking.{is_it}
use Rattle.session_views.specs.Views.{IsItemAt}
use Rattle.session_views.proofs.Giving.{GivenUpTo}
use Rattle.fx_scalar.specs.ScalarFunctions.{IsToday}
use Rattle.recalc.specs.Asking.{HasRead, IsHeardOf, ToldRows, keeping}
use Rattle.recalc.specs.Values.{value_of}
use Rattle.session_views.proofs.items.item_views.Given as goal

abbrev pub invariant-loop-row : goal.invariant-loop-row
invariant-loop-row g l = record {
  at : l.at ≡ l.first + l.row-index;
  ticks : l.steps ≤ l.fn.steps + length l.list * formulas_for l.app.names (is_it l.gallery);
  given : (moment : ℕ) (tables : ToldRows) → IsToday moment l.valued.day → IsHeardOf (g.K.Keeper.told l.keeper) tables → GivenUpTo (IsItemAt (present l.app l.session tables moment) (value_of l.valued) l.gallery) l.first l.rows l.row-index l.list;
  visits : (moment : ℕ) → IsToday moment l.valued.day → WhereTold (g.K.Keeper.told l.keeper) (λ told. AtMost (VisitedUpTo (ItemAtVisits l.app l.session told moment (value_of l.valued) l.gallery) l.first l.rows l.row-index l.list) (g.K.Keeper.visited l.fn.keeper) (g.K.Keeper.visited l.keeper));
  read : HasRead (keeping (g.K.Keeper.told l.fn.keeper) (g.K.Keeper.began l.fn.keeper) (g.K.Keeper.shaped l.fn.keeper) (g.K.Keeper.in_transaction l.fn.keeper) (g.K.Keeper.marks l.fn.keeper) (g.K.Keeper.visited l.fn.keeper) (g.K.Keeper.loan l.fn.keeper))
      (keeping (g.K.Keeper.told l.keeper) (g.K.Keeper.began l.keeper) (g.K.Keeper.shaped l.keeper) (g.K.Keeper.in_transaction l.keeper) (g.K.Keeper.marks l.keeper) (g.K.Keeper.visited l.keeper) (g.K.Keeper.loan l.keeper));
}
