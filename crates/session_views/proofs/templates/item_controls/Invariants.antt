use Rattle.session_views.specs.Visits.{TemplateVisits}
use Rattle.session_views.proofs.Visiting.{VisitedUpTo}
use Rattle.recalc.specs.fx_eval.Visits.{AtMost}
use Rattle.recalc.specs.Visits.{WhereTold}
use Rattle.std.proofs.Common.{◌≡◌, ◌+◌, ◌≤◌, ℕ}
use Rattle.recalc.specs.app_semantics.Present.{present}
use Rattle.session_views.specs.Views.{IsItemControlShown}
use Rattle.session_views.proofs.Counts.{formulas_before}
use Rattle.session_views.proofs.Giving.{GivenUpTo}
use Rattle.fx_scalar.specs.ScalarFunctions.{IsToday}
use Rattle.recalc.specs.fx_semantics.Around.{record_of}
use Rattle.recalc.specs.Asking.{HasRead, IsHeardOf, ToldRows, keeping}
use Rattle.recalc.specs.Values.{value_of}
use Rattle.session_views.proofs.templates.item_controls.Given as goal

abbrev pub invariant-loop-control : goal.invariant-loop-control
invariant-loop-control g l = record {
  number : l.number ≡ l.control-index;
  ticks : l.steps ≤ l.fn.steps + formulas_before l.app.names l.gallery l.control-index;
  given : (moment : ℕ) (tables : ToldRows) → IsToday moment l.valued.day → IsHeardOf (g.K.Keeper.told l.keeper) tables → GivenUpTo (IsItemControlShown (present l.app l.session tables moment) (value_of l.valued) l.gallery (record_of l.row)) 0 l.app.names.controls l.control-index l.shown;
  visits : (moment : ℕ) → IsToday moment l.valued.day → WhereTold (g.K.Keeper.told l.keeper) (λ told. AtMost (VisitedUpTo (TemplateVisits l.app l.session told moment (value_of l.valued) l.gallery (record_of l.row)) 0 l.app.names.controls l.control-index l.shown) (g.K.Keeper.visited l.fn.keeper) (g.K.Keeper.visited l.keeper));
  read : HasRead (keeping (g.K.Keeper.told l.fn.keeper) (g.K.Keeper.began l.fn.keeper) (g.K.Keeper.shaped l.fn.keeper) (g.K.Keeper.in_transaction l.fn.keeper) (g.K.Keeper.marks l.fn.keeper) (g.K.Keeper.visited l.fn.keeper) (g.K.Keeper.loan l.fn.keeper))
      (keeping (g.K.Keeper.told l.keeper) (g.K.Keeper.began l.keeper) (g.K.Keeper.shaped l.keeper) (g.K.Keeper.in_transaction l.keeper) (g.K.Keeper.marks l.keeper) (g.K.Keeper.visited l.keeper) (g.K.Keeper.loan l.keeper));
}
