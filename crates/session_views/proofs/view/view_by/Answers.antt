use Rattle.std.proofs.Common.{List, Some, ap, arith, subst, sym, ◌≡◌, ◌∙◌, ℕ}
use Rattle.std.specs.List.{slice_get}
use Rattle.session_views.proofs.view.view_by.Goals as goal

pub unreachable-requires : goal.unreachable-requires
unreachable-requires g c = omega (arith, c.requires.screen, c.screen-place.ensures, c.in-None.ensures)

pub returns-clause-shows : goal.returns-clause-shows
returns-clause-shows g c = λ moment tables today heard. record {
  screen =
      subst (λ (n : ℕ). slice_get c.args.app.now.names.screens n ≡ Some c.in-Some.name.now) c.screen-place.ensures c.in-Some.ensures
      ∙ ap (λ (w : List ℕ). Some w) (sym c.in_ok-screen-in-Some.ensures);
  shown = c.in_ok-shown.ensures.shows moment tables today heard;
}

pub returns-clause-visits : goal.returns-clause-visits
returns-clause-visits g c = c.in_ok-shown.ensures.visits
