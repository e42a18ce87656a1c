use Rattle.std.proofs.Common.{ap, sym, ◌∙◌}
use Rattle.std.proofs.lemmas.Result.{err_from_is_err_and}
use Rattle.serde_json.specs.View.{view}
use Rattle.app_file.proofs.Controls.{fine_screens, told_no_screen, told_screens}
use Rattle.app_file.proofs.screens.ScreensPart.read.Goals as goal

pub returns-then-is_empty_list-clause-bad : goal.returns-then-is_empty_list-clause-bad
returns-then-is_empty_list-clause-bad c =
    told_no_screen (view c.args.part.now) (sym c.is_empty_list.ensures ∙ c.if-is_empty_list.true) c.unreadable.result c.unreadable.ensures

pub returns-in_err-screens-clause-bad : goal.returns-in_err-screens-clause-bad
returns-in_err-screens-clause-bad c =
    let p = err_from_is_err_and c.from_residual.result c.from_residual.ensures.1 in
    rw (p.1, p.2) (told_screens (view c.args.part.now) (sym c.is_empty_list.ensures ∙ c.if-is_empty_list.false) c.in_err-screens.field-0.0 c.in_err-screens.ensures.bad)

pub returns-clause-ok : goal.returns-clause-ok
returns-clause-ok c = (
  fine_screens (view c.args.part.now) (sym c.is_empty_list.ensures ∙ c.if-is_empty_list.false) c.in_ok-screens.ensures.ok.0,
  ap (λ ss. record { 0 = ss }) c.in_ok-screens.ensures.ok.1,
)
