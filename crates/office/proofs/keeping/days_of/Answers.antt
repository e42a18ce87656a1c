use Rattle.std.proofs.Common.{◌≡◌, ◌∙◌, ◌+◌, ℕ, List, [], ◌∷◌, length, ap, subst, sym}
use Rattle.std.specs.List.{AllByRecursion}
use Rattle.std.proofs.lemmas.List.{length-append}
use Rattle.fx_types.specs.ValueView.{view}
use Rattle.fx_types.specs.declared.values.Value.{Value}
use Rattle.fx_scalar.specs.ScalarFunctions.{IsToday}
use Rattle.office.proofs.Rounds.{every_more}
use Rattle.office.proofs.keeping.days_of.Goals as goal

pub loop-preserved : goal.loop-preserved
loop-preserved c =
    let P : Value → Type 0 = λ d. IsToday c.args.moment (view d) in
    let day = c.in_ok-today.field-0 in
    let items = c.in_ok-push.ensures.items in
    record {
      count = ap length items ∙ length-append c.loop.days.items (day ∷ []) ∙ ap (λ n. n + 1) c.loop.invariant.count;
      days = subst (λ (l : List Value). AllByRecursion P l) (sym items) (every_more P c.loop.days.items day c.loop.invariant.days c.in_ok-today.ensures);
    }
