use Rattle.std.proofs.Common.{◌++◌, ap, sym, ◌∙◌}
use Rattle.app_names.specs.NameRules.{is_taken_thing}
use Rattle.app_names.proofs.BreakSteps.{taken_found, taken_later}
use Rattle.app_names.proofs.name_clashes.first_taken_thing.Goals as goal

pub returns-then-is_taken_thing : goal.returns-then-is_taken_thing
returns-then-is_taken_thing c =
    let before = c.args.before.now in
    let d = c.index-new-place.result in
    let taken = ap (λ ds. is_taken_thing (before ++ ds) d) (sym c.split_at.ensures.front) ∙ sym c.is_taken_thing.ensures ∙ c.if-is_taken_thing.true in
    taken_found before c.args.new.now c.loop-place.place d c.loop-place-test.true c.index-new-place.is taken ∙ c.loop-place.invariant

pub loop-place-preserved : goal.loop-place-preserved
loop-place-preserved c =
    let before = c.args.before.now in
    let d = c.index-new-place.result in
    let free = ap (λ ds. is_taken_thing (before ++ ds) d) (sym c.split_at.ensures.front) ∙ sym c.is_taken_thing.ensures ∙ c.if-is_taken_thing.false in
    taken_later before c.args.new.now c.loop-place.place d c.loop-place-test.true c.index-new-place.is free ∙ c.loop-place.invariant
