use Rattle.std.proofs.Common.{◌≡◌, ◌∙◌, ◌+◌, ℕ, List, [], ◌∷◌, Option, ap, arith, length, subst, sym}
use Rattle.std.proofs.lemmas.List.{length-append}
use Rattle.recalc.proofs.Finding.{ArePlacesSoFar, place_so_far, places_all}
use Rattle.recalc.specs.Carrying.{cell_was}
use Rattle.recalc.proofs.trees.old_places.Goals as goal

pub loop-cell-init : goal.loop-cell-init
loop-cell-init c =
    let none : length c.in_ok-places.places.items ≡ 0 = ap length c.in_ok-places.ensures.items in
    record {
      places = record { each = λ k low. absurd (omega (arith, low, none)) };
      long = none;
    }

pub loop-cell-preserved : goal.loop-cell-preserved
loop-cell-preserved c =
    let items = c.in_ok-push.ensures.items in
    record {
      places = subst (λ (l : List (Option ℕ)). ArePlacesSoFar c.args.old.now c.args.new.now l) (sym items)
          (place_so_far c.args.old.now c.args.new.now c.loop-cell.places.items c.cell_was.result (c.cell_was.ensures ∙ ap (cell_was c.args.old.now c.args.new.now) (sym c.loop-cell.invariant.long)) c.loop-cell.invariant.places);
      long = ap length items ∙ length-append c.loop-cell.places.items (c.cell_was.result ∷ []) ∙ ap (λ n. n + 1) c.loop-cell.invariant.long;
    }

pub returns : goal.returns
returns c =
    places_all c.args.old.now c.args.new.now c.loop-cell.places.items
    (let e = c.loop-cell.invariant.long in omega (arith, e, c.loop-cell-test.false, c.loop-cell.auto.cell-end, c.len-count.ensures))
    c.loop-cell.invariant.places
