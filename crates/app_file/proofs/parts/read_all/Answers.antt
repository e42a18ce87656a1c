use Rattle.std.proofs.Common.{◌≤◌, length, map, ap, ◌∙◌, subst, arith}
use Rattle.std.proofs.lemmas.List.{length-map}
use Rattle.serde_json.specs.View.{view}
use Rattle.app_file.specs.Forms.{BreaksForm, IsFine}
use Rattle.app_file.specs.Readings.{TellsPath}
use Rattle.app_file.proofs.Lists.{all_fine, all_held, as_many, bad_among, before_at, here_at, one_more_fine, one_more_held}
use Rattle.app_file.proofs.parts.read_all.Goals as goal

pub returns-in-Err-clause-bad : goal.returns-in-Err-clause-bad
returns-in-Err-clause-bad g c =
    let f = g.T.Element.element_form in
    let xs = c.args.items.now in
    let n = c.loop-place.place in
    let x = c.index-items-place.result in
    bad_among f (map view xs) n (view x) (as_many view xs n c.loop-place-test.true) (here_at view xs n x c.loop-place-test.true c.index-items-place.is) c.in-Err.end c.in_element.result
    (subst (λ ds. TellsPath (BreaksForm (f ds) (view x)) c.in-Err.end) (before_at view xs n) c.in-Err.ensures.bad) c.in_element.ensures

pub loop-place-preserved : goal.loop-place-preserved
loop-place-preserved g c =
    let f = g.T.Element.element_form in
    let h = g.T.Element.element_held in
    let xs = c.args.items.now in
    let n = c.loop-place.place in
    let x = c.index-items-place.result in
    let one = c.in-Ok.one in
    let many = as_many view xs n c.loop-place-test.true in
    let here = here_at view xs n x c.loop-place-test.true c.index-items-place.is in
    record {
      fine = one_more_fine f (map view xs) n (view x) many here c.loop-place.invariant.fine (subst (λ ds. IsFine (f ds) (view x)) (before_at view xs n) c.in-Ok.ensures.ok.0);
      held = c.in_ok-push-in-Ok.ensures.ok
          ∙ one_more_held h (map view xs) n (view x) c.loop-place.all one many here c.loop-place.invariant.held (c.in-Ok.ensures.ok.1 ∙ ap (λ ds. h ds (view x)) (before_at view xs n));
    }

pub returns-clause-ok : goal.returns-clause-ok
returns-clause-ok g c =
    let xs = c.args.items.now in
    let n = c.loop-place.place in
    let over : length (map view xs) ≤ n = let e = length-map xs view in omega (arith, e, c.loop-place-test.false) in
    (all_fine g.T.Element.element_form (map view xs) n over c.loop-place.invariant.fine, all_held g.T.Element.element_held (map view xs) n c.loop-place.all over c.loop-place.invariant.held)
