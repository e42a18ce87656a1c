use Rattle.std.proofs.Common.{◌≡◌, Some, List, map, ap, ◌∙◌}
use Rattle.std.proofs.lemmas.Result.{IfErr-weaker, IfOk-weaker}
use Rattle.serde_json.specs.View.{items_view, view}
use Rattle.serde_json.specs.declared.value.Value.{Value}
use Rattle.app_file.specs.Forms.{elements}
use Rattle.app_file.proofs.Lists.{all_are, elements_are, fine_list, told_list, told_no_list}
use Rattle.app_file.proofs.parts.InOrderPart.read.Goals as goal

pub returns-in-Some-clause-ok : goal.returns-in-Some-clause-ok
returns-in-Some-clause-ok g c =
    let d = view c.args.part.now in
    let ds = map view c.as_slice.result.now in
    let is : elements d ≡ Some ds = elements_are d ds (ap (λ (vs : List Value). Some (items_view vs)) c.as_slice.ensures.value ∙ c.in-Some.ensures) in
    IfOk-weaker c.read_all.result _ _
    (λ a h. (fine_list g.T.Element.element_form d ds is h.0, h.1 ∙ all_are g.T.Element.element_held d ds is)) c.read_all.ensures.ok

pub returns-in-Some-clause-bad : goal.returns-in-Some-clause-bad
returns-in-Some-clause-bad g c =
    let d = view c.args.part.now in
    let ds = map view c.as_slice.result.now in
    let is : elements d ≡ Some ds = elements_are d ds (ap (λ (vs : List Value). Some (items_view vs)) c.as_slice.ensures.value ∙ c.in-Some.ensures) in
    IfErr-weaker c.read_all.result _ _ (told_list g.T.Element.element_form d ds is) c.read_all.ensures.bad

pub returns-in-None-clause-bad : goal.returns-in-None-clause-bad
returns-in-None-clause-bad g c = told_no_list g.T.Element.element_form (view c.args.part.now) c.in-None.ensures c.unreadable.result c.unreadable.ensures
