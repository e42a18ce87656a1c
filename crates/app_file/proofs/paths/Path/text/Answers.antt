use Rattle.std.proofs.Common.{◌≡◌, codes, map, ap, ◌∙◌}
use Rattle.std.proofs.lemmas.List.{take_all}
use Rattle.std.proofs.lemmas.Result.{IfOk-weaker}
use Rattle.std.specs.List.{join_by}
use Rattle.std.specs.Prelude.{string_bytes}
use Rattle.fx_types.specs.Words.{scalars_of}
use Rattle.app_file.specs.Paths.{step_text}
use Rattle.app_file.proofs.Counting.{joined_same}
use Rattle.app_file.proofs.paths.Path.text.Goals as goal

pub returns : goal.returns
returns c =
    let steps = c.deref-step-items.result.now in
    let texts = c.loop-step.texts.items in
    let each : map string_bytes texts ≡ map step_text steps = c.loop-step.invariant ∙ ap (map step_text) (take_all c.loop-step.step-index steps c.loop-step-test.false) in
    let is : steps ≡ c.args.self.now = c.deref-step-items.ensures.value ∙ c.self.view_is in
    let joined : string_bytes c.in_ok-joined.joined ≡ join_by step_text (codes "/") c.args.self.now =
    c.in_ok-joined.ensures.ok ∙ ap (join_by string_bytes (codes "/")) c.as_slice.ensures.value ∙ joined_same string_bytes step_text (codes "/") texts steps each ∙ ap (join_by step_text (codes "/")) is in
    IfOk-weaker c.of.result _ _ (λ w h. h ∙ ap scalars_of (c.as_str.ensures.value ∙ joined)) c.of.ensures
