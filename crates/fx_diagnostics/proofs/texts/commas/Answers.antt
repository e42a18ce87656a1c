use Rattle.std.proofs.Common.{◌≡◌, ap, sym, ◌∙◌, ◌++◌, arith, List, ℕ}
use Rattle.std.proofs.lemmas.List.{take_all}
use Rattle.std.proofs.lemmas.Result.{IfOk-weaker}
use Rattle.std.proofs.lemmas.Str.{chars_from_encodes, encodes-append}
use Rattle.std.specs.Prelude.{encode_utf8_all}
use Rattle.std.specs.Str.{chars}
use Rattle.fx_typing.specs.Details.{comma_separated}
use Rattle.fx_diagnostics.specs.Separators.{comma_at}
use Rattle.fx_diagnostics.proofs.Lists.{commas_next}
use Rattle.fx_diagnostics.proofs.texts.commas.Goals as goal

pub loop-place-preserved : goal.loop-place-preserved
loop-place-preserved c =
    let next = commas_next c.args.texts.now c.loop-place.place c.index-texts-place.result (omega arith) c.index-texts-place.is in
    c.in_ok-push_text.ensures
    ∙ ap (λ bs. bs ++ encode_utf8_all (comma_at c.loop-place.place ++ c.index-texts-place.result)) c.loop-place.invariant
    ∙ sym (encodes-append _ (comma_at c.loop-place.place ++ c.index-texts-place.result))
    ∙ ap encode_utf8_all (sym next)

pub returns : goal.returns
returns c =
    let spelt = sym (c.as_str.ensures.value ∙ c.loop-place.invariant ∙ ap (λ (ts : List (List ℕ)). encode_utf8_all (comma_separated ts)) (take_all c.loop-place.place c.args.texts.now (omega arith))) in
    let same : chars c.as_str.result.now ≡ comma_separated c.args.texts.now = sym (chars_from_encodes (comma_separated c.args.texts.now) c.as_str.result.now c.as_str.utf8 spelt) in
    IfOk-weaker c.of.result _ _ (λ w e. e ∙ same) c.of.ensures
