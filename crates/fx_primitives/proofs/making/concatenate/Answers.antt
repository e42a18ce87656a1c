use Rattle.std.proofs.Common.{◌≡◌, arith, ap, sym, subst, ◌∙◌, List, ℕ, IfOk}
use Rattle.std.proofs.lemmas.List.{take_all}
use Rattle.std.proofs.lemmas.Str.{chars_from_encodes}
use Rattle.std.specs.Prelude.{encode_utf8_all}
use Rattle.std.specs.Str.{chars}
use Rattle.fx_primitives.specs.Texts.{text_or_quota, joined}
use Rattle.fx_primitives.proofs.TextLemmas.{joined_more}
use Rattle.fx_primitives.proofs.making.concatenate.Goals as goal

pub loop-text-preserved : goal.loop-text-preserved
loop-text-preserved c =
    let more = joined_more c.args.texts.now c.loop-text.text-index c.text-item.result (omega arith) c.text-item.is in
    let bytes = c.in_ok-push_str.ensures.bytes in
    let text = c.as_str.ensures.bytes in
    cc

pub returns : goal.returns
returns c =
    let cs = joined c.args.texts.now in
    let spelt = sym (c.as_str-2.ensures.value ∙ c.loop-text.invariant ∙ ap (λ (ts : List (List ℕ)). encode_utf8_all (joined ts)) (take_all c.loop-text.text-index c.args.texts.now (omega arith))) in
    let same : chars c.as_str-2.result.now ≡ cs = sym (chars_from_encodes cs c.as_str-2.result.now c.as_str-2.utf8 spelt) in
    subst (λ (xs : List ℕ). IfOk c.words_of.result (λ r. r ≡ text_or_quota xs)) same c.words_of.ensures
