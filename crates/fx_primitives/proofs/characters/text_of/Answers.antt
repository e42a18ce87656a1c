use Rattle.std.proofs.Common.{◌≡◌, arith, ap, sym, subst, ◌∙◌, List, ℕ, IfOk}
use Rattle.std.proofs.lemmas.List.{take_all}
use Rattle.std.proofs.lemmas.Str.{chars_from_encodes}
use Rattle.std.specs.Prelude.{encode_utf8_all}
use Rattle.std.specs.Str.{chars}
use Rattle.fx_primitives.specs.Texts.{text_or_quota}
use Rattle.fx_primitives.proofs.TextLemmas.{encodes_more}
use Rattle.fx_primitives.proofs.characters.text_of.Goals as goal

pub loop-character-preserved : goal.loop-character-preserved
loop-character-preserved c =
    let more = encodes_more c.args.characters.now c.loop-character.character-index c.character-item.result (omega arith) c.character-item.is in
    let bytes = c.in_ok-push.ensures.bytes in
    cc

pub returns : goal.returns
returns c =
    let cs = c.args.characters.now in
    let spelt = sym (c.as_str.ensures.value ∙ c.loop-character.invariant ∙ ap encode_utf8_all (take_all c.loop-character.character-index cs (omega arith))) in
    let same : chars c.as_str.result.now ≡ cs = sym (chars_from_encodes cs c.as_str.result.now c.as_str.utf8 spelt) in
    subst (λ (xs : List ℕ). IfOk c.words_of.result (λ r. r ≡ text_or_quota xs)) same c.words_of.ensures
