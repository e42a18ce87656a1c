use Rattle.std.proofs.Common.{◌≡◌, ap, sym, ◌∙◌, ◌++◌, arith, codes, rules}
use Rattle.std.proofs.lemmas.Fmt.{IsAscii-decimal}
use Rattle.std.proofs.lemmas.Result.{IfOk-weaker}
use Rattle.std.proofs.lemmas.Str.{chars_from_encodes, encodes-append, encodes-IsAscii, IsAscii-append}
use Rattle.std.specs.Fmt.{decimal}
use Rattle.std.specs.Str.{IsAscii}
use Rattle.std.specs.Prelude.{encode_utf8_all}
use Rattle.fx_typing.specs.Details.{word_with_number}
use Rattle.fx_diagnostics.proofs.texts.name_with_count.Goals as goal

pub returns : goal.returns
returns c =
    let x = c.args.name.now in
    let n = c.args.number in
    let digits : IsAscii (decimal n) = IsAscii-decimal n (omega arith) in
    let gap : IsAscii (codes " ") = search rules in
    let spelt : encode_utf8_all (word_with_number x n) ≡ encode_utf8_all x ++ (codes " " ++ decimal n) =
    encodes-append x (codes " " ++ decimal n)
    ∙ ap (λ bs. encode_utf8_all x ++ bs) (encodes-IsAscii (codes " " ++ decimal n) (IsAscii-append (codes " ") (decimal n) gap digits)) in
    let text : c.as_str-2.result.now ≡ encode_utf8_all x ++ (codes " " ++ decimal n) =
    c.as_str-2.ensures.value ∙ c.in_ok-text.ensures ∙ ap (λ bs. bs ++ (codes " " ++ decimal n)) c.as_str.ensures.bytes in
    IfOk-weaker c.of.result _ _ (λ w e. e ∙ sym (chars_from_encodes (word_with_number x n) c.as_str-2.result.now c.as_str-2.utf8 (spelt ∙ sym text))) c.of.ensures
