use Rattle.std.proofs.Common.{◌≡◌, ◌∙◌, ◌++◌, arith, codes, rules}
use Rattle.std.proofs.lemmas.Fmt.{IsAscii-decimal}
use Rattle.std.proofs.lemmas.Result.{IfOk-weaker}
use Rattle.std.proofs.lemmas.Str.{chars-IsAscii, IsAscii-append}
use Rattle.std.specs.Fmt.{decimal}
use Rattle.std.specs.Str.{IsAscii}
use Rattle.app_names.specs.NameRules.{word_with_number}
use Rattle.app_names.proofs.broken.word_with_count.Goals as goal

pub returns : goal.returns
returns c =
    let x = c.args.word.now in
    let n = c.args.number in
    let digits : IsAscii (decimal n) = IsAscii-decimal n (omega arith) in
    let gap : IsAscii (codes " ") = search rules in
    let ascii : IsAscii (word_with_number x n) = IsAscii-append x (codes " " ++ decimal n) c.requires (IsAscii-append (codes " ") (decimal n) gap digits) in
    let text : c.as_str.result.now ≡ word_with_number x n = search rules in
    IfOk-weaker c.of.result _ _ (λ w e. e ∙ rw text (chars-IsAscii (word_with_number x n) ascii)) c.of.ensures
