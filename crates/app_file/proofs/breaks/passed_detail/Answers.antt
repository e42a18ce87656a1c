use Rattle.std.proofs.Common.{◌≡◌, ◌∙◌, ◌++◌, arith, codes, rules, ap}
use Rattle.std.proofs.lemmas.Fmt.{IsAscii-decimal}
use Rattle.std.proofs.lemmas.Result.{IfOk-weaker}
use Rattle.std.proofs.lemmas.Str.{chars-IsAscii, IsAscii-append}
use Rattle.std.specs.Fmt.{decimal}
use Rattle.std.specs.Str.{IsAscii}
use Rattle.app_file.specs.Files.{limit_name, passed_detail}
use Rattle.app_file.proofs.breaks.passed_detail.Goals as goal

pub returns : goal.returns
returns c =
    let x = c.limit_name-name.result.now in
    let n = c.told_count-told.result in
    let digits : IsAscii (decimal n) = IsAscii-decimal n (omega arith) in
    let gap : IsAscii (codes " ") = search rules in
    let ascii : IsAscii (x ++ (codes " " ++ decimal n)) = IsAscii-append x (codes " " ++ decimal n) c.limit_name-name.ensures.ascii (IsAscii-append (codes " ") (decimal n) gap digits) in
    let text : c.as_str.result.now ≡ x ++ (codes " " ++ decimal n) = search rules in
    let same : x ++ (codes " " ++ decimal n) ≡ passed_detail c.args.limit c.args.count =
    ap (λ t. t ++ (codes " " ++ decimal n)) c.limit_name-name.ensures.name ∙ ap (λ k. limit_name c.args.limit ++ (codes " " ++ decimal k)) c.told_count-told.ensures in
    IfOk-weaker c.of.result _ _ (λ w e. e ∙ rw text (chars-IsAscii (x ++ (codes " " ++ decimal n)) ascii) ∙ same) c.of.ensures
