use Rattle.std.proofs.Common.{◌++◌, ◌∷◌, [], ap, sym, ◌∙◌, string_bytes, append-nil}
use Rattle.std.specs.Char.{encode_utf8, IsScalar}
use Rattle.std.proofs.lemmas.Str.{IsUtf8-string_bytes, chars_past_char, IsUtf8-encode, chars-nil}
use Rattle.fx_parser.proofs.Writing.{appended}
use Rattle.fx_parser.proofs.writer.Writer.push_char.Goals as goal

pub returns : goal.returns
returns c =
    let s : IsScalar c.args.c = c.ranges.c.0 in
    let one = chars_past_char (encode_utf8 c.args.c) [] c.args.c (IsUtf8-encode c.args.c s) (sym (append-nil (encode_utf8 c.args.c))) ∙ ap (λ x. c.args.c ∷ x) chars-nil in
    appended (string_bytes c.self.inside.text) _ (encode_utf8 c.args.c) (IsUtf8-string_bytes c.self.inside.text) c.in_ok-push.ensures.bytes ∙ (λ i. c.self.view_is i ++ one i)
