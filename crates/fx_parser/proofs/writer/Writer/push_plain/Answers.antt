use Rattle.std.proofs.Common.{◌++◌, ap, ◌∙◌, string_bytes}
use Rattle.std.proofs.lemmas.Str.{IsUtf8-string_bytes}
use Rattle.fx_parser.proofs.Writing.{appended_ascii}
use Rattle.fx_parser.proofs.writer.Writer.push_plain.Goals as goal

pub returns : goal.returns
returns c = appended_ascii (string_bytes c.self.inside.text) _ c.args.text.now (IsUtf8-string_bytes c.self.inside.text) c.requires c.in_ok-push_str.ensures.bytes ∙ ap (λ x. x ++ c.args.text.now) c.self.view_is
