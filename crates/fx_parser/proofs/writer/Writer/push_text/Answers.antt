use Rattle.std.proofs.Common.{◌++◌, ap, ◌∙◌, string_bytes}
use Rattle.std.specs.Str.{chars}
use Rattle.std.proofs.lemmas.Str.{IsUtf8-string_bytes}
use Rattle.fx_parser.proofs.Writing.{appended}
use Rattle.fx_parser.proofs.writer.Writer.push_text.Goals as goal

pub returns : goal.returns
returns c = appended (string_bytes c.self.inside.text) _ c.args.text.now (IsUtf8-string_bytes c.self.inside.text) c.in_ok-push_str.ensures.bytes ∙ ap (λ x. x ++ chars c.args.text.now) c.self.view_is
