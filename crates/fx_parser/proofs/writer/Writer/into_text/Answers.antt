use Rattle.std.proofs.Common.{ap, ◌∙◌, encode_utf8_all, string_bytes}
use Rattle.std.proofs.lemmas.Str.{IsUtf8-string_bytes}
use Rattle.fx_types.proofs.Texts.{encodes_chars}
use Rattle.fx_parser.proofs.writer.Writer.into_text.Goals as goal

pub returns-clause-bytes : goal.returns-clause-bytes
returns-clause-bytes c = encodes_chars (string_bytes c.self.inside.text) (IsUtf8-string_bytes c.self.inside.text) ∙ ap encode_utf8_all c.self.view_is
