use Rattle.std.proofs.Common.{◌≡◌, string_bytes, flat_map, map, take}
use Rattle.fx_cli.specs.Plain.{value_line}
use Rattle.office.specs.NamedReply.{reply_row}
use Rattle.fx_cli.proofs.view.values_text.Given as goal

abbrev pub invariant-loop-named : goal.invariant-loop-named
invariant-loop-named l = string_bytes l.text ≡ flat_map value_line (map reply_row (take l.named-index l.values))
