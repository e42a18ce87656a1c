use Rattle.std.proofs.Common.{◌≡◌, ◌++◌, ◌∷◌, string_bytes, encode_utf8_all, flat_map}
use Rattle.view_text.specs.PlainText.{double_quote_doubled}
use Rattle.view_text.proofs.plain_form.write_quoted.Given as goal

abbrev pub invariant-loop-c : goal.invariant-loop-c
invariant-loop-c l = string_bytes l.out ≡ string_bytes l.fn.out ++ 34 ∷ encode_utf8_all (flat_map double_quote_doubled l.yielded)
