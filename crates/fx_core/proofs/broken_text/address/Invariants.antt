use Rattle.std.proofs.Common.{◌≡◌, ◌∷◌, string_bytes, encode_utf8_all, flat_map}
use Rattle.fx_core.specs.BrokenText.{single_quote_doubled}
use Rattle.fx_core.proofs.broken_text.address.Given as goal

abbrev pub invariant-loop-c : goal.invariant-loop-c
invariant-loop-c l = string_bytes l.text ≡ 39 ∷ encode_utf8_all (flat_map single_quote_doubled l.yielded)
