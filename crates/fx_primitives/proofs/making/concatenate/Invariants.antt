use Rattle.std.proofs.Common.{◌≡◌, take, string_bytes}
use Rattle.std.specs.Prelude.{encode_utf8_all}
use Rattle.fx_primitives.specs.Texts.{joined}
use Rattle.fx_primitives.proofs.making.concatenate.Given as goal

abbrev pub invariant-loop-text : goal.invariant-loop-text
invariant-loop-text l = string_bytes l.made ≡ encode_utf8_all (joined (take l.text-index l.texts))
