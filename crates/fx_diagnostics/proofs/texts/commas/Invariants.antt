use Rattle.std.proofs.Common.{◌≡◌, take, string_bytes}
use Rattle.std.specs.Prelude.{encode_utf8_all}
use Rattle.fx_typing.specs.Details.{comma_separated}
use Rattle.fx_diagnostics.proofs.texts.commas.Given as goal

abbrev pub invariant-loop-place : goal.invariant-loop-place
invariant-loop-place l = string_bytes l.all ≡ encode_utf8_all (comma_separated (take l.place l.texts))
