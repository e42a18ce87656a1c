use Rattle.std.proofs.Common.{◌≡◌, ◌+◌, length, reverse}
use Rattle.std.specs.Str.{chars}
use denote.Shadow.{shadow}
use denote.Text.{Utf8}
use Rattle.fx_lexer.proofs.Readings.{SoFar}
use Rattle.fx_lexer.proofs.lexer.read_tokens.Given as goal

abbrev pub invariant-loop-rest : goal.invariant-loop-rest
invariant-loop-rest l = record {
  text : shadow (Utf8 l.text);
  so_far : SoFar l.cs l.out.items (reverse l.around.items) l.at l.rest;
  same : l.rest ≡ chars l.text;
  place : l.at + length l.text ≡ length l.source;
}

abbrev pub decreases-loop-rest : goal.decreases-loop-rest
decreases-loop-rest l = length l.rest
