use Rattle.std.proofs.Common.{◌≡◌, ◌++◌, drop}
use Rattle.fx_lexer.specs.Spelling.{doubled}
use Rattle.fx_parser.specs.Doubling.{doubles}
use Rattle.fx_parser.proofs.writer.push_doubled.Given as goal

abbrev pub invariant-loop-c : goal.invariant-loop-c
invariant-loop-c l = l.out ++ doubled (doubles l.doubling) (drop l.c-index l.cs) ≡ l.initial.out ++ doubled (doubles l.doubling) l.cs
