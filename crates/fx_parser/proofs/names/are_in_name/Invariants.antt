use Rattle.std.proofs.Common.{◌≡◌, drop}
use Rattle.fx_parser.specs.Printing.{all_in_name}
use Rattle.fx_parser.proofs.names.are_in_name.Given as goal

abbrev pub invariant-loop-c : goal.invariant-loop-c
invariant-loop-c l = all_in_name (drop l.c-index l.cs) ≡ all_in_name l.cs
