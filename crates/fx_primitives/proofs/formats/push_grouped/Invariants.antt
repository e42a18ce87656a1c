use Rattle.std.proofs.Common.{◌≡◌, ◌++◌, drop, string_bytes}
use Rattle.fx_primitives.specs.Formats.{with_commas}
use Rattle.fx_primitives.proofs.formats.push_grouped.Given as goal

abbrev pub invariant-loop-i : goal.invariant-loop-i
invariant-loop-i l = string_bytes l.text ++ with_commas (drop l.i l.digits) ≡ string_bytes l.initial.text ++ with_commas l.digits
