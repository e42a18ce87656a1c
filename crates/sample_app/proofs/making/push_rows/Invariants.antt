use Rattle.std.proofs.Common.{◌≡◌, ◌++◌, string_bytes}
use Rattle.sample_app.specs.Sample.{more_rows as more_rows_of}
use Rattle.sample_app.proofs.making.push_rows.Given as goal

abbrev pub invariant-loop-before : goal.invariant-loop-before
invariant-loop-before l = string_bytes l.list ≡ string_bytes l.fn.list ++ more_rows_of l.n l.from l.before
