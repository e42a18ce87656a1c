use Rattle.std.proofs.Common.{◌≡◌, ◌++◌, drop}
use Rattle.fx_udf.specs.Calling.{calls_of}
use Rattle.fx_udf.proofs.calls.note.Given as goal

-- the calls so far, with those that are left, are all
abbrev pub invariant-loop-function : goal.invariant-loop-function
invariant-loop-function l = l.calls.items ++ calls_of l.caller (drop l.function-index l.called) ≡ l.fn.calls.items ++ calls_of l.caller l.called
