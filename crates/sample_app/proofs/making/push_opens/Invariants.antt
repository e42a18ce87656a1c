use Rattle.std.proofs.Common.{◌≡◌, ◌++◌, map, flat_map}
use Rattle.std.specs.List.{range_with_len}
use Rattle.app_wire.specs.Framing.{asked}
use Rattle.sample_app.specs.Sample.{open_request as opens_of}
use Rattle.sample_app.proofs.making.push_opens.Given as goal

abbrev pub invariant-loop-before : goal.invariant-loop-before
invariant-loop-before l = map asked l.all.items ≡ map asked l.fn.all.items ++ map opens_of (range_with_len 1 l.before)
