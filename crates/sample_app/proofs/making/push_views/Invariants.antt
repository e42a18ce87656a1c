use Rattle.std.proofs.Common.{◌≡◌, ◌++◌, map, flat_map}
use Rattle.std.specs.List.{range_with_len}
use Rattle.app_wire.specs.Framing.{asked}
use Rattle.sample_app.specs.Sample.{view_request as views_of}
use Rattle.sample_app.proofs.making.push_views.Given as goal

abbrev pub invariant-loop-before : goal.invariant-loop-before
invariant-loop-before l = map asked l.all.items ≡ map asked l.fn.all.items ++ map views_of (range_with_len 1 l.before)
