use Rattle.std.proofs.Common.{◌≡◌, ◌++◌, drop, map}
use Rattle.app_texts.specs.Frames.{without_items}
use Rattle.app_texts.proofs.copies.controls_of.Given as goal

abbrev pub invariant-loop-control : goal.invariant-loop-control
invariant-loop-control l = l.copy ++ map without_items (drop l.control-index l.controls) ≡ map without_items l.controls
