use Rattle.std.proofs.Common.{◌≡◌, ◌++◌, drop, map}
use Rattle.app_texts.specs.Files.{control_of}
use Rattle.app_texts.proofs.frames.put_controls.Given as goal

abbrev pub invariant-loop-shape : goal.invariant-loop-shape
invariant-loop-shape l = l.controls ++ map (control_of l.screen l.first) (drop l.shape-index l.shapes) ≡ l.fn.controls ++ map (control_of l.screen l.first) l.shapes
