use Rattle.std.proofs.Common.{◌≡◌, map, take}
use Rattle.std.specs.Prelude.{string_bytes}
use Rattle.app_file.specs.Paths.{step_text}
use Rattle.app_file.proofs.paths.Path.text.Given as goal

abbrev pub invariant-loop-step : goal.invariant-loop-step
invariant-loop-step l = map string_bytes l.texts.items ≡ map step_text (take l.step-index l.step-items)
