use Rattle.std.proofs.Common.{◌≡◌, ◌+◌, ◌++◌, drop}
use Rattle.std.specs.List.{filter}
use Rattle.app_texts.specs.Files.{texts_of_controls, is_written}
use Rattle.app_texts.proofs.file_texts.put_controls.Given as goal

abbrev pub invariant-loop-control : goal.invariant-loop-control
invariant-loop-control l =
    (l.number ≡ l.first + l.control-index)
    × (l.texts.items ++ filter is_written (texts_of_controls l.number (drop l.control-index l.controls)) ≡ l.fn.texts.items ++ filter is_written (texts_of_controls l.first l.controls))
