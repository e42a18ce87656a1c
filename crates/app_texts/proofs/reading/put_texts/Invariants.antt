use Rattle.std.proofs.Common.{All}
use Rattle.app_texts.specs.Steps.{IsPutBehind, IsReadable}
use Rattle.app_texts.proofs.ReadSteps.{AreReadOnward}
use Rattle.app_texts.proofs.reading.put_texts.Given as goal

abbrev pub invariant-loop-text : goal.invariant-loop-text
invariant-loop-text l =
    All (IsReadable l.frame) l.text-iterator.rest.items
    × IsPutBehind (AreReadOnward l.frame l.fn.texts.items l.text-iterator.rest.items) l.fn.cells.items l.cells.items l.fn.breaks.items l.breaks.items
