use Rattle.app_texts.specs.Steps.{ArePutBehind}
use Rattle.app_texts.proofs.ReadSteps.{AreNamedOnward}
use Rattle.app_texts.proofs.reading.put_named.Given as goal

abbrev pub invariant-loop-named : goal.invariant-loop-named
invariant-loop-named l = ArePutBehind (AreNamedOnward l.frame l.fn.all.items l.named-iterator.rest.items) l.fn.cells.items l.cells.items
