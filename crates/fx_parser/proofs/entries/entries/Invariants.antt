use Rattle.std.proofs.Common.{◌≡◌, List, ◌++◌, map, length}
use Rattle.fx_grammar.specs.Formulas.{NamedFormula, AreEntriesOf, AreDeeper}
use Rattle.fx_parser.specs.Texts.{named_of}
use Rattle.fx_parser.specs.Entries.{AreCuts}
use Rattle.fx_parser.proofs.Firsts.{SoFar}
use Rattle.fx_parser.proofs.entries.entries.Given as goal

abbrev pub invariant-loop-rest : goal.invariant-loop-rest
invariant-loop-rest l = record { cuts : AreCuts l.source l.rest; so_far : SoFar l.source l.tokens l.found.items l.rest }

abbrev pub decreases-loop-rest : goal.decreases-loop-rest
decreases-loop-rest l = length l.rest
