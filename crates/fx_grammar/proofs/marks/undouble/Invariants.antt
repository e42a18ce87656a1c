use Rattle.std.proofs.Common.{◌≡◌, ◌++◌, length}
use Rattle.std.specs.Prelude.{option_map}
use Rattle.fx_grammar.specs.Undoubling.{undoubled, test_of}
use Rattle.fx_grammar.proofs.marks.undouble.Given as goal

abbrev pub invariant-loop-next : goal.invariant-loop-next
invariant-loop-next l = undoubled (test_of l.marks) l.chars ≡ option_map (λ cs. l.out.items ++ cs) (undoubled (test_of l.marks) l.rest)

abbrev pub decreases-loop-next : goal.decreases-loop-next
decreases-loop-next l = length l.rest
