use Rattle.std.proofs.Common.{◌≡◌, ◌≤◌, ◌<◌, ℕ, length}
use Rattle.fx_grammar.specs.Reading.{loop_from, tail_turn, field_in_front}
use Rattle.fx_grammar.proofs.Turns.{Comes}
use Rattle.fx_parser.proofs.operator_tails.dots.Given as goal

-- there are enough turns left for the tokens that are left
abbrev pub invariant-loop-name : goal.invariant-loop-name
invariant-loop-name l =
    record {
      comes : Comes (tail_turn l.limit l.at field_in_front) (loop_from (tail_turn l.limit l.at field_in_front) (l.fn.part, l.depth, l.tokens)) (l.tree, l.deepest, l.rest);
      shallow : l.deepest ≤ l.limit;
      shorter : length l.rest ≤ length l.tokens;
    }

abbrev pub decreases-loop-name : goal.decreases-loop-name
decreases-loop-name l = length l.rest
