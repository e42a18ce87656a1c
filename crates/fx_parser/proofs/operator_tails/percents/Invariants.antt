use Rattle.std.proofs.Common.{◌≡◌, ◌≤◌, ◌<◌, ℕ, length}
use Rattle.fx_grammar.specs.Reading.{loop_from, tail_turn, percent_at}
use Rattle.fx_grammar.proofs.Turns.{Comes}
use Rattle.fx_parser.proofs.operator_tails.percents.Given as goal

-- there are enough turns left for the tokens that are left
abbrev pub invariant-loop-others : goal.invariant-loop-others
invariant-loop-others l =
    record {
      comes : Comes (tail_turn l.limit l.at percent_at) (loop_from (tail_turn l.limit l.at percent_at) (l.fn.part, l.depth, l.tokens)) (l.tree, l.deepest, l.rest);
      shallow : l.deepest ≤ l.limit;
      shorter : length l.rest ≤ length l.tokens;
    }

abbrev pub decreases-loop-others : goal.decreases-loop-others
decreases-loop-others l = length l.rest
