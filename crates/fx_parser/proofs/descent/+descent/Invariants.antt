use Rattle.std.proofs.Common.{◌≡◌, ℕ, ◌+◌, ◌*◌, ◌<◌, ◌≤◌, [], ◌∷◌, ◌-◌, length}
use Rattle.fx_grammar.specs.declared.line.Join.TheVariants as join
use Rattle.fx_grammar.specs.declared.line.Left.TheVariants as left
use Rattle.fx_grammar.specs.declared.line.Line.{Line}
use Rattle.fx_grammar.specs.declared.line.Line.TheVariants.{Chain, Several, By, Alias, Prefix, Power, Percent, Access, Atom}
use Rattle.fx_grammar.specs.declared.line.Separator.TheVariants.{Between}
use Rattle.fx_grammar.specs.Grammar.{first_byte, part_of, operand_line}
use Rattle.fx_grammar.specs.Reading.{line_at, loop_from, left_turn, parts_turn, parts_with, fields_turn, strands_turn, field_with, ◌>>=◌}
use Rattle.fx_grammar.proofs.Turns.{Comes}
use Rattle.fx_parser.proofs.descent.+descent.Given as goal

abbrev line_rank : Line → ℕ
line_rank Atom = 3
line_rank Access = 5
line_rank Percent = 8
line_rank Power = 11
line_rank Prefix = 14
line_rank Alias = 17
line_rank (By left.Prod) = 20
line_rank (By left.Sum) = 23
line_rank (Several join.Cat) = 27
line_rank (By left.Comp) = 31
line_rank (By left.Member) = 35
line_rank (Several join.And) = 39
line_rank (Several join.Or) = 43
line_rank (Several join.Chain) = 47
line_rank Chain = 51

abbrev pub decreases-line : goal.decreases-line
decreases-line l = l.limit * 60 + line_rank l.line

abbrev pub decreases-chain : goal.decreases-chain
decreases-chain l = l.limit * 60 + 50

abbrev pub decreases-several : goal.decreases-several
decreases-several l = l.limit * 60 + line_rank (part_of (Between l.join)) + 2

abbrev pub decreases-parts : goal.decreases-parts
decreases-parts l = l.limit * 60 + line_rank (part_of l.separator) + 1

abbrev pub decreases-by : goal.decreases-by
decreases-by l = l.limit * 60 + line_rank (operand_line l.left) + 1

abbrev pub decreases-alias : goal.decreases-alias
decreases-alias l = l.limit * 60 + 16

abbrev pub decreases-prefix : goal.decreases-prefix
decreases-prefix l = l.limit * 60 + 13

abbrev pub decreases-power : goal.decreases-power
decreases-power l = l.limit * 60 + 10

abbrev pub decreases-percent : goal.decreases-percent
decreases-percent l = l.limit * 60 + 7

abbrev pub decreases-access : goal.decreases-access
decreases-access l = l.limit * 60 + 4

abbrev pub decreases-atom : goal.decreases-atom
decreases-atom l = l.limit * 60 + 2

abbrev pub decreases-atom_of : goal.decreases-atom_of
decreases-atom_of l = l.limit * 60 + 1

abbrev pub decreases-some_fields : goal.decreases-some_fields
decreases-some_fields l = l.limit * 60 + 54

abbrev pub decreases-strand_of : goal.decreases-strand_of
decreases-strand_of l = l.limit * 60 + 53

abbrev pub decreases-call : goal.decreases-call
decreases-call l = l.limit * 60

abbrev pub decreases-bracket : goal.decreases-bracket
decreases-bracket l = l.limit * 60

abbrev pub decreases-args : goal.decreases-args
decreases-args l = l.limit * 60 + 53

abbrev pub decreases-fields : goal.decreases-fields
decreases-fields l = l.limit * 60 + 55

abbrev pub decreases-field : goal.decreases-field
decreases-field l = l.limit * 60 + 53

abbrev pub decreases-weave : goal.decreases-weave
decreases-weave l = l.limit * 60

abbrev pub decreases-strand : goal.decreases-strand
decreases-strand l = l.limit * 60 + 54

-- there are enough turns left for the tokens that are left
abbrev pub invariant-parts-loop-others : goal.invariant-parts-loop-others
invariant-parts-loop-others l =
    let read = line_at l.limit l.inner in
    record {
      comes : Comes (parts_turn l.separator read) (parts_with l.separator (line_at l.limit (part_of l.separator)) l.tokens) (l.found, l.deepest, l.rest);
      shallow : l.deepest ≤ l.limit;
      shorter : length l.rest < length l.tokens;
    }

abbrev pub decreases-parts-loop-others : goal.decreases-parts-loop-others
decreases-parts-loop-others l = length l.rest

abbrev pub invariant-by-loop-op : goal.invariant-by-loop-op
invariant-by-loop-op l =
    record {
      comes : Comes (left_turn l.limit l.left l.at (line_at l.limit l.operand)) (line_at l.limit (By l.left) l.tokens) (l.tree, l.deepest, l.rest);
      shallow : l.deepest ≤ l.limit;
      shorter : length l.rest < length l.tokens;
    }

abbrev pub decreases-by-loop-op : goal.decreases-by-loop-op
decreases-by-loop-op l = length l.rest

abbrev pub invariant-some_fields-loop-others : goal.invariant-some_fields-loop-others
invariant-some_fields-loop-others l =
    let read = line_at l.limit (Several join.Or) in
    record {
      comes : Comes (fields_turn read) (field_with read l.tokens >>= λ u. loop_from (fields_turn read) (u.0 ∷ [], u.1, u.2)) (l.found, l.deepest, l.rest);
      shallow : l.deepest ≤ l.limit;
      shorter : length l.rest < length l.tokens;
    }

abbrev pub decreases-some_fields-loop-others : goal.decreases-some_fields-loop-others
decreases-some_fields-loop-others l = length l.rest

abbrev pub invariant-weave-loop-found : goal.invariant-weave-loop-found
invariant-weave-loop-found l =
    let read = line_at (l.limit - 1) Chain in
    record {
      comes : Comes (strands_turn read) (loop_from (strands_turn read) ([], 0, l.tokens)) (l.found, l.deepest, l.rest);
      shallow : l.deepest ≤ l.limit;
      shorter : length l.rest ≤ length l.tokens;
    }

abbrev pub decreases-weave-loop-found : goal.decreases-weave-loop-found
decreases-weave-loop-found l = length l.rest
