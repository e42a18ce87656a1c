-- What the descent answers.
use Rattle.std.specs.Prelude.{◌≡◌, ℕ, List, [], ◌∷◌, Option, Some, None, Result, Ok, Err}
use Rattle.std.specs.Prelude.{option_map}
use Rattle.std.specs.Borrow.{Bor}
use Rattle.fx_core.specs.declared.expr.FieldName.{FieldName}
use Rattle.fx_core.specs.declared.expr.Op.{Op}
use Rattle.fx_core.specs.Tree.{Tree, NamedTree, Head}
use Rattle.fx_core.specs.Tree as tree
use Rattle.fx_parser.specs.declared.front.Sign.{Sign}
use Rattle.fx_parser.specs.declared.front.Sign.TheVariants.{Minus, Not}
use Rattle.fx_grammar.specs.declared.item.Item.{Item}
use Rattle.fx_grammar.specs.declared.line.Mark.TheVariants as mark
use Rattle.fx_grammar.specs.Reading.{◌>>=◌, Parsed, Reader, after_mark, field_with, fields_turn}
use Rattle.fx_grammar.specs.Reading.{label, loop_from}
use Rattle.fx_grammar.specs.Formulas.{IsDeeper}
use Rattle.fx_parser.specs.declared.descent_end.End.{End}
use Rattle.fx_parser.specs.declared.descent_end.End.TheVariants.{Refused, Memory}

-- the answer, seen so, is the reading, unless memory ran out
abbrev pub ParserAnswers : {X Y : Type 0} → (X → Y) → Result X End → Option Y → Type 0
ParserAnswers view (Ok x) read = read ≡ Some (view x)
ParserAnswers view (Err Refused) read = read ≡ None
ParserAnswers view (Err Memory) read = Unit {0}

-- something with its depth, and the tokens after it
abbrev pub parsed_view : {A : Type 0} → A × ℕ × Bor (List Item) → Parsed A
parsed_view x = (x.0, x.1, x.2.now)

-- the tokens after what was sought
abbrev pub rest_of : Option (Bor (List Item)) → Option (List Item)
rest_of = option_map (λ x. x.now)

-- the name that was sought, and the tokens after it
abbrev pub name_found : Option (Bor (List ℕ) × Bor (List Item)) → Option (List ℕ × List Item)
name_found = option_map (λ x. (x.0.now, x.1.now))

-- the name of a field that was sought at the front of these tokens, and the tokens after its colon
abbrev pub label_found : List Item → Option (Bor (List ℕ) × Bor (List Item))
    → Option (FieldName × List Item)
label_found ts = option_map (λ x. (label x.0.now ts, x.1.now))

-- the node that a sign makes
abbrev pub sign_head : Sign → Head
sign_head Minus = tree.neg
sign_head Not = tree.opposite

-- the sign that was sought, as the node that it makes, and the tokens after it
abbrev pub sign_found : Option (Sign × Bor (List Item)) → Option (Head × List Item)
sign_found = option_map (λ x. (sign_head x.0, x.1.now))

-- a piece or an island, where there was one
abbrev pub strand_seen : Option (Tree × ℕ × Bor (List Item)) → Option (Parsed Tree)
strand_seen = option_map parsed_view

-- the first token, and those after it
abbrev pub first_token : List Item → Option (Item × List Item)
first_token [] = None
first_token (x ∷ us) = Some (x, us)

abbrev pub first_seen : Option (Bor Item × Bor (List Item)) → Option (Item × List Item)
first_seen = option_map (λ x. (x.0.now, x.1.now))

-- one or more fields, with commas between them
abbrev pub fields_from : Reader → List Item → Option (Parsed (List NamedTree))
fields_from read ts = field_with read ts >>= λ u. loop_from (fields_turn read) (u.0 ∷ [], u.1, u.2)

-- the tokens of a formula after a first `=`, where there is one
abbrev pub body_by : List Item → Option (List Item) → List Item
body_by ts None = ts
body_by ts (Some us) = us

abbrev pub body : List Item → List Item
body ts = body_by ts (after_mark mark.Equal ts)

-- why these tokens have no tree: each is deeper than 64
abbrev pub IsTooDeep : List Item → End → Type 0
IsTooDeep ts Refused = IsDeeper 64 ts
IsTooDeep ts Memory = Unit {0}
