-- The grammar, line by line, over tokens with what they mean.
use Rattle.std.specs.Prelude.{◌≡◌, ℕ, suc, max, Bool, true, false, List, [], ◌∷◌, ◌++◌, Option}
use Rattle.std.specs.Prelude.{Some, None}
use Rattle.fx_lexer.specs.declared.token.Symbol.TheVariants as symbol
use Rattle.fx_lexer.specs.declared.token.Word.TheVariants as word
use Rattle.fx_core.specs.declared.expr.FieldName.{FieldName}
use Rattle.fx_core.specs.declared.expr.Op.{Op}
use Rattle.fx_core.specs.declared.expr.Op.TheVariants as op
use Rattle.fx_core.specs.Tree.{Tree, NamedTree, node, Head, none, more, forest, tree_field_names}
use Rattle.fx_core.specs.Tree.{places_of, field_trees}
use Rattle.fx_core.specs.Tree as tree
use Rattle.fx_grammar.specs.declared.item.Item.{Item}
use Rattle.fx_grammar.specs.declared.item.Meaning.{Meaning}
use Rattle.fx_grammar.specs.declared.item.Meaning.TheVariants as m
use Rattle.fx_grammar.specs.declared.line.Join.{Join}
use Rattle.fx_grammar.specs.declared.line.Join.TheVariants as join
use Rattle.fx_grammar.specs.declared.line.Separator.{Separator}
use Rattle.fx_grammar.specs.declared.line.Separator.TheVariants.{Between, Comma}
use Rattle.fx_grammar.specs.declared.line.Left.{Left}
use Rattle.fx_grammar.specs.declared.line.Left.TheVariants as left
use Rattle.fx_grammar.specs.declared.line.Line.{Line}
use Rattle.fx_grammar.specs.declared.line.Line.TheVariants.{Chain, Several, By, Alias, Prefix}
use Rattle.fx_grammar.specs.declared.line.Line.TheVariants.{Power, Percent, Access, Atom}

-- where the first of these tokens begins
abbrev pub first_byte : List Item → ℕ
first_byte [] = 0
first_byte (x ∷ us) = x.at

-- a field has this name, at this token
abbrev pub field_name : Item → List ℕ → FieldName
field_name x cs = record { text = cs; at = x.at }

-- which tokens stand between parts
abbrev pub separates : Separator → Meaning → Bool
separates (Between join.Chain) (m.Symbol symbol.Semicolon) = true
separates (Between join.Or) (m.Symbol symbol.DoubleBar) = true
separates (Between join.Or) (m.Word word.Or) = true
separates (Between join.And) (m.Symbol symbol.DoubleAmpersand) = true
separates (Between join.And) (m.Word word.And) = true
separates (Between join.Cat) (m.Symbol symbol.Ampersand) = true
separates Comma (m.Symbol symbol.Comma) = true
separates _ _ = false

-- the line of the parts
abbrev pub part_of : Separator → Line
part_of (Between join.Chain) = Several join.Or
part_of (Between join.Or) = Several join.And
part_of (Between join.And) = By left.Member
part_of (Between join.Cat) = By left.Sum
part_of Comma = Chain

-- the node that two or more parts make
abbrev pub join_head : Join → Head
join_head join.Chain = tree.chain
join_head join.Or = tree.any
join_head join.And = tree.all
join_head join.Cat = tree.joined

-- the operators of a line that groups to the left
abbrev pub operator : Left → Meaning → Option Op
operator left.Member (m.Word word.In) = Some op.In
operator left.Member (m.Word word.ExactIn) = Some op.ExactIn
operator left.Comp (m.Symbol symbol.Equal) = Some op.Eq
operator left.Comp (m.Symbol symbol.NotEqual) = Some op.Ne
operator left.Comp (m.Symbol symbol.Less) = Some op.Lt
operator left.Comp (m.Symbol symbol.LessEqual) = Some op.Le
operator left.Comp (m.Symbol symbol.Greater) = Some op.Gt
operator left.Comp (m.Symbol symbol.GreaterEqual) = Some op.Ge
operator left.Sum (m.Symbol symbol.Plus) = Some op.Add
operator left.Sum (m.Symbol symbol.Minus) = Some op.Sub
operator left.Prod (m.Symbol symbol.Star) = Some op.Mul
operator left.Prod (m.Symbol symbol.Slash) = Some op.Div
operator _ _ = None

-- the line of their operands
abbrev pub operand_line : Left → Line
operand_line left.Member = By left.Comp
operand_line left.Comp = Several join.Cat
operand_line left.Sum = By left.Prod
operand_line left.Prod = Alias

-- what may stand before a prefix
abbrev pub sign : Meaning → Option Head
sign (m.Symbol symbol.Minus) = Some tree.neg
sign (m.Symbol symbol.Bang) = Some tree.opposite
sign (m.Word word.Not) = Some tree.opposite
sign _ = None

-- a token that is an atom by itself
abbrev pub atom_head : Meaning → Option Head
atom_head (m.Number z) = Some (tree.num z)
atom_head (m.Text cs) = Some (tree.text cs)
atom_head (m.Word word.True) = Some (tree.truth true)
atom_head (m.Word word.False) = Some (tree.truth false)
atom_head (m.Name cs) = Some (tree.name cs)
atom_head _ = None

-- what may be called
abbrev pub callee : Meaning → Option Head
callee (m.Name cs) = Some (tree.call cs)
callee (m.Word word.And) = Some tree.all
callee (m.Word word.Or) = Some tree.any
callee _ = None

mutual
  -- In this line, these tokens give a tree of this depth, and these tokens are left. A leaf has
  -- depth 1, and each other node and each pair of brackets one more than its deepest part.
  pub data Parses : Line → ℕ → List Item → Tree → List Item → Type 0 where
    -- chain = or { ";" or } [";"]
    plain : (d : ℕ) (ts : List Item) (t : Tree) (rest : List Item)
        → Parses (Several join.Chain) d ts t rest → Parses Chain d ts t rest
    ended : (d : ℕ) (ts : List Item) (t : Tree) (x : Item) (rest : List Item)
        → Parses (Several join.Chain) d ts t (x ∷ rest) → x.meaning ≡ m.Symbol symbol.Semicolon
        → Parses Chain d ts t rest
    -- or = and { ("||" | "Or") and }, and = member { ("&&" | "And") member }, cat = sum { "&" sum
    -- }, and a chain without a last `;`
    one : (j : Join) (d : ℕ) (ts : List Item) (t : Tree) (rest : List Item)
        → Parses (part_of (Between j)) d ts t rest → Parses (Several j) d ts t rest
    many : (j : Join) (d : ℕ) (ts : List Item) (p q : Tree) (ps : List Tree) (rest : List Item)
        → Parts (Between j) d ts (p ∷ q ∷ ps) rest
        → Parses (Several j) (suc d) ts (node (first_byte ts) (join_head j) (forest (p ∷ q ∷ ps)))
        rest
    -- member = comp { ("in" | "exactin") comp }, comp = cat { ("=" | "<>" | "<" | "<=" | ">" |
    -- ">=") cat }, sum = prod { ("+" | "-") prod }, prod = alias { ("*" | "/") alias }
    first : (l : Left) (d : ℕ) (ts : List Item) (t : Tree) (rest : List Item)
        → Parses (operand_line l) d ts t rest → Parses (By l) d ts t rest
    next : (l : Left) (d e : ℕ) (ts : List Item) (t : Tree) (x : Item) (us : List Item) (o : Op)
        (u : Tree) (rest : List Item)
        → Parses (By l) d ts t (x ∷ us) → operator l x.meaning ≡ Some o
        → Parses (operand_line l) e us u rest
        → Parses (By l) (suc (max d e)) ts (node (first_byte ts) (tree.pair o)
        (more t (more u none))) rest
    -- alias = prefix [ "As" Name ]
    no_alias : (d : ℕ) (ts : List Item) (t : Tree) (rest : List Item) → Parses Prefix d ts t rest
        → Parses Alias d ts t rest
    aliased : (d : ℕ) (ts : List Item) (t : Tree) (x y : Item) (cs : List ℕ) (rest : List Item)
        → Parses Prefix d ts t (x ∷ y ∷ rest) → x.meaning ≡ m.Word word.As → y.meaning ≡ m.Name cs
        → Parses Alias (suc d) ts (node (first_byte ts) (tree.alias cs) (more t none)) rest
    -- prefix = ("-" | "!" | "Not") prefix | power
    no_sign : (d : ℕ) (ts : List Item) (t : Tree) (rest : List Item) → Parses Power d ts t rest
        → Parses Prefix d ts t rest
    signed : (d : ℕ) (x : Item) (h : Head) (us : List Item) (t : Tree) (rest : List Item)
        → sign x.meaning ≡ Some h → Parses Prefix d us t rest
        → Parses Prefix (suc d) (x ∷ us) (node x.at h (more t none)) rest
    -- power = percent [ "^" prefix ]
    base : (d : ℕ) (ts : List Item) (t : Tree) (rest : List Item) → Parses Percent d ts t rest
        → Parses Power d ts t rest
    raised : (d e : ℕ) (ts : List Item) (t : Tree) (x : Item) (us : List Item) (u : Tree)
        (rest : List Item)
        → Parses Percent d ts t (x ∷ us) → x.meaning ≡ m.Symbol symbol.Caret
        → Parses Prefix e us u rest
        → Parses Power (suc (max d e)) ts (node (first_byte ts) (tree.pair op.Pow)
        (more t (more u none))) rest
    -- percent = access { "%" }
    no_percent : (d : ℕ) (ts : List Item) (t : Tree) (rest : List Item) → Parses Access d ts t rest
        → Parses Percent d ts t rest
    percent : (d : ℕ) (ts : List Item) (t : Tree) (x : Item) (rest : List Item)
        → Parses Percent d ts t (x ∷ rest) → x.meaning ≡ m.Symbol symbol.Percent
        → Parses Percent (suc d) ts (node (first_byte ts) tree.percent (more t none)) rest
    -- access = atom { "." Name }
    no_dot : (d : ℕ) (ts : List Item) (t : Tree) (rest : List Item) → Parses Atom d ts t rest
        → Parses Access d ts t rest
    dotted : (d : ℕ) (ts : List Item) (t : Tree) (x y : Item) (cs : List ℕ) (rest : List Item)
        → Parses Access d ts t (x ∷ y ∷ rest) → x.meaning ≡ m.Symbol symbol.Dot
        → y.meaning ≡ m.Name cs
        → Parses Access (suc d) ts (node (first_byte ts) (tree.dot cs) (more t none)) rest
    -- atom = Number | Text | "true" | "false" | Name
    leaf : (x : Item) (h : Head) (rest : List Item) → atom_head x.meaning ≡ Some h
        → Parses Atom 1 (x ∷ rest) (node x.at h none) rest
    -- atom = "[@" Name "]"
    a_global : (x y z : Item) (cs : List ℕ) (rest : List Item)
        → x.meaning ≡ m.Symbol symbol.OpenBracketAt → y.meaning ≡ m.Name cs
        → z.meaning ≡ m.Symbol symbol.CloseBracket
        → Parses Atom 1 (x ∷ y ∷ z ∷ rest) (node x.at (tree.global cs) none) rest
    -- atom = call, call = (Name | "And" | "Or") "(" [ args ] ")"
    a_call : (d : ℕ) (x y : Item) (h : Head) (us : List Item) (ps : List Tree) (z : Item)
        (rest : List Item)
        → callee x.meaning ≡ Some h → y.meaning ≡ m.Symbol symbol.OpenParen
        → Args d us ps (z ∷ rest) → z.meaning ≡ m.Symbol symbol.CloseParen
        → Parses Atom (suc d) (x ∷ y ∷ us) (node x.at h (forest ps)) rest
    -- atom = "(" chain ")"
    brackets : (d : ℕ) (x : Item) (us : List Item) (t : Tree) (y : Item) (rest : List Item)
        → x.meaning ≡ m.Symbol symbol.OpenParen → Parses Chain d us t (y ∷ rest)
        → y.meaning ≡ m.Symbol symbol.CloseParen
        → Parses Atom (suc d) (x ∷ us) t rest
    -- atom = "{" [ field { "," field } ] "}"
    a_record : (d : ℕ) (x : Item) (us : List Item) (fs : List NamedTree) (y : Item)
        (rest : List Item)
        → x.meaning ≡ m.Symbol symbol.OpenBrace → Fields d us fs (y ∷ rest)
        → y.meaning ≡ m.Symbol symbol.CloseBrace
        → Parses Atom (suc d) (x ∷ us) (node x.at (tree.rec (tree_field_names fs) (places_of fs))
        (field_trees fs)) rest
    -- atom = "[" [ args ] "]"
    a_list : (d : ℕ) (x : Item) (us : List Item) (ps : List Tree) (y : Item) (rest : List Item)
        → x.meaning ≡ m.Symbol symbol.OpenBracket → Args d us ps (y ∷ rest)
        → y.meaning ≡ m.Symbol symbol.CloseBracket
        → Parses Atom (suc d) (x ∷ us) (node x.at tree.list (forest ps)) rest
    -- atom = weave, weave = '$"' { Piece | "{" chain "}" } '"'
    a_weave : (d : ℕ) (x : Item) (us : List Item) (ps : List Tree) (y : Item) (rest : List Item)
        → x.meaning ≡ m.Opening → Strands d us ps (y ∷ rest) → y.meaning ≡ m.Closing
        → Parses Atom (suc d) (x ∷ us) (node x.at tree.woven (forest ps)) rest

  -- one or more parts with separators between them, and the depth of the deepest; args = chain {
  -- "," chain }
  pub data Parts : Separator → ℕ → List Item → List Tree → List Item → Type 0 where
    alone : (s : Separator) (d : ℕ) (ts : List Item) (t : Tree) (rest : List Item)
        → Parses (part_of s) d ts t rest → Parts s d ts (t ∷ []) rest
    further : (s : Separator) (d e : ℕ) (ts : List Item) (ps : List Tree) (x : Item)
        (us : List Item) (t : Tree) (rest : List Item)
        → Parts s d ts ps (x ∷ us) → separates s x.meaning ≡ true → Parses (part_of s) e us t rest
        → Parts s (max d e) ts (ps ++ t ∷ []) rest

  -- [ args ]
  pub data Args : ℕ → List Item → List Tree → List Item → Type 0 where
    no_args : (ts : List Item) → Args 0 ts [] ts
    some_args : (d : ℕ) (ts : List Item) (ps : List Tree) (rest : List Item)
        → Parts Comma d ts ps rest → Args d ts ps rest

  -- field = Name ":" or
  pub data Field : ℕ → List Item → NamedTree → List Item → Type 0 where
    field : (d : ℕ) (x y : Item) (cs : List ℕ) (us : List Item) (t : Tree) (rest : List Item)
        → x.meaning ≡ m.Name cs → y.meaning ≡ m.Symbol symbol.Colon
        → Parses (Several join.Or) d us t rest → Field d (x ∷ y ∷ us) (field_name x cs, t) rest

  -- field { "," field }
  pub data SomeFields : ℕ → List Item → List NamedTree → List Item → Type 0 where
    one_field : (d : ℕ) (ts : List Item) (f : NamedTree) (rest : List Item) → Field d ts f rest
        → SomeFields d ts (f ∷ []) rest
    further_field : (d e : ℕ) (ts : List Item) (fs : List NamedTree) (x : Item) (us : List Item)
        (f : NamedTree) (rest : List Item)
        → SomeFields d ts fs (x ∷ us) → x.meaning ≡ m.Symbol symbol.Comma → Field e us f rest
        → SomeFields (max d e) ts (fs ++ f ∷ []) rest

  -- [ field { "," field } ]
  pub data Fields : ℕ → List Item → List NamedTree → List Item → Type 0 where
    no_fields : (ts : List Item) → Fields 0 ts [] ts
    some_fields : (d : ℕ) (ts : List Item) (fs : List NamedTree) (rest : List Item)
        → SomeFields d ts fs rest → Fields d ts fs rest

  -- { Piece | "{" chain "}" }: each piece is a text, each island its formula
  pub data Strands : ℕ → List Item → List Tree → List Item → Type 0 where
    no_strands : (ts : List Item) → Strands 0 ts [] ts
    piece : (d : ℕ) (ts : List Item) (ps : List Tree) (x : Item) (cs : List ℕ) (rest : List Item)
        → Strands d ts ps (x ∷ rest) → x.meaning ≡ m.Piece cs
        → Strands (max d 1) ts (ps ++ node x.at (tree.text cs) none ∷ []) rest
    island : (d e : ℕ) (ts : List Item) (ps : List Tree) (x : Item) (us : List Item) (t : Tree)
        (y : Item) (rest : List Item)
        → Strands d ts ps (x ∷ us) → x.meaning ≡ m.Symbol symbol.OpenBrace
        → Parses Chain e us t (y ∷ rest) → y.meaning ≡ m.Symbol symbol.CloseBrace
        → Strands (max d e) ts (ps ++ t ∷ []) rest

-- formula = ["="] chain
pub data IsFormula : List Item → ℕ → Tree → Type 0 where
  bare : (ts : List Item) (d : ℕ) (t : Tree) → Parses Chain d ts t [] → IsFormula ts d t
  marked : (x : Item) (ts : List Item) (d : ℕ) (t : Tree) → x.meaning ≡ m.Symbol symbol.Equal
      → Parses Chain d ts t [] → IsFormula (x ∷ ts) d t
