-- The text of a tree, in characters.
use Rattle.std.specs.Prelude.{ℕ, Bool, true, false, not, List, [], ◌∷◌, ◌++◌, Option, Some, None}
use Rattle.std.specs.Prelude.{nat_le, ◌&&◌, if◌then◌else◌}
use Rattle.fx_number.specs.Spelling.{text_of}
use Rattle.fx_core.specs.declared.expr.Op.{Op}
use Rattle.fx_core.specs.declared.expr.Op.TheVariants as op
use Rattle.fx_core.specs.Tree.{Tree, node, Head, Forest, none, more}
use Rattle.fx_core.specs.Tree as tree
use Rattle.fx_lexer.specs.declared.token.Symbol.TheVariants as symbol
use Rattle.fx_lexer.specs.declared.token.Word.{Word}
use Rattle.fx_lexer.specs.declared.token.Word.TheVariants as word
use Rattle.fx_lexer.specs.declared.element.Class.{Class}
use Rattle.fx_lexer.specs.declared.element.Class.TheVariants.{White, Digit, Letter, Other}
use Rattle.fx_lexer.specs.Spelling.{class_at, in_name, is_mark, doubled, begins_with, word_spelling}
use Rattle.fx_lexer.specs.Spelling.{symbol_spelling}
use Rattle.fx_lexer.specs.Scan.{word_at}
use Rattle.fx_grammar.specs.declared.line.Join.TheVariants as join
use Rattle.fx_grammar.specs.declared.line.Left.TheVariants as left
use Rattle.fx_grammar.specs.declared.line.Line.{Line}
use Rattle.fx_grammar.specs.declared.line.Line.TheVariants.{Chain, Several, By, Alias, Prefix}
use Rattle.fx_grammar.specs.declared.line.Line.TheVariants.{Power, Percent, Access, Atom}
use Rattle.fx_grammar.specs.Means.{between_quotes}

-- how loosely the formulas of a line hold together
abbrev pub looseness : Line → ℕ
looseness Atom = 0
looseness Access = 1
looseness Percent = 2
looseness Power = 3
looseness Prefix = 4
looseness Alias = 5
looseness (By left.Prod) = 6
looseness (By left.Sum) = 7
looseness (Several join.Cat) = 8
looseness (By left.Comp) = 9
looseness (By left.Member) = 10
looseness (Several join.And) = 11
looseness (Several join.Or) = 12
looseness (Several join.Chain) = 13
looseness Chain = 14

-- the line of an operator, and those of its operands
abbrev pub line_of_op : Op → Line
line_of_op op.Add = By left.Sum
line_of_op op.Sub = By left.Sum
line_of_op op.Mul = By left.Prod
line_of_op op.Div = By left.Prod
line_of_op op.Pow = Power
line_of_op op.Eq = By left.Comp
line_of_op op.Ne = By left.Comp
line_of_op op.Lt = By left.Comp
line_of_op op.Le = By left.Comp
line_of_op op.Gt = By left.Comp
line_of_op op.Ge = By left.Comp
line_of_op op.In = By left.Member
line_of_op op.ExactIn = By left.Member

abbrev pub left_line : Op → Line
left_line op.Pow = Percent
left_line o = line_of_op o

abbrev pub right_line : Op → Line
right_line op.Add = By left.Prod
right_line op.Sub = By left.Prod
right_line op.Mul = Alias
right_line op.Div = Alias
right_line op.Pow = Prefix
right_line op.Eq = Several join.Cat
right_line op.Ne = Several join.Cat
right_line op.Lt = Several join.Cat
right_line op.Le = Several join.Cat
right_line op.Gt = Several join.Cat
right_line op.Ge = Several join.Cat
right_line op.In = By left.Comp
right_line op.ExactIn = By left.Comp

abbrev pub operator_spelling : Op → List ℕ
operator_spelling op.Add = symbol_spelling symbol.Plus
operator_spelling op.Sub = symbol_spelling symbol.Minus
operator_spelling op.Mul = symbol_spelling symbol.Star
operator_spelling op.Div = symbol_spelling symbol.Slash
operator_spelling op.Pow = symbol_spelling symbol.Caret
operator_spelling op.Eq = symbol_spelling symbol.Equal
operator_spelling op.Ne = symbol_spelling symbol.NotEqual
operator_spelling op.Lt = symbol_spelling symbol.Less
operator_spelling op.Le = symbol_spelling symbol.LessEqual
operator_spelling op.Gt = symbol_spelling symbol.Greater
operator_spelling op.Ge = symbol_spelling symbol.GreaterEqual
operator_spelling op.In = word_spelling word.In
operator_spelling op.ExactIn = word_spelling word.ExactIn

-- with one space on both sides
abbrev pub spaced : List ℕ → List ℕ
spaced cs = 32 ∷ (cs ++ 32 ∷ [])

-- whether a character of this class begins a plain name
abbrev pub begins_name : Class → Bool
begins_name White = false
begins_name Digit = false
begins_name Letter = true
begins_name Other = false

abbrev pub all_in_name : List ℕ → Bool
all_in_name [] = true
all_in_name (c ∷ cs) = in_name c && all_in_name cs

abbrev pub is_some_word : Option Word → Bool
is_some_word None = false
is_some_word (Some w) = true

-- A plain name: a letter, then letters, digits and `_`, and none of the words.
abbrev pub is_plain_name : List ℕ → Bool
is_plain_name [] = false
is_plain_name (c ∷ cs) = begins_name (class_at c)
    && (all_in_name cs && not (is_some_word (word_at (c ∷ cs))))

-- a name, between quotes where it is not plain
abbrev pub name_text : List ℕ → List ℕ
name_text cs = if is_plain_name cs then cs else between_quotes 39 cs

-- two parts or more
abbrev pub is_several : Forest → Bool
is_several (more t (more u us)) = true
is_several ts = false

-- the tightest line that has the tree without brackets around it
abbrev pub line_of : Tree → Line
line_of (node at (tree.dot cs) ts) = Access
line_of (node at tree.percent ts) = Percent
line_of (node at tree.neg ts) = Prefix
line_of (node at tree.opposite ts) = Prefix
line_of (node at (tree.alias cs) ts) = Alias
line_of (node at (tree.pair o) ts) = line_of_op o
line_of (node at tree.joined ts) = Several join.Cat
line_of (node at tree.all ts) = if is_several ts then Several join.And else Atom
line_of (node at tree.any ts) = if is_several ts then Several join.Or else Atom
line_of (node at tree.chain ts) = Several join.Chain
line_of (node at h ts) = Atom

abbrev pub in_brackets : List ℕ → List ℕ
in_brackets cs = symbol_spelling symbol.OpenParen ++ (cs ++ symbol_spelling symbol.CloseParen)

-- the text of a tree where this line stands: in brackets where its own line is looser
abbrev pub printed_within : Line → Tree → List ℕ → List ℕ
printed_within l t cs = if nat_le (looseness (line_of t)) (looseness l) then cs else in_brackets cs

abbrev pub is_text : Tree → Bool
is_text (node at (tree.text cs) ts) = true
is_text t = false

-- The piece as which a part of a weave prints: a text does, where it is not empty and no text
-- stands before it.
abbrev pub printed_piece : Bool → Tree → Option (List ℕ)
printed_piece false (node at (tree.text (c ∷ cs)) ts) = Some (c ∷ cs)
printed_piece after t = None

-- an island, with a space before a text that begins with `{`
abbrev pub island_text : List ℕ → List ℕ
island_text cs = 123 ∷ ((if begins_with 123 cs then 32 ∷ cs else cs) ++ 125 ∷ [])

abbrev pub strand_text : Option (List ℕ) → List ℕ → List ℕ
strand_text None cs = island_text cs
strand_text (Some piece) cs = doubled is_mark piece

-- what stands between parts
abbrev pub and_text : List ℕ
and_text = spaced (symbol_spelling symbol.DoubleAmpersand)

abbrev pub or_text : List ℕ
or_text = spaced (symbol_spelling symbol.DoubleBar)

abbrev pub cat_text : List ℕ
cat_text = spaced (symbol_spelling symbol.Ampersand)

abbrev pub comma_text : List ℕ
comma_text = symbol_spelling symbol.Comma ++ 32 ∷ []

abbrev pub chain_text : List ℕ
chain_text = symbol_spelling symbol.Semicolon ++ 32 ∷ []

-- the name of a field and what stands behind it
abbrev pub label_text : List ℕ → List ℕ
label_text cs = name_text cs ++ (symbol_spelling symbol.Colon ++ 32 ∷ [])

abbrev mutual
  -- the text of a tree; a number of parts that no formula has is left out
  pub shown : Tree → List ℕ
  shown (node at (tree.num z) ts) = text_of z
  shown (node at (tree.text cs) ts) = between_quotes 34 cs
  shown (node at (tree.truth true) ts) = word_spelling word.True
  shown (node at (tree.truth false) ts) = word_spelling word.False
  shown (node at (tree.name cs) ts) = name_text cs
  shown (node at (tree.global cs) ts) = symbol_spelling symbol.OpenBracketAt
      ++ (name_text cs ++ symbol_spelling symbol.CloseBracket)
  shown (node at (tree.dot cs) ts) = shown_part Access ts
      ++ (symbol_spelling symbol.Dot ++ name_text cs)
  shown (node at (tree.call cs) ts) = name_text cs ++ in_brackets (shown_parts comma_text Chain ts)
  shown (node at tree.neg ts) = symbol_spelling symbol.Minus ++ shown_part Prefix ts
  shown (node at tree.opposite ts) = symbol_spelling symbol.Bang ++ shown_part Prefix ts
  shown (node at tree.percent ts) = shown_part Percent ts ++ symbol_spelling symbol.Percent
  shown (node at (tree.pair o) ts) = shown_pair o ts
  shown (node at tree.joined ts) = shown_parts cat_text (By left.Sum) ts
  shown (node at tree.all ts) = if is_several ts then shown_parts and_text (By left.Member) ts else
      word_spelling word.And ++ in_brackets (shown_parts comma_text Chain ts)
  shown (node at tree.any ts) = if is_several ts then shown_parts or_text (Several join.And) ts else
      word_spelling word.Or ++ in_brackets (shown_parts comma_text Chain ts)
  shown (node at tree.chain ts) = shown_parts chain_text (Several join.Or) ts
  shown (node at (tree.alias cs) ts) = shown_part Prefix ts
      ++ (spaced (word_spelling word.As) ++ name_text cs)
  shown (node at (tree.rec ns ps) ts) = symbol_spelling symbol.OpenBrace
      ++ (shown_fields ns ts ++ symbol_spelling symbol.CloseBrace)
  shown (node at tree.list ts) = symbol_spelling symbol.OpenBracket
      ++ (shown_parts comma_text Chain ts ++ symbol_spelling symbol.CloseBracket)
  shown (node at tree.woven ts) = 36 ∷ 34 ∷ (shown_strands false ts ++ 34 ∷ [])

  -- the only part, where this line stands
  pub shown_part : Line → Forest → List ℕ
  shown_part l (more t none) = printed_within l t (shown t)
  shown_part l ts = []

  -- two operands
  pub shown_pair : Op → Forest → List ℕ
  shown_pair o (more t (more u us)) = printed_within (left_line o) t (shown t)
      ++ (spaced (operator_spelling o) ++ printed_within (right_line o) u (shown u))
  shown_pair o ts = []

  -- the parts where this line stands, with a text between each two
  pub shown_parts : List ℕ → Line → Forest → List ℕ
  shown_parts between l none = []
  shown_parts between l (more t ts) = printed_within l t (shown t) ++ shown_further between l ts

  pub shown_further : List ℕ → Line → Forest → List ℕ
  shown_further between l none = []
  shown_further between l (more t ts) = between
      ++ (printed_within l t (shown t) ++ shown_further between l ts)

  -- the fields of a record
  pub shown_fields : List (List ℕ) → Forest → List ℕ
  shown_fields (n ∷ ns) (more t ts) = label_text n
      ++ (printed_within (Several join.Or) t (shown t) ++ shown_further_fields ns ts)
  shown_fields ns ts = []

  pub shown_further_fields : List (List ℕ) → Forest → List ℕ
  shown_further_fields (n ∷ ns) (more t ts) = comma_text
      ++ (label_text n ++ (printed_within (Several join.Or) t (shown t)
      ++ shown_further_fields ns ts))
  shown_further_fields ns ts = []

  -- the parts of a weave: whether a text stands before them
  pub shown_strands : Bool → Forest → List ℕ
  shown_strands after none = []
  shown_strands after (more t ts) = strand_text (printed_piece after t) (shown t)
      ++ shown_strands (is_text t) ts
