-- The formulas of texts: each with its tree, or what is broken of them.
use Rattle.std.specs.Prelude.{◌≡◌, ◌⊎◌, ℕ, List, [], ◌∷◌, ◌++◌, Result, Ok, Err, codes}
use Rattle.std.specs.Prelude.{encode_utf8_all}
use Rattle.std.specs.Str.{chars}
use Rattle.fx_lexer.specs.declared.token.LexErr.{LexErr}
use Rattle.fx_lexer.specs.declared.token.Token.{Token}
use Rattle.fx_lexer.specs.Lexed.{Lexed}
use Rattle.fx_core.specs.Tree.{Tree}
use Rattle.fx_core.specs.declared.broken.Broken.{Broken}
use Rattle.fx_core.specs.declared.rule.Rule.{Rule}
use Rattle.fx_core.specs.declared.rule.Rule.TheVariants as rule
use Rattle.fx_grammar.specs.Formulas.{HasTree}
use Rattle.fx_parser.specs.Details.{bad_token_words, unexpected_words}
use Rattle.fx_parser.specs.Texts.{AreNamedEnd, IsFormulaEnd, IsNamedText}
use Rattle.fx_parser.specs.declared.end.ParseEnd.{ParseEnd}
use Rattle.fx_parser.specs.declared.end.ParseEnd.TheVariants.{Lex, Syntax, TooDeep, Memory}
use Rattle.fx_parser.specs.declared.entries.Named.{Named}
use Rattle.fx_core.specs.declared.app_end.AppEnd.{AppEnd}
use Rattle.fx_core.specs.declared.app_end.AppEnd.TheVariants as all
use Rattle.fx_base.specs.declared.or_memory.OrMemory.{OrMemory}
use Rattle.fx_base.specs.declared.or_memory.OrMemory.TheVariants as end
use Rattle.app_file.specs.declared.file.AppFile.{AppFile}
use Rattle.app_cells.specs.declared.cell.Cell.{Cell}
use Rattle.app_cells.specs.declared.cell.Spot.{Spot}
use Rattle.app_cells.specs.declared.cell.Spot.TheVariants as spot
use Rattle.app_cells.specs.declared.frame.Frame.{Frame}
use Rattle.app_cells.specs.Spots.{IsCell, address}
use Rattle.app_texts.specs.declared.file_texts.Text.{Text}
use Rattle.app_texts.specs.Files.{file_frame, formula_texts}

-- a rule that a text breaks, of which this cell is told, counted from the text's start
abbrev pub in_text : List ℕ → Rule → ℕ → List ℕ → Broken
in_text cell r at detail = record { cell = cell; rule = r; at = at; detail = detail }

-- what is told of a text that has no tree: a bad token, tokens that are none of its kind, or ones
-- that are too deep
abbrev pub IsToldOfText : List ℕ → List ℕ → ParseEnd → Broken → Type 0
IsToldOfText cell source (Lex bad) b = b ≡ in_text cell rule.BadToken bad.at
    (bad_token_words bad.what)
IsToldOfText cell source (Syntax at) b = (ts : List Token) → Lexed (chars source) ts
    → b ≡ in_text cell rule.Syntax at (unexpected_words source at ts)
IsToldOfText cell source (TooDeep at) b = b ≡ in_text cell rule.TooDeep at (codes "deeper than 64")
IsToldOfText cell source Memory b = ⊥

-- this is why a text is none of its kind, and what is told of it
pub record IsUnparsed (Ends : List ℕ → ParseEnd → Type 0) (cell source : List ℕ) (b : Broken)
    : Type 0 where
  pub end : ParseEnd
  pub ends : Ends source end
  pub told : IsToldOfText cell source end b

-- where the first of these tokens begins
abbrev pub first_token_at : List Token → ℕ
first_token_at [] = 0
first_token_at (t ∷ ts) = t.at

-- Where positions of a formula are told from: the start of its text, and for a named formula its
-- first token.
abbrev pub IsStart : Spot → List ℕ → ℕ → Type 0
IsStart (spot.Formula x) source at = (ts : List Token) × Lexed (chars source) ts
    × (at ≡ first_token_at ts)
IsStart s source at = at ≡ 0

-- the formula of a text that stands by itself
pub record IsReadAt (f : Frame) (s : Spot) (text : List ℕ) (c : Cell) : Type 0 where
  pub start : ℕ
  pub starts : IsStart s (encode_utf8_all text) start
  pub tree : Tree
  pub parsed : HasTree 64 (chars (encode_utf8_all text)) tree
  pub cell : IsCell f s start text tree c

-- what is broken of it
abbrev pub IsUnreadAt : Frame → Spot → List ℕ → Broken → Type 0
IsUnreadAt f s text b = IsUnparsed IsFormulaEnd (address f s) (encode_utf8_all text) b

-- Texts in order: these are the formulas of those that are some, and these the breaks of the
-- others.
abbrev pub AreReadAt : Frame → List Text → List Cell → List Broken → Type 0
AreReadAt f [] cs bs = (cs ≡ []) × (bs ≡ [])
AreReadAt f (t ∷ ts) cs bs =
    ((c : Cell) × (more : List Cell) × (cs ≡ c ∷ more) × IsReadAt f t.spot t.text c
    × AreReadAt f ts more bs)
    ⊎ ((b : Broken) × (more : List Broken) × (bs ≡ b ∷ more) × IsUnreadAt f t.spot t.text b
    × AreReadAt f ts cs more)

-- a formula of the text of named formulas
abbrev pub IsNamedCell : Frame → Named → Cell → Type 0
IsNamedCell f n c = IsCell f (spot.Formula n.name) n.at n.text n.expr c

abbrev pub AreNamedCells : Frame → List Named → List Cell → Type 0
AreNamedCells f [] cs = cs ≡ []
AreNamedCells f (n ∷ ns) cs = (c : Cell) × (more : List Cell) × (cs ≡ c ∷ more) × IsNamedCell f n c
    × AreNamedCells f ns more

-- The text of named formulas: these are its formulas, or it is none and this one break is told of
-- it.
abbrev pub AreNamedAt : Frame → List ℕ → List Cell → List Broken → Type 0
AreNamedAt f source cs bs =
    ((ns : List Named) × IsNamedText 64 source ns × AreNamedCells f ns cs × (bs ≡ []))
    ⊎ ((b : Broken) × IsUnparsed AreNamedEnd (codes "App.Formulas") source b × (cs ≡ [])
    × (bs ≡ b ∷ []))

-- THE FORMULAS OF AN APP FILE, and its breaks: the named ones first, and then the others in the
-- order of the app.
pub record AreFormulasOf (a : AppFile) (f : Frame) (cs : List Cell) (bs : List Broken)
    : Type 0 where
  pub named_cells : List Cell
  pub named_breaks : List Broken
  pub named : AreNamedAt f (encode_utf8_all a.formulas) named_cells named_breaks
  pub other_cells : List Cell
  pub other_breaks : List Broken
  pub others : AreReadAt f (formula_texts a) other_cells other_breaks
  pub cells : cs ≡ named_cells ++ other_cells
  pub breaks : bs ≡ named_breaks ++ other_breaks

-- WHAT IS READ OF A FILE: its formulas beside its frame, or the breaks of its texts.
pub data IsReading (a : AppFile) : Result (Frame × List Cell) (List Broken) → Type 0 where
  formulas : (cs : List Cell) → AreFormulasOf a (file_frame a) cs []
      → IsReading a (Ok (file_frame a, cs))
  broken : (cs : List Cell) (b : Broken) (bs : List Broken)
      → AreFormulasOf a (file_frame a) cs (b ∷ bs) → IsReading a (Err (b ∷ bs))

-- an app without tables and screens, and the row limit of one of which nothing else is said
abbrev pub bare_frame : Frame
bare_frame = record { schema = record { tables = [] }; limit = 500; screens = []; controls = [] }

-- the same of a text of named formulas alone
pub data IsNamedReading (source : List ℕ) : Result (Frame × List Cell) (List Broken) → Type 0 where
  named_formulas : (cs : List Cell) → AreNamedAt bare_frame source cs []
      → IsNamedReading source (Ok (bare_frame, cs))
  named_broken : (cs : List Cell) (b : Broken) (bs : List Broken)
      → AreNamedAt bare_frame source cs (b ∷ bs) → IsNamedReading source (Err (b ∷ bs))

-- an end tells of this; of want of memory nothing is said
abbrev pub TellsBreak : (Broken → Type 0) → OrMemory Broken → Type 0
TellsBreak P (end.Refused b) = P b
TellsBreak P end.Memory = Unit {0}

abbrev pub TellsBreaks : (List Broken → Type 0) → AppEnd → Type 0
TellsBreaks P (all.Refused bs) = P bs.items
TellsBreaks P all.Memory = Unit {0}
