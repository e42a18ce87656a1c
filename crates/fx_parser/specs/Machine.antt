-- A reader that takes each token in one step, with a stack of what is open, the innermost first.
use Rattle.std.specs.Prelude.{◌≡◌, ℕ, suc, ◌<◌, ◌≤◌, Bool, true, false, List, [], ◌∷◌, length, take}
use Rattle.std.specs.Prelude.{Option, Some, None, option_and_then}
use Rattle.fx_lexer.specs.declared.token.Symbol.TheVariants as symbol
use Rattle.fx_lexer.specs.declared.token.Word.TheVariants as word
use Rattle.fx_grammar.specs.declared.item.Item.{Item}
use Rattle.fx_grammar.specs.declared.item.Meaning.{Meaning}
use Rattle.fx_grammar.specs.declared.item.Meaning.TheVariants as m
use Rattle.fx_parser.specs.declared.state.Whole.{Whole}
use Rattle.fx_parser.specs.declared.state.Whole.TheVariants as whole
use Rattle.fx_parser.specs.declared.state.Frame.{Frame}
use Rattle.fx_parser.specs.declared.state.Frame.TheVariants as frame
use Rattle.fx_parser.specs.declared.state.State.{State}
use Rattle.fx_parser.specs.declared.state.State.TheVariants as state
use Rattle.fx_parser.specs.declared.state.Begin.{Begin}
use Rattle.fx_parser.specs.declared.state.Begin.TheVariants as begin
use Rattle.fx_parser.specs.declared.state.Follow.{Follow}
use Rattle.fx_parser.specs.declared.state.Follow.TheVariants as follow
use Rattle.fx_parser.specs.declared.state.Move.{Move}
use Rattle.fx_parser.specs.declared.state.Move.TheVariants.{Stay, Push, Pop, Stop}
use Rattle.fx_parser.specs.declared.recognize.Verdict.{Verdict}
use Rattle.fx_parser.specs.declared.recognize.Verdict.TheVariants.{HasTree, StopsAt}

-- what a token is where an operand begins
abbrev pub begin_of : Meaning → Begin
begin_of (m.Number z) = begin.Leaf
begin_of (m.Text cs) = begin.Leaf
begin_of (m.Word word.True) = begin.Leaf
begin_of (m.Word word.False) = begin.Leaf
begin_of (m.Name cs) = begin.Name
begin_of (m.Word word.And) = begin.Callee
begin_of (m.Word word.Or) = begin.Callee
begin_of (m.Word word.Not) = begin.Sign
begin_of (m.Symbol symbol.Minus) = begin.Sign
begin_of (m.Symbol symbol.Bang) = begin.Sign
begin_of (m.Symbol symbol.OpenParen) = begin.Group
begin_of (m.Symbol symbol.OpenBracket) = begin.List
begin_of (m.Symbol symbol.OpenBracketAt) = begin.Global
begin_of (m.Symbol symbol.OpenBrace) = begin.Record
begin_of m.Opening = begin.Weave
begin_of _ = begin.Nothing

-- what a token is behind an operand
abbrev pub follow_of : Meaning → Follow
follow_of (m.Symbol symbol.OpenParen) = follow.Call
follow_of (m.Symbol symbol.Dot) = follow.Dot
follow_of (m.Symbol symbol.Percent) = follow.Percent
follow_of (m.Symbol symbol.Caret) = follow.Caret
follow_of (m.Symbol symbol.Semicolon) = follow.Semicolon
follow_of (m.Symbol symbol.Comma) = follow.Comma
follow_of (m.Symbol symbol.CloseParen) = follow.CloseParen
follow_of (m.Symbol symbol.CloseBracket) = follow.CloseBracket
follow_of (m.Symbol symbol.CloseBrace) = follow.CloseBrace
follow_of (m.Symbol symbol.Plus) = follow.Operator
follow_of (m.Symbol symbol.Minus) = follow.Operator
follow_of (m.Symbol symbol.Star) = follow.Operator
follow_of (m.Symbol symbol.Slash) = follow.Operator
follow_of (m.Symbol symbol.Ampersand) = follow.Operator
follow_of (m.Symbol symbol.DoubleAmpersand) = follow.Operator
follow_of (m.Symbol symbol.DoubleBar) = follow.Operator
follow_of (m.Symbol symbol.Equal) = follow.Operator
follow_of (m.Symbol symbol.NotEqual) = follow.Operator
follow_of (m.Symbol symbol.Less) = follow.Operator
follow_of (m.Symbol symbol.LessEqual) = follow.Operator
follow_of (m.Symbol symbol.Greater) = follow.Operator
follow_of (m.Symbol symbol.GreaterEqual) = follow.Operator
follow_of (m.Word word.As) = follow.As
follow_of (m.Word word.And) = follow.Operator
follow_of (m.Word word.Or) = follow.Operator
follow_of (m.Word word.In) = follow.Operator
follow_of (m.Word word.ExactIn) = follow.Operator
follow_of _ = follow.Nothing

-- the first step, where there is one
abbrev pub or_move : Move → Move → Move
or_move Stop n = n
or_move k n = k

abbrev pub operand : Begin → Move
operand begin.Leaf = Stay state.AfterAccess
operand begin.Name = Stay state.AfterName
operand begin.Callee = Stay state.AfterCallee
operand begin.Sign = Stay state.Operand
operand begin.Group = Push frame.Group state.Operand
operand begin.List = Push frame.List state.OperandOrClose
operand begin.Global = Stay state.GlobalName
operand begin.Record = Stay state.FirstLabel
operand begin.Weave = Stay state.Strand
operand begin.Nothing = Stop

-- a closing bracket behind no argument
abbrev pub emptied : Follow → Option Frame → Move
emptied follow.CloseParen (Some frame.Call) = Pop state.AfterAccess
emptied follow.CloseBracket (Some frame.List) = Pop state.AfterAccess
emptied _ _ = Stop

-- a closing bracket or a comma
abbrev pub closed : Follow → Option Frame → Move
closed follow.CloseParen (Some frame.Group) = Pop state.AfterAccess
closed follow.CloseParen (Some frame.Call) = Pop state.AfterAccess
closed follow.CloseBracket (Some frame.List) = Pop state.AfterAccess
closed follow.CloseBrace (Some frame.Record) = Pop state.AfterAccess
closed follow.CloseBrace (Some frame.Island) = Pop state.Strand
closed follow.Comma (Some frame.Call) = Stay state.Operand
closed follow.Comma (Some frame.List) = Stay state.Operand
closed follow.Comma (Some frame.Record) = Pop state.Label
closed _ _ = Stop

-- a `;`: fields have none, and behind a named formula it begins the next
abbrev pub semicolon : Whole → Option Frame → Move
semicolon w (Some frame.Record) = Stop
semicolon whole.Named None = Stay state.Entry
semicolon _ _ = Stay state.OperandOrEnd

abbrev pub behind_alias : Whole → Option Frame → Follow → Move
behind_alias w o follow.Operator = Stay state.Operand
behind_alias w o follow.Semicolon = semicolon w o
behind_alias w o k = closed k o

abbrev pub behind_percent : Whole → Option Frame → Follow → Move
behind_percent w o follow.Percent = Stay state.AfterPercent
behind_percent w o follow.Caret = Stay state.Operand
behind_percent w o follow.As = Stay state.AliasName
behind_percent w o k = behind_alias w o k

abbrev pub behind_access : Whole → Option Frame → Follow → Move
behind_access w o follow.Dot = Stay state.FieldName
behind_access w o k = behind_percent w o k

abbrev pub follow_move : Follow → Move
follow_move follow.Call = Push frame.Call state.OperandOrClose
follow_move _ = Stop

abbrev pub behind_name : Whole → Option Frame → Follow → Move
behind_name w o follow.Call = Push frame.Call state.OperandOrClose
behind_name w o k = behind_access w o k

abbrev pub name_then : Begin → State → Move
name_then begin.Name s = Stay s
name_then _ s = Stop

abbrev pub bracket_then : Follow → State → Move
bracket_then follow.CloseBracket s = Stay s
bracket_then _ s = Stop

abbrev pub brace_then : Follow → State → Move
brace_then follow.CloseBrace s = Stay s
brace_then _ s = Stop

abbrev pub equal_then : Meaning → State → Move
equal_then (m.Symbol symbol.Equal) s = Stay s
equal_then _ s = Stop

abbrev pub colon : Meaning → Move
colon (m.Symbol symbol.Colon) = Push frame.Record state.Operand
colon _ = Stop

abbrev pub strand : Meaning → Move
strand (m.Piece cs) = Stay state.Strand
strand (m.Symbol symbol.OpenBrace) = Push frame.Island state.Operand
strand m.Closing = Stay state.AfterAccess
strand _ = Stop

-- what a token does
abbrev pub turn : Whole → State → Option Frame → Meaning → Move
turn w state.Start o k = or_move (operand (begin_of k)) (equal_then k state.Operand)
turn w state.Operand o k = operand (begin_of k)
turn w state.OperandOrClose o k = or_move (operand (begin_of k)) (emptied (follow_of k) o)
turn w state.OperandOrEnd o k = or_move (operand (begin_of k)) (closed (follow_of k) o)
turn w state.AfterName o k = behind_name w o (follow_of k)
turn w state.AfterCallee o k = follow_move (follow_of k)
turn w state.AfterAccess o k = behind_access w o (follow_of k)
turn w state.AfterPercent o k = behind_percent w o (follow_of k)
turn w state.AfterAlias o k = behind_alias w o (follow_of k)
turn w state.FieldName o k = name_then (begin_of k) state.AfterAccess
turn w state.AliasName o k = name_then (begin_of k) state.AfterAlias
turn w state.GlobalName o k = name_then (begin_of k) state.GlobalClose
turn w state.GlobalClose o k = bracket_then (follow_of k) state.AfterAccess
turn w state.FirstLabel o k = or_move (name_then (begin_of k) state.Colon)
    (brace_then (follow_of k) state.AfterAccess)
turn w state.Label o k = name_then (begin_of k) state.Colon
turn w state.Colon o k = colon k
turn w state.Strand o k = strand k
turn w state.Entry o k = name_then (begin_of k) state.EntryEqual
turn w state.EntryEqual o k = equal_then k state.Operand

-- what may come next, and what is open
abbrev pub MachinePlace : Type 0
MachinePlace = State × List Frame

abbrev pub top : List Frame → Option Frame
top [] = None
top (f ∷ fs) = Some f

abbrev pub outer : List Frame → List Frame
outer [] = []
outer (f ∷ fs) = fs

abbrev pub place_moved : List Frame → Move → Option MachinePlace
place_moved fs (Stay s) = Some (s, fs)
place_moved fs (Push f s) = Some (s, f ∷ fs)
place_moved fs (Pop s) = Some (s, outer fs)
place_moved fs Stop = None

abbrev pub with_stack : Option State → List Frame → Option MachinePlace
with_stack None fs = None
with_stack (Some s) fs = Some (s, fs)

-- where the tokens lead
abbrev pub run : Whole → State → List Frame → List Item → Option MachinePlace
run w s fs [] = Some (s, fs)
run w s fs (x ∷ us) = option_and_then (λ p. run w p.0 p.1 us)
    (place_moved fs (turn w s (top fs) x.meaning))

abbrev pub may_end : Whole → State → Bool
may_end _ state.AfterName = true
may_end _ state.AfterAccess = true
may_end _ state.AfterPercent = true
may_end _ state.AfterAlias = true
may_end whole.Formula state.OperandOrEnd = true
may_end whole.Named state.Entry = true
may_end _ _ = false

-- whether the tokens may end here
abbrev pub ends : Whole → State → List Frame → Bool
ends w s [] = may_end w s
ends w s (f ∷ fs) = false

abbrev pub accepted : Whole → Option MachinePlace → Bool
accepted w None = false
accepted w (Some p) = ends w p.0 p.1

-- The tokens before the place i lead on, and the token there does not; behind the last, they may
-- not end.
pub record IsLastPlace (w : Whole) (s : State) (xs : List Item) (i : ℕ) : Type 0 where
  pub within : i ≤ length xs
  pub place : MachinePlace
  pub so_far : run w s [] (take i xs) ≡ Some place
  pub stuck : i < length xs → run w s [] (take (suc i) xs) ≡ None
  pub open_end : accepted w (run w s [] xs) ≡ false

-- what the reader answers
abbrev pub Ended : Whole → State → List Item → Verdict → Type 0
Ended w s xs HasTree = accepted w (run w s [] xs) ≡ true
Ended w s xs (StopsAt i) = IsLastPlace w s xs i
