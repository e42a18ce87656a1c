-- From each place some tokens lead to an end, and so the answers hold.
use Rattle.std.proofs.Common.{suc, List, [], ◌∷◌, ◌++◌, take, refl, ap, ◌∙◌, Result, Ok, Err, IfOk}
use Rattle.std.specs.Prelude.{option_and_then}
use Rattle.std.proofs.lemmas.Bool.{both_ways}
use Rattle.fx_number.specs.declared.memory.Memory.{Memory}
use Rattle.fx_lexer.specs.declared.token.Symbol.{Symbol}
use Rattle.fx_lexer.specs.declared.token.Symbol.TheVariants as symbol
use Rattle.fx_lexer.specs.declared.token.Word.TheVariants as word
use Rattle.fx_grammar.specs.declared.item.Item.{Item}
use Rattle.fx_grammar.specs.declared.item.Meaning.{Meaning}
use Rattle.fx_grammar.specs.declared.item.Meaning.TheVariants as m
use Rattle.fx_parser.specs.declared.recognize.Verdict.{Verdict}
use Rattle.fx_parser.specs.declared.recognize.Verdict.TheVariants.{HasTree, StopsAt}
use Rattle.fx_parser.specs.declared.state.Whole.{Whole}
use Rattle.fx_parser.specs.declared.state.Whole.TheVariants as whole
use Rattle.fx_parser.specs.declared.state.Frame.{Frame}
use Rattle.fx_parser.specs.declared.state.Frame.TheVariants as frame
use Rattle.fx_parser.specs.declared.state.State.{State}
use Rattle.fx_parser.specs.declared.state.State.TheVariants as state
use Rattle.fx_parser.specs.Machine.{run, accepted}
use Rattle.fx_parser.specs.Machine.{Ended}
use Rattle.fx_parser.specs.Trees.{HasFormula, HasEntries, Judges}
use Rattle.fx_parser.proofs.Runs.{run_append, dead}
use Rattle.fx_parser.proofs.Complete.{Ends, to_percent, to_access, to_name, formula_ends, entries_end}
use Rattle.fx_parser.proofs.Sound.{sound}

-- tokens that lead from a place to an end
abbrev Way : Whole → State → List Frame → Type 0
Way w s fs = (us : List Item) × Ends w s fs us

abbrev token : Meaning → Item
token k = record { at = 0; upto = 0; meaning = k }

abbrev mark : Symbol → Item
mark k = token (m.Symbol k)

abbrev a_name : Item
a_name = token (m.Name [])

abbrev a_leaf : Item
a_leaf = token (m.Word word.True)

access : (w : Whole) (fs : List Frame) → Way w state.AfterAlias fs → Way w state.AfterAccess fs
access w fs h = (h.0, to_access w fs h.0 (to_percent w fs h.0 h.1))

closes : (w : Whole) (fs : List Frame) → Way w state.AfterAlias fs
closes w [] = ([], refl)
closes w (frame.Group ∷ fs) = let h = access w fs (closes w fs) in (mark symbol.CloseParen ∷ h.0, h.1)
closes w (frame.Call ∷ fs) = let h = access w fs (closes w fs) in (mark symbol.CloseParen ∷ h.0, h.1)
closes w (frame.List ∷ fs) = let h = access w fs (closes w fs) in (mark symbol.CloseBracket ∷ h.0, h.1)
closes w (frame.Record ∷ fs) = let h = access w fs (closes w fs) in (mark symbol.CloseBrace ∷ h.0, h.1)
closes w (frame.Island ∷ fs) = let h = access w fs (closes w fs) in (mark symbol.CloseBrace ∷ token m.Closing ∷ h.0, h.1)

behind : (w : Whole) (fs : List Frame) → Way w state.AfterAccess fs
behind w fs = access w fs (closes w fs)

pub finish : (w : Whole) (s : State) (fs : List Frame) → Way w s fs
finish w state.Start fs = let h = behind w fs in (a_leaf ∷ h.0, h.1)
finish w state.Operand fs = let h = behind w fs in (a_leaf ∷ h.0, h.1)
finish w state.OperandOrClose fs = let h = behind w fs in (a_leaf ∷ h.0, h.1)
finish w state.OperandOrEnd fs = let h = behind w fs in (a_leaf ∷ h.0, h.1)
finish w state.AfterName fs = let h = behind w fs in (h.0, to_name w fs h.0 h.1)
finish w state.AfterCallee fs = let h = behind w fs in (mark symbol.OpenParen ∷ mark symbol.CloseParen ∷ h.0, h.1)
finish w state.AfterAccess fs = behind w fs
finish w state.AfterPercent fs = let h = closes w fs in (h.0, to_percent w fs h.0 h.1)
finish w state.AfterAlias fs = closes w fs
finish w state.FieldName fs = let h = behind w fs in (a_name ∷ h.0, h.1)
finish w state.AliasName fs = let h = closes w fs in (a_name ∷ h.0, h.1)
finish w state.GlobalName fs = let h = behind w fs in (a_name ∷ mark symbol.CloseBracket ∷ h.0, h.1)
finish w state.GlobalClose fs = let h = behind w fs in (mark symbol.CloseBracket ∷ h.0, h.1)
finish w state.FirstLabel fs = let h = behind w fs in (mark symbol.CloseBrace ∷ h.0, h.1)
finish w state.Label fs = let h = behind w fs in (a_name ∷ mark symbol.Colon ∷ a_leaf ∷ mark symbol.CloseBrace ∷ h.0, h.1)
finish w state.Colon fs = let h = behind w fs in (mark symbol.Colon ∷ a_leaf ∷ mark symbol.CloseBrace ∷ h.0, h.1)
finish w state.Strand fs = let h = behind w fs in (token m.Closing ∷ h.0, h.1)
finish w state.Entry fs = let h = behind w fs in (a_name ∷ mark symbol.Equal ∷ a_leaf ∷ h.0, h.1)
finish w state.EntryEqual fs = let h = behind w fs in (mark symbol.Equal ∷ a_leaf ∷ h.0, h.1)

-- an answer of the reader, where it accepts what has P
judges : (P : List Item → Type 0) (w : Whole) (s : State) → ((ts : List Item) → P ts → Ends w s [] ts) → ((ts : List Item) → Ends w s [] ts → P ts) → (xs : List Item) (v : Verdict) → Ended w s xs v → Judges P xs v
judges P w s there back xs HasTree e = back xs e
judges P w s there back xs (StopsAt i) e =
    let h = finish w e.place.0 e.place.1 in
    record {
      none = λ p. both_ways (accepted w (run w s [] xs)) e.open_end (there xs p);
      within = e.within;
      before = (h.0, back (take i xs ++ h.0) (ap (accepted w) (run_append w s [] (take i xs) h.0 ∙ ap (option_and_then (λ p. run w p.0 p.1 h.0)) e.so_far) ∙ h.1));
      never = λ k us p. both_ways (accepted w (run w s [] (take (suc i) xs ++ us))) (ap (accepted w) (dead w s (take (suc i) xs) us (e.stuck k))) (there (take (suc i) xs ++ us) p);
    }

answers : (A B : Verdict → Type 0) (r : Result Verdict Memory) → ((v : Verdict) → A v → B v) → IfOk r A → IfOk r B
answers A B (Ok v) f h = f v h
answers A B (Err e) f h = h

pub formula_answer : (xs : List Item) (r : Result Verdict Memory) → IfOk r (Ended whole.Formula state.Start xs) → IfOk r (Judges HasFormula xs)
formula_answer xs r h = answers (Ended whole.Formula state.Start xs) (Judges HasFormula xs) r (judges HasFormula whole.Formula state.Start formula_ends (sound whole.Formula state.Start []) xs) h

pub named_answer : (xs : List Item) (r : Result Verdict Memory) → IfOk r (Ended whole.Named state.Entry xs) → IfOk r (Judges HasEntries xs)
named_answer xs r h = answers (Ended whole.Named state.Entry xs) (Judges HasEntries xs) r (judges HasEntries whole.Named state.Entry entries_end (sound whole.Named state.Entry []) xs) h
