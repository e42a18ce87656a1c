-- Which elements stand before which texts: what a printer needs to know of the tokens that it writes.
use Rattle.std.proofs.Common.{◌≡◌, ◌≢◌, ℕ, zero, suc, ◌<◌, ◌≤◌, Bool, true, false, List, [], ◌∷◌, ◌++◌, length, take, drop, cond, refl, ap, sym, ◌∙◌, subst, eqb, leb, Some, None, arith}
use Rattle.std.proofs.lemmas.List.{take_at, drop_at}
use Rattle.std.proofs.lemmas.Bool.Decides.{nat_tests}
use Rattle.fx_number.specs.Spelling.{IsDecimal, point_and}
use Rattle.fx_lexer.specs.declared.token.Symbol.{Symbol}
use Rattle.fx_lexer.specs.declared.token.Symbol.TheVariants.{OpenParen, CloseParen, OpenBrace, CloseBrace, OpenBracket, CloseBracket, OpenBracketAt, Comma, Semicolon, Colon, Dot, Plus, Minus, Star, Slash, Caret, Percent, Ampersand, DoubleAmpersand, DoubleBar, Bang, Equal, NotEqual, Less, LessEqual, Greater, GreaterEqual}
use Rattle.fx_lexer.specs.declared.token.Word.{Word}
use Rattle.fx_lexer.specs.declared.token.Word.TheVariants as words
use Rattle.fx_lexer.specs.declared.token.TokenKind.{TokenKind}
use Rattle.fx_lexer.specs.declared.token.TokenKind.TheVariants as kind
use Rattle.fx_lexer.specs.declared.element.Class.{Class}
use Rattle.fx_lexer.specs.declared.element.Class.TheVariants.{Digit, Letter}
use Rattle.fx_lexer.specs.declared.element.Element.{Element}
use Rattle.fx_lexer.specs.declared.element.Element.TheVariants.{Skip, Token}
use Rattle.fx_lexer.specs.declared.element.Mode.{Mode}
use Rattle.fx_lexer.specs.declared.element.Mode.TheVariants.{Formula, Weave}
use Rattle.fx_lexer.specs.Spelling.{class_at, in_name, in_number, is_quote, is_mark, Every, doubled, word_spelling, symbol_spelling, begins_with, SpellsNumber, IsElement}
use Rattle.fx_lexer.specs.Scan.{ScannedElement, scanned, run_length, decimals, number_run, more, open_run, closed_run, weave_run, mark_run, word_at, text_seen, quoted_seen, name_kind, by_class, formula_at, weave_by, element_at}
use Rattle.fx_lexer.proofs.Digits.{every_digit}
use Rattle.fx_lexer.proofs.Covers.{is_digit, no_word, quoted_long, piece_long}
use Rattle.fx_lexer.proofs.Judge.{element_found}
use Rattle.fx_lexer.proofs.Found.{eqb_same}

-- what is found before rest is an element there
pub exact : (mode : Mode) (e : Element) (xs rest : List ℕ) → element_at mode (xs ++ rest) ≡ Some (e, length xs) → SpellsNumber e xs → IsElement mode e xs rest
exact mode e xs rest h v =
    let P : List ℕ → List ℕ → Type 0 = λ x y. IsElement mode e x y in
    let t = take_at xs rest (length xs) refl in
    let k = element_found mode (xs ++ rest) e (length xs) h (subst (SpellsNumber e) (sym t) v) in
    subst (λ y. P xs y) (drop_at xs rest (length xs) refl) (subst (λ x. P x (drop (length xs) (xs ++ rest))) t k)

at_class : (c : ℕ) (cs : List ℕ) (k : Class) (r : ScannedElement) → class_at c ≡ k → by_class k c cs ≡ r → formula_at (c ∷ cs) ≡ r
at_class c cs k r e f = ap (λ j. by_class j c cs) e ∙ f

-- numbers, before what goes on with no number
run_ends_by : (c : ℕ) (cs : List ℕ) (b : Bool) → cond b (suc (number_run cs)) (decimals (c ∷ cs)) ≡ 0 → cond b (suc (run_length in_number cs)) 0 ≡ 0
run_ends_by c cs true h = cc
run_ends_by c cs false h = refl

run_ends : (rest : List ℕ) → number_run rest ≡ 0 → run_length in_number rest ≡ 0
run_ends [] h = refl
run_ends (c ∷ cs) h = run_ends_by c cs (in_number c) h

run_before : (p : ℕ → Bool) (ys rest : List ℕ) → Every p ys → run_length p rest ≡ 0 → run_length p (ys ++ rest) ≡ length ys
run_before p [] rest h e = e
run_before p (y ∷ ys) rest h e = rw (h.0) (ap suc (run_before p ys rest h.1 e))

decimal_before : (ds es rest : List ℕ) → Every in_number ds → Every in_number es → number_run rest ≡ 0 → number_run ((ds ++ point_and es) ++ rest) ≡ length (ds ++ point_and es)
unfolding class_at
decimal_before [] [] rest h k e = e
decimal_before [] (d ∷ es) rest h k e = rw (k.0, run_before in_number es rest k.1 (run_ends rest e)) refl
decimal_before (d ∷ ds) es rest h k e = rw (h.0) (ap suc (decimal_before ds es rest h.1 k e))

digits_before : (xs ds es rest : List ℕ) → IsDecimal xs ds es → number_run rest ≡ 0 → formula_at (xs ++ rest) ≡ scanned kind.Number (length xs)
digits_before xs [] es rest h e = let k = h.has_whole.0 in absurd (omega arith)
digits_before xs (d ∷ ds) es rest h e =
    let ws = every_digit (d ∷ ds) h.has_whole.1 in
    let P : List ℕ → Type 0 = λ x. formula_at (x ++ rest) ≡ scanned kind.Number (length x) in
    let n = decimal_before ds es rest ws.1 (every_digit es h.has_fraction) e in
    subst P (sym h.is_text) (at_class d ((ds ++ point_and es) ++ rest) Digit _ (is_digit (class_at d) ws.0) (ap (λ m. scanned kind.Number (suc m)) n))

pub number_before : (xs ds es rest : List ℕ) → IsDecimal xs ds es → SpellsNumber (Token kind.Number) xs → number_run rest ≡ 0 → IsElement Formula (Token kind.Number) xs rest
number_before xs ds es rest h v e = exact Formula (Token kind.Number) xs rest (digits_before xs ds es rest h e) v

-- names and words, before what goes on with no name
letters_before : (c : ℕ) (cs rest : List ℕ) (k : TokenKind) → class_at c ≡ Letter → Every in_name cs → run_length in_name rest ≡ 0 → name_kind (word_at (c ∷ cs)) ≡ k → formula_at (c ∷ (cs ++ rest)) ≡ scanned k (length (c ∷ cs))
letters_before c cs rest k e h r f =
    let n = run_before in_name cs rest h r in
    let t : take (suc (run_length in_name (cs ++ rest))) (c ∷ (cs ++ rest)) ≡ c ∷ cs = ap (λ m. take (suc m) (c ∷ (cs ++ rest))) n ∙ ap (λ ys. c ∷ ys) (take_at cs rest (length cs) refl) in
    at_class c (cs ++ rest) Letter _ e ((λ i. scanned (name_kind (word_at (t i))) (suc (n i))) ∙ ap (λ j. scanned j (suc (length cs))) f)

pub name_before : (c : ℕ) (cs rest : List ℕ) → class_at c ≡ Letter → Every in_name cs → ((w : Word) → c ∷ cs ≢ word_spelling w) → run_length in_name rest ≡ 0 → IsElement Formula (Token kind.Name) (c ∷ cs) rest
name_before c cs rest e h n r = exact Formula (Token kind.Name) (c ∷ cs) rest (letters_before c cs rest kind.Name e h r (no_word (c ∷ cs) n)) tt

pub word_before : (w : Word) (rest : List ℕ) → run_length in_name rest ≡ 0 → IsElement Formula (Token (kind.Word w)) (word_spelling w) rest
unfolding class_at
word_before words.And rest r = exact Formula _ _ rest (letters_before 65 (110 ∷ 100 ∷ []) rest (kind.Word words.And) refl (refl, (refl, tt)) r refl) tt
word_before words.Or rest r = exact Formula _ _ rest (letters_before 79 (114 ∷ []) rest (kind.Word words.Or) refl (refl, tt) r refl) tt
word_before words.Not rest r = exact Formula _ _ rest (letters_before 78 (111 ∷ 116 ∷ []) rest (kind.Word words.Not) refl (refl, (refl, tt)) r refl) tt
word_before words.In rest r = exact Formula _ _ rest (letters_before 105 (110 ∷ []) rest (kind.Word words.In) refl (refl, tt) r refl) tt
word_before words.ExactIn rest r = exact Formula _ _ rest (letters_before 101 (120 ∷ 97 ∷ 99 ∷ 116 ∷ 105 ∷ 110 ∷ []) rest (kind.Word words.ExactIn) refl (refl, (refl, (refl, (refl, (refl, (refl, tt)))))) r refl) tt
word_before words.As rest r = exact Formula _ _ rest (letters_before 65 (115 ∷ []) rest (kind.Word words.As) refl (refl, tt) r refl) tt
word_before words.True rest r = exact Formula _ _ rest (letters_before 116 (114 ∷ 117 ∷ 101 ∷ []) rest (kind.Word words.True) refl (refl, (refl, (refl, tt))) r refl) tt
word_before words.False rest r = exact Formula _ _ rest (letters_before 102 (97 ∷ 108 ∷ 115 ∷ 101 ∷ []) rest (kind.Word words.False) refl (refl, (refl, (refl, (refl, tt)))) r refl) tt

-- texts and quoted names, before what is no quote of theirs
closed_ends : (q : ℕ) (rest : List ℕ) → begins_with q rest ≡ false → closed_run q rest ≡ Some 0
closed_ends q [] h = refl
closed_ends q (c ∷ cs) h = rw h refl

open_by : (q c : ℕ) (w rest : List ℕ) (b : Bool) → eqb c q ≡ b → open_run q ((doubled (is_quote q) w ++ q ∷ []) ++ rest) ≡ Some (length (doubled (is_quote q) w ++ q ∷ []))
    → open_run q ((cond b (c ∷ c ∷ doubled (is_quote q) w) (c ∷ doubled (is_quote q) w) ++ q ∷ []) ++ rest) ≡ Some (length (cond b (c ∷ c ∷ doubled (is_quote q) w) (c ∷ doubled (is_quote q) w) ++ q ∷ []))
open_by q c w rest true e h = rw e (ap (λ o. more (more o)) h)
open_by q c w rest false e h = rw e (ap more h)

quoted_run : (q : ℕ) (w rest : List ℕ) → begins_with q rest ≡ false → open_run q ((doubled (is_quote q) w ++ q ∷ []) ++ rest) ≡ Some (length (doubled (is_quote q) w ++ q ∷ []))
quoted_run q [] rest h = rw (eqb_same q) (ap more (closed_ends q rest h))
quoted_run q (c ∷ w) rest h = open_by q c w rest (eqb c q) refl (quoted_run q w rest h)

text_at : (cs : List ℕ) (n : ℕ) → open_run 34 cs ≡ Some n → formula_at (34 ∷ cs) ≡ scanned kind.Text (suc n)
unfolding class_at
text_at cs n h = ap text_seen h

pub text_before : (w rest : List ℕ) → begins_with 34 rest ≡ false → IsElement Formula (Token kind.Text) (34 ∷ (doubled (is_quote 34) w ++ 34 ∷ [])) rest
text_before w rest h = exact Formula _ _ rest (text_at _ _ (quoted_run 34 w rest h)) tt

quoted_long_at : (n : ℕ) (b : Bool) → leb n 1 ≡ b → 1 < n → cond b None (scanned kind.Name (suc n)) ≡ scanned kind.Name (suc n)
quoted_long_at n true e h = let k : n ≤ 1 = grind (arith, nat_tests) in absurd (omega arith)
quoted_long_at n false e h = refl

quoted_at : (cs : List ℕ) (n : ℕ) → 1 < n → open_run 39 cs ≡ Some n → formula_at (39 ∷ cs) ≡ scanned kind.Name (suc n)
unfolding class_at
quoted_at cs n l h = ap quoted_seen h ∙ quoted_long_at n (leb n 1) refl l

pub quoted_name_before : (c : ℕ) (w rest : List ℕ) → begins_with 39 rest ≡ false → IsElement Formula (Token kind.Name) (39 ∷ (doubled (is_quote 39) (c ∷ w) ++ 39 ∷ [])) rest
quoted_name_before c w rest h = exact Formula _ _ rest (quoted_at _ _ (quoted_long c (doubled (is_quote 39) w) (eqb c 39)) (quoted_run 39 (c ∷ w) rest h)) tt

-- What goes on with a longer symbol, or with a comment, may not follow.
abbrev pub SymbolEnds : Symbol → List ℕ → Type 0
SymbolEnds OpenBracket rest = begins_with 64 rest ≡ false
SymbolEnds Ampersand rest = begins_with 38 rest ≡ false
SymbolEnds Less rest = (begins_with 61 rest ≡ false) × (begins_with 62 rest ≡ false)
SymbolEnds Greater rest = begins_with 61 rest ≡ false
SymbolEnds Slash rest = (begins_with 47 rest ≡ false) × (begins_with 42 rest ≡ false)
SymbolEnds s rest = Unit {0}

slash_at_end : (rest : List ℕ) → begins_with 47 rest ≡ false → begins_with 42 rest ≡ false → formula_at (47 ∷ rest) ≡ scanned (kind.Symbol Slash) 1
unfolding class_at
slash_at_end [] h k = refl
slash_at_end (c ∷ cs) h k = rw (h, k) refl

pub symbol_before : (s : Symbol) (rest : List ℕ) → SymbolEnds s rest → IsElement Formula (Token (kind.Symbol s)) (symbol_spelling s) rest
unfolding class_at
symbol_before OpenParen rest h = exact Formula _ _ rest refl tt
symbol_before CloseParen rest h = exact Formula _ _ rest refl tt
symbol_before OpenBrace rest h = exact Formula _ _ rest refl tt
symbol_before CloseBrace rest h = exact Formula _ _ rest refl tt
symbol_before OpenBracket rest h = exact Formula (Token (kind.Symbol OpenBracket)) (91 ∷ []) rest (rw h refl) tt
symbol_before CloseBracket rest h = exact Formula _ _ rest refl tt
symbol_before OpenBracketAt rest h = exact Formula _ _ rest refl tt
symbol_before Comma rest h = exact Formula _ _ rest refl tt
symbol_before Semicolon rest h = exact Formula _ _ rest refl tt
symbol_before Colon rest h = exact Formula _ _ rest refl tt
symbol_before Dot rest h = exact Formula _ _ rest refl tt
symbol_before Plus rest h = exact Formula _ _ rest refl tt
symbol_before Minus rest h = exact Formula _ _ rest refl tt
symbol_before Star rest h = exact Formula _ _ rest refl tt
symbol_before Slash rest h = exact Formula (Token (kind.Symbol Slash)) (47 ∷ []) rest (slash_at_end rest h.0 h.1) tt
symbol_before Caret rest h = exact Formula _ _ rest refl tt
symbol_before Percent rest h = exact Formula _ _ rest refl tt
symbol_before Ampersand rest h = exact Formula (Token (kind.Symbol Ampersand)) (38 ∷ []) rest (rw h refl) tt
symbol_before DoubleAmpersand rest h = exact Formula _ _ rest refl tt
symbol_before DoubleBar rest h = exact Formula _ _ rest refl tt
symbol_before Bang rest h = exact Formula _ _ rest refl tt
symbol_before Equal rest h = exact Formula _ _ rest refl tt
symbol_before NotEqual rest h = exact Formula _ _ rest refl tt
symbol_before Less rest h = let k = h.0 in let m = h.1 in exact Formula (Token (kind.Symbol Less)) (60 ∷ []) rest (rw (k, m) refl) tt
symbol_before LessEqual rest h = exact Formula _ _ rest refl tt
symbol_before Greater rest h = exact Formula (Token (kind.Symbol Greater)) (62 ∷ []) rest (rw h refl) tt
symbol_before GreaterEqual rest h = exact Formula _ _ rest refl tt

pub space_before : (rest : List ℕ) → IsElement Formula Skip (32 ∷ []) rest
unfolding class_at
space_before rest = exact Formula _ _ rest refl tt

pub opening_before : (rest : List ℕ) → IsElement Formula (Token kind.Opening) (36 ∷ 34 ∷ []) rest
unfolding class_at
opening_before rest = exact Formula _ _ rest refl tt

-- in a weave's text
mark_by : (m : ℕ) (rest : List ℕ) → begins_with m rest ≡ false → mark_run m rest ≡ 0
mark_by m [] h = refl
mark_by m (c ∷ cs) h = rw h refl

pub closing_before : (rest : List ℕ) → begins_with 34 rest ≡ false → IsElement Weave (Token kind.Closing) (34 ∷ []) rest
closing_before rest h = exact Weave (Token kind.Closing) (34 ∷ []) rest (ap (λ n. weave_by n (34 ∷ rest)) (mark_by 34 rest h)) tt

pub island_before : (rest : List ℕ) → begins_with 123 rest ≡ false → IsElement Weave (Token (kind.Symbol OpenBrace)) (123 ∷ []) rest
island_before rest h = exact Weave (Token (kind.Symbol OpenBrace)) (123 ∷ []) rest (ap (λ n. weave_by n (123 ∷ rest)) (mark_by 123 rest h)) tt

piece_by_mark : (c : ℕ) (w rest : List ℕ) (b : Bool) → is_mark c ≡ b → weave_run (doubled is_mark w ++ rest) ≡ length (doubled is_mark w)
    → weave_run (cond b (c ∷ c ∷ doubled is_mark w) (c ∷ doubled is_mark w) ++ rest) ≡ length (cond b (c ∷ c ∷ doubled is_mark w) (c ∷ doubled is_mark w))
piece_by_mark c w rest true e h = rw (e, eqb_same c) (ap (λ n. suc (suc n)) h)
piece_by_mark c w rest false e h = rw e (ap suc h)

piece_run : (w rest : List ℕ) → weave_run rest ≡ 0 → weave_run (doubled is_mark w ++ rest) ≡ length (doubled is_mark w)
piece_run [] rest h = h
piece_run (c ∷ w) rest h = piece_by_mark c w rest (is_mark c) refl (piece_run w rest h)

piece_by : (n : ℕ) (us : List ℕ) → 0 < n → weave_by n us ≡ scanned kind.Piece n
piece_by zero us h = absurd (omega arith)
piece_by (suc n) us h = refl

pub piece_before : (c : ℕ) (w rest : List ℕ) → weave_run rest ≡ 0 → IsElement Weave (Token kind.Piece) (doubled is_mark (c ∷ w)) rest
piece_before c w rest h =
    let e = piece_run (c ∷ w) rest h in
    exact Weave (Token kind.Piece) (doubled is_mark (c ∷ w)) rest (ap (λ n. weave_by n (doubled is_mark (c ∷ w) ++ rest)) e ∙ piece_by _ (doubled is_mark (c ∷ w) ++ rest) (piece_long c (doubled is_mark w) (is_mark c))) tt

-- what ends a piece: an island's `{`, or the closing quote
pub piece_ends : (m : ℕ) (rest : List ℕ) → is_mark m ≡ true → begins_with m rest ≡ false → weave_run (m ∷ rest) ≡ 0
piece_ends m rest e h = rw e (mark_by m rest h)
