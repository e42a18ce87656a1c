-- Nothing that is spelt at a place is longer than what is found there.
use Rattle.std.proofs.Common.{◌≡◌, ◌≢◌, ℕ, zero, suc, ◌<◌, ◌≤◌, Bool, true, false, List, [], ◌∷◌, ◌++◌, length, take, cond, refl, ap, sym, ◌∙◌, subst, eqb, leb, Option, Some, None, arith, length-append}
use Rattle.std.proofs.lemmas.List.{take_at}
use Rattle.std.proofs.lemmas.Bool.Decides.{nat_tests}
use Rattle.fx_number.specs.Spelling.{IsDecimal, point_and}
use Rattle.fx_lexer.specs.declared.token.Symbol.{Symbol}
use Rattle.fx_lexer.specs.declared.token.Symbol.TheVariants.{OpenParen, CloseParen, OpenBrace, CloseBrace, OpenBracket, CloseBracket, OpenBracketAt, Comma, Semicolon, Colon, Dot, Plus, Minus, Star, Slash, Caret, Percent, Ampersand, DoubleAmpersand, DoubleBar, Bang, Equal, NotEqual, Less, LessEqual, Greater, GreaterEqual}
use Rattle.fx_lexer.specs.declared.token.Word.{Word}
use Rattle.fx_lexer.specs.declared.token.Word.TheVariants as words
use Rattle.fx_lexer.specs.declared.token.TokenKind.{TokenKind}
use Rattle.fx_lexer.specs.declared.token.TokenKind.TheVariants as kind
use Rattle.fx_lexer.specs.declared.element.Class.{Class}
use Rattle.fx_lexer.specs.declared.element.Class.TheVariants.{White, Digit, Letter, Other}
use Rattle.fx_lexer.specs.declared.element.Element.{Element}
use Rattle.fx_lexer.specs.declared.element.Element.TheVariants.{Skip, Token}
use Rattle.fx_lexer.specs.declared.element.Mode.{Mode}
use Rattle.fx_lexer.specs.Spelling.{class_at, goes_on_number, in_name, in_number, in_line, is_quote, is_mark, Every, doubled, HasNoEnd, word_spelling, symbol_spelling, Spelt, white, line_comment, block_comment, number, text, name, quoted_name, word, symbol, opening, closing, piece, island, begins_with, IsClosed}
use Rattle.fx_lexer.specs.Scan.{ScannedElement, scanned, run_length, number_run, more, open_run, closed_run, comment_run, weave_run, mark_run, word_at, one_or_two, less_at, symbol_seen, text_seen, quoted_seen, comment_seen, slash_at, name_kind, by_class, formula_at, weave_by, weave_at, element_at}
use Rattle.fx_lexer.proofs.Digits.{every_digit}
use Rattle.fx_lexer.proofs.Found.{IsKindOf, kind_of, eqb_same}

-- what was found is no shorter than q, and is q where it is as long; where nothing was found q may not stand before zs
abbrev pub Covers : ScannedElement → Element → List ℕ → List ℕ → Type 0
Covers None q ys zs = IsClosed q ys zs → ⊥
Covers (Some r) q ys zs = (length ys ≤ r.1) × (length ys ≡ r.1 → r.0 ≡ q)

at_class : (c : ℕ) (cs : List ℕ) (k : Class) (q : Element) (ys zs : List ℕ) → class_at c ≡ k → Covers (by_class k c cs) q ys zs → Covers (formula_at (c ∷ cs)) q ys zs
at_class c cs k q ys zs e h = rw e h

-- runs
run_covers : (p : ℕ → Bool) (ys zs : List ℕ) → Every p ys → length ys ≤ run_length p (ys ++ zs)
run_covers p [] zs h = omega arith
run_covers p (y ∷ ys) zs h = rw (h.0) (omega (arith, run_covers p ys zs h.1))

-- numbers
number_covers : (ds es zs : List ℕ) → Every in_number ds → Every in_number es → length (ds ++ point_and es) ≤ number_run ((ds ++ point_and es) ++ zs)
unfolding class_at
number_covers [] [] zs h k = omega arith
number_covers [] (e ∷ es) zs h k = rw (k.0) (omega (arith, run_covers in_number es zs k.1))
number_covers (d ∷ ds) es zs h k = rw (h.0) (omega (arith, number_covers ds es zs h.1 k))

digits_cover : (d : ℕ) (ds es zs : List ℕ) → Every in_number (d ∷ ds) → Every in_number es → class_at d ≡ Digit → Covers (formula_at (d ∷ ((ds ++ point_and es) ++ zs))) (Token kind.Number) (d ∷ (ds ++ point_and es)) zs
digits_cover d ds es zs h k e = at_class d ((ds ++ point_and es) ++ zs) Digit _ (d ∷ (ds ++ point_and es)) zs e (omega (arith, number_covers ds es zs h.1 k), λ _. refl)

pub is_digit : (k : Class) → goes_on_number k ≡ true → k ≡ Digit
is_digit White e = cc
is_digit Digit e = refl
is_digit Letter e = cc
is_digit Other e = cc

decimal_covers : (cs ds es zs : List ℕ) → IsDecimal cs ds es → Covers (formula_at (cs ++ zs)) (Token kind.Number) cs zs
decimal_covers cs [] es zs h = let k = h.has_whole.0 in absurd (omega arith)
decimal_covers cs (d ∷ ds) es zs h =
    let ws = every_digit (d ∷ ds) h.has_whole.1 in
    let P : List ℕ → Type 0 = λ x. Covers (formula_at (x ++ zs)) (Token kind.Number) x zs in
    subst P (sym h.is_text) (digits_cover d ds es zs ws (every_digit es h.has_fraction) (is_digit (class_at d) ws.0))

-- texts and quoted names
abbrev OpenCovers : Option ℕ → ℕ → ℕ → List ℕ → Type 0
OpenCovers None q m zs = begins_with q zs ≡ true
OpenCovers (Some n) q m zs = m ≤ n

more_covers : (o : Option ℕ) (q m : ℕ) (zs : List ℕ) → OpenCovers o q m zs → OpenCovers (more o) q (suc m) zs
more_covers None q m zs h = h
more_covers (Some n) q m zs h = omega arith

closed_covers : (q : ℕ) (zs : List ℕ) → OpenCovers (closed_run q zs) q 0 zs
closed_covers q [] = omega arith
closed_covers q (z ∷ zs) = by (eqb z q) refl (open_run q zs)
  where
    by : (b : Bool) → eqb z q ≡ b → (o : Option ℕ) → OpenCovers (cond b (more o) (Some 0)) q 0 (z ∷ zs)
    by true e None = e
    by true e (Some n) = omega arith
    by false e o = omega arith

open_by : (q c : ℕ) (w zs : List ℕ) (b : Bool) → eqb c q ≡ b → OpenCovers (open_run q ((doubled (is_quote q) w ++ q ∷ []) ++ zs)) q (length (doubled (is_quote q) w ++ q ∷ [])) zs
    → OpenCovers (open_run q ((cond b (c ∷ c ∷ doubled (is_quote q) w) (c ∷ doubled (is_quote q) w) ++ q ∷ []) ++ zs)) q (length (cond b (c ∷ c ∷ doubled (is_quote q) w) (c ∷ doubled (is_quote q) w) ++ q ∷ [])) zs
open_by q c w zs true e h = rw e (more_covers (more (open_run q ((doubled (is_quote q) w ++ q ∷ []) ++ zs))) q _ zs (more_covers (open_run q ((doubled (is_quote q) w ++ q ∷ []) ++ zs)) q _ zs h))
open_by q c w zs false e h = rw e (more_covers (open_run q ((doubled (is_quote q) w ++ q ∷ []) ++ zs)) q _ zs h)

open_covers : (q : ℕ) (w zs : List ℕ) → OpenCovers (open_run q ((doubled (is_quote q) w ++ q ∷ []) ++ zs)) q (length (doubled (is_quote q) w ++ q ∷ [])) zs
open_covers q [] zs = rw (eqb_same q) (more_covers (closed_run q zs) q 0 zs (closed_covers q zs))
open_covers q (c ∷ w) zs = open_by q c w zs (eqb c q) refl (open_covers q w zs)

text_covers : (o : Option ℕ) (xs zs : List ℕ) → OpenCovers o 34 (length xs) zs → Covers (text_seen o) (Token kind.Text) (34 ∷ xs) zs
text_covers None xs zs h = λ k. let e : true ≡ false = sym h ∙ k in cc
text_covers (Some n) xs zs h = (omega arith, λ _. refl)

quoted_by : (n : ℕ) (xs zs : List ℕ) (b : Bool) → leb n 1 ≡ b → 1 < length xs → length xs ≤ n → Covers (cond b None (scanned kind.Name (suc n))) (Token kind.Name) (39 ∷ xs) zs
quoted_by n xs zs true e l h = let k : n ≤ 1 = grind (arith, nat_tests) in absurd (omega arith)
quoted_by n xs zs false e l h = (omega arith, λ _. refl)

quoted_covers : (o : Option ℕ) (xs zs : List ℕ) → 1 < length xs → OpenCovers o 39 (length xs) zs → Covers (quoted_seen o) (Token kind.Name) (39 ∷ xs) zs
quoted_covers None xs zs l h = λ k. let e : true ≡ false = sym h ∙ k refl in cc
quoted_covers (Some n) xs zs l h = quoted_by n xs zs (leb n 1) refl l h

pub quoted_long : (c : ℕ) (w : List ℕ) (b : Bool) → 1 < length (cond b (c ∷ c ∷ w) (c ∷ w) ++ 39 ∷ [])
quoted_long c w true = omega (arith, length-append w (39 ∷ []))
quoted_long c w false = omega (arith, length-append w (39 ∷ []))

text_at : (cs : List ℕ) (q : Element) (ys zs : List ℕ) → Covers (text_seen (open_run 34 cs)) q ys zs → Covers (formula_at (34 ∷ cs)) q ys zs
unfolding class_at
text_at cs q ys zs h = h

quoted_at : (cs : List ℕ) (q : Element) (ys zs : List ℕ) → Covers (quoted_seen (open_run 39 cs)) q ys zs → Covers (formula_at (39 ∷ cs)) q ys zs
unfolding class_at
quoted_at cs q ys zs h = h

-- comments and `/`
slash_seen : (cs : List ℕ) (q : Element) (ys zs : List ℕ) → Covers (slash_at cs) q ys zs → Covers (formula_at (47 ∷ cs)) q ys zs
unfolding class_at
slash_seen cs q ys zs h = h

no_end_tail : (c : ℕ) (cs : List ℕ) → HasNoEnd (c ∷ cs) → HasNoEnd cs
no_end_tail c cs h xs ys e = h (c ∷ xs) ys (ap (λ zs. c ∷ zs) e)

no_slash : (cs zs : List ℕ) → HasNoEnd (42 ∷ cs) → begins_with 47 ((cs ++ 42 ∷ 47 ∷ []) ++ zs) ≡ false
no_slash [] zs h = refl
no_slash (c ∷ cs) zs h = by (eqb c 47) refl
  where
    by : (b : Bool) → eqb c 47 ≡ b → b ≡ false
    by true e = let is : c ≡ 47 = grind (arith, nat_tests) in absurd (h [] cs (ap (λ x. 42 ∷ x ∷ cs) is))
    by false e = refl

abbrev Reaches : Option ℕ → ℕ → Type 0
Reaches None m = ⊥
Reaches (Some n) m = m ≤ n

more_reaches : (o : Option ℕ) (m : ℕ) → Reaches o m → Reaches (more o) (suc m)
more_reaches None m h = h
more_reaches (Some n) m h = omega arith

end_star : (cs : List ℕ) (m : ℕ) (b : Bool) → begins_with 47 cs ≡ b → b ≡ false → Reaches (comment_run cs) m → Reaches (cond b (Some 2) (more (comment_run cs))) (suc m)
end_star cs m true e f h = absurd cc
end_star cs m false e f h = more_reaches (comment_run cs) m h

end_by : (c : ℕ) (cs : List ℕ) (m : ℕ) (b : Bool) → eqb c 42 ≡ b → (c ≡ 42 → begins_with 47 cs ≡ false) → Reaches (comment_run cs) m → Reaches (cond b (cond (begins_with 47 cs) (Some 2) (more (comment_run cs))) (more (comment_run cs))) (suc m)
end_by c cs m true e f h = let is : c ≡ 42 = grind (arith, nat_tests) in end_star cs m (begins_with 47 cs) refl (f is) h
end_by c cs m false e f h = more_reaches (comment_run cs) m h

end_reaches : (cs zs : List ℕ) → HasNoEnd cs → Reaches (comment_run ((cs ++ 42 ∷ 47 ∷ []) ++ zs)) (length (cs ++ 42 ∷ 47 ∷ []))
end_reaches [] zs h = omega arith
end_reaches (c ∷ cs) zs h = end_by c ((cs ++ 42 ∷ 47 ∷ []) ++ zs) _ (eqb c 42) refl (λ e. no_slash cs zs (subst (λ x. HasNoEnd (x ∷ cs)) e h)) (end_reaches cs zs (no_end_tail c cs h))

comment_covers : (o : Option ℕ) (xs zs : List ℕ) → Reaches o (length xs) → Covers (comment_seen o) Skip (47 ∷ 42 ∷ xs) zs
comment_covers None xs zs h = absurd h
comment_covers (Some n) xs zs h = (omega arith, λ _. refl)

slash_comment : (o : Option ℕ) (z : ℕ) (zs : List ℕ) → eqb z 42 ≡ true → Covers (comment_seen o) (Token (kind.Symbol Slash)) (47 ∷ []) (z ∷ zs)
slash_comment None z zs e = λ k. let f : true ≡ false = sym e ∙ k in cc
slash_comment (Some n) z zs e = (omega arith, λ k. absurd (omega arith))

slash_covers : (zs : List ℕ) → Covers (slash_at zs) (Token (kind.Symbol Slash)) (47 ∷ []) zs
slash_covers [] = (omega arith, λ _. refl)
slash_covers (z ∷ zs) = by (eqb z 47) (eqb z 42) refl
  where
    by : (b d : Bool) → eqb z 42 ≡ d → Covers (cond b (Some (Skip, suc (suc (run_length in_line zs)))) (cond d (comment_seen (comment_run zs)) (scanned (kind.Symbol Slash) 1))) (Token (kind.Symbol Slash)) (47 ∷ []) (z ∷ zs)
    by true d e = (omega arith, λ k. absurd (omega arith))
    by false true e = slash_comment (comment_run zs) z zs e
    by false false e = (omega arith, λ _. refl)

-- symbols
two_covers : (s t : Symbol) (x c : ℕ) (zs : List ℕ) → Covers (symbol_seen (one_or_two s t x zs)) (Token (kind.Symbol s)) (c ∷ []) zs
two_covers s t x c zs = elim (begins_with x zs) as (λ b. Covers (symbol_seen (cond b (Some (t, 2)) (Some (s, 1)))) (Token (kind.Symbol s)) (c ∷ []) zs) [ true ↦ (omega arith, λ e. absurd (omega arith)) | false ↦ (omega arith, λ _. refl) ]

less_covers : (zs : List ℕ) → Covers (symbol_seen (less_at zs)) (Token (kind.Symbol Less)) (60 ∷ []) zs
less_covers zs = by (begins_with 61 zs) (begins_with 62 zs)
  where
    by : (b d : Bool) → Covers (symbol_seen (cond b (Some (LessEqual, 2)) (cond d (Some (NotEqual, 2)) (Some (Less, 1))))) (Token (kind.Symbol Less)) (60 ∷ []) zs
    by true d = (omega arith, λ e. absurd (omega arith))
    by false true = (omega arith, λ e. absurd (omega arith))
    by false false = (omega arith, λ _. refl)

symbol_covers : (s : Symbol) (zs : List ℕ) → Covers (formula_at (symbol_spelling s ++ zs)) (Token (kind.Symbol s)) (symbol_spelling s) zs
unfolding class_at
symbol_covers OpenParen zs = (omega arith, λ _. refl)
symbol_covers CloseParen zs = (omega arith, λ _. refl)
symbol_covers OpenBrace zs = (omega arith, λ _. refl)
symbol_covers CloseBrace zs = (omega arith, λ _. refl)
symbol_covers OpenBracket zs = two_covers OpenBracket OpenBracketAt 64 91 zs
symbol_covers CloseBracket zs = (omega arith, λ _. refl)
symbol_covers OpenBracketAt zs = (omega arith, λ _. refl)
symbol_covers Comma zs = (omega arith, λ _. refl)
symbol_covers Semicolon zs = (omega arith, λ _. refl)
symbol_covers Colon zs = (omega arith, λ _. refl)
symbol_covers Dot zs = (omega arith, λ _. refl)
symbol_covers Plus zs = (omega arith, λ _. refl)
symbol_covers Minus zs = (omega arith, λ _. refl)
symbol_covers Star zs = (omega arith, λ _. refl)
symbol_covers Slash zs = slash_covers zs
symbol_covers Caret zs = (omega arith, λ _. refl)
symbol_covers Percent zs = (omega arith, λ _. refl)
symbol_covers Ampersand zs = two_covers Ampersand DoubleAmpersand 38 38 zs
symbol_covers DoubleAmpersand zs = (omega arith, λ _. refl)
symbol_covers DoubleBar zs = (omega arith, λ _. refl)
symbol_covers Bang zs = (omega arith, λ _. refl)
symbol_covers Equal zs = (omega arith, λ _. refl)
symbol_covers NotEqual zs = (omega arith, λ _. refl)
symbol_covers Less zs = less_covers zs
symbol_covers LessEqual zs = (omega arith, λ _. refl)
symbol_covers Greater zs = two_covers Greater GreaterEqual 61 62 zs
symbol_covers GreaterEqual zs = (omega arith, λ _. refl)

opening_covers : (zs : List ℕ) → Covers (formula_at (36 ∷ 34 ∷ zs)) (Token kind.Opening) (36 ∷ 34 ∷ []) zs
unfolding class_at
opening_covers zs = (omega arith, λ _. refl)

-- names and words
kind_by : (k : TokenKind) (xs : List ℕ) (n m : ℕ) (us : List ℕ) → m ≤ n → (m ≡ n → take n us ≡ xs) → name_kind (word_at xs) ≡ k → (m ≤ n) × (m ≡ n → Token (name_kind (word_at (take n us))) ≡ Token k)
kind_by k xs n m us l f e = (l, λ h. ap (λ ys. Token (name_kind (word_at ys))) (f h) ∙ ap Token e)

letter_covers : (c : ℕ) (cs zs : List ℕ) (k : TokenKind) → class_at c ≡ Letter → Every in_name cs → name_kind (word_at (c ∷ cs)) ≡ k → Covers (formula_at (c ∷ (cs ++ zs))) (Token k) (c ∷ cs) zs
letter_covers c cs zs k e h f =
    at_class c (cs ++ zs) Letter (Token k) (c ∷ cs) zs e
    (kind_by k (c ∷ cs) (suc (run_length in_name (cs ++ zs))) (suc (length cs)) (c ∷ (cs ++ zs)) (omega (arith, run_covers in_name cs zs h))
    (λ g. ap (λ n. take n (c ∷ (cs ++ zs))) (sym g) ∙ ap (λ ys. c ∷ ys) (take_at cs zs (length cs) refl)) f)

pub no_word : (xs : List ℕ) → ((w : Word) → xs ≢ word_spelling w) → name_kind (word_at xs) ≡ kind.Name
no_word xs h = by (word_at xs) (kind_of xs)
  where
    by : (o : Option Word) → IsKindOf o xs → name_kind o ≡ kind.Name
    by None k = refl
    by (Some w) k = absurd (h w k)

word_covers : (w : Word) (zs : List ℕ) → Covers (formula_at (word_spelling w ++ zs)) (Token (kind.Word w)) (word_spelling w) zs
unfolding class_at
word_covers words.And zs = letter_covers 65 (110 ∷ 100 ∷ []) zs (kind.Word words.And) refl (refl, (refl, tt)) refl
word_covers words.Or zs = letter_covers 79 (114 ∷ []) zs (kind.Word words.Or) refl (refl, tt) refl
word_covers words.Not zs = letter_covers 78 (111 ∷ 116 ∷ []) zs (kind.Word words.Not) refl (refl, (refl, tt)) refl
word_covers words.In zs = letter_covers 105 (110 ∷ []) zs (kind.Word words.In) refl (refl, tt) refl
word_covers words.ExactIn zs = letter_covers 101 (120 ∷ 97 ∷ 99 ∷ 116 ∷ 105 ∷ 110 ∷ []) zs (kind.Word words.ExactIn) refl (refl, (refl, (refl, (refl, (refl, (refl, tt)))))) refl
word_covers words.As zs = letter_covers 65 (115 ∷ []) zs (kind.Word words.As) refl (refl, tt) refl
word_covers words.True zs = letter_covers 116 (114 ∷ 117 ∷ 101 ∷ []) zs (kind.Word words.True) refl (refl, (refl, (refl, tt))) refl
word_covers words.False zs = letter_covers 102 (97 ∷ 108 ∷ 115 ∷ 101 ∷ []) zs (kind.Word words.False) refl (refl, (refl, (refl, (refl, tt)))) refl

-- in a weave's text
mark_run_more : (c : ℕ) (xs : List ℕ) → mark_run c (c ∷ xs) ≡ suc (suc (weave_run xs))
mark_run_more c xs = rw (eqb_same c)

weave_by_mark : (c : ℕ) (w zs : List ℕ) (b : Bool) → is_mark c ≡ b → length (doubled is_mark w) ≤ weave_run (doubled is_mark w ++ zs)
    → length (cond b (c ∷ c ∷ doubled is_mark w) (c ∷ doubled is_mark w)) ≤ weave_run (cond b (c ∷ c ∷ doubled is_mark w) (c ∷ doubled is_mark w) ++ zs)
weave_by_mark c w zs true e h = rw (e, mark_run_more c (doubled is_mark w ++ zs)) (omega arith)
weave_by_mark c w zs false e h = rw e (omega arith)

weave_covers : (w zs : List ℕ) → length (doubled is_mark w) ≤ weave_run (doubled is_mark w ++ zs)
weave_covers [] zs = omega arith
weave_covers (c ∷ w) zs = weave_by_mark c w zs (is_mark c) refl (weave_covers w zs)

piece_by : (n : ℕ) (us xs zs : List ℕ) → 0 < length xs → length xs ≤ n → Covers (weave_by n us) (Token kind.Piece) xs zs
piece_by zero us xs zs l h = absurd (omega arith)
piece_by (suc n) us xs zs l h = (h, λ _. refl)

pub piece_long : (c : ℕ) (w : List ℕ) (b : Bool) → 0 < length (cond b (c ∷ c ∷ w) (c ∷ w))
piece_long c w true = omega arith
piece_long c w false = omega arith

closing_by : (b : Bool) (zs us : List ℕ) → Covers (weave_by (cond b (suc (suc (weave_run us))) 0) (34 ∷ zs)) (Token kind.Closing) (34 ∷ []) zs
closing_by true zs us = (omega arith, λ e. absurd (omega arith))
closing_by false zs us = (omega arith, λ _. refl)

closing_covers : (zs : List ℕ) → Covers (weave_at (34 ∷ zs)) (Token kind.Closing) (34 ∷ []) zs
closing_covers [] = (omega arith, λ _. refl)
closing_covers (z ∷ zs) = closing_by (eqb z 34) (z ∷ zs) zs

island_by : (b : Bool) (zs us : List ℕ) → Covers (weave_by (cond b (suc (suc (weave_run us))) 0) (123 ∷ zs)) (Token (kind.Symbol OpenBrace)) (123 ∷ []) zs
island_by true zs us = (omega arith, λ e. absurd (omega arith))
island_by false zs us = (omega arith, λ _. refl)

island_covers : (zs : List ℕ) → Covers (weave_at (123 ∷ zs)) (Token (kind.Symbol OpenBrace)) (123 ∷ []) zs
island_covers [] = (omega arith, λ _. refl)
island_covers (z ∷ zs) = island_by (eqb z 123) (z ∷ zs) zs

pub covers : (mode : Mode) (q : Element) (ys zs : List ℕ) → Spelt mode q ys → Covers (element_at mode (ys ++ zs)) q ys zs
covers mode q ys zs (white c e) = at_class c zs White Skip (c ∷ []) zs e (omega arith, λ _. refl)
covers mode q ys zs (line_comment cs h) = slash_seen (47 ∷ (cs ++ zs)) Skip (47 ∷ 47 ∷ cs) zs (omega (arith, run_covers in_line cs zs h), λ _. refl)
covers mode q ys zs (block_comment cs h) = slash_seen (42 ∷ ((cs ++ 42 ∷ 47 ∷ []) ++ zs)) Skip (47 ∷ 42 ∷ (cs ++ 42 ∷ 47 ∷ [])) zs (comment_covers _ (cs ++ 42 ∷ 47 ∷ []) zs (end_reaches cs zs h))
covers mode q ys zs (number cs ds es h) = decimal_covers cs ds es zs h
covers mode q ys zs (text cs) = text_at ((doubled (is_quote 34) cs ++ 34 ∷ []) ++ zs) _ _ zs (text_covers _ (doubled (is_quote 34) cs ++ 34 ∷ []) zs (open_covers 34 cs zs))
covers mode q ys zs (name c cs e h n) = letter_covers c cs zs kind.Name e h (no_word (c ∷ cs) n)
covers mode q ys zs (quoted_name c cs) = quoted_at ((doubled (is_quote 39) (c ∷ cs) ++ 39 ∷ []) ++ zs) _ _ zs (quoted_covers _ (doubled (is_quote 39) (c ∷ cs) ++ 39 ∷ []) zs (quoted_long c (doubled (is_quote 39) cs) (eqb c 39)) (open_covers 39 (c ∷ cs) zs))
covers mode q ys zs (word w) = word_covers w zs
covers mode q ys zs (symbol s) = symbol_covers s zs
covers mode q ys zs opening = opening_covers zs
covers mode q ys zs closing = closing_covers zs
covers mode q ys zs (piece c cs) = piece_by _ (doubled is_mark (c ∷ cs) ++ zs) (doubled is_mark (c ∷ cs)) zs (piece_long c (doubled is_mark cs) (is_mark c)) (weave_covers (c ∷ cs) zs)
covers mode q ys zs island = island_covers zs
