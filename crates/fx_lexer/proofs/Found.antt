-- What is found at the front of a text is spelt so.
use Rattle.std.proofs.Common.{◌≡◌, ◌≢◌, ℕ, zero, suc, ◌<◌, ◌≤◌, Bool, true, false, List, [], ◌∷◌, ◌++◌, length, take, drop, cond, refl, ap, sym, ◌∙◌, subst, eqb, leb, Option, Some, None, arith}
use Rattle.std.proofs.lemmas.List.{length-take-le}
use Rattle.std.proofs.lemmas.Bool.Decides.{nat_tests}
use Rattle.fx_number.specs.Spelling.{point_and}
use Rattle.fx_lexer.specs.declared.token.Symbol.{Symbol}
use Rattle.fx_lexer.specs.declared.token.Symbol.TheVariants.{OpenParen, CloseParen, OpenBrace, CloseBrace, OpenBracket, CloseBracket, OpenBracketAt, Comma, Semicolon, Colon, Dot, Plus, Minus, Star, Slash, Caret, Percent, Ampersand, DoubleAmpersand, DoubleBar, Bang, Equal, NotEqual, Less, LessEqual, Greater, GreaterEqual}
use Rattle.fx_lexer.specs.declared.token.Word.{Word}
use Rattle.fx_lexer.specs.declared.token.Word.TheVariants as words
use Rattle.fx_lexer.specs.declared.token.TokenKind.TheVariants as kind
use Rattle.fx_lexer.specs.declared.element.Class.{Class}
use Rattle.fx_lexer.specs.declared.element.Class.TheVariants.{White, Digit, Letter, Other}
use Rattle.fx_lexer.specs.declared.element.Element.TheVariants.{Skip, Token}
use Rattle.fx_lexer.specs.declared.element.Mode.{Mode}
use Rattle.fx_lexer.specs.declared.element.Mode.TheVariants.{Formula, Weave}
use Rattle.fx_lexer.specs.Spelling.{class_at, goes_on_number, in_name, in_number, in_line, is_quote, is_mark, Every, doubled, HasNoEnd, word_spelling, symbol_spelling, Spelt, white, line_comment, block_comment, number, text, name, quoted_name, word, symbol, opening, closing, piece, island, begins_with, IsClosed}
use Rattle.fx_lexer.specs.Scan.{ScannedElement, scanned, run_length, point_run, decimals, number_run, more, open_run, closed_run, comment_run, weave_run, mark_run, word_at, symbol_at, symbol_seen, text_seen, quoted_seen, comment_seen, slash_at, other_at, name_kind, name_scanned, by_class, formula_at, mark_scanned, weave_by, element_at}
use Rattle.fx_lexer.proofs.Digits.{all_digits}

-- what a scan found
abbrev pub Found : Mode → ScannedElement → List ℕ → Type 0
Found mode None cs = Unit {0}
Found mode (Some r) cs = (r.1 ≤ length cs) × Spelt mode r.0 (take r.1 cs) × IsClosed r.0 (take r.1 cs) (drop r.1 cs)

-- runs
pub run_le : (p : ℕ → Bool) (cs : List ℕ) → run_length p cs ≤ length cs
run_le p [] = omega arith
run_le p (c ∷ cs) = elim (p c) as (λ b. cond b (suc (run_length p cs)) 0 ≤ suc (length cs)) [ true ↦ omega (arith, run_le p cs) | false ↦ omega arith ]

run_every_by : (p : ℕ → Bool) (c : ℕ) (cs : List ℕ) (b : Bool) → p c ≡ b → Every p (take (run_length p cs) cs) → Every p (take (cond b (suc (run_length p cs)) 0) (c ∷ cs))
run_every_by p c cs true e h = (e, h)
run_every_by p c cs false e h = tt

run_every : (p : ℕ → Bool) (cs : List ℕ) → Every p (take (run_length p cs) cs)
run_every p [] = tt
run_every p (c ∷ cs) = run_every_by p c cs (p c) refl (run_every p cs)

-- numbers
abbrev DecimalTail : List ℕ → Type 0
DecimalTail xs = (ds : List ℕ) × (es : List ℕ) × Every in_number ds × Every in_number es × (xs ≡ ds ++ point_and es)

point_tail : (n : ℕ) (cs : List ℕ) → n ≤ length cs → Every in_number (take n cs) → (point_run n ≤ suc (length cs)) × DecimalTail (take (point_run n) (46 ∷ cs))
point_tail zero cs h e = (omega arith, ([], [], tt, tt, refl))
point_tail (suc n) [] h e = absurd (omega arith)
point_tail (suc n) (c ∷ cs) h e = (omega arith, ([], c ∷ take n cs, tt, e, refl))

decimals_by : (c : ℕ) (cs : List ℕ) (b : Bool) → eqb c 46 ≡ b → (cond b (point_run (run_length in_number cs)) 0 ≤ suc (length cs)) × DecimalTail (take (cond b (point_run (run_length in_number cs)) 0) (c ∷ cs))
decimals_by c cs true e = let is : c ≡ 46 = grind (arith, nat_tests) in rw is (point_tail (run_length in_number cs) cs (run_le in_number cs) (run_every in_number cs))
decimals_by c cs false e = (omega arith, ([], [], tt, tt, refl))

tail_more : (c : ℕ) (xs : List ℕ) → in_number c ≡ true → DecimalTail xs → DecimalTail (c ∷ xs)
tail_more c xs d h = (c ∷ h.0, h.1, (d, h.2), h.3, ap (λ ys. c ∷ ys) h.4)

number_by : (c : ℕ) (cs : List ℕ) (b : Bool) → in_number c ≡ b → (number_run cs ≤ length cs) × DecimalTail (take (number_run cs) cs)
    → (cond b (suc (number_run cs)) (decimals (c ∷ cs)) ≤ suc (length cs)) × DecimalTail (take (cond b (suc (number_run cs)) (decimals (c ∷ cs))) (c ∷ cs))
number_by c cs true e h = (omega arith, tail_more c _ e h.1)
number_by c cs false e h = decimals_by c cs (eqb c 46) refl

number_tail : (cs : List ℕ) → (number_run cs ≤ length cs) × DecimalTail (take (number_run cs) cs)
number_tail [] = (omega arith, ([], [], tt, tt, refl))
number_tail (c ∷ cs) = number_by c cs (in_number c) refl (number_tail cs)

number_spelt : (d : ℕ) (xs : List ℕ) → class_at d ≡ Digit → DecimalTail xs → Spelt Formula (Token kind.Number) (d ∷ xs)
number_spelt d xs e h = number (d ∷ xs) (d ∷ h.0) h.1 (record {
  has_whole = (omega arith, all_digits (d ∷ h.0) (ap goes_on_number e, h.2));
  has_fraction = all_digits h.1 h.3;
  is_text = ap (λ ys. d ∷ ys) h.4;
})

-- texts and quoted names
pub eqb_same : (c : ℕ) → eqb c c ≡ true
eqb_same c = grind (arith, nat_tests)

abbrev Closes : ℕ → List ℕ → Type 0
Closes q xs = (w : List ℕ) × (xs ≡ doubled (is_quote q) w ++ q ∷ [])

abbrev OpenFound : ℕ → Option ℕ → List ℕ → Type 0
OpenFound q None cs = Unit {0}
OpenFound q (Some n) cs = (n ≤ length cs) × Closes q (take n cs) × (begins_with q (drop n cs) ≡ false)

abbrev ClosedFound : ℕ → Option ℕ → List ℕ → Type 0
ClosedFound q None cs = Unit {0}
ClosedFound q (Some n) cs = (n ≤ length cs) × Closes q (q ∷ take n cs) × (begins_with q (drop n cs) ≡ false)

open_quote : (q : ℕ) (cs : List ℕ) (o : Option ℕ) → ClosedFound q o cs → OpenFound q (more o) (q ∷ cs)
open_quote q cs None h = tt
open_quote q cs (Some n) h = (omega arith, h.1, h.2)

open_other : (q c : ℕ) (cs : List ℕ) (o : Option ℕ) → eqb c q ≡ false → OpenFound q o cs → OpenFound q (more o) (c ∷ cs)
open_other q c cs None e h = tt
open_other q c cs (Some n) e h = (omega arith, (c ∷ h.1.0, rw e (ap (λ ys. c ∷ ys) h.1.1)), h.2)

closed_quote : (q : ℕ) (cs : List ℕ) (o : Option ℕ) → OpenFound q o cs → ClosedFound q (more o) (q ∷ cs)
closed_quote q cs None h = tt
closed_quote q cs (Some n) h = (omega arith, (q ∷ h.1.0, rw (eqb_same q) (ap (λ ys. q ∷ q ∷ ys) h.1.1)), h.2)

open_by : (q c : ℕ) (cs : List ℕ) (b : Bool) → eqb c q ≡ b → OpenFound q (open_run q cs) cs → ClosedFound q (closed_run q cs) cs → OpenFound q (cond b (more (closed_run q cs)) (more (open_run q cs))) (c ∷ cs)
open_by q c cs true e h k = let is : c ≡ q = grind (arith, nat_tests) in rw is (open_quote q cs (closed_run q cs) k)
open_by q c cs false e h k = open_other q c cs (open_run q cs) e h

closed_by : (q c : ℕ) (cs : List ℕ) (b : Bool) → eqb c q ≡ b → OpenFound q (open_run q cs) cs → ClosedFound q (cond b (more (open_run q cs)) (Some 0)) (c ∷ cs)
closed_by q c cs true e h = let is : c ≡ q = grind (arith, nat_tests) in rw is (closed_quote q cs (open_run q cs) h)
closed_by q c cs false e h = (omega arith, ([], refl), e)

mutual
  open_found : (q : ℕ) (cs : List ℕ) → OpenFound q (open_run q cs) cs
  open_found q [] = tt
  open_found q (c ∷ cs) = open_by q c cs (eqb c q) refl (open_found q cs) (closed_found q cs)

  closed_found : (q : ℕ) (cs : List ℕ) → ClosedFound q (closed_run q cs) cs
  closed_found q [] = (omega arith, ([], refl), refl)
  closed_found q (c ∷ cs) = closed_by q c cs (eqb c q) refl (open_found q cs)

text_found : (o : Option ℕ) (cs : List ℕ) → OpenFound 34 o cs → Found Formula (text_seen o) (34 ∷ cs)
text_found None cs h = tt
text_found (Some n) cs h = (omega arith, subst (λ xs. Spelt Formula (Token kind.Text) (34 ∷ xs)) (sym h.1.1) (text h.1.0), h.2)

quoted_spelt : (n : ℕ) (xs w : List ℕ) → length xs ≡ n → 1 < n → xs ≡ doubled (is_quote 39) w ++ 39 ∷ [] → Spelt Formula (Token kind.Name) (39 ∷ xs)
quoted_spelt n xs [] l h e = let k = ap length e in absurd (omega arith)
quoted_spelt n xs (c ∷ w) l h e = subst (λ ys. Spelt Formula (Token kind.Name) (39 ∷ ys)) (sym e) (quoted_name c w)

quoted_by : (n : ℕ) (cs : List ℕ) (b : Bool) → leb n 1 ≡ b → OpenFound 39 (Some n) cs → Found Formula (cond b None (scanned kind.Name (suc n))) (39 ∷ cs)
quoted_by n cs true e h = tt
quoted_by n cs false e h = let k : 1 < n = grind (arith, nat_tests) in (omega arith, quoted_spelt n (take n cs) h.1.0 (length-take-le n cs h.0) k h.1.1, λ _. h.2)

quoted_found : (o : Option ℕ) (cs : List ℕ) → OpenFound 39 o cs → Found Formula (quoted_seen o) (39 ∷ cs)
quoted_found None cs h = tt
quoted_found (Some n) cs h = quoted_by n cs (leb n 1) refl h

-- comments
abbrev EndFound : Option ℕ → List ℕ → Type 0
EndFound None cs = Unit {0}
EndFound (Some n) cs = (n ≤ length cs) × ((w : List ℕ) × HasNoEnd w × (take n cs ≡ w ++ 42 ∷ 47 ∷ []))

no_end_nil : HasNoEnd []
no_end_nil [] ys e = cc
no_end_nil (x ∷ xs) ys e = cc

no_end_more : (c : ℕ) (w : List ℕ) → (c ≡ 42 → begins_with 47 w ≡ false) → HasNoEnd w → HasNoEnd (c ∷ w)
no_end_more c w f h [] ys e = let g : c ≡ 42 = cc in let k : w ≡ 47 ∷ ys = cc in let m : true ≡ false = sym (ap (begins_with 47) k) ∙ f g in cc
no_end_more c w f h (x ∷ xs) ys e = let k : w ≡ xs ++ 42 ∷ 47 ∷ ys = cc in h xs ys k

begins_same : (w xs ys : List ℕ) → ys ≡ w ++ 42 ∷ 47 ∷ [] → begins_with 47 ys ≡ false → begins_with 47 w ≡ false
begins_same [] xs ys e h = refl
begins_same (c ∷ w) xs ys e h = sym (ap (begins_with 47) e) ∙ h

begins_take : (n : ℕ) (cs : List ℕ) → begins_with 47 cs ≡ false → begins_with 47 (take n cs) ≡ false
begins_take zero cs h = refl
begins_take (suc n) [] h = refl
begins_take (suc n) (c ∷ cs) h = h

end_more : (c : ℕ) (cs : List ℕ) (o : Option ℕ) → (c ≡ 42 → begins_with 47 cs ≡ false) → EndFound o cs → EndFound (more o) (c ∷ cs)
end_more c cs None f h = tt
end_more c cs (Some n) f h = (
  omega arith,
  (c ∷ h.1.0, no_end_more c h.1.0 (λ e. begins_same h.1.0 [] (take n cs) h.1.2 (begins_take n cs (f e))) h.1.1, ap (λ ys. c ∷ ys) h.1.2),
)

slash_ends : (cs : List ℕ) → begins_with 47 cs ≡ true → EndFound (Some 2) (42 ∷ cs)
slash_ends [] e = absurd cc
slash_ends (c ∷ cs) e = let is : c ≡ 47 = grind (arith, nat_tests) in rw is (omega arith, ([], no_end_nil, refl))

end_star : (cs : List ℕ) (b : Bool) → begins_with 47 cs ≡ b → EndFound (comment_run cs) cs → EndFound (cond b (Some 2) (more (comment_run cs))) (42 ∷ cs)
end_star cs true e h = slash_ends cs e
end_star cs false e h = end_more 42 cs (comment_run cs) (λ _. e) h

end_by : (c : ℕ) (cs : List ℕ) (b : Bool) → eqb c 42 ≡ b → EndFound (comment_run cs) cs → EndFound (cond b (cond (begins_with 47 cs) (Some 2) (more (comment_run cs))) (more (comment_run cs))) (c ∷ cs)
end_by c cs true e h = let is : c ≡ 42 = grind (arith, nat_tests) in rw is (end_star cs (begins_with 47 cs) refl h)
end_by c cs false e h = end_more c cs (comment_run cs) (λ f. let k : true ≡ false = sym (ap (λ x. eqb x 42) f) ∙ e in absurd cc) h

end_found : (cs : List ℕ) → EndFound (comment_run cs) cs
end_found [] = tt
end_found (c ∷ cs) = end_by c cs (eqb c 42) refl (end_found cs)

comment_found : (o : Option ℕ) (cs : List ℕ) → EndFound o cs → Found Formula (comment_seen o) (47 ∷ 42 ∷ cs)
comment_found None cs h = tt
comment_found (Some n) cs h = (omega arith, subst (λ xs. Spelt Formula Skip (47 ∷ 42 ∷ xs)) (sym h.1.2) (block_comment h.1.0 h.1.1), tt)

slash_by : (c : ℕ) (cs : List ℕ) (b d : Bool) → eqb c 47 ≡ b → eqb c 42 ≡ d → Found Formula (cond b (Some (Skip, suc (suc (run_length in_line cs)))) (cond d (comment_seen (comment_run cs)) (scanned (kind.Symbol Slash) 1))) (47 ∷ c ∷ cs)
slash_by c cs true d e f = let is : c ≡ 47 = grind (arith, nat_tests) in rw is (omega (arith, run_le in_line cs), line_comment _ (run_every in_line cs), tt)
slash_by c cs false true e f = let is : c ≡ 42 = grind (arith, nat_tests) in rw is (comment_found (comment_run cs) cs (end_found cs))
slash_by c cs false false e f = (omega arith, symbol Slash, f)

slash_found : (cs : List ℕ) → Found Formula (slash_at cs) (47 ∷ cs)
slash_found [] = (omega arith, symbol Slash, refl)
slash_found (c ∷ cs) = slash_by c cs (eqb c 47) (eqb c 42) refl refl

-- symbols
abbrev SymbolFound : Option (Symbol × ℕ) → List ℕ → Type 0
SymbolFound None cs = Unit {0}
SymbolFound (Some r) cs = (r.1 ≤ length cs) × (take r.1 cs ≡ symbol_spelling r.0) × ((xs rest : List ℕ) → IsClosed (Token (kind.Symbol r.0)) xs rest)

choose : (x c : ℕ) (cs : List ℕ) (s r : Option (Symbol × ℕ)) → SymbolFound s (x ∷ cs) → SymbolFound r (c ∷ cs) → SymbolFound (cond (eqb c x) s r) (c ∷ cs)
choose x c cs s r hs hr = by (eqb c x) refl
  where
    by : (b : Bool) → eqb c x ≡ b → SymbolFound (cond b s r) (c ∷ cs)
    by true e = let is : c ≡ x = grind (arith, nat_tests) in rw is hs
    by false e = hr

one : (x : ℕ) (cs : List ℕ) (s : Symbol) → symbol_spelling s ≡ x ∷ [] → ((xs rest : List ℕ) → IsClosed (Token (kind.Symbol s)) xs rest) → SymbolFound (Some (s, 1)) (x ∷ cs)
one x cs s e h = (omega arith, sym e, h)

two : (x y : ℕ) (cs : List ℕ) (s : Symbol) (o : Option (Symbol × ℕ)) → symbol_spelling s ≡ x ∷ y ∷ [] → ((xs rest : List ℕ) → IsClosed (Token (kind.Symbol s)) xs rest) → SymbolFound o (x ∷ cs) → SymbolFound (cond (begins_with y cs) (Some (s, 2)) o) (x ∷ cs)
two x y [] s o e h k = k
two x y (c ∷ cs) s o e h k = by (eqb c y) refl
  where
    by : (b : Bool) → eqb c y ≡ b → SymbolFound (cond b (Some (s, 2)) o) (x ∷ c ∷ cs)
    by true f = let is : c ≡ y = grind (arith, nat_tests) in (omega arith, ap (λ z. x ∷ z ∷ []) is ∙ sym e, h)
    by false f = k

symbol_found : (c : ℕ) (cs : List ℕ) → SymbolFound (symbol_at c cs) (c ∷ cs)
symbol_found c cs =
    choose 40 c cs _ _ (one 40 cs OpenParen refl (λ _ _. tt))
    (choose 41 c cs _ _ (one 41 cs CloseParen refl (λ _ _. tt))
    (choose 123 c cs _ _ (one 123 cs OpenBrace refl (λ _ _. tt))
    (choose 125 c cs _ _ (one 125 cs CloseBrace refl (λ _ _. tt))
    (choose 91 c cs _ _ (two 91 64 cs OpenBracketAt _ refl (λ _ _. tt) (one 91 cs OpenBracket refl (λ _ _. tt)))
    (choose 93 c cs _ _ (one 93 cs CloseBracket refl (λ _ _. tt))
    (choose 44 c cs _ _ (one 44 cs Comma refl (λ _ _. tt))
    (choose 59 c cs _ _ (one 59 cs Semicolon refl (λ _ _. tt))
    (choose 58 c cs _ _ (one 58 cs Colon refl (λ _ _. tt))
    (choose 46 c cs _ _ (one 46 cs Dot refl (λ _ _. tt))
    (choose 43 c cs _ _ (one 43 cs Plus refl (λ _ _. tt))
    (choose 45 c cs _ _ (one 45 cs Minus refl (λ _ _. tt))
    (choose 42 c cs _ _ (one 42 cs Star refl (λ _ _. tt))
    (choose 94 c cs _ _ (one 94 cs Caret refl (λ _ _. tt))
    (choose 37 c cs _ _ (one 37 cs Percent refl (λ _ _. tt))
    (choose 38 c cs _ _ (two 38 38 cs DoubleAmpersand _ refl (λ _ _. tt) (one 38 cs Ampersand refl (λ _ _. tt)))
    (choose 124 c cs _ _ (two 124 124 cs DoubleBar None refl (λ _ _. tt) tt)
    (choose 33 c cs _ _ (one 33 cs Bang refl (λ _ _. tt))
    (choose 61 c cs _ _ (one 61 cs Equal refl (λ _ _. tt))
    (choose 60 c cs _ _ (two 60 61 cs LessEqual _ refl (λ _ _. tt) (two 60 62 cs NotEqual _ refl (λ _ _. tt) (one 60 cs Less refl (λ _ _. tt))))
    (choose 62 c cs _ _ (two 62 61 cs GreaterEqual _ refl (λ _ _. tt) (one 62 cs Greater refl (λ _ _. tt)))
    tt))))))))))))))))))))

symbol_seen_found : (o : Option (Symbol × ℕ)) (cs : List ℕ) → SymbolFound o cs → Found Formula (symbol_seen o) cs
symbol_seen_found None cs h = tt
symbol_seen_found (Some r) cs h = (h.0, subst (λ xs. Spelt Formula (Token (kind.Symbol r.0)) xs) (sym h.1) (symbol r.0), h.2 _ _)

-- weave openings
dollar_found : (cs : List ℕ) → Found Formula (cond (begins_with 34 cs) (scanned kind.Opening 2) None) (36 ∷ cs)
dollar_found [] = tt
dollar_found (c ∷ cs) = by (eqb c 34) refl
  where
    by : (b : Bool) → eqb c 34 ≡ b → Found Formula (cond b (scanned kind.Opening 2) None) (36 ∷ c ∷ cs)
    by true e = let is : c ≡ 34 = grind (arith, nat_tests) in rw is (omega arith, opening, tt)
    by false e = tt

choose_other : (x c : ℕ) (cs : List ℕ) (s r : ScannedElement) → Found Formula s (x ∷ cs) → Found Formula r (c ∷ cs) → Found Formula (cond (eqb c x) s r) (c ∷ cs)
choose_other x c cs s r hs hr = by (eqb c x) refl
  where
    by : (b : Bool) → eqb c x ≡ b → Found Formula (cond b s r) (c ∷ cs)
    by true e = let is : c ≡ x = grind (arith, nat_tests) in rw is hs
    by false e = hr

other_found : (c : ℕ) (cs : List ℕ) → Found Formula (other_at c cs) (c ∷ cs)
other_found c cs =
    choose_other 34 c cs _ _ (text_found (open_run 34 cs) cs (open_found 34 cs))
    (choose_other 39 c cs _ _ (quoted_found (open_run 39 cs) cs (open_found 39 cs))
    (choose_other 47 c cs _ _ (slash_found cs)
    (choose_other 36 c cs _ _ (dollar_found cs)
    (symbol_seen_found (symbol_at c cs) (c ∷ cs) (symbol_found c cs)))))

-- names and words
abbrev WordFound : Option Word → List ℕ → Type 0
WordFound None xs = Unit {0}
WordFound (Some w) xs = xs ≡ word_spelling w

letter : (x c : ℕ) (f : ℕ → List ℕ) (o r : Option Word) → WordFound o (f x) → WordFound r (f c) → WordFound (cond (eqb c x) o r) (f c)
letter x c f o r ho hr = by (eqb c x) refl
  where
    by : (b : Bool) → eqb c x ≡ b → WordFound (cond b o r) (f c)
    by true e = let is : c ≡ x = grind (arith, nat_tests) in rw is ho
    by false e = hr

word_found : (xs : List ℕ) → WordFound (word_at xs) xs
word_found [] = tt
word_found (a ∷ []) = tt
word_found (a ∷ b ∷ []) =
    letter 79 a (λ a. a ∷ b ∷ []) _ _ (letter 114 b (λ b. 79 ∷ b ∷ []) _ _ refl tt)
    (letter 105 a (λ a. a ∷ b ∷ []) _ _ (letter 110 b (λ b. 105 ∷ b ∷ []) _ _ refl tt)
    (letter 65 a (λ a. a ∷ b ∷ []) _ None (letter 115 b (λ b. 65 ∷ b ∷ []) _ _ refl tt) tt))
word_found (a ∷ b ∷ c ∷ []) =
    letter 65 a (λ a. a ∷ b ∷ c ∷ []) _ _ (letter 110 b (λ b. 65 ∷ b ∷ c ∷ []) _ None (letter 100 c (λ c. 65 ∷ 110 ∷ c ∷ []) _ None refl tt) tt)
    (letter 78 a (λ a. a ∷ b ∷ c ∷ []) _ None (letter 111 b (λ b. 78 ∷ b ∷ c ∷ []) _ None (letter 116 c (λ c. 78 ∷ 111 ∷ c ∷ []) _ None refl tt) tt) tt)
word_found (a ∷ b ∷ c ∷ d ∷ []) =
    letter 116 a (λ a. a ∷ b ∷ c ∷ d ∷ []) _ None (letter 114 b (λ b. 116 ∷ b ∷ c ∷ d ∷ []) _ None (letter 117 c (λ c. 116 ∷ 114 ∷ c ∷ d ∷ []) _ None (letter 101 d (λ d. 116 ∷ 114 ∷ 117 ∷ d ∷ []) _ None refl tt) tt) tt) tt
word_found (a ∷ b ∷ c ∷ d ∷ e ∷ []) =
    letter 102 a (λ a. a ∷ b ∷ c ∷ d ∷ e ∷ []) _ None (letter 97 b (λ b. 102 ∷ b ∷ c ∷ d ∷ e ∷ []) _ None (letter 108 c (λ c. 102 ∷ 97 ∷ c ∷ d ∷ e ∷ []) _ None (letter 115 d (λ d. 102 ∷ 97 ∷ 108 ∷ d ∷ e ∷ []) _ None (letter 101 e (λ e. 102 ∷ 97 ∷ 108 ∷ 115 ∷ e ∷ []) _ None refl tt) tt) tt) tt) tt
word_found (a ∷ b ∷ c ∷ d ∷ e ∷ f ∷ []) = tt
word_found (a ∷ b ∷ c ∷ d ∷ e ∷ f ∷ g ∷ []) =
    letter 101 a (λ a. a ∷ b ∷ c ∷ d ∷ e ∷ f ∷ g ∷ []) _ None (letter 120 b (λ b. 101 ∷ b ∷ c ∷ d ∷ e ∷ f ∷ g ∷ []) _ None (letter 97 c (λ c. 101 ∷ 120 ∷ c ∷ d ∷ e ∷ f ∷ g ∷ []) _ None (letter 99 d (λ d. 101 ∷ 120 ∷ 97 ∷ d ∷ e ∷ f ∷ g ∷ []) _ None (letter 116 e (λ e. 101 ∷ 120 ∷ 97 ∷ 99 ∷ e ∷ f ∷ g ∷ []) _ None (letter 105 f (λ f. 101 ∷ 120 ∷ 97 ∷ 99 ∷ 116 ∷ f ∷ g ∷ []) _ None (letter 110 g (λ g. 101 ∷ 120 ∷ 97 ∷ 99 ∷ 116 ∷ 105 ∷ g ∷ []) _ None refl tt) tt) tt) tt) tt) tt) tt
word_found (a ∷ b ∷ c ∷ d ∷ e ∷ f ∷ g ∷ h ∷ cs) = tt

word_is : (w : Word) → word_at (word_spelling w) ≡ Some w
word_is words.And = refl
word_is words.Or = refl
word_is words.Not = refl
word_is words.In = refl
word_is words.ExactIn = refl
word_is words.As = refl
word_is words.True = refl
word_is words.False = refl

-- which kind a name is
abbrev pub IsKindOf : Option Word → List ℕ → Type 0
IsKindOf None xs = (w : Word) → xs ≢ word_spelling w
IsKindOf (Some w) xs = xs ≡ word_spelling w

pub kind_of : (xs : List ℕ) → IsKindOf (word_at xs) xs
kind_of xs = by (word_at xs) refl (word_found xs)
  where
    by : (o : Option Word) → word_at xs ≡ o → WordFound o xs → IsKindOf o xs
    by None e h = λ w f. let g : None ≡ Some w = sym e ∙ ap word_at f ∙ word_is w in absurd cc
    by (Some w) e h = h

letter_no_quote : (c : ℕ) → class_at c ≡ Letter → eqb c 39 ≡ true → ⊥
unfolding class_at
letter_no_quote c e f = let is : c ≡ 39 = grind (arith, nat_tests) in let g : Other ≡ Letter = sym (ap class_at is) ∙ e in absurd cc

name_by : (c : ℕ) (cs : List ℕ) (n : ℕ) (o : Option Word) → class_at c ≡ Letter → n ≤ length cs → Every in_name (take n cs) → IsKindOf o (c ∷ take n cs) → Found Formula (scanned (name_kind o) (suc n)) (c ∷ cs)
name_by c cs n None e l h k = (omega arith, name c (take n cs) e h k, λ f. absurd (letter_no_quote c e f))
name_by c cs n (Some w) e l h k = (omega arith, subst (λ xs. Spelt Formula (Token (kind.Word w)) xs) (sym k) (word w), tt)

name_found : (c : ℕ) (cs : List ℕ) → class_at c ≡ Letter → Found Formula (name_scanned (c ∷ cs) (suc (run_length in_name cs))) (c ∷ cs)
name_found c cs e = name_by c cs (run_length in_name cs) (word_at (c ∷ take (run_length in_name cs) cs)) e (run_le in_name cs) (run_every in_name cs) (kind_of (c ∷ take (run_length in_name cs) cs))

found_by : (k : Class) (c : ℕ) (cs : List ℕ) → class_at c ≡ k → Found Formula (by_class k c cs) (c ∷ cs)
found_by White c cs e = (omega arith, white c e, tt)
found_by Digit c cs e = (omega (arith, (number_tail cs).0), number_spelt c _ e (number_tail cs).1, tt)
found_by Letter c cs e = name_found c cs e
found_by Other c cs e = other_found c cs

formula_found : (cs : List ℕ) → Found Formula (formula_at cs) cs
formula_found [] = tt
formula_found (c ∷ cs) = found_by (class_at c) c cs refl

-- in a weave's text
abbrev PieceFound : ℕ → List ℕ → Type 0
PieceFound n cs = (n ≤ length cs) × ((w : List ℕ) × (take n cs ≡ doubled is_mark w))

mark_by : (m c : ℕ) (cs : List ℕ) (b : Bool) → is_mark m ≡ true → eqb c m ≡ b → PieceFound (weave_run cs) cs → PieceFound (cond b (suc (suc (weave_run cs))) 0) (m ∷ c ∷ cs)
mark_by m c cs true h e k = let is : c ≡ m = grind (arith, nat_tests) in (omega arith, (m ∷ k.1.0, rw (h, is) (ap (λ ys. m ∷ m ∷ ys) k.1.1)))
mark_by m c cs false h e k = (omega arith, ([], refl))

mutual
  weave_found : (cs : List ℕ) → PieceFound (weave_run cs) cs
  weave_found [] = (omega arith, ([], refl))
  weave_found (c ∷ cs) = by (is_mark c) refl (weave_found cs) (mark_found c cs)
    where
      by : (b : Bool) → is_mark c ≡ b → PieceFound (weave_run cs) cs → (is_mark c ≡ true → PieceFound (mark_run c cs) (c ∷ cs)) → PieceFound (cond b (mark_run c cs) (suc (weave_run cs))) (c ∷ cs)
      by true e h k = k e
      by false e h k = (omega arith, (c ∷ h.1.0, rw e (ap (λ ys. c ∷ ys) h.1.1)))

  mark_found : (m : ℕ) (cs : List ℕ) → is_mark m ≡ true → PieceFound (mark_run m cs) (m ∷ cs)
  mark_found m [] h = (omega arith, ([], refl))
  mark_found m (c ∷ cs) h = mark_by m c cs (eqb c m) h refl (weave_found cs)

mark_at_found : (cs : List ℕ) → Found Weave (mark_scanned cs) cs
mark_at_found [] = tt
mark_at_found (c ∷ cs) = by (eqb c 34) (eqb c 123) refl refl
  where
    by : (b d : Bool) → eqb c 34 ≡ b → eqb c 123 ≡ d → Found Weave (cond b (scanned kind.Closing 1) (cond d (scanned (kind.Symbol OpenBrace) 1) None)) (c ∷ cs)
    by true d e f = let is : c ≡ 34 = grind (arith, nat_tests) in rw is (omega arith, closing, tt)
    by false true e f = let is : c ≡ 123 = grind (arith, nat_tests) in rw is (omega arith, island, tt)
    by false false e f = tt

piece_spelt : (xs w : List ℕ) → 0 < length xs → xs ≡ doubled is_mark w → Spelt Weave (Token kind.Piece) xs
piece_spelt xs [] l e = let k = ap length e in absurd (omega arith)
piece_spelt xs (c ∷ w) l e = subst (λ ys. Spelt Weave (Token kind.Piece) ys) (sym e) (piece c w)

weave_by_found : (n : ℕ) (cs : List ℕ) → PieceFound n cs → Found Weave (weave_by n cs) cs
weave_by_found zero cs h = mark_at_found cs
weave_by_found (suc n) cs h = (h.0, piece_spelt _ h.1.0 (omega (arith, length-take-le (suc n) cs h.0)) h.1.1, tt)

pub found : (mode : Mode) (cs : List ℕ) → Found mode (element_at mode cs) cs
found Formula cs = formula_found cs
found Weave cs = weave_by_found (weave_run cs) cs (weave_found cs)
