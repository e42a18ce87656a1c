-- Texts read as tokens from behind: one token or space more in front of what is read already.
use Rattle.std.proofs.Common.{◌≡◌, ◌≢◌, ℕ, suc, ◌+◌, Bool, true, false, ◌&&◌, not, List, [], ◌∷◌, ◌++◌, cond, refl, ap, sym, ◌∙◌, subst, Option, Some, None, eqb, eqb-true}
use Rattle.fx_lexer.specs.declared.token.Symbol.{Symbol}
use Rattle.fx_lexer.specs.declared.token.Symbol.TheVariants as symbol
use Rattle.fx_lexer.specs.declared.token.Word.{Word}
use Rattle.fx_lexer.specs.declared.token.Word.TheVariants as word
use Rattle.fx_lexer.specs.declared.token.TokenKind.{TokenKind}
use Rattle.fx_lexer.specs.declared.token.TokenKind.TheVariants as kind
use Rattle.fx_lexer.specs.declared.element.Class.{Class}
use Rattle.fx_lexer.specs.declared.element.Class.TheVariants.{White, Digit, Letter, Other}
use Rattle.fx_lexer.specs.declared.element.Element.{Element}
use Rattle.fx_lexer.specs.declared.element.Element.TheVariants.{Skip, Token}
use Rattle.fx_lexer.specs.declared.element.Enclosing.{Enclosing}
use Rattle.fx_lexer.specs.declared.element.Enclosing.TheVariants as around
use Rattle.fx_lexer.specs.declared.element.Mode.TheVariants.{Formula}
use Rattle.fx_lexer.specs.Spelling.{class_at, goes_on_number, in_name, in_number, is_mark, doubled, begins_with, Every, word_spelling, symbol_spelling, IsElement}
use Rattle.fx_lexer.specs.Lexed.{Lexeme, width, mode_in, enclosing_after, LexesTo, stop, skip, token}
use Rattle.fx_lexer.specs.Scan.{run_length, number_run, weave_run, word_at}
use Rattle.fx_grammar.specs.declared.item.Item.{Item}
use Rattle.fx_grammar.specs.declared.item.Meaning.{Meaning}
use Rattle.fx_grammar.specs.declared.item.Meaning.TheVariants as m
use Rattle.fx_grammar.specs.Means.{between_quotes, item, TokenMeans, AllMean, no_more, one_more}
use Rattle.fx_grammar.specs.Means as means
use Rattle.fx_grammar.proofs.Spoken.{quote_class}
use Rattle.fx_lexer.proofs.Follows.{SymbolEnds, symbol_before, word_before, name_before, quoted_name_before, text_before, space_before, opening_before, closing_before, island_before, piece_before}
use Rattle.fx_lexer.proofs.Texts.{both}
use Rattle.fx_parser.specs.Printing.{begins_name, all_in_name, is_some_word, is_plain_name, name_text}

-- From this byte, in es, the characters are read to their end as these tokens.
pub record Shows (es : List Enclosing) (at : ℕ) (cs : List ℕ) (xs : List Item) : Type 0 where
  pub lexemes : List Lexeme
  pub marks : List Enclosing
  pub upto : ℕ
  pub reads : LexesTo es at cs lexemes marks upto []
  pub mean : AllMean lexemes xs

-- the same from each byte
abbrev pub Rest : List Enclosing → List ℕ → (ℕ → List Item) → Type 0
Rest es cs n = (at : ℕ) → Shows es at cs (n at)

-- a token with this text and meaning
abbrev pub tok : TokenKind → List ℕ → Meaning → ℕ → Item
tok k xs g at = item (record { kind = k; at = at; text = xs }) g

pub at_end : (es : List Enclosing) → Rest es [] (λ at. [])
at_end es at = record { lexemes = []; marks = es; upto = at; reads = stop es at []; mean = no_more }

pub token_then : (es fs : List Enclosing) (k : TokenKind) (xs cs : List ℕ) (g : Meaning) (n : ℕ → List Item) → IsElement (mode_in es) (Token k) xs cs → enclosing_after k es ≡ fs
    → ((at : ℕ) → TokenMeans (record { kind = k; at = at; text = xs }) (tok k xs g at)) → Rest fs cs n → Rest es (xs ++ cs) (λ at. tok k xs g at ∷ n (at + width xs))
token_then es fs k xs cs g n p e means r at =
    let l : Lexeme = record { kind = k; at = at; text = xs } in
    let f = r (at + width xs) in
    record {
      lexemes = l ∷ f.lexemes;
      marks = f.marks;
      upto = f.upto;
      reads = token es at k xs cs f.lexemes f.marks f.upto [] p (subst (λ x. LexesTo x (at + width xs) cs f.lexemes f.marks f.upto []) (sym e) f.reads);
      mean = one_more l (tok k xs g at) f.lexemes (n (at + width xs)) (means at) f.mean;
    }

pub in_formula : (es : List Enclosing) (e : Element) (xs cs : List ℕ) → mode_in es ≡ Formula → IsElement Formula e xs cs → IsElement (mode_in es) e xs cs
in_formula es e xs cs h p = subst (λ x. IsElement x e xs cs) (sym h) p

pub space_then : (es : List Enclosing) (cs : List ℕ) (n : ℕ → List Item) → mode_in es ≡ Formula → Rest es cs n → Rest es (32 ∷ cs) (λ at. n (at + width (32 ∷ [])))
space_then es cs n h r at =
    let f = r (at + width (32 ∷ [])) in
    record {
      lexemes = f.lexemes;
      marks = f.marks;
      upto = f.upto;
      reads = skip es at (32 ∷ []) cs f.lexemes f.marks f.upto [] (in_formula es Skip (32 ∷ []) cs h (space_before cs)) f.reads;
      mean = f.mean;
    }

pub sign_then : (s : Symbol) (es fs : List Enclosing) (cs : List ℕ) (n : ℕ → List Item) → mode_in es ≡ Formula → enclosing_after (kind.Symbol s) es ≡ fs → SymbolEnds s cs → Rest fs cs n
    → Rest es (symbol_spelling s ++ cs) (λ at. tok (kind.Symbol s) (symbol_spelling s) (m.Symbol s) at ∷ n (at + width (symbol_spelling s)))
sign_then s es fs cs n h e ends r = token_then es fs (kind.Symbol s) (symbol_spelling s) cs (m.Symbol s) n (in_formula es (Token (kind.Symbol s)) (symbol_spelling s) cs h (symbol_before s cs ends)) e (λ at. means.symbol (record { kind = kind.Symbol s; at = at; text = symbol_spelling s }) s refl) r

pub word_then : (w : Word) (es : List Enclosing) (cs : List ℕ) (n : ℕ → List Item) → mode_in es ≡ Formula → run_length in_name cs ≡ 0 → Rest es cs n
    → Rest es (word_spelling w ++ cs) (λ at. tok (kind.Word w) (word_spelling w) (m.Word w) at ∷ n (at + width (word_spelling w)))
word_then w es cs n h ends r = token_then es es (kind.Word w) (word_spelling w) cs (m.Word w) n (in_formula es (Token (kind.Word w)) (word_spelling w) cs h (word_before w cs ends)) refl (λ at. means.word (record { kind = kind.Word w; at = at; text = word_spelling w }) w refl) r

-- What follows a formula goes on with no name, number, text or quoted name.
pub record Safe (k : List ℕ) : Type 0 where
  pub name : run_length in_name k ≡ 0
  pub number : number_run k ≡ 0
  pub text : begins_with 34 k ≡ false
  pub quote : begins_with 39 k ≡ false

pub safe_end : Safe []
safe_end = record { name = refl; number = refl; text = refl; quote = refl }

pub safe_space : (k : List ℕ) → Safe (32 ∷ k)
unfolding class_at
safe_space k = record { name = refl; number = refl; text = refl; quote = refl }

pub safe_open : (k : List ℕ) → Safe (40 ∷ k)
unfolding class_at
safe_open k = record { name = refl; number = refl; text = refl; quote = refl }

pub safe_close : (k : List ℕ) → Safe (41 ∷ k)
unfolding class_at
safe_close k = record { name = refl; number = refl; text = refl; quote = refl }

pub safe_comma : (k : List ℕ) → Safe (44 ∷ k)
unfolding class_at
safe_comma k = record { name = refl; number = refl; text = refl; quote = refl }

pub safe_colon : (k : List ℕ) → Safe (58 ∷ k)
unfolding class_at
safe_colon k = record { name = refl; number = refl; text = refl; quote = refl }

pub safe_semicolon : (k : List ℕ) → Safe (59 ∷ k)
unfolding class_at
safe_semicolon k = record { name = refl; number = refl; text = refl; quote = refl }

pub safe_bracket : (k : List ℕ) → Safe (93 ∷ k)
unfolding class_at
safe_bracket k = record { name = refl; number = refl; text = refl; quote = refl }

pub safe_brace : (k : List ℕ) → Safe (125 ∷ k)
unfolding class_at
safe_brace k = record { name = refl; number = refl; text = refl; quote = refl }

pub safe_percent : (k : List ℕ) → Safe (37 ∷ k)
unfolding class_at
safe_percent k = record { name = refl; number = refl; text = refl; quote = refl }

pub safe_dot : (k : List ℕ) → run_length in_number k ≡ 0 → Safe (46 ∷ k)
unfolding class_at
safe_dot k h = record { name = refl; number = rw h refl; text = refl; quote = refl }

letter_is : (k : Class) → begins_name k ≡ true → k ≡ Letter
letter_is White e = cc
letter_is Digit e = cc
letter_is Letter e = refl
letter_is Other e = cc

every_name : (cs : List ℕ) → all_in_name cs ≡ true → Every in_name cs
every_name [] e = tt
every_name (c ∷ cs) e = let h = both (in_name c) (all_in_name cs) e in (h.0, every_name cs h.1)

no_some_word : (o : Option Word) → not (is_some_word o) ≡ true → o ≡ None
no_some_word None e = refl
no_some_word (Some w) e = cc

word_is : (w : Word) → word_at (word_spelling w) ≡ Some w
word_is word.And = refl
word_is word.Or = refl
word_is word.Not = refl
word_is word.In = refl
word_is word.ExactIn = refl
word_is word.As = refl
word_is word.True = refl
word_is word.False = refl

not_word : (cs : List ℕ) → word_at cs ≡ None → (w : Word) → cs ≢ word_spelling w
not_word cs h w e = let g : ◌≡◌ {A = Option Word} None (Some w) = sym h ∙ ap word_at e ∙ word_is w in absurd cc

no_quote : (c : ℕ) → class_at c ≡ Letter → eqb c 39 ≡ false
no_quote c h = by (eqb c 39) refl
  where
    by : (b : Bool) → eqb c 39 ≡ b → b ≡ false
    by true e = let g = sym h ∙ ap class_at (eqb-true c 39 e) ∙ quote_class in absurd cc
    by false e = refl

-- no digit begins a name
digitless : (k : Class) → k ≡ Letter → (n : ℕ) → cond (goes_on_number k) n 0 ≡ 0
digitless k e n = rw e refl

pub name_then : (es : List Enclosing) (c : ℕ) (cs k : List ℕ) (n : ℕ → List Item) → mode_in es ≡ Formula → Safe k → Rest es k n
    → Rest es (name_text (c ∷ cs) ++ k) (λ at. tok kind.Name (name_text (c ∷ cs)) (m.Name (c ∷ cs)) at ∷ n (at + width (name_text (c ∷ cs))))
name_then es c cs k n h s r = by (is_plain_name (c ∷ cs)) refl
  where
    by : (b : Bool) → is_plain_name (c ∷ cs) ≡ b
        → Rest es (cond b (c ∷ cs) (between_quotes 39 (c ∷ cs)) ++ k) (λ at. tok kind.Name (cond b (c ∷ cs) (between_quotes 39 (c ∷ cs))) (m.Name (c ∷ cs)) at ∷ n (at + width (cond b (c ∷ cs) (between_quotes 39 (c ∷ cs)))))
    by true e =
        let p = both (begins_name (class_at c)) (all_in_name cs && not (is_some_word (word_at (c ∷ cs)))) e in
        let q = both (all_in_name cs) (not (is_some_word (word_at (c ∷ cs)))) p.1 in
        let l = letter_is (class_at c) p.0 in
        token_then es es kind.Name (c ∷ cs) k (m.Name (c ∷ cs)) n
        (in_formula es (Token kind.Name) (c ∷ cs) k h (name_before c cs k l (every_name cs q.0) (not_word (c ∷ cs) (no_some_word (word_at (c ∷ cs)) q.1)) s.name))
        refl (λ at. means.plain_name (record { kind = kind.Name; at = at; text = c ∷ cs }) refl (no_quote c l)) r
    by false e =
        token_then es es kind.Name (between_quotes 39 (c ∷ cs)) k (m.Name (c ∷ cs)) n
        (in_formula es (Token kind.Name) (between_quotes 39 (c ∷ cs)) k h (quoted_name_before c cs k s.quote))
        refl (λ at. means.quoted_name (record { kind = kind.Name; at = at; text = between_quotes 39 (c ∷ cs) }) (c ∷ cs) refl refl) r

quote_no_digit : (cs : List ℕ) → run_length in_number (39 ∷ cs) ≡ 0
unfolding class_at
quote_no_digit cs = refl

-- a name begins with no digit
pub name_no_digit : (c : ℕ) (cs k : List ℕ) → run_length in_number (name_text (c ∷ cs) ++ k) ≡ 0
name_no_digit c cs k = by (is_plain_name (c ∷ cs)) refl
  where
    by : (b : Bool) → is_plain_name (c ∷ cs) ≡ b → run_length in_number (cond b (c ∷ cs) (between_quotes 39 (c ∷ cs)) ++ k) ≡ 0
    by true e =
        let p = both (begins_name (class_at c)) (all_in_name cs && not (is_some_word (word_at (c ∷ cs)))) e in
        digitless (class_at c) (letter_is (class_at c) p.0) (suc (run_length in_number (cs ++ k)))
    by false e = quote_no_digit _

pub text_then : (es : List Enclosing) (cs k : List ℕ) (n : ℕ → List Item) → mode_in es ≡ Formula → Safe k → Rest es k n
    → Rest es (between_quotes 34 cs ++ k) (λ at. tok kind.Text (between_quotes 34 cs) (m.Text cs) at ∷ n (at + width (between_quotes 34 cs)))
text_then es cs k n h s r = token_then es es kind.Text (between_quotes 34 cs) k (m.Text cs) n (in_formula es (Token kind.Text) (between_quotes 34 cs) k h (text_before cs k s.text)) refl (λ at. means.text (record { kind = kind.Text; at = at; text = between_quotes 34 cs }) cs refl refl) r

-- weaves
pub opening_then : (es : List Enclosing) (cs : List ℕ) (n : ℕ → List Item) → mode_in es ≡ Formula → Rest (around.Weave ∷ es) cs n
    → Rest es (36 ∷ 34 ∷ cs) (λ at. tok kind.Opening (36 ∷ 34 ∷ []) m.Opening at ∷ n (at + width (36 ∷ 34 ∷ [])))
opening_then es cs n h r = token_then es (around.Weave ∷ es) kind.Opening (36 ∷ 34 ∷ []) cs m.Opening n (in_formula es (Token kind.Opening) (36 ∷ 34 ∷ []) cs h (opening_before cs)) refl (λ at. means.opening (record { kind = kind.Opening; at = at; text = 36 ∷ 34 ∷ [] }) refl) r

pub closing_then : (es : List Enclosing) (cs : List ℕ) (n : ℕ → List Item) → begins_with 34 cs ≡ false → Rest es cs n
    → Rest (around.Weave ∷ es) (34 ∷ cs) (λ at. tok kind.Closing (34 ∷ []) m.Closing at ∷ n (at + width (34 ∷ [])))
closing_then es cs n h r = token_then (around.Weave ∷ es) es kind.Closing (34 ∷ []) cs m.Closing n (closing_before cs h) refl (λ at. means.closing (record { kind = kind.Closing; at = at; text = 34 ∷ [] }) refl) r

pub island_then : (es : List Enclosing) (cs : List ℕ) (n : ℕ → List Item) → begins_with 123 cs ≡ false → Rest (around.Brace ∷ around.Weave ∷ es) cs n
    → Rest (around.Weave ∷ es) (123 ∷ cs) (λ at. tok (kind.Symbol symbol.OpenBrace) (123 ∷ []) (m.Symbol symbol.OpenBrace) at ∷ n (at + width (123 ∷ [])))
island_then es cs n h r = token_then (around.Weave ∷ es) (around.Brace ∷ around.Weave ∷ es) (kind.Symbol symbol.OpenBrace) (123 ∷ []) cs (m.Symbol symbol.OpenBrace) n (island_before cs h) refl (λ at. means.symbol (record { kind = kind.Symbol symbol.OpenBrace; at = at; text = 123 ∷ [] }) symbol.OpenBrace refl) r

pub piece_then : (es : List Enclosing) (c : ℕ) (w cs : List ℕ) (n : ℕ → List Item) → weave_run cs ≡ 0 → Rest (around.Weave ∷ es) cs n
    → Rest (around.Weave ∷ es) (doubled is_mark (c ∷ w) ++ cs) (λ at. tok kind.Piece (doubled is_mark (c ∷ w)) (m.Piece (c ∷ w)) at ∷ n (at + width (doubled is_mark (c ∷ w))))
piece_then es c w cs n h r = token_then (around.Weave ∷ es) (around.Weave ∷ es) kind.Piece (doubled is_mark (c ∷ w)) cs (m.Piece (c ∷ w)) n (piece_before c w cs h) refl (λ at. means.piece (record { kind = kind.Piece; at = at; text = doubled is_mark (c ∷ w) }) (c ∷ w) refl refl) r
