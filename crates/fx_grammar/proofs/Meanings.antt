-- Tokens mean one thing at most.
use Rattle.std.proofs.Common.{◌≡◌, ℕ, true, false, List, [], ◌∷◌, Option, Some, refl, ap, sym, ◌∙◌, subst, arith, true≢false}
use Rattle.std.specs.Prelude.{ℤ, pos, ◌⊎◌}
use Rattle.std.proofs.Common.{inl, inr}
use Rattle.std.proofs.lemmas.Bool.Decides.{nat_tests}
use Rattle.fx_number.specs.Spelling.{IsDecimal, decimal_units}
use Rattle.fx_number.proofs.LeftToRight.{spelled-Spells}
use Rattle.fx_number.proofs.Written.{Spells-decimal}
use Rattle.fx_lexer.specs.Spelling.{doubled, is_mark, begins_with}
use Rattle.fx_lexer.specs.Lexed.{Lexeme}
use Rattle.fx_lexer.specs.declared.token.TokenKind.{TokenKind}
use Rattle.fx_lexer.specs.declared.token.TokenKind.TheVariants as kind
use Rattle.fx_grammar.specs.declared.item.Item.{Item}
use Rattle.fx_grammar.specs.declared.item.Meaning.TheVariants as m
use Rattle.fx_grammar.specs.Means.{between_quotes, item, TokenMeans, number, text, plain_name, quoted_name, word, symbol, opening, closing, piece, AllMean, no_more, one_more}
use Rattle.fx_core.specs.Tree.{Tree}
use Rattle.fx_lexer.proofs.Readings.{lexemes_one}
use Rattle.fx_grammar.specs.Grammar.{IsFormula}
use Rattle.fx_grammar.specs.Formulas.{HasItems, HasTree}
use Rattle.fx_grammar.proofs.Formula.{one_tree}
use Rattle.fx_grammar.proofs.Doubling.{one_doubled, one_quoted}

-- what a token of this kind means
abbrev MeansAs : TokenKind → Lexeme → Item → Type 0
MeansAs kind.Number l x = (ds es : List ℕ) × IsDecimal l.text ds es × (x ≡ item l (m.Number (pos (decimal_units ds es))))
MeansAs kind.Text l x = (cs : List ℕ) × (l.text ≡ between_quotes 34 cs) × (x ≡ item l (m.Text cs))
MeansAs kind.Name l x = ((begins_with 39 l.text ≡ false) × (x ≡ item l (m.Name l.text))) ⊎ ((cs : List ℕ) × (l.text ≡ between_quotes 39 cs) × (x ≡ item l (m.Name cs)))
MeansAs (kind.Word w) l x = x ≡ item l (m.Word w)
MeansAs (kind.Symbol s) l x = x ≡ item l (m.Symbol s)
MeansAs kind.Opening l x = x ≡ item l m.Opening
MeansAs kind.Closing l x = x ≡ item l m.Closing
MeansAs kind.Piece l x = (cs : List ℕ) × (l.text ≡ doubled is_mark cs) × (x ≡ item l (m.Piece cs))

as_kind : (l : Lexeme) (x : Item) (k j : TokenKind) → l.kind ≡ k → l.kind ≡ j → MeansAs k l x → MeansAs j l x
as_kind l x k j e f h = subst (λ (i : TokenKind). MeansAs i l x) (sym e ∙ f) h

means_as : {l : Lexeme} {x : Item} → TokenMeans l x → (k : TokenKind) → l.kind ≡ k → MeansAs k l x
means_as (number l ds es e f b) k g = as_kind l _ _ k e g (ds, es, f, refl)
means_as (text l cs e f) k g = as_kind l _ _ k e g (cs, f, refl)
means_as (plain_name l e f) k g = as_kind l _ _ k e g (inl (f, refl))
means_as (quoted_name l cs e f) k g = as_kind l _ _ k e g (inr (cs, f, refl))
means_as (word l w e) k g = as_kind l _ _ k e g refl
means_as (symbol l s e) k g = as_kind l _ _ k e g refl
means_as (opening l e) k g = as_kind l _ _ k e g refl
means_as (closing l e) k g = as_kind l _ _ k e g refl
means_as (piece l cs e f) k g = as_kind l _ _ k e g (cs, f, refl)

one_number : (cs ds es fs gs : List ℕ) → IsDecimal cs ds es → IsDecimal cs fs gs → pos (decimal_units ds es) ≡ pos (decimal_units fs gs)
one_number cs ds es fs gs p q =
    let f : ◌≡◌ {A = Option ℤ} (Some (pos (decimal_units ds es))) (Some (pos (decimal_units fs gs))) = sym (spelled-Spells cs _ (Spells-decimal cs ds es p)) ∙ spelled-Spells cs _ (Spells-decimal cs fs gs q) in cc

quoted_begins : (cs : List ℕ) → begins_with 39 (between_quotes 39 cs) ≡ true
quoted_begins cs = grind (arith, nat_tests)

not_both : (xs cs : List ℕ) → begins_with 39 xs ≡ false → xs ≡ between_quotes 39 cs → ⊥
not_both xs cs e f = true≢false (sym (ap (begins_with 39) f ∙ quoted_begins cs) ∙ e)

agree : (k : TokenKind) (l : Lexeme) (x y : Item) → MeansAs k l x → MeansAs k l y → x ≡ y
agree kind.Number l x y p q = p.3 ∙ ap (λ z. item l (m.Number z)) (one_number l.text p.0 p.1 q.0 q.1 p.2 q.2) ∙ sym q.3
agree kind.Text l x y p q = p.2 ∙ ap (λ cs. item l (m.Text cs)) (one_quoted 34 p.0 q.0 (sym p.1 ∙ q.1)) ∙ sym q.2
agree kind.Name l x y (inl p) (inl q) = p.1 ∙ sym q.1
agree kind.Name l x y (inl p) (inr q) = absurd (not_both l.text q.0 p.0 q.1)
agree kind.Name l x y (inr p) (inl q) = absurd (not_both l.text p.0 q.0 p.1)
agree kind.Name l x y (inr p) (inr q) = p.2 ∙ ap (λ cs. item l (m.Name cs)) (one_quoted 39 p.0 q.0 (sym p.1 ∙ q.1)) ∙ sym q.2
agree (kind.Word w) l x y p q = p ∙ sym q
agree (kind.Symbol s) l x y p q = p ∙ sym q
agree kind.Opening l x y p q = p ∙ sym q
agree kind.Closing l x y p q = p ∙ sym q
agree kind.Piece l x y p q = p.2 ∙ ap (λ cs. item l (m.Piece cs)) (one_doubled is_mark p.0 q.0 (sym p.1 ∙ q.1)) ∙ sym q.2

pub one_meaning : (l : Lexeme) (x y : Item) → TokenMeans l x → TokenMeans l y → x ≡ y
one_meaning l x y p q = agree l.kind l x y (means_as p l.kind refl) (means_as q l.kind refl)

-- the meanings of tokens in turn
abbrev Firsts : List Lexeme → List Item → Type 0
Firsts [] xs = xs ≡ []
Firsts (l ∷ ls) xs = (y : Item) × (ys : List Item) × (xs ≡ y ∷ ys) × TokenMeans l y × AllMean ls ys

firsts : {ls : List Lexeme} {xs : List Item} → AllMean ls xs → Firsts ls xs
firsts no_more = refl
firsts (one_more l x ls xs p h) = (x, xs, refl, p, h)

pub one_list : {ls : List Lexeme} {xs : List Item} → AllMean ls xs → (ys : List Item) → AllMean ls ys → xs ≡ ys
one_list no_more ys q = sym (firsts q)
one_list (one_more l x ls xs p h) ys q = let f = firsts q in (λ i. one_meaning l x f.0 p f.3 i ∷ one_list h f.1 f.4 i) ∙ sym f.2

pub one_items : (cs : List ℕ) (xs ys : List Item) → HasItems cs xs → HasItems cs ys → xs ≡ ys
one_items cs xs ys p q = one_list (subst (λ (ls : List Lexeme). AllMean ls xs) (lexemes_one cs p.0 q.0 p.1 q.1) p.2) ys q.2

pub one_tree_of : (cs : List ℕ) (n k : ℕ) (t u : Tree) → HasTree n cs t → HasTree k cs u → t ≡ u
one_tree_of cs n k t u p q =
    let e = one_items cs p.0 q.0 p.1 q.1 in
    let r = one_tree q.0 p.2.0 q.2.0 t u (subst (λ (xs : List Item). IsFormula xs p.2.0 t) e p.2.2) q.2.2 in r.0
