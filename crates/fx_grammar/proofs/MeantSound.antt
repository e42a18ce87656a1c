-- Each token of a text has its meaning.
use Rattle.std.proofs.Common.{◌≡◌, ℕ, ℤ, ◌+◌, ◌-◌, ◌<◌, ◌≤◌, List, [], ◌∷◌, ◌++◌, length, take, drop, map, refl, ap, sym, ◌∙◌, subst, inl, inr, arith, get_or, add-one, Ok, zero, suc, length-drop}
use Rattle.std.specs.Prelude.{◌⊎◌, slice_range}
use Rattle.std.specs.Str.{chars, IsUtf8, IsCharBoundary}
use Rattle.std.proofs.lemmas.List.{map-append, take_all, length-take-le}
use Rattle.std.proofs.Math.Seq.{take-suc}
use Rattle.fx_lexer.specs.declared.token.Token.{Token as Tok}
use Rattle.fx_lexer.specs.declared.token.TokenKind.{TokenKind}
use Rattle.fx_lexer.specs.declared.token.TokenKind.TheVariants as kind
use Rattle.fx_lexer.specs.declared.element.Element.TheVariants.{Token}
use Rattle.fx_lexer.specs.declared.element.Enclosing.{Enclosing}
use Rattle.fx_lexer.specs.Spelling.{begins_with, SpellsNumber}
use Rattle.fx_lexer.specs.Lexed.{width, Lexeme, token_of, LexesTo, stop, skip, token, HasLexemes, Lexed}
use Rattle.fx_lexer.specs.Slices.{slice_chars, lexeme_in, lexemes, IsSlice, AreSlicesFrom, AreSlices}
use Rattle.fx_lexer.proofs.Steps.{width-chars}
use Rattle.fx_lexer.proofs.Cuts.{texts_of, slices_of}
use Rattle.fx_grammar.specs.declared.item.Item.{Item}
use Rattle.fx_grammar.specs.declared.item.Meaning.{Meaning}
use Rattle.fx_grammar.specs.declared.item.Meaning.TheVariants as m
use Rattle.fx_grammar.specs.Means.{item, TokenMeans, number, text, plain_name, quoted_name, word, symbol, opening, closing, piece, AllMean, no_more, one_more}
use Rattle.fx_grammar.specs.Meant.{IsMeaning, IsNameOf, IsSoundToken}

-- what a text of a kind means, its token means
by_kind : (l : Lexeme) (j : TokenKind) (k : Meaning) → l.kind ≡ j → IsMeaning j l.text k → TokenMeans l (item l k)
by_kind l kind.Number k e h = subst (λ (x : Meaning). TokenMeans l (item l x)) (sym (h.2 ∙ ap (λ z. m.Number z) h.1.4)) (number l h.1.0 h.1.1 e h.1.2 h.1.3)
by_kind l kind.Text k e h = subst (λ (x : Meaning). TokenMeans l (item l x)) (sym h.2) (text l h.0 e h.1)
by_kind l kind.Name k e h = subst (λ (x : Meaning). TokenMeans l (item l x)) (sym h.2) (by h.0 h.1)
  where
    by : (cs : List ℕ) → IsNameOf l.text cs → TokenMeans l (item l (m.Name cs))
    by cs (inl f) = subst (λ (ds : List ℕ). TokenMeans l (item l (m.Name ds))) (sym f.1) (plain_name l e f.0)
    by cs (inr f) = quoted_name l cs e f
by_kind l (kind.Word w) k e h = subst (λ (x : Meaning). TokenMeans l (item l x)) (sym h) (word l w e)
by_kind l (kind.Symbol s) k e h = subst (λ (x : Meaning). TokenMeans l (item l x)) (sym h) (symbol l s e)
by_kind l kind.Opening k e h = subst (λ (x : Meaning). TokenMeans l (item l x)) (sym h) (opening l e)
by_kind l kind.Closing k e h = subst (λ (x : Meaning). TokenMeans l (item l x)) (sym h) (closing l e)
by_kind l kind.Piece k e h = subst (λ (x : Meaning). TokenMeans l (item l x)) (sym h.2) (piece l h.0 e h.1)

pub slice_width : (source : List ℕ) (t : Tok) → IsUtf8 (slice_range source t.at t.upto) → IsSlice source t → t.upto ≡ t.at + width (slice_chars source t)
slice_width source t u s =
    let w = width-chars (slice_range source t.at t.upto) u in
    let l : length (slice_range source t.at t.upto) ≡ t.upto - t.at = (let d = length-drop t.at source in let b = s.ends.0 in length-take-le (t.upto - t.at) (drop t.at source) (omega arith)) in
    let k = s.is_long in omega arith

pub means_it : (source bs : List ℕ) (t : Tok) (k : Meaning) → IsUtf8 bs → bs ≡ slice_range source t.at t.upto → IsSoundToken source t → IsMeaning t.kind (chars bs) k
    → TokenMeans (lexeme_in source t) (record { at = t.at; upto = t.upto; meaning = k })
means_it source bs t k u e s h =
    let l : Lexeme = lexeme_in source t in
    let w = slice_width source t (subst IsUtf8 e u) s.slice in
    subst (λ (n : ℕ). TokenMeans l (record { at = t.at; upto = n; meaning = k })) (sym w) (by_kind l t.kind k refl (subst (λ (b : List ℕ). IsMeaning t.kind (chars b) k) e h))

-- each token of a text is sound
abbrev HasValues : List Lexeme → Type 0
HasValues [] = Unit {0}
HasValues (l ∷ ls) = SpellsNumber (Token l.kind) l.text × HasValues ls

abbrev AllSound : List ℕ → List Tok → Type 0
AllSound source [] = Unit {0}
AllSound source (t ∷ ts) = IsSoundToken source t × AllSound source ts

values : {es : List Enclosing} {at : ℕ} {cs : List ℕ} {ls : List Lexeme} {fs : List Enclosing} {end : ℕ} {rest : List ℕ} → LexesTo es at cs ls fs end rest → HasValues ls
values (stop es at cs) = tt
values (skip es at xs cs ls fs end rest p r) = values r
values (token es at k xs cs ls fs end rest p r) = (p.has_value, values r)

all_sound : (source : List ℕ) (from : ℕ) (ts : List Tok) → AreSlicesFrom source from ts → HasValues (lexemes source ts) → AllSound source ts
all_sound source from [] s v = tt
all_sound source from (t ∷ ts) s v = (record { slice = s.1; value = v.0 }, all_sound source t.upto ts s.2 v.1)

sound_index : (source : List ℕ) (ts : List Tok) (i : ℕ) (d : Tok) → AllSound source ts → i < length ts → IsSoundToken source (get_or ts i d)
sound_index source [] i d s k = absurd (omega arith)
sound_index source (t ∷ ts) zero d s k = s.0
sound_index source (t ∷ ts) (suc i) d s k = sound_index source ts i d s.1 (omega arith)

pub texts : (source : List ℕ) (ts : List Tok) → IsUtf8 source → Lexed (chars source) ts → HasLexemes (chars source) (lexemes source ts)
texts source ts u h = texts_of {V = List Tok} {E = ℕ} (λ x. x) source (chars source) (Ok ts) u refl h

pub sound_at : (source : List ℕ) (ts : List Tok) (i : ℕ) (d : Tok) → IsUtf8 source → Lexed (chars source) ts → i < length ts → IsSoundToken source (get_or ts i d)
sound_at source ts i d u h k =
    let s = slices_of {V = List Tok} {E = ℕ} (λ x. x) source (chars source) (Ok ts) u refl h in
    sound_index source ts i d (all_sound source 0 ts s (values (texts source ts u h).2)) k

-- one token more
snoc : {ls : List Lexeme} {xs : List Item} → AllMean ls xs → (l : Lexeme) (x : Item) → TokenMeans l x → AllMean (ls ++ l ∷ []) (xs ++ x ∷ [])
snoc no_more l x p = one_more l x [] [] p no_more
snoc (one_more k y ls xs q h) l x p = one_more k y _ _ q (snoc h l x p)

pub one_on : (source : List ℕ) (ts : List Tok) (i : ℕ) (d : Tok) (xs ys : List Item) (x : Item) → AllMean (lexemes source (take i ts)) xs → i < length ts → TokenMeans (lexeme_in source (get_or ts i d)) x → ys ≡ xs ++ x ∷ []
    → AllMean (lexemes source (take (i + 1) ts)) ys
one_on source ts i d xs ys x h k p f =
    let t : Tok = get_or ts i d in
    let n : take (i + 1) ts ≡ take i ts ++ t ∷ [] = ap (λ j. take j ts) (add-one i) ∙ take-suc ts i d k in
    let g : lexemes source (take (i + 1) ts) ≡ lexemes source (take i ts) ++ lexeme_in source t ∷ [] = ap (lexemes source) n ∙ map-append (lexeme_in source) (take i ts) (t ∷ []) in
    subst (λ (ls : List Lexeme). AllMean ls ys) (sym g) (subst (λ (zs : List Item). AllMean (lexemes source (take i ts) ++ lexeme_in source t ∷ []) zs) (sym f) (snoc h (lexeme_in source t) x p))

pub nothing : (source : List ℕ) (ts : List Tok) (xs : List Item) → xs ≡ [] → AllMean (lexemes source (take 0 ts)) xs
nothing source ts xs e = subst (λ (ys : List Item). AllMean [] ys) (sym e) no_more

pub whole : (source : List ℕ) (ts : List Tok) (i : ℕ) (xs : List Item) → AllMean (lexemes source (take i ts)) xs → length ts ≤ i → AllMean (lexemes source ts) xs
whole source ts i xs h k = subst (λ (us : List Tok). AllMean (lexemes source us) xs) (take_all i ts k) h
