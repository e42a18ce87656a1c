-- The texts of tokens are slices of the source.
use Rattle.std.proofs.Common.{◌≡◌, ℕ, ◌+◌, ◌-◌, ◌≤◌, true, List, [], ◌∷◌, ◌++◌, length, take, drop, map, refl, ap, sym, ◌∙◌, subst, arith, length-append, append_assoc, IfOk, Result, Ok, Err}
use Rattle.std.proofs.lemmas.List.{take_at, drop_at}
use Rattle.std.specs.Prelude.{encode_utf8_all, slice_range}
use Rattle.std.specs.Str.{chars, IsUtf8, IsCharBoundary, all_scalars}
use Rattle.std.proofs.lemmas.Str.{encodes-chars, chars-encodes, scalars-chars, encodes-append, length-le-encodes, IsCharBoundary-at_seam}
use Rattle.fx_lexer.specs.declared.token.TokenKind.{TokenKind}
use Rattle.fx_lexer.specs.declared.token.Token.{Token as Tok}
use Rattle.fx_lexer.specs.declared.element.Element.TheVariants.{Token}
use Rattle.fx_lexer.specs.declared.element.Enclosing.{Enclosing}
use Rattle.fx_lexer.specs.declared.element.Mode.{Mode}
use Rattle.fx_lexer.specs.Spelling.{Spelt}
use Rattle.fx_lexer.specs.Lexed.{width, Lexeme, token_of, mode_in, LexesTo, stop, skip, token, HasLexemes, Lexed}
use Rattle.fx_lexer.specs.Slices.{slice_chars, lexemes, IsSlice, AreSlicesFrom, AreSlices}
use Rattle.fx_lexer.proofs.Steps.{width-is}
use Rattle.fx_lexer.proofs.Judge.{spelt_long}
use Rattle.fx_lexer.proofs.Texts.{scalars_split}

from_earlier : (source : List ℕ) (a b : ℕ) (ts : List Tok) → a ≤ b → AreSlicesFrom source b ts → AreSlicesFrom source a ts
from_earlier source a b [] l h = tt
from_earlier source a b (t ∷ ts) l h = (let k = h.0 in omega arith, h.1, h.2)

slice_at : (source before xs rest : List ℕ) (at w : ℕ) → source ≡ before ++ (xs ++ rest) → at ≡ length before → w ≡ length xs → slice_range source at (at + w) ≡ xs
slice_at source before xs rest at w e f g =
    let d : drop at source ≡ xs ++ rest = ap (drop at) e ∙ drop_at before (xs ++ rest) at (sym f) in
    let n : at + w - at ≡ length xs = omega arith in
    (λ i. take (n i) (d i)) ∙ take_at xs rest (length xs) refl

-- These tokens are slices of the source from this byte on, and their texts are the slices' characters.
pub record AreCuts (source : List ℕ) (at : ℕ) (ls : List Lexeme) : Type 0 where
  pub slices : AreSlicesFrom source at (map token_of ls)
  pub texts : lexemes source (map token_of ls) ≡ ls

further : (source before : List ℕ) (xs cs : List ℕ) → source ≡ before ++ encode_utf8_all (xs ++ cs) → source ≡ before ++ (encode_utf8_all xs ++ encode_utf8_all cs)
further source before xs cs e = e ∙ ap (λ x. before ++ x) (encodes-append xs cs)

further_on : (source before : List ℕ) (xs cs : List ℕ) → source ≡ before ++ encode_utf8_all (xs ++ cs) → source ≡ (before ++ encode_utf8_all xs) ++ encode_utf8_all cs
further_on source before xs cs e = rw append_assoc (further source before xs cs e)

one_cut : (source before : List ℕ) (mode : Mode) (k : TokenKind) (at : ℕ) (xs cs : List ℕ) → source ≡ before ++ encode_utf8_all (xs ++ cs) → at ≡ length before → all_scalars (xs ++ cs) ≡ true → Spelt mode (Token k) xs
    → IsSlice source (record { kind = k; at = at; upto = at + width xs }) × (slice_chars source (record { kind = k; at = at; upto = at + width xs }) ≡ xs)
one_cut source before mode k at xs cs e f s p =
    let E : List ℕ → List ℕ = encode_utf8_all in
    let h = scalars_split xs cs s in
    let w = width-is xs in
    let l = length-append before (E xs) in
    let long = spelt_long mode (Token k) xs p in
    let bytes = length-le-encodes xs in
    let t : slice_chars source (record { kind = k; at = at; upto = at + width xs }) ≡ xs = ap chars (slice_at source before (E xs) (E cs) at (width xs) (further source before xs cs e) f w) ∙ chars-encodes xs h.0 in
    let u : length (before ++ E xs) ≡ at + width xs = omega arith in (
      record {
        begins = subst (IsCharBoundary source) (sym f) (IsCharBoundary-at_seam source before (E (xs ++ cs)) e (xs ++ cs, (s, refl)));
        ends = subst (IsCharBoundary source) u (IsCharBoundary-at_seam source (before ++ E xs) (E cs) (further_on source before xs cs e) (cs, (h.1, refl)));
        is_long = omega arith;
        spelt = (mode, subst (Spelt mode (Token k)) (sym t) p);
      },
      t,
    )

reads_cuts : {es : List Enclosing} {at : ℕ} {cs : List ℕ} {ls : List Lexeme} {fs : List Enclosing} {end : ℕ} {rest : List ℕ} → LexesTo es at cs ls fs end rest
    → (source before : List ℕ) → source ≡ before ++ encode_utf8_all cs → at ≡ length before → all_scalars cs ≡ true → AreCuts source at ls
reads_cuts (stop es at cs) source before e f s = record { slices = tt; texts = refl }
reads_cuts (skip es at xs cs ls fs end rest p r) source before e f s =
    let w = width-is xs in
    let l = length-append before (encode_utf8_all xs) in
    let h = reads_cuts r source (before ++ encode_utf8_all xs) (further_on source before xs cs e) (omega arith) (scalars_split xs cs s).1 in
    record { slices = from_earlier source at (at + width xs) (map token_of ls) (omega arith) h.slices; texts = h.texts }
reads_cuts (token es at k xs cs ls fs end rest p r) source before e f s =
    let w = width-is xs in
    let l = length-append before (encode_utf8_all xs) in
    let h = reads_cuts r source (before ++ encode_utf8_all xs) (further_on source before xs cs e) (omega arith) (scalars_split xs cs s).1 in
    let c = one_cut source before (mode_in es) k at xs cs e f s p.spelt in
    record { slices = (omega arith, c.0, h.slices); texts = λ i. let x : Lexeme = record { kind = k; at = at; text = c.1 i } in x ∷ h.texts i }

pub cuts : (source : List ℕ) (ls : List Lexeme) → IsUtf8 source → HasLexemes (chars source) ls → AreCuts source 0 ls
cuts source ls u h = reads_cuts h.2 source [] (sym (encodes-chars source u)) refl (scalars-chars source u)

lexed_texts : (source : List ℕ) (ts : List Tok) → IsUtf8 source → Lexed (chars source) ts → HasLexemes (chars source) (lexemes source ts)
lexed_texts source ts u l = subst (HasLexemes (chars source)) (sym (ap (lexemes source) l.2 ∙ (cuts source l.0 u l.1).texts)) l.1

lexed_slices : (source : List ℕ) (ts : List Tok) → IsUtf8 source → Lexed (chars source) ts → AreSlices source ts
lexed_slices source ts u l = subst (AreSlices source) (sym l.2) (cuts source l.0 u l.1).slices

-- the same of an answer
pub texts_of : {V E : Type 0} (items : V → List Tok) (source cs : List ℕ) (r : Result V E) → IsUtf8 source → cs ≡ chars source → IfOk r (λ v. Lexed cs (items v)) → IfOk r (λ v. HasLexemes (chars source) (lexemes source (items v)))
texts_of items source cs (Ok v) u e h = lexed_texts source (items v) u (subst (λ x. Lexed x (items v)) e h)
texts_of items source cs (Err x) u e h = h

pub slices_of : {V E : Type 0} (items : V → List Tok) (source cs : List ℕ) (r : Result V E) → IsUtf8 source → cs ≡ chars source → IfOk r (λ v. Lexed cs (items v)) → IfOk r (λ v. AreSlices source (items v))
slices_of items source cs (Ok v) u e h = lexed_slices source (items v) u (subst (λ x. Lexed x (items v)) e h)
slices_of items source cs (Err x) u e h = h
