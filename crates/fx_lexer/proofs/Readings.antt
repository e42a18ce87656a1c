-- There is one reading of a text.
use Rattle.std.proofs.Common.{◌≡◌, ℕ, ◌+◌, List, [], ◌∷◌, ◌++◌, take, drop, map, refl, ap, sym, ◌∙◌, subst, take-append-drop, append-nil}
use Rattle.std.proofs.lemmas.List.{map-append}
use Rattle.fx_lexer.specs.declared.token.TokenKind.{TokenKind}
use Rattle.fx_lexer.specs.declared.token.Token.{Token as Tok}
use Rattle.fx_lexer.specs.declared.token.LexErr.{LexErr}
use Rattle.fx_lexer.specs.declared.element.Element.{Element}
use Rattle.fx_lexer.specs.declared.element.Element.TheVariants.{Skip, Token}
use Rattle.fx_lexer.specs.declared.element.Enclosing.{Enclosing}
use Rattle.fx_lexer.specs.declared.element.Mode.{Mode}
use Rattle.fx_lexer.specs.Spelling.{IsElement, NoElement}
use Rattle.fx_lexer.specs.Lexed.{width, Lexeme, token_of, mode_in, enclosing_after, LexesTo, stop, skip, token, HasLexemes, Lexed, wrong_with, IsBadAt}
use Rattle.fx_lexer.specs.Next.{IsTokenPut}
use Rattle.fx_lexer.proofs.Judge.{one_element, no_element_nil}

-- the same tokens, and the same place where they end
pub record Same (ls ls' : List Lexeme) (fs fs' : List Enclosing) (end end' : ℕ) (rest rest' : List ℕ) : Type 0 where
  pub tokens : ls ≡ ls'
  pub marks : fs ≡ fs'
  pub place : end ≡ end'
  pub left : rest ≡ rest'

not_both : (m m' : Mode) (p : Element) (xs rest cs : List ℕ) → IsElement m p xs rest → NoElement m' cs → m ≡ m' → xs ++ rest ≡ cs → ⊥
not_both m m' p xs rest cs f n e g = n p xs rest (sym g) (subst (λ x. IsElement x p xs rest) e f)

pub reads_one : {es : List Enclosing} {at : ℕ} {cs : List ℕ} {ls : List Lexeme} {fs : List Enclosing} {end : ℕ} {rest : List ℕ}
    {es' : List Enclosing} {at' : ℕ} {cs' : List ℕ} {ls' : List Lexeme} {fs' : List Enclosing} {end' : ℕ} {rest' : List ℕ}
    → LexesTo es at cs ls fs end rest → NoElement (mode_in fs) rest → LexesTo es' at' cs' ls' fs' end' rest' → NoElement (mode_in fs') rest' → es ≡ es' → at ≡ at' → cs ≡ cs' → Same ls ls' fs fs' end end' rest rest'
reads_one (stop es at cs) n (stop es' at' cs') m d e f = record { tokens = refl; marks = d; place = e; left = f }
reads_one (stop es at cs) n (skip es' at' xs' cs' ls' fs' end' rest' p' r') m d e f = absurd (not_both _ _ _ _ _ _ p' n (ap mode_in (sym d)) (sym f))
reads_one (stop es at cs) n (token es' at' k' xs' cs' ls' fs' end' rest' p' r') m d e f = absurd (not_both _ _ _ _ _ _ p' n (ap mode_in (sym d)) (sym f))
reads_one (skip es at xs cs ls fs end rest p r) n (stop es' at' cs') m d e f = absurd (not_both _ _ _ _ _ _ p m (ap mode_in d) f)
reads_one (token es at k xs cs ls fs end rest p r) n (stop es' at' cs') m d e f = absurd (not_both _ _ _ _ _ _ p m (ap mode_in d) f)
reads_one (skip es at xs cs ls fs end rest p r) n (skip es' at' xs' cs' ls' fs' end' rest' p' r') m d e f =
    let s = one_element _ _ _ _ _ _ _ _ p p' (ap mode_in d) f in
    reads_one r n r' m d (λ i. e i + width (s.1 i)) s.2
reads_one (token es at k xs cs ls fs end rest p r) n (token es' at' k' xs' cs' ls' fs' end' rest' p' r') m d e f =
    let s = one_element _ _ _ _ _ _ _ _ p p' (ap mode_in d) f in
    let g : k ≡ k' = let d = s.0 in cc in
    let t = reads_one r n r' m (λ i. enclosing_after (g i) (d i)) (λ i. e i + width (s.1 i)) s.2 in
    record { tokens = (λ i. let x : Lexeme = record { kind = g i; at = e i; text = s.1 i } in x ∷ t.tokens i); marks = t.marks; place = t.place; left = t.left }
reads_one (skip es at xs cs ls fs end rest p r) n (token es' at' k' xs' cs' ls' fs' end' rest' p' r') m d e f =
    let s = one_element _ _ _ _ _ _ _ _ p p' (ap mode_in d) f in let g = s.0 in absurd cc
reads_one (token es at k xs cs ls fs end rest p r) n (skip es' at' xs' cs' ls' fs' end' rest' p' r') m d e f =
    let s = one_element _ _ _ _ _ _ _ _ p p' (ap mode_in d) f in let g = s.0 in absurd cc

-- one list of tokens, or a bad token at one place
pub lexemes_one : (cs : List ℕ) (ls ms : List Lexeme) → HasLexemes cs ls → HasLexemes cs ms → ls ≡ ms
lexemes_one cs ls ms a b = (reads_one a.2 (no_element_nil _) b.2 (no_element_nil _) refl refl refl).tokens

pub lexed_one : (cs : List ℕ) (ts us : List Tok) → Lexed cs ts → Lexed cs us → ts ≡ us
lexed_one cs ts us a b = a.2 ∙ ap (map token_of) (lexemes_one cs a.0 b.0 a.1 b.1) ∙ sym b.2

pub bad_none : (cs : List ℕ) (bad : LexErr) (ts : List Tok) → IsBadAt cs bad → Lexed cs ts → ⊥
bad_none cs bad ts b l = b.4 (reads_one b.3 b.5 l.1.2 (no_element_nil _) refl refl refl).left

pub bad_one : (cs : List ℕ) (a b : LexErr) → IsBadAt cs a → IsBadAt cs b → a ≡ b
bad_one cs a b x y =
    let s = reads_one x.3 x.5 y.3 y.5 refl refl refl in
    let w : a.what ≡ b.what = x.6 ∙ (λ i. wrong_with (mode_in (s.marks i)) (s.left i)) ∙ sym y.6 in
    λ i. record { at = s.place i; what = w i }

-- one element more
pub skip_on : (es : List Enclosing) (at : ℕ) (cs : List ℕ) (n : ℕ) → IsElement (mode_in es) Skip (take n cs) (drop n cs) → LexesTo es at cs [] es (at + width (take n cs)) (drop n cs)
skip_on es at cs n p = let P : List ℕ → Type 0 = λ x. LexesTo es at x [] es (at + width (take n cs)) (drop n cs) in subst P (take-append-drop n cs) (skip es at (take n cs) (drop n cs) [] _ _ _ p (stop _ _ _))

pub token_on : (es : List Enclosing) (at : ℕ) (k : TokenKind) (cs : List ℕ) (n : ℕ) → IsElement (mode_in es) (Token k) (take n cs) (drop n cs) → LexesTo es at cs (record { kind = k; at = at; text = take n cs } ∷ []) (enclosing_after k es) (at + width (take n cs)) (drop n cs)
token_on es at k cs n p = let P : List ℕ → Type 0 = λ x. LexesTo es at x (record { kind = k; at = at; text = take n cs } ∷ []) (enclosing_after k es) (at + width (take n cs)) (drop n cs) in subst P (take-append-drop n cs) (token es at k (take n cs) (drop n cs) [] _ _ _ p (stop _ _ _))

-- readings may be joined
pub reads_on : {es : List Enclosing} {at : ℕ} {cs : List ℕ} {ls : List Lexeme} {fs : List Enclosing} {mid : ℕ} {ds : List ℕ} {ms : List Lexeme} {gs : List Enclosing} {end : ℕ} {rest : List ℕ}
    → LexesTo es at cs ls fs mid ds → LexesTo fs mid ds ms gs end rest → LexesTo es at cs (ls ++ ms) gs end rest
reads_on (stop es at cs) s = s
reads_on (skip es at xs cs ls fs end rest p r) s = skip es at xs cs _ _ _ _ p (reads_on r s)
reads_on (token es at k xs cs ls fs end rest p r) s = token es at k xs cs _ _ _ _ p (reads_on r s)

-- what was read so far, and the tokens that were put down
abbrev pub SoFar : List ℕ → List Tok → List Enclosing → ℕ → List ℕ → Type 0
SoFar cs out es at rest = (ls : List Lexeme) × LexesTo [] 0 cs ls es at rest × (out ≡ map token_of ls)

pub start : (cs : List ℕ) (out : List Tok) (es : List Enclosing) → out ≡ [] → es ≡ [] → SoFar cs out es 0 cs
start cs out es e f = ([], (let P : List Enclosing → Type 0 = λ x. LexesTo [] 0 cs [] x 0 cs in subst P (sym f) (stop [] 0 cs)), e)

pub turn_skip : (cs : List ℕ) (out : List Tok) (es : List Enclosing) (at n w : ℕ) (rest others : List ℕ)
    → SoFar cs out es at rest → IsElement (mode_in es) Skip (take n rest) (drop n rest) → others ≡ drop n rest → w ≡ width (take n rest) → SoFar cs out es (at + w) others
turn_skip cs out es at n w rest others r p g e =
    let s = reads_on r.1 (skip_on es at rest n p) in
    let P : List Lexeme → ℕ → List ℕ → Type 0 = λ x y z. LexesTo [] 0 cs x es (at + y) z in
    let a = subst (λ x. P x (width (take n rest)) (drop n rest)) (append-nil r.0) s in
    let b = subst (λ y. P r.0 y (drop n rest)) (sym e) a in
    (r.0, subst (λ z. P r.0 w z) (sym g) b, r.2)

pub turn_token : (cs : List ℕ) (out new : List Tok) (es fs : List Enclosing) (at n w : ℕ) (k : TokenKind) (rest others : List ℕ)
    → SoFar cs out es at rest → IsElement (mode_in es) (Token k) (take n rest) (drop n rest) → others ≡ drop n rest → w ≡ width (take n rest)
    → new ≡ out ++ record { kind = k; at = at; upto = at + w } ∷ [] → fs ≡ enclosing_after k es → SoFar cs new fs (at + w) others
turn_token cs out new es fs at n w k rest others r p g e h j =
    let l : Lexeme = record { kind = k; at = at; text = take n rest } in
    let s = reads_on r.1 (token_on es at k rest n p) in
    let P : List Enclosing → ℕ → List ℕ → Type 0 = λ x y z. LexesTo [] 0 cs (r.0 ++ l ∷ []) x (at + y) z in
    let a = subst (λ x. P x (width (take n rest)) (drop n rest)) (sym j) s in
    let b = subst (λ y. P fs y (drop n rest)) (sym e) a in
    let d = subst (λ z. P fs w z) (sym g) b in
    let t : Tok = record { kind = k; at = at; upto = at + w } in
    let m : new ≡ map token_of (r.0 ++ l ∷ []) = h ∙ (λ i. r.2 i ++ record { kind = k; at = at; upto = at + e i } ∷ []) ∙ sym (map-append token_of r.0 (l ∷ [])) in
    (r.0 ++ l ∷ [], d, m)

pub turn : (cs : List ℕ) (out new : List Tok) (es fs : List Enclosing) (at n w : ℕ) (e : Element) (rest others : List ℕ)
    → SoFar cs out es at rest → IsElement (mode_in es) e (take n rest) (drop n rest) → others ≡ drop n rest → w ≡ width (take n rest)
    → IsTokenPut e at (at + w) out new es fs → SoFar cs new fs (at + w) others
turn cs out new es fs at n w Skip rest others r p g e h =
    let P : List Tok → List Enclosing → Type 0 = λ x y. SoFar cs x y (at + w) others in
    subst (λ y. P new y) (sym h.1) (subst (λ x. P x es) (sym h.0) (turn_skip cs out es at n w rest others r p g e))
turn cs out new es fs at n w (Token k) rest others r p g e h = turn_token cs out new es fs at n w k rest others r p g e h.0 h.1
