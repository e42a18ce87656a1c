-- The token that begins at a byte.
use Rattle.std.proofs.Common.{◌≡◌, ℕ, zero, suc, ◌+◌, ◌<◌, ◌≤◌, Bool, true, false, List, [], ◌∷◌, length, get_or, drop, cond, eqb, refl, ap, sym, ◌∙◌, subst, arith, Option, Some, None, Result, Ok, Err, IfOk}
use Rattle.std.specs.Prelude.{IfSome}
use Rattle.std.specs.Str.{chars, IsUtf8}
use Rattle.std.proofs.lemmas.List.{at_drop_more, at_drop_all}
use Rattle.fx_lexer.specs.declared.token.Token.{Token as Tok}
use Rattle.fx_lexer.specs.Lexed.{Lexed}
use Rattle.fx_lexer.specs.Slices.{IsSlice}
use Rattle.fx_lexer.proofs.Readings.{lexed_one}
use Rattle.fx_grammar.specs.Meant.{IsSoundToken}
use Rattle.fx_grammar.proofs.MeantSound.{sound_at}
use Rattle.fx_parser.specs.Details.{token_at, unexpected_by, unexpected_words}

pub token_more : (at : ℕ) (ts : List Tok) (i : ℕ) (d : Tok) → i < length ts → token_at at (drop i ts) ≡ cond (eqb (get_or ts i d).at at) (Some (get_or ts i d)) (token_at at (drop (i + 1) ts))
token_more at ts i d h = at_drop_more (token_at at) ts i d h

pub token_end : (at : ℕ) (ts : List Tok) (i : ℕ) → length ts ≤ i → token_at at (drop i ts) ≡ None
token_end at ts i h = at_drop_all (token_at at) ts i h

found_in : (at : ℕ) (ts : List Tok) (t : Tok) → token_at at ts ≡ Some t → (i : ℕ) × (i < length ts) × (t ≡ get_or ts i t)
found_in at [] t e = cc
found_in at (x ∷ ts) t e = by (λ f. found_in at ts t f) (eqb x.at at) e
  where
    by : (token_at at ts ≡ Some t → (i : ℕ) × (i < length ts) × (t ≡ get_or ts i t)) → (b : Bool) → cond b (Some x) (token_at at ts) ≡ Some t → (i : ℕ) × (i < length (x ∷ ts)) × (t ≡ get_or (x ∷ ts) i t)
    by r true f = let g : t ≡ x = cc in (0, omega arith, g)
    by r false f = let k = r f in let l = k.1 in (suc k.0, omega arith, k.2)

-- it is a slice of the source
pub slice_at : (source : List ℕ) (at : ℕ) (ts : List Tok) (o : Option Tok) → IsUtf8 source → Lexed (chars source) ts → o ≡ token_at at ts → IfSome o (λ t. IsSlice source t)
slice_at source at ts None u h e = tt
slice_at source at ts (Some t) u h e = let r = found_in at ts t (sym e) in (subst (IsSoundToken source) (sym r.2) (sound_at source ts r.0 t u h r.1)).slice

-- a text has one list of tokens
pub words_are : (source : List ℕ) (at : ℕ) (ts us : List Tok) (o : Option Tok) → Lexed (chars source) ts → Lexed (chars source) us → o ≡ token_at at ts → unexpected_by source o ≡ unexpected_words source at us
words_are source at ts us o h k e = ap (unexpected_by source) (e ∙ ap (token_at at) (lexed_one (chars source) ts us h k))

pub told_is : {E : Type 0} (r : Result (List ℕ) E) (source : List ℕ) (o : Option Tok) (bs : List ℕ) → IfOk r (λ w. w ≡ chars bs) → chars bs ≡ unexpected_by source o → IfOk r (λ w. w ≡ unexpected_by source o)
told_is (Ok w) source o bs h e = h ∙ e
told_is (Err x) source o bs h e = h

pub told_all : {E : Type 0} (r : Result (List ℕ) E) (source : List ℕ) (at : ℕ) (ts : List Tok) (o : Option Tok) → IfOk r (λ w. w ≡ unexpected_by source o) → Lexed (chars source) ts → o ≡ token_at at ts
    → IfOk r (λ w. (us : List Tok) → Lexed (chars source) us → w ≡ unexpected_words source at us)
told_all (Ok w) source at ts o h l e = λ us k. h ∙ words_are source at ts us o l k e
told_all (Err x) source at ts o h l e = h

pub told_none : {E : Type 0} (r : Result (List ℕ) E) (source : List ℕ) (at : ℕ) → ((ts : List Tok) → Lexed (chars source) ts → ⊥) → IfOk r (λ w. (us : List Tok) → Lexed (chars source) us → w ≡ unexpected_words source at us)
told_none (Ok w) source at n = λ us k. absurd (n us k)
told_none (Err x) source at n = tt
