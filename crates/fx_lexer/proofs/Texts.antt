-- A text cut between two of its characters.
use Rattle.std.proofs.Common.{◌≡◌, ℕ, ◌<◌, ◌≤◌, Bool, true, false, ◌&&◌, List, [], ◌∷◌, ◌++◌, length, take, drop, refl, ap, sym, ◌∙◌, subst, arith, take-append-drop, length-append}
use Rattle.std.proofs.lemmas.List.{take_at, drop_at}
use Rattle.std.specs.Prelude.{encode_utf8_all}
use Rattle.std.specs.Str.{chars, IsUtf8, IsCharBoundary, all_scalars}
use Rattle.std.proofs.Math.Utf8.{scalar}
use Rattle.std.specs.Str.Parse.{AllDigits}
use Rattle.std.proofs.lemmas.Str.{encodes-chars, chars-encodes, scalars-chars, encodes-append, encode_ascii, IsCharBoundary-at_seam}
use Rattle.fx_number.specs.Spelling.{IsDecimal, point_and}
use Rattle.fx_lexer.specs.declared.token.TokenKind.TheVariants as kind
use Rattle.fx_lexer.specs.declared.element.Element.{Element}
use Rattle.fx_lexer.specs.declared.element.Element.TheVariants.{Skip, Token}
use Rattle.fx_lexer.specs.Spelling.{SpellsNumber}
use Rattle.fx_lexer.specs.Lexed.{width}
use Rattle.fx_lexer.proofs.Steps.{width-is}
use Rattle.fx_lexer.proofs.Digits.{digit_range}
use Rattle.fx_lexer.proofs.Judge.{IsDecimalIfNumber}

pub both : (a b : Bool) → (a && b) ≡ true → (a ≡ true) × (b ≡ true)
both true true e = (refl, refl)
both true false e = cc
both false b e = cc

pub scalars_split : (xs ys : List ℕ) → all_scalars (xs ++ ys) ≡ true → (all_scalars xs ≡ true) × (all_scalars ys ≡ true)
scalars_split [] ys e = (refl, e)
scalars_split (x ∷ xs) ys e =
    let h = both (scalar x) (all_scalars (xs ++ ys)) e in
    let k = scalars_split xs ys h.1 in
    (rw (h.0, k.0) refl, k.1)

pub record IsCut (bs cs : List ℕ) (n : ℕ) : Type 0 where
  pub front : take (width (take n cs)) bs ≡ encode_utf8_all (take n cs)
  pub rest : drop n cs ≡ chars (drop (width (take n cs)) bs)
  pub boundary : IsCharBoundary bs (width (take n cs))
  pub within : width (take n cs) ≤ length bs

pub cut : (bs cs : List ℕ) (n : ℕ) → IsUtf8 bs → cs ≡ chars bs → IsCut bs cs n
cut bs cs n u e =
    let s = scalars_split (take n cs) (drop n cs) (subst (λ x. all_scalars x ≡ true) (sym (take-append-drop n cs ∙ e)) (scalars-chars bs u)) in
    let f : bs ≡ encode_utf8_all (take n cs) ++ encode_utf8_all (drop n cs) = sym (encodes-chars bs u) ∙ ap encode_utf8_all (sym e) ∙ ap encode_utf8_all (sym (take-append-drop n cs)) ∙ encodes-append (take n cs) (drop n cs) in
    let w = width-is (take n cs) in
    let l = ap length f in
    record {
      front = ap (take (width (take n cs))) f ∙ take_at (encode_utf8_all (take n cs)) (encode_utf8_all (drop n cs)) (width (take n cs)) (sym w);
      rest = sym (chars-encodes (drop n cs) s.1) ∙ ap chars (sym (ap (drop (width (take n cs))) f ∙ drop_at (encode_utf8_all (take n cs)) (encode_utf8_all (drop n cs)) (width (take n cs)) (sym w)));
      boundary = subst (IsCharBoundary bs) (sym w) (IsCharBoundary-at_seam bs (encode_utf8_all (take n cs)) (encode_utf8_all (drop n cs)) f (drop n cs, (s.1, refl)));
      within = omega (arith, length-append (encode_utf8_all (take n cs)) (encode_utf8_all (drop n cs)));
    }

-- digits and points are their own bytes
abbrev pub Low : List ℕ → Type 0
Low [] = Unit {0}
Low (c ∷ cs) = (c < 128) × Low cs

pub low_bytes : (cs : List ℕ) → Low cs → encode_utf8_all cs ≡ cs
low_bytes [] h = refl
low_bytes (c ∷ cs) h = (λ i. encode_ascii c h.0 i ++ low_bytes cs h.1 i)

pub low_digits : (ds : List ℕ) → AllDigits 10 ds → Low ds
low_digits [] h = tt
low_digits (d ∷ ds) h = (let r = digit_range d h.0 in omega arith, low_digits ds h.1)

pub low_fraction : (es : List ℕ) → AllDigits 10 es → Low (point_and es)
low_fraction [] h = tt
low_fraction (e ∷ es) h = (omega arith, low_digits (e ∷ es) h)

pub low_append : (xs ys : List ℕ) → Low xs → Low ys → Low (xs ++ ys)
low_append [] ys h k = k
low_append (x ∷ xs) ys h k = (h.0, low_append xs ys h.1 k)

pub decimal_bytes : (xs ds es : List ℕ) → IsDecimal xs ds es → encode_utf8_all xs ≡ xs
decimal_bytes xs ds es h = low_bytes xs (subst Low (sym h.is_text) (low_append ds (point_and es) (low_digits ds h.has_whole.1) (low_fraction es h.has_fraction)))

pub record BytesFit (e : Element) (xs bs : List ℕ) : Type 0 where
  pub there : SpellsNumber e bs → SpellsNumber e xs
  pub back : SpellsNumber e xs → SpellsNumber e bs

same_bytes : (xs bs : List ℕ) → bs ≡ xs → BytesFit (Token kind.Number) xs bs
same_bytes xs bs e = record { there = subst (SpellsNumber (Token kind.Number)) e; back = subst (SpellsNumber (Token kind.Number)) (sym e) }

pub bytes_fit : (e : Element) (xs bs : List ℕ) → bs ≡ encode_utf8_all xs → IsDecimalIfNumber e xs → BytesFit e xs bs
bytes_fit Skip xs bs f h = record { there = λ _. tt; back = λ _. tt }
bytes_fit (Token kind.Number) xs bs f h = same_bytes xs bs (f ∙ decimal_bytes xs h.0 h.1 h.2)
bytes_fit e xs bs f h = record { there = λ _. tt; back = λ _. tt }
