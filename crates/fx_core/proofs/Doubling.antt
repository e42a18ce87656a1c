-- Quoting a name, character by character.
use Rattle.std.proofs.Common.{◌≡◌, ℕ, List, [], ◌∷◌, ◌++◌, ◌==◌, Bool, true, false, if◌then◌else◌, refl, ap, sym, ◌∙◌, append_assoc, append-nil, flat_map, encode_utf8_all}
use Rattle.std.proofs.lemmas.Grind.{flat_map-append}
use Rattle.std.proofs.lemmas.Str.{encodes-append, chars-encodes}
use Rattle.std.specs.Str.{chars, all_scalars}
use Rattle.std.proofs.Math.Utf8.{scalar}
use Rattle.std.proofs.lemmas.Bool.{and_parts}
use lib.Utf8.{encode}
use Rattle.fx_core.specs.BrokenText.{single_quote_doubled}

pub one_doubled : (xs : List ℕ) (c : ℕ) → (39 ∷ encode_utf8_all (flat_map single_quote_doubled xs)) ++ encode_utf8_all (single_quote_doubled c) ≡ 39 ∷ encode_utf8_all (flat_map single_quote_doubled (xs ++ c ∷ []))
one_doubled xs c =
    ap (λ bs. 39 ∷ bs) (sym (encodes-append (flat_map single_quote_doubled xs) (single_quote_doubled c))
    ∙ ap encode_utf8_all (ap (λ ys. flat_map single_quote_doubled xs ++ ys) (sym (append-nil (single_quote_doubled c))) ∙ sym (flat_map-append single_quote_doubled xs (c ∷ []))))

-- a character and what follows, doubled, are scalar values
doubled_scalar : (c : ℕ) (rest : List ℕ) (b : Bool) → scalar c ≡ true → all_scalars rest ≡ true → all_scalars ((if b then 39 ∷ 39 ∷ [] else c ∷ []) ++ rest) ≡ true
doubled_scalar c rest true one all = all
doubled_scalar c rest false one all = rw (one, all) refl

scalars_doubled : (cs : List ℕ) → all_scalars cs ≡ true → all_scalars (flat_map single_quote_doubled cs ++ 39 ∷ []) ≡ true
scalars_doubled [] h = refl
scalars_doubled (c ∷ cs) h =
    let both = and_parts (scalar c) (all_scalars cs) h in
    ap all_scalars (append_assoc (single_quote_doubled c) (flat_map single_quote_doubled cs) (39 ∷ []))
    ∙ doubled_scalar c (flat_map single_quote_doubled cs ++ 39 ∷ []) (c == 39) both.0 (scalars_doubled cs both.1)

-- the bytes of a quoted name, and the characters that they spell
pub quoted_is : (cs : List ℕ) → all_scalars cs ≡ true → chars ((39 ∷ encode_utf8_all (flat_map single_quote_doubled cs)) ++ 39 ∷ []) ≡ 39 ∷ (flat_map single_quote_doubled cs ++ 39 ∷ [])
unfolding chars encode
quoted_is cs h =
    ap (λ bs. chars (39 ∷ bs)) (sym (encodes-append (flat_map single_quote_doubled cs) (39 ∷ [])))
    ∙ chars-encodes (39 ∷ (flat_map single_quote_doubled cs ++ 39 ∷ [])) (scalars_doubled cs h)
