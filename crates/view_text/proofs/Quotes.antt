-- Quoting a text, character by character.
use Rattle.std.proofs.Common.{◌≡◌, ℕ, List, [], ◌∷◌, ◌++◌, ap, sym, ◌∙◌, append_assoc, append-nil, flat_map, encode_utf8_all}
use Rattle.std.proofs.lemmas.Grind.{flat_map-append}
use Rattle.std.proofs.lemmas.Str.{encodes-append}
use Rattle.view_text.specs.PlainText.{double_quote_doubled}

pub one_doubled : (out xs : List ℕ) (c : ℕ) → (out ++ 34 ∷ encode_utf8_all (flat_map double_quote_doubled xs)) ++ encode_utf8_all (double_quote_doubled c) ≡ out ++ 34 ∷ encode_utf8_all (flat_map double_quote_doubled (xs ++ c ∷ []))
one_doubled out xs c =
    append_assoc out _ _ ∙ ap (λ bs. out ++ 34 ∷ bs) (sym (encodes-append (flat_map double_quote_doubled xs) (double_quote_doubled c))
    ∙ ap encode_utf8_all (ap (λ ys. flat_map double_quote_doubled xs ++ ys) (sym (append-nil (double_quote_doubled c))) ∙ sym (flat_map-append double_quote_doubled xs (c ∷ []))))
