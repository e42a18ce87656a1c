-- Texts that are made.
use Rattle.std.proofs.Common.{◌≡◌, ℕ, ◌+◌, ◌<◌, ◌≤◌, List, [], ◌∷◌, ◌++◌, length, get_or, take, ap, sym, refl, ◌∙◌, append_assoc, append-nil, arith, Result, Ok, Err}
use Rattle.std.proofs.lemmas.Bool.Decides.{nat_tests}
use Rattle.std.proofs.lemmas.List.{take_more}
use Rattle.std.proofs.lemmas.Str.{encodes-chars, encodes-append}
use Rattle.std.specs.Prelude.{encode_utf8, encode_utf8_all}
use Rattle.std.specs.Str.{IsUtf8, chars}
use Rattle.fx_types.specs.declared.faults.Kind.{Kind}
use Rattle.fx_types.specs.declared.faults.Kind.TheVariants.{QuotaExceeded}
use Rattle.fx_primitives.specs.Texts.{utf8_length, longest, text_or_quota, joined}

pub made-short : (cs : List ℕ) → utf8_length cs ≤ longest → text_or_quota cs ≡ Ok cs
made-short cs h = grind (arith, nat_tests)

pub made-long : (cs : List ℕ) → longest < utf8_length cs → text_or_quota cs ≡ Err QuotaExceeded
made-long cs h = grind (arith, nat_tests)

pub bytes_of-chars : (bs : List ℕ) → IsUtf8 bs → utf8_length (chars bs) ≡ length bs
bytes_of-chars bs u = ap length (encodes-chars bs u)

-- one more character
pub encodes_more : (cs : List ℕ) (i c : ℕ) → i < length cs → c ≡ get_or cs i c → encode_utf8_all (take (i + 1) cs) ≡ encode_utf8_all (take i cs) ++ encode_utf8 c
encodes_more cs i c h e =
    ap encode_utf8_all (take_more cs i c h ∙ ap (λ x. take i cs ++ x ∷ []) (sym e)) ∙ encodes-append (take i cs) (c ∷ [])
    ∙ ap (λ bs. encode_utf8_all (take i cs) ++ bs) (append-nil (encode_utf8 c))

joined-append : (ts us : List (List ℕ)) → joined (ts ++ us) ≡ joined ts ++ joined us
joined-append [] us = refl
joined-append (t ∷ ts) us = ap (λ cs. t ++ cs) (joined-append ts us) ∙ sym (append_assoc t (joined ts) (joined us))

-- one more text
pub joined_more : (ts : List (List ℕ)) (i : ℕ) (t : List ℕ) → i < length ts → t ≡ get_or ts i t
    → encode_utf8_all (joined (take (i + 1) ts)) ≡ encode_utf8_all (joined (take i ts)) ++ encode_utf8_all t
joined_more ts i t h e =
    ap (λ us. encode_utf8_all (joined us)) (take_more ts i t h ∙ ap (λ u. take i ts ++ u ∷ []) (sym e))
    ∙ ap encode_utf8_all (joined-append (take i ts) (t ∷ []) ∙ ap (λ u. joined (take i ts) ++ u) (append-nil t))
    ∙ encodes-append (joined (take i ts)) t
