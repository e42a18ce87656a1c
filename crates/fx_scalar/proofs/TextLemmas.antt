-- Texts and their bytes.
use Rattle.std.proofs.Common.{◌≡◌, ℕ, ◌≤◌, List, [], ◌∷◌, length, nat_eq, arith, refl}
use Rattle.std.specs.Prelude.{suc, encode_utf8_all}
use Rattle.std.proofs.lemmas.Bool.Decides.{nat_tests}
use Rattle.std.proofs.lemmas.Str.{length-le-encodes}
use Rattle.fx_types.specs.Values.{text}
use Rattle.fx_scalar.specs.ScalarFunctions.{is_blank_or_empty}

-- a text is empty where its bytes are
pub blank_by_bytes : (cs bs : List ℕ) → bs ≡ encode_utf8_all cs → nat_eq (length bs) 0 ≡ is_blank_or_empty (text cs)
blank_by_bytes [] bs e = rw e refl
blank_by_bytes (c ∷ cs) bs e = let h : suc (length cs) ≤ length bs = rw e (length-le-encodes (c ∷ cs)) in grind (arith, nat_tests)
