-- The entry of a name.
use Rattle.std.proofs.Common.{◌≡◌, ℕ, List, [], ◌∷◌, Bool, true, false, Some, option_map, map, refl, bytes_eq, if◌then◌else◌}
use Rattle.std.specs.Prelude.{find}
use Rattle.fx_core.specs.declared.signatures.Signature.{Signature}
use Rattle.fx_core.specs.Signatures.{signature_in}
use Rattle.fx_sig.specs.Entries.{Entry, entry}

-- the first entry of a name is the first one that is seen under it
pub signature_found : (ss : List Signature) (n : List ℕ) → option_map entry (signature_in ss n) ≡ find (λ (e : Entry). bytes_eq e.name n) (map entry ss)
signature_found [] n = refl
signature_found (s ∷ ss) n = by_test (bytes_eq s.name.now n) (signature_found ss n)
  where
    by_test : (b : Bool) → option_map entry (signature_in ss n) ≡ find (λ (e : Entry). bytes_eq e.name n) (map entry ss) →
        option_map entry (if b then Some s else signature_in ss n) ≡ (if b then Some (entry s) else find (λ (e : Entry). bytes_eq e.name n) (map entry ss))
    by_test true h = refl
    by_test false h = h
