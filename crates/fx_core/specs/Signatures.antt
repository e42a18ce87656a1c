-- Entries of the table of functions.
use Rattle.std.specs.Prelude.{ℕ, List, [], ◌∷◌, Option, Some, None, bytes_eq, if◌then◌else◌}
use Rattle.fx_core.specs.declared.signatures.Signature.{Signature}

-- the first entry of a name, given by its bytes
abbrev pub signature_in : List Signature → List ℕ → Option Signature
signature_in [] n = None
signature_in (s ∷ ss) n = if bytes_eq s.name.now n then Some s else signature_in ss n
