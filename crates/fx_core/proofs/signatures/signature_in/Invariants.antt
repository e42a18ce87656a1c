use Rattle.std.proofs.Common.{◌≡◌, drop}
use Rattle.fx_core.specs.Signatures.{signature_in}
use Rattle.fx_core.proofs.signatures.signature_in.Given as goal

-- what is left has the entry
abbrev pub invariant-loop-signature : goal.invariant-loop-signature
invariant-loop-signature l = signature_in (drop l.signature-index l.signatures) l.name ≡ signature_in l.signatures l.name
