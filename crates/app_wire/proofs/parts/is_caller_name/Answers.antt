use Rattle.std.proofs.Common.{◌∙◌, ◌≤◌, length, sym, arith}
use Rattle.std.proofs.lemmas.Bool.Decides.{nat_tests}
use Rattle.app_wire.proofs.parts.is_caller_name.Goals as goal

pub returns : goal.returns
returns c =
    let some : 1 ≤ length c.args.name.now = grind (arith, nat_tests) in
    ((λ yes. record { some = some; few = omega arith; bytes = sym c.has_name_bytes.ensures ∙ yes }), λ is. c.has_name_bytes.ensures ∙ is.bytes)
