-- Calls whose first part is a name, one step after another.
use Rattle.std.proofs.Common.{◌≡◌, ℕ, List, Result, Ok}
use Rattle.fx_types.specs.Types.{Shape}
use Rattle.fx_core.specs.Term.{Term}
use Rattle.fx_core.specs.ColumnLists.{and_then}
use Rattle.fx_typing.specs.Deeds.{by_first_name}
use Rattle.fx_typing.specs.Parts.{JudgedPart}
use Rattle.fx_typing.specs.Answers.{IsAnswerOf, Wrong}
use Rattle.fx_node_typing.specs.Lists.{named_first}
use Rattle.fx_node_typing.proofs.Exits.{goes_on, as_same}
use Rattle.fx_call_typing.proofs.Steps.{by_name_is}

-- where there is one
pub name_goes : {C : Type 0} (g : C → Term × Shape) (qs : List JudgedPart) (r : List ℕ × List JudgedPart) (go : List ℕ → List JudgedPart → Result (Term × Shape) ℕ) (res : Result C Wrong) →
    named_first qs ≡ Ok r → IsAnswerOf g (go r.0 r.1) res → IsAnswerOf g (by_first_name qs go) res
name_goes g qs r go res e h = as_same g (by_first_name qs go) (and_then (named_first qs) (λ p. go p.0 p.1)) res (by_name_is qs go) (goes_on g (named_first qs) r (λ p. go p.0 p.1) res e h)
