-- Calls of what has a name, as one step after another.
use Rattle.std.proofs.Common.{◌≡◌, ℕ, List, [], ◌∷◌, Some, None, Result, refl}
use Rattle.fx_types.specs.Types.{Shape}
use Rattle.fx_core.specs.Term.{Term}
use Rattle.fx_core.specs.ColumnLists.{and_then}
use Rattle.fx_typing.specs.Deeds.{by_first_name}
use Rattle.fx_typing.specs.Parts.{JudgedPart, piece, meant, target, assigned}
use Rattle.fx_node_typing.specs.Lists.{named_first}

pub by_name_is : (qs : List JudgedPart) (go : List ℕ → List JudgedPart → Result (Term × Shape) ℕ) → by_first_name qs go ≡ and_then (named_first qs) (λ p. go p.0 p.1)
by_name_is [] go = refl
by_name_is (target None x ∷ qs) go = refl
by_name_is (target (Some a) x ∷ qs) go = refl
by_name_is (piece p ∷ qs) go = refl
by_name_is (meant m ∷ qs) go = refl
by_name_is (assigned ns xs ∷ qs) go = refl
