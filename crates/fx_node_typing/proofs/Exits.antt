-- What a call answers, one step after another.
use Rattle.std.proofs.Common.{◌≡◌, ℕ, Result, Ok, Err, sym, ap, subst}
use Rattle.fx_core.specs.ColumnLists.{and_then}
use Rattle.fx_typing.proofs.Stops.{stops}
use Rattle.fx_typing.specs.Answers.{IsAnswerOf, Wrong}

-- what stands behind a step that breaks a rule is not reached
pub first_stops : {A B C D : Type 0} (f : A → B) (g : C → D) (r : Result B ℕ) (go : B → Result D ℕ) (e : Wrong) → IsAnswerOf f r (Err e) → IsAnswerOf g (and_then r go) (Err e)
first_stops f g r go e h = stops f g r (and_then r go) e (λ k b. ap (λ q. and_then q go) b) h

-- a step that breaks none leaves the answer to what stands behind it
pub goes_on : {B C D : Type 0} (g : C → D) (r : Result B ℕ) (b : B) (go : B → Result D ℕ) (res : Result C Wrong) → r ≡ Ok b → IsAnswerOf g (go b) res → IsAnswerOf g (and_then r go) res
goes_on g r b go res e h = subst (λ q. IsAnswerOf g (and_then q go) res) (sym e) h

-- the same answer, of what is equal
pub as_same : {C D : Type 0} (g : C → D) (r s : Result D ℕ) (res : Result C Wrong) → r ≡ s → IsAnswerOf g s res → IsAnswerOf g r res
as_same g r s res e h = subst (λ q. IsAnswerOf g q res) (sym e) h
