-- What parts may write, the whole may.
use Rattle.std.proofs.Common.{◌≡◌, List, ◌∷◌, sym, subst, inl, inr}
use Rattle.fx_core.specs.declared.sources.Source.{Source}
use Rattle.fx_core.specs.Term.{Term, Terms, of, nil, cons, all, Top}
use Rattle.fx_deeds.proofs.Attempts.{attempt_wider}
use Rattle.fx_deeds.specs.WorldSteps.{Attempt, Stage}
use Rattle.fx_behave.specs.Writable.{AnyMayWrite, MayWrite}

-- ---- trees

-- the same tree
pub same_may : (v w : Term) → v ≡ w → (x : Source) → MayWrite v x → MayWrite w x
same_may v w e x m = subst (λ (z : Term). MayWrite z x) e m

-- a part of a tree
pub part_may : (k : Top) (ts : Terms) (w : Term) → of k ts ≡ w → (x : Source) → AnyMayWrite ts x → MayWrite w x
part_may k ts w e x m = same_may (of k ts) w e x (inr m)

-- the one part of a tree
pub one_may : (k : Top) (x t w : Term) → of k (cons x nil) ≡ w → t ≡ x → (y : Source) → MayWrite t y → MayWrite w y
one_may k x t w e p y m = part_may k (cons x nil) w e y (inl (subst (λ (z : Term). MayWrite z y) p m))

-- ---- lists

-- the first of what is left
pub first_may : (rest : List Term) (t : Term) (others : List Term) (Q : Source → Type 0) → rest ≡ t ∷ others → ((x : Source) → AnyMayWrite (all rest) x → Q x) → (x : Source) → MayWrite t x → Q x
first_may rest t others Q e f x m = f x (subst (λ (ts : List Term). AnyMayWrite (all ts) x) (sym e) (inl m))

-- the others
pub others_may : (rest : List Term) (t : Term) (others : List Term) (Q : Source → Type 0) → rest ≡ t ∷ others → ((x : Source) → AnyMayWrite (all rest) x → Q x) → (x : Source) → AnyMayWrite (all others) x → Q x
others_may rest t others Q e f x m = f x (subst (λ (ts : List Term). AnyMayWrite (all ts) x) (sym e) (inr m))

-- ---- calls

module _ {A : Type 0} (a b : Stage A) where
  -- parts, for their head
  pub attempt_all : (k : Top) (ts : Terms) → Attempt a b (AnyMayWrite ts) → Attempt a b (MayWrite (of k ts))
  attempt_all k ts p = attempt_wider a b (AnyMayWrite ts) (MayWrite (of k ts)) (λ x m. inr m) p

  -- and for the tree
  pub attempt_parts : (k : Top) (ts : Terms) (w : Term) → of k ts ≡ w → Attempt a b (AnyMayWrite ts) → Attempt a b (MayWrite w)
  attempt_parts k ts w e p = attempt_wider a b (AnyMayWrite ts) (MayWrite w) (part_may k ts w e) p

  -- one part, for the tree
  pub attempt_one : (k : Top) (x t w : Term) → of k (cons x nil) ≡ w → t ≡ x → Attempt a b (MayWrite t) → Attempt a b (MayWrite w)
  attempt_one k x t w e q p = attempt_wider a b (MayWrite t) (MayWrite w) (one_may k x t w e q) p

  -- the same tree
  pub attempt_same : (v w : Term) → v ≡ w → Attempt a b (MayWrite v) → Attempt a b (MayWrite w)
  attempt_same v w e p = attempt_wider a b (MayWrite v) (MayWrite w) (same_may v w e) p
