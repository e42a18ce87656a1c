-- The parts of a tree are smaller than it.
use Rattle.std.proofs.Common.{◌≡◌, ℕ, zero, suc, ◌<◌, List, [], ◌∷◌, length, get_or, sym, subst, arith}
use Rattle.fx_core.specs.Term.{Term, all, field_terms, term_size, terms_size}

pub part_falls : (ts : List Term) (i : ℕ) (t : Term) → i < length ts → t ≡ get_or ts i t → term_size t < terms_size (all ts)
part_falls [] i t l e = absurd (omega (arith, l))
part_falls (u ∷ ts) zero t l e = let P : Term → Type 0 = λ x. term_size x < terms_size (all (u ∷ ts)) in subst P (sym e) (omega arith)
part_falls (u ∷ ts) (suc i) t l e = let h = part_falls ts i t (omega (arith, l)) e in omega (arith, h)

pub field_falls : (fs : List (List ℕ × Term)) (i : ℕ) (f : List ℕ × Term) → i < length fs → f ≡ get_or fs i f → term_size f.1 < terms_size (field_terms fs)
field_falls [] i f l e = absurd (omega (arith, l))
field_falls (g ∷ fs) zero f l e = let P : List ℕ × Term → Type 0 = λ x. term_size x.1 < terms_size (field_terms (g ∷ fs)) in subst P (sym e) (omega arith)
field_falls (g ∷ fs) (suc i) f l e = let h = field_falls fs i f (omega (arith, l)) e in omega (arith, h)
