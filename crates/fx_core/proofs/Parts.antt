-- A part of a typed tree is smaller than its parts together.
use Rattle.std.proofs.Common.{◌≡◌, ℕ, zero, suc, ◌<◌, List, [], ◌∷◌, length, get_or, arith}
use Rattle.fx_core.specs.Term.{Term, all, field_terms, term_size, terms_size}

pub part_is_smaller : (ts : List Term) (i : ℕ) (t : Term) → i < length ts → t ≡ get_or ts i t → term_size t < terms_size (all ts)
part_is_smaller [] i t h e = omega arith
part_is_smaller (u ∷ ts) zero t h e = rw e (omega arith)
part_is_smaller (u ∷ ts) (suc i) t h e = omega (arith, part_is_smaller ts i t (omega arith) e)

pub field_is_smaller : (fs : List (List ℕ × Term)) (i : ℕ) (f : List ℕ × Term) → i < length fs → f ≡ get_or fs i f → term_size f.1 < terms_size (field_terms fs)
field_is_smaller [] i f h e = omega arith
field_is_smaller (g ∷ fs) zero f h e = rw e (omega arith)
field_is_smaller (g ∷ fs) (suc i) f h e = omega (arith, field_is_smaller fs i f (omega arith) e)
