-- The parts of a tree are smaller than the tree.
use Rattle.std.proofs.Common.{◌≡◌, ℕ, zero, suc, ◌+◌, ◌<◌, ◌≤◌, List, [], ◌∷◌, length, get_or, ap, sym, ◌∙◌, arith}
use Rattle.fx_eval.specs.Parts.{terms_of}
use Rattle.fx_core.specs.Term.{Term, of, nil, cons, Top, all, field_terms, term_size, terms_size}
use Rattle.fx_eval.proofs.Standings.{all_parts}

pub field_is_smaller : (fs : List (List ℕ × Term)) (i : ℕ) (f : List ℕ × Term) → i < length fs → f ≡ get_or fs i f → term_size f.1 < terms_size (all (terms_of fs))
field_is_smaller [] i f h e = omega arith
field_is_smaller (g ∷ fs) zero f h e = rw e (omega arith)
field_is_smaller (g ∷ fs) (suc i) f h e = omega (arith, field_is_smaller fs i f (omega arith) e)

-- the parts of a node
pub parts_fall : (t : Term) (h : Top) (ts xs : List Term) → of h (all ts) ≡ t → xs ≡ ts → terms_size (all xs) < term_size t
parts_fall t h ts xs e f = rw (← e, f) (omega arith)

pub fields_fall : (t : Term) (h : Top) (fs gs : List (List ℕ × Term)) → of h (field_terms fs) ≡ t → gs ≡ fs → terms_size (all (terms_of gs)) < term_size t
fields_fall t h fs gs e f =
    let same : terms_size (field_terms fs) ≡ terms_size (all (terms_of gs)) = ap terms_size (all_parts fs) ∙ ap (λ z. terms_size (all (terms_of z))) (sym f) in
    rw (← e) (omega (arith, same))

pub one_falls : (t : Term) (h : Top) (u x : Term) → of h (cons u nil) ≡ t → x ≡ u → suc (term_size x) < term_size t
one_falls t h u x e f = rw (← e, f) (omega arith)

-- a table and the other parts
pub table_falls : (t : Term) (h : Top) (u : Term) (ts : List Term) (x : Term) (xs : List Term) → of h (cons u (all ts)) ≡ t → x ≡ u → xs ≡ ts →
    term_size x + terms_size (all xs) + 2 ≤ term_size t
table_falls t h u ts x xs e f g = rw (← e, f, g) (omega arith)

-- the parts behind the first
pub rest_falls : (rest : List Term) (t : Term) (others : List Term) → rest ≡ t ∷ others → terms_size (all others) < terms_size (all rest)
rest_falls rest t others e = rw e (omega arith)

-- the condition of a search, and its formula
pub condition_falls : (ps cs : List Term) (c x : Term) → ps ≡ c ∷ x ∷ [] → cs ≡ c ∷ [] → terms_size (all cs) ≤ terms_size (all ps)
condition_falls ps cs c x p q = rw (p, q) (omega arith)

pub formula_falls : (ps : List Term) (c x : Term) → ps ≡ c ∷ x ∷ [] → term_size x ≤ terms_size (all ps)
formula_falls ps c x p = rw p (omega arith)
