-- A constant is worth the same whatever row stands in the scope of its condition.
use Rattle.std.specs.Cmp.{first_so, second_so}
use Rattle.std.proofs.Common.{◌≡◌, ℕ, zero, suc, ◌⊎◌, inl, inr, List, [], ◌∷◌, ◌+◌, ◌++◌, length, true, false, Some, refl, sym, ap, subst, ◌∙◌}
use Rattle.std.specs.Prelude.{nat_eq, not, slice_get}
use Rattle.std.proofs.lemmas.Bool.{both_ways, eq-eqb}
use Rattle.std.proofs.lemmas.List.{length-append}
use Rattle.std.proofs.lemmas.Option.{same_Some}
use Rattle.fx_types.specs.declared.faults.Kind.{Kind}
use Rattle.fx_types.specs.Values.{Data}
use Rattle.fx_plan.specs.QueryExpressions.{are_constant, is_barred, is_constant}
use Rattle.fx_semantics.specs.Around.{Around, catching, inside}
use Rattle.fx_semantics.specs.Errors.{IsCaught}
use Rattle.fx_semantics.specs.Fresh.{meaning, meanings}
use Rattle.fx_core.specs.declared.sources.Source.{Source}
use Rattle.fx_core.specs.Term.{Term, Terms, of, nil, cons, Top}
use Rattle.fx_core.specs.Term as top
use Rattle.fx_plan.proofs.Carried.{AllCarry, Bears, Carries, node_carries}
use Rattle.fx_plan.proofs.Placing.{got_last, got_more, not_barred}

-- the same around, but for the row of scope k
pub record Agrees (k : ℕ) (a b : Around) : Type 0 where
  pub gives : (s : Source) (v : Data) → a.gives s v → b.gives s v
  pub rows : (j : ℕ) (v : Data) → (j ≡ k → ⊥) → slice_get a.rows j ≡ Some v → slice_get b.rows j ≡ Some v
  pub many : length a.rows ≡ length b.rows
  pub item : a.item ≡ b.item
  pub caught : a.caught ≡ b.caught

split_last : (xs : List Data) (d : Data) (j : ℕ) (v : Data) → slice_get (xs ++ d ∷ []) j ≡ Some v → (slice_get xs j ≡ Some v) ⊎ ((j ≡ length xs) × (d ≡ v))
split_last [] d zero v e = inr (refl, same_Some d v e)
split_last [] d (suc j) v e = absurd cc
split_last (x ∷ xs) d zero v e = inl e
split_last (x ∷ xs) d (suc j) v e = by (split_last xs d j v e)
  where
    by : (slice_get xs j ≡ Some v) ⊎ ((j ≡ length xs) × (d ≡ v)) → (slice_get xs j ≡ Some v) ⊎ ((suc j ≡ suc (length xs)) × (d ≡ v))
    by (inl p) = inl p
    by (inr p) = inr (ap suc p.0, p.1)

grown : (k : ℕ) (xs ys : List Data) (d : Data) → length xs ≡ length ys → ((j : ℕ) (v : Data) → (j ≡ k → ⊥) → slice_get xs j ≡ Some v → slice_get ys j ≡ Some v) →
    (j : ℕ) (v : Data) → (j ≡ k → ⊥) → slice_get (xs ++ d ∷ []) j ≡ Some v → slice_get (ys ++ d ∷ []) j ≡ Some v
grown k xs ys d many f j v n e = by (split_last xs d j v e)
  where
    by : (slice_get xs j ≡ Some v) ⊎ ((j ≡ length xs) × (d ≡ v)) → slice_get (ys ++ d ∷ []) j ≡ Some v
    by (inl p) = got_more ys (d ∷ []) j v (f j v n p)
    by (inr p) =
        let at : length ys ≡ j = sym (p.0 ∙ many) in
        subst (λ (i : ℕ). slice_get (ys ++ d ∷ []) i ≡ Some v) at (got_last ys d ∙ ap Some p.1)

more_long : (xs ys : List Data) (d : Data) → length xs ≡ length ys → length (xs ++ d ∷ []) ≡ length (ys ++ d ∷ [])
more_long xs ys d e = length-append xs (d ∷ []) ∙ ap (λ n. n + 1) e ∙ sym (length-append ys (d ∷ []))

pub agrees_inside : (k : ℕ) (a b : Around) (d : Data) → Agrees k a b → Agrees k (inside a d) (inside b d)
agrees_inside k a b d r = record { gives = r.gives; rows = grown k a.rows b.rows d r.many r.rows; many = more_long a.rows b.rows d r.many; item = r.item; caught = r.caught }

pub agrees_catching : (k : ℕ) (a b : Around) (x : Kind) (cs : List ℕ) → Agrees k a b → Agrees k (catching a x cs) (catching b x cs)
agrees_catching k a b x cs r = record { gives = r.gives; rows = r.rows; many = r.many; item = r.item; caught = refl }

bears : (k : ℕ) (h : Top) → is_barred k h ≡ false → Bears (Agrees k) (agrees_inside k) (agrees_catching k) h
bears k (top.read s) e = λ a b v r g. r.gives s v g
bears k (top.row j) e = λ a b v r g. r.rows j v (λ q. both_ways (nat_eq j k) e (eq-eqb j k q)) g
bears k top.item e = λ a b v r g. sym r.item ∙ g
bears k top.caught e = λ a b v r g. subst (λ c. IsCaught c v) r.caught g
bears k h e = tt

mutual
  pub constant_carries : (k : ℕ) (c : Term) → is_constant k c ≡ true → Carries (Agrees k) (agrees_inside k) (agrees_catching k) (meaning c)
  constant_carries k (of h cs) e =
      node_carries (Agrees k) (agrees_inside k) (agrees_catching k) h (meanings cs) (bears k h (not_barred (is_barred k h) (are_constant k cs) e))
      (constants_carry k cs (second_so (not (is_barred k h)) (are_constant k cs) e))

  constants_carry : (k : ℕ) (cs : Terms) → are_constant k cs ≡ true → AllCarry (Agrees k) (agrees_inside k) (agrees_catching k) (meanings cs)
  constants_carry k nil e = tt
  constants_carry k (cons c cs) e =
      (constant_carries k c (first_so (is_constant k c) (are_constant k cs) e), constants_carry k cs (second_so (is_constant k c) (are_constant k cs) e))

-- another row in the scope
other_last : (xs : List Data) (d e : Data) (j : ℕ) (v : Data) → (j ≡ length xs → ⊥) → slice_get (xs ++ d ∷ []) j ≡ Some v → slice_get (xs ++ e ∷ []) j ≡ Some v
other_last xs d e j v n h = by (split_last xs d j v h)
  where
    by : (slice_get xs j ≡ Some v) ⊎ ((j ≡ length xs) × (d ≡ v)) → slice_get (xs ++ e ∷ []) j ≡ Some v
    by (inl p) = got_more xs (e ∷ []) j v p
    by (inr p) = absurd (n p.0)

pub other_row : (a : Around) (d e : Data) → Agrees (length a.rows) (inside a d) (inside a e)
other_row a d e = record {
  gives = λ s v g. g;
  rows = other_last a.rows d e;
  many = length-append a.rows (d ∷ []) ∙ sym (length-append a.rows (e ∷ []));
  item = refl;
  caught = refl;
}

pub constant_stays : (a : Around) (d e : Data) (c : Term) (v : Data) → is_constant (length a.rows) c ≡ true → meaning c (inside a d) v → meaning c (inside a e) v
constant_stays a d e c v k h = constant_carries (length a.rows) c k (inside a d) (inside a e) v (other_row a d e) h
