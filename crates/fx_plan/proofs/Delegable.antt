-- The parts of a tree, and the patterns of conditions, one after another.
use Rattle.std.proofs.Common.{◌≡◌, ℕ, zero, suc, ◌<◌, ◌≤◌, true, List, [], ◌∷◌, ◌++◌, Option, None, Some, length, get_or, refl, sym, ap, ◌∙◌, subst, arith}
use Rattle.std.specs.Prelude.{option_map, option_and_then, if◌then◌else◌}
use Rattle.fx_plan.specs.declared.plans.Sketch.{Sketch}
use Rattle.fx_plan.specs.Outlines.{Outline, constant}
use Rattle.fx_plan.specs.QueryExpressions.{call_pattern, called_with_two, comparison_pattern, comparison_by, is_constant, negated, pattern_by, pattern_of, patterns_of, sorted, with_constant}
use Rattle.fx_core.specs.declared.functions.Fun.{Fun}
use Rattle.fx_core.specs.declared.functions.Fun.TheVariants as fun
use Rattle.fx_core.specs.declared.literals.SortOrder.{SortOrder}
use Rattle.fx_core.specs.declared.schema.TableShape.{TableShape}
use Rattle.fx_core.specs.Term.{Term, of, cons, all, field_terms, term_size, terms_size}

pub part_falls : (cs : List Term) (i : ℕ) (c : Term) → i < length cs → c ≡ get_or cs i c → term_size c < terms_size (all cs)
part_falls [] i c l e = absurd (omega (arith, l))
part_falls (d ∷ cs) zero c l e = let P : Term → Type 0 = λ x. term_size x < terms_size (all (d ∷ cs)) in subst P (sym e) (omega arith)
part_falls (d ∷ cs) (suc i) c l e = let h = part_falls cs i c (omega (arith, l)) e in omega (arith, h)

pub field_falls : (fs : List (List ℕ × Term)) (i : ℕ) (f : List ℕ × Term) → i < length fs → f ≡ get_or fs i f → term_size f.1 < terms_size (field_terms fs)
field_falls [] i f l e = absurd (omega (arith, l))
field_falls (g ∷ fs) zero f l e = let P : List ℕ × Term → Type 0 = λ x. term_size x.1 < terms_size (field_terms (g ∷ fs)) in subst P (sym e) (omega arith)
field_falls (g ∷ fs) (suc i) f l e = let h = field_falls fs i f (omega (arith, l)) e in omega (arith, h)

-- a constant is kept behind those so far
pub constant_kept : (t : TableShape) (k : ℕ) (c : Term) (ds es : List Term) (i : ℕ) → is_constant k c ≡ true → i ≡ length ds → es ≡ ds ++ c ∷ [] →
    Some (constant i, es) ≡ pattern_of t k c ds
constant_kept t k (of h cs) ds es i e p q =
    ap (λ j. Some (constant j, es)) p ∙ ap (λ xs. Some (constant (length ds), xs)) q
    ∙ sym (ap (λ b. if b then Some (with_constant constant (of h cs) ds) else pattern_by t k h cs ds (patterns_of t k cs ds)) e)

-- Not is of one condition
pub no_negation : (t : TableShape) (k : ℕ) (cs : List Term) (ds : List Term) → 2 ≤ length cs → option_and_then negated (patterns_of t k (all cs) ds) ≡ None
no_negation t k [] ds h = absurd (omega (arith, h))
no_negation t k (c ∷ []) ds h = absurd (omega (arith, h))
no_negation t k (c ∷ d ∷ cs) ds h = first (pattern_of t k c ds)
  where
    third : (o u : Outline) (r : Option (List Outline × List Term)) →
        option_and_then negated (option_map (λ (q : List Outline × List Term). (o ∷ q.0, q.1)) (option_map (λ (q : List Outline × List Term). (u ∷ q.0, q.1)) r)) ≡ None
    third o u None = refl
    third o u (Some q) = refl

    second : (o : Outline) (r : Option (Outline × List Term)) →
        option_and_then negated (option_map (λ (q : List Outline × List Term). (o ∷ q.0, q.1)) (option_and_then (λ (p : Outline × List Term). option_map (λ (q : List Outline × List Term). (p.0 ∷ q.0, q.1)) (patterns_of t k (all cs) p.1)) r)) ≡ None
    second o None = refl
    second o (Some p) = third o p.0 (patterns_of t k (all cs) p.1)

    first : (r : Option (Outline × List Term)) →
        option_and_then negated (option_and_then (λ (p : Outline × List Term). option_map (λ (q : List Outline × List Term). (p.0 ∷ q.0, q.1)) (patterns_of t k (cons d (all cs)) p.1)) r) ≡ None
    first None = refl
    first (Some p) = second p.0 (pattern_of t k d p.1)

-- no call of more than a column and a constant is delegable
pub called_none : (t : TableShape) (k : ℕ) (f : Fun) (cs : List Term) (ds : List Term) → 3 ≤ length cs → None ≡ call_pattern t k f (all cs) ds
called_none t k f [] ds h = absurd (omega (arith, h))
called_none t k f (a ∷ []) ds h = absurd (omega (arith, h))
called_none t k f (a ∷ b ∷ []) ds h = absurd (omega (arith, h))
called_none t k f (a ∷ b ∷ c ∷ cs) ds h = refl

-- a sort has one key
pub sorted_none : (ts : List TableShape) (k : ℕ) (o : SortOrder) (cs : List Term) (s : Sketch) → 2 ≤ length cs → None ≡ sorted ts k o (all cs) s
sorted_none ts k o [] s h = absurd (omega (arith, h))
sorted_none ts k o (a ∷ []) s h = absurd (omega (arith, h))
sorted_none ts k o (a ∷ b ∷ cs) s h = refl

-- other functions than these two compare, if they are delegable at all
pub compared_else : (t : TableShape) (k : ℕ) (f : Fun) (a b : Term) (ds : List Term) → (f ≡ fun.StartsWith → ⊥) → (f ≡ fun.In → ⊥) →
    comparison_pattern t k (comparison_by f) a b ds ≡ called_with_two t k f a b ds
compared_else t k fun.StartsWith a b ds g h = absurd (g refl)
compared_else t k fun.In a b ds g h = absurd (h refl)
compared_else t k f a b ds g h = refl
