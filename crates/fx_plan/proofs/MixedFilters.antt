-- What a mixed filter asks is one query, and no query expression is mixed.
use Rattle.std.proofs.Common.{◌≡◌, ℕ, List, [], ◌∷◌, ◌++◌, Bool, true, false, not, Option, Some, None, refl, sym, ap, ◌∙◌}
use Rattle.std.specs.Prelude.{◌&&◌, ◌||◌, is_some, option_map, option_and_then, slice_get, if◌then◌else◌}
use Rattle.std.specs.List.{list_any}
use Rattle.std.proofs.lemmas.Option.{same_Some}
use Rattle.std.proofs.Math.Bool.{and-false}
use Rattle.filter_parts.specs.Splits.{marked, split_with}
use Rattle.fx_core.specs.declared.functions.Form.TheVariants as form
use Rattle.fx_core.specs.declared.functions.Fun.{Fun}
use Rattle.fx_core.specs.declared.functions.Fun.TheVariants as fun
use Rattle.fx_core.specs.declared.rows.Scalar.{Scalar}
use Rattle.fx_core.specs.declared.rows.Scalar.TheVariants.{Boolean, Text}
use Rattle.fx_core.specs.declared.schema.TableShape.{TableShape}
use Rattle.fx_core.specs.Term.{Term, Terms, of, nil, cons, Top}
use Rattle.fx_core.specs.Term as top
use Rattle.fx_types.specs.declared.comparisons.Cmp.{Cmp}
use Rattle.fx_plan.specs.declared.plans.Sketch.{Sketch}
use Rattle.fx_plan.specs.Mixed.{MixOf, QueriesAreUnmixed, SplitsAreQueries, are_both, delegable_ones, is_delegable, mix_by, mix_of, mix_over}
use Rattle.fx_plan.specs.Outlines.{Outline, all_of, any_of, compares, constant, contains, flag, is_blank, outline_list, starts}
use Rattle.fx_plan.specs.QueryExpressions.{along, beside, call_pattern, called_with_one, called_with_two, column_of, compared_with, comparison_by, comparison_pattern, filter_sketch, flipped, is_constant, negated, pattern_by, pattern_of, patterns_behind, patterns_of, plain_column, sketch_of, with_constant}
use Rattle.fx_plan.proofs.Placing.{in_front, joined, some_map, some_then}

-- ---- options

still_some : {A B : Type 0} (f : A → B) (o : Option A) → is_some (option_map f o) ≡ is_some o
still_some f None = refl
still_some f (Some a) = refl

mapped_some : {A B C : Type 0} (f : A → B) (g : A → C) (o : Option A) → is_some (option_map f o) ≡ is_some (option_map g o)
mapped_some f g None = refl
mapped_some f g (Some a) = refl

pub along_some : (ds : List Term) (o : Option Outline) → is_some (along ds o) ≡ is_some o
along_some ds None = refl
along_some ds (Some o) = refl

along_any : (ds es : List Term) (o : Option Outline) → is_some (along ds o) ≡ is_some (along es o)
along_any ds es o = along_some ds o ∙ sym (along_some es o)

-- ---- whether there is a pattern doesn't hang on the constants so far

-- as many patterns, whatever constants they have
abbrev SameLong : List Outline → List Outline → Type 0
SameLong [] [] = Unit {0}
SameLong (x ∷ xs) (y ∷ ys) = SameLong xs ys
SameLong xs ys = ⊥

abbrev Alike : Option (List Outline × List Term) → Option (List Outline × List Term) → Type 0
Alike None None = Unit {0}
Alike (Some p) (Some q) = SameLong p.0 q.0
Alike r s = ⊥

negated_any : (xs ys : List Outline) (ds es : List Term) → SameLong xs ys → is_some (negated (xs, ds)) ≡ is_some (negated (ys, es))
negated_any [] [] ds es h = refl
negated_any (x ∷ []) (y ∷ []) ds es h = refl
negated_any (x ∷ z ∷ xs) (y ∷ w ∷ ys) ds es h = refl
negated_any [] (y ∷ ys) ds es h = absurd h
negated_any (x ∷ xs) [] ds es h = absurd h
negated_any (x ∷ []) (y ∷ w ∷ ys) ds es h = absurd h
negated_any (x ∷ z ∷ xs) (y ∷ []) ds es h = absurd h

not_any : (r s : Option (List Outline × List Term)) → Alike r s → is_some (option_and_then negated r) ≡ is_some (option_and_then negated s)
not_any None None h = refl
not_any (Some p) (Some q) h = negated_any p.0 q.0 p.1 q.1 h
not_any None (Some q) h = absurd h
not_any (Some p) None h = absurd h

all_any : (f : List Outline × List Term → Outline × List Term) (r s : Option (List Outline × List Term)) → Alike r s → is_some (option_map f r) ≡ is_some (option_map f s)
all_any f None None h = refl
all_any f (Some p) (Some q) h = refl
all_any f None (Some q) h = absurd h
all_any f (Some p) None h = absurd h

in_front_any : (o u : Outline) (r s : Option (List Outline × List Term)) → Alike r s → Alike (option_map (in_front o) r) (option_map (in_front u) s)
in_front_any o u None None h = tt
in_front_any o u (Some p) (Some q) h = h
in_front_any o u None (Some q) h = absurd h
in_front_any o u (Some p) None h = absurd h

module _ (t : TableShape) (k : ℕ) where
  compared_any : (p : Option (Cmp × Scalar)) (a b : Term) (ds es : List Term) → is_some (comparison_pattern t k p a b ds) ≡ is_some (comparison_pattern t k p a b es)
  compared_any None a b ds es = refl
  compared_any (Some p) a b ds es = by (is_constant k b)
    where
      by : (c : Bool) → is_some (if c then compared_with t k p.0 p.1 a b ds else compared_with t k (flipped p.0) p.1 b a ds)
          ≡ is_some (if c then compared_with t k p.0 p.1 a b es else compared_with t k (flipped p.0) p.1 b a es)
      by true = mapped_some (λ (i : ℕ). with_constant (compares p.0 i) b ds) (λ (i : ℕ). with_constant (compares p.0 i) b es) (beside t k p.1 a b)
      by false = mapped_some (λ (i : ℕ). with_constant (compares (flipped p.0) i) a ds) (λ (i : ℕ). with_constant (compares (flipped p.0) i) a es) (beside t k p.1 b a)

  two_any : (f : Fun) (a b : Term) (ds es : List Term) → is_some (called_with_two t k f a b ds) ≡ is_some (called_with_two t k f a b es)
  two_any fun.StartsWith a b ds es = mapped_some (λ (i : ℕ). with_constant (starts i) b ds) (λ (i : ℕ). with_constant (starts i) b es) (beside t k Text a b)
  two_any fun.In a b ds es = mapped_some (λ (i : ℕ). with_constant (contains i) a ds) (λ (i : ℕ). with_constant (contains i) a es) (beside t k Text b a)
  two_any f a b ds es = compared_any (comparison_by f) a b ds es

  one_any : (f : Fun) (a : Term) (ds es : List Term) → is_some (called_with_one t k f a ds) ≡ is_some (called_with_one t k f a es)
  one_any fun.IsBlank a ds es = along_any ds es (option_map is_blank (plain_column t k a))
  one_any f a ds es = refl

  call_any : (f : Fun) (cs : Terms) (ds es : List Term) → is_some (call_pattern t k f cs ds) ≡ is_some (call_pattern t k f cs es)
  call_any f nil ds es = refl
  call_any f (cons a nil) ds es = one_any f a ds es
  call_any f (cons a (cons b nil)) ds es = two_any f a b ds es
  call_any f (cons a (cons b (cons c cs))) ds es = refl

  by_any : (h : Top) (cs : Terms) (ds es : List Term) (r s : Option (List Outline × List Term)) → Alike r s → is_some (pattern_by t k h cs ds r) ≡ is_some (pattern_by t k h cs es s)
  by_any (top.form form.All) cs ds es r s a = all_any (joined all_of) r s a
  by_any (top.form form.Any) cs ds es r s a = all_any (joined any_of) r s a
  by_any (top.call fun.Not) cs ds es r s a = not_any r s a
  by_any (top.call f) cs ds es r s a = call_any f cs ds es
  by_any (top.dot n) cs ds es r s a = along_any ds es (option_map flag (column_of t k Boolean (of (top.dot n) cs)))
  by_any h cs ds es r s a = refl

  mutual
    pattern_any : (c : Term) (ds es : List Term) → is_some (pattern_of t k c ds) ≡ is_some (pattern_of t k c es)
    pattern_any (of h cs) ds es = by (is_constant k (of h cs)) (patterns_any cs ds es)
      where
        by : (b : Bool) → Alike (patterns_of t k cs ds) (patterns_of t k cs es) →
            is_some (if b then Some (with_constant constant (of h cs) ds) else pattern_by t k h cs ds (patterns_of t k cs ds))
            ≡ is_some (if b then Some (with_constant constant (of h cs) es) else pattern_by t k h cs es (patterns_of t k cs es))
        by true a = refl
        by false a = by_any h cs ds es (patterns_of t k cs ds) (patterns_of t k cs es) a

    patterns_any : (cs : Terms) (ds es : List Term) → Alike (patterns_of t k cs ds) (patterns_of t k cs es)
    patterns_any nil ds es = tt
    patterns_any (cons c cs) ds es = by (λ xs ys. patterns_any cs xs ys) (pattern_of t k c ds) (pattern_of t k c es) (pattern_any c ds es)
      where
        by : ((xs ys : List Term) → Alike (patterns_of t k cs xs) (patterns_of t k cs ys)) → (r s : Option (Outline × List Term)) → is_some r ≡ is_some s →
            Alike (option_and_then (λ (p : Outline × List Term). option_map (in_front p.0) (patterns_of t k cs p.1)) r)
            (option_and_then (λ (p : Outline × List Term). option_map (in_front p.0) (patterns_of t k cs p.1)) s)
        by go None None e = tt
        by go None (Some y) e = absurd cc
        by go (Some x) None e = absurd cc
        by go (Some x) (Some y) e = in_front_any x.0 y.0 (patterns_of t k cs x.1) (patterns_of t k cs y.1) (go x.1 y.1)

  -- ---- delegable conditions

  then_some : (cs : Terms) (r : Option (Outline × List Term)) → is_some r ≡ true → ((xs : List Term) → is_some (patterns_of t k cs xs) ≡ true) →
      is_some (option_and_then (λ (p : Outline × List Term). option_map (in_front p.0) (patterns_of t k cs p.1)) r) ≡ true
  then_some cs None e go = e
  then_some cs (Some x) e go = still_some (in_front x.0) (patterns_of t k cs x.1) ∙ go x.1

  -- those that are marked have patterns
  marked_some : (cs : Terms) (ds : List Term) → is_some (patterns_of t k (marked (delegable_ones t k cs) cs) ds) ≡ true
  marked_some nil ds = refl
  marked_some (cons c cs) ds = by (λ xs. marked_some cs xs) (is_delegable t k c) refl
    where
      by : ((xs : List Term) → is_some (patterns_of t k (marked (delegable_ones t k cs) cs) xs) ≡ true) → (b : Bool) → is_delegable t k c ≡ b →
          is_some (patterns_of t k (marked (b ∷ delegable_ones t k cs) (cons c cs)) ds) ≡ true
      by go true e = then_some (marked (delegable_ones t k cs) cs) (pattern_of t k c ds) (pattern_any c ds [] ∙ e) go
      by go false e = go ds

  -- where all have patterns, each is delegable
  none_other : (cs : Terms) (ds : List Term) → is_some (patterns_of t k cs ds) ≡ true → list_any not (delegable_ones t k cs) ≡ false
  none_other nil ds e = refl
  none_other (cons c cs) ds e = by (λ xs h. none_other cs xs h) (pattern_of t k c ds) refl e
    where
      by : ((xs : List Term) → is_some (patterns_of t k cs xs) ≡ true → list_any not (delegable_ones t k cs) ≡ false) → (r : Option (Outline × List Term)) → pattern_of t k c ds ≡ r →
          is_some (option_and_then (λ (p : Outline × List Term). option_map (in_front p.0) (patterns_of t k cs p.1)) r) ≡ true →
          list_any not (is_delegable t k c ∷ delegable_ones t k cs) ≡ false
      by go None w h = absurd cc
      by go (Some x) w h =
          let is : is_delegable t k c ≡ true = pattern_any c [] ds ∙ ap is_some w in
          ap (λ b. not b || list_any not (delegable_ones t k cs)) is ∙ go x.1 (sym (still_some (in_front x.0) (patterns_of t k cs x.1)) ∙ h)

-- ---- mixed filters

-- what the mix of a filter says
pub record IsMix (ts : List TableShape) (k : ℕ) (q : Term) (cs : Terms) (m : MixOf) : Type 0 where
  pub sketch : Sketch
  pub sketched : sketch_of ts k q ≡ Some sketch
  pub shape : TableShape
  pub is_table : slice_get ts sketch.table ≡ Some shape
  pub marks : delegable_ones shape k cs ≡ m.marks
  pub both : are_both m.marks ≡ true

abbrev mix_made : ℕ → List Bool → MixOf
mix_made n bs = record { table = n; marks = bs }

by_both : (n : ℕ) (bs : List Bool) (m : MixOf) → mix_by n bs ≡ Some m → (bs ≡ m.marks) × (are_both m.marks ≡ true)
by_both n bs m e = by (are_both bs) refl e
  where
    by : (b : Bool) → are_both bs ≡ b → (if b then Some (mix_made n bs) else None) ≡ Some m → (bs ≡ m.marks) × (are_both m.marks ≡ true)
    by true w h =
        let is : bs ≡ m.marks = ap (λ (x : MixOf). x.marks) (same_Some (mix_made n bs) m h) in
        (is, ap are_both (sym is) ∙ w)
    by false w h = absurd cc

pub mixed_so : (ts : List TableShape) (k : ℕ) (q : Term) (cs : Terms) (m : MixOf) → mix_of ts k (of (top.over fun.Filter) (cons q cs)) ≡ Some m → IsMix ts k q cs m
mixed_so ts k q cs m e =
    let s = some_then (λ (s : Sketch). mix_over ts k s.table cs) (sketch_of ts k q) m e in
    let t = some_then (λ (t : TableShape). mix_by s.0.table (delegable_ones t k cs)) (slice_get ts s.0.table) m s.2 in
    let b = by_both s.0.table (delegable_ones t.0 k cs) m t.2 in
    record { sketch = s.0; sketched = s.1; shape = t.0; is_table = t.1; marks = b.0; both = b.1 }

-- the sketch of a filter of rows with these tests and constants
abbrev filtered : Sketch → List Outline × List Term → Sketch
filtered s p = record s { test = all_of (outline_list p.0); constants = p.1 }

-- the filter with the delegable conditions is a query expression
split_query : (ts : List TableShape) (k : ℕ) (q : Term) (cs : Terms) (m : MixOf) → IsMix ts k q cs m → is_some (sketch_of ts k (of (top.over fun.Filter) (cons q (marked m.marks cs)))) ≡ true
split_query ts k q cs m w =
    let ds : Terms = marked m.marks cs in
    let front : List Outline = w.sketch.test ∷ [] in
    let Behind : List Outline × List Term → List Outline × List Term = λ p. (front ++ p.0, p.1) in
    ap (λ (o : Option Sketch). is_some (option_and_then (filter_sketch ts k ds) o)) w.sketched
    ∙ ap (λ (o : Option TableShape). is_some (option_and_then (λ (t : TableShape). option_map (filtered w.sketch) (patterns_behind front (patterns_of t k ds w.sketch.constants))) o)) w.is_table
    ∙ still_some (filtered w.sketch) (patterns_behind front (patterns_of w.shape k ds w.sketch.constants))
    ∙ still_some Behind (patterns_of w.shape k ds w.sketch.constants)
    ∙ ap (λ (bs : List Bool). is_some (patterns_of w.shape k (marked bs cs) w.sketch.constants)) (sym w.marks)
    ∙ marked_some w.shape k cs w.sketch.constants

pub splits_are_queries : SplitsAreQueries
splits_are_queries ts k (of (top.over fun.Filter) (cons q cs)) p e =
    let m = some_map (λ (m : MixOf). split_with m.marks (of (top.over fun.Filter) (cons q cs))) (mix_of ts k (of (top.over fun.Filter) (cons q cs))) p e in
    ap (λ (x : Term × Terms). is_some (sketch_of ts k x.0)) (sym m.2) ∙ split_query ts k q cs m.0 (mixed_so ts k q cs m.0 m.1)
splits_are_queries ts k t p e = absurd cc

-- where no mark is missing there is no mix
unmixed : (n : ℕ) (bs : List Bool) → list_any not bs ≡ false → mix_by n bs ≡ None
unmixed n bs e =
    ap (λ (b : Bool). if list_any (λ x. x) bs && b then Some (mix_made n bs) else None) e
    ∙ ap (λ (b : Bool). if b then Some (mix_made n bs) else None) (and-false (list_any (λ x. x) bs))

pub queries_are_unmixed : QueriesAreUnmixed
queries_are_unmixed ts k (of (top.over fun.Filter) (cons q cs)) e = by (sketch_of ts k q) e
  where
    over : (s : Sketch) (o : Option TableShape) →
        is_some (option_and_then (λ (t : TableShape). option_map (filtered s) (patterns_behind (s.test ∷ []) (patterns_of t k cs s.constants))) o) ≡ true →
        option_and_then (λ (t : TableShape). mix_by s.table (delegable_ones t k cs)) o ≡ None
    over s None h = refl
    over s (Some t) h =
        let Behind : List Outline × List Term → List Outline × List Term = λ p. ((s.test ∷ []) ++ p.0, p.1) in
        let some : is_some (patterns_of t k cs s.constants) ≡ true =
        sym (still_some Behind (patterns_of t k cs s.constants)) ∙ sym (still_some (filtered s) (patterns_behind (s.test ∷ []) (patterns_of t k cs s.constants))) ∙ h in
        unmixed s.table (delegable_ones t k cs) (none_other t k cs s.constants some)

    by : (r : Option Sketch) → is_some (option_and_then (filter_sketch ts k cs) r) ≡ true → option_and_then (λ (s : Sketch). mix_over ts k s.table cs) r ≡ None
    by None h = refl
    by (Some s) h = over s (slice_get ts s.table) h
queries_are_unmixed ts k t e = refl
