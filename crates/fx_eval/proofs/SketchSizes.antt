-- The constants of a query expression are smaller than it is.
use Rattle.std.proofs.Common.{◌≡◌, ◌∙◌, ℕ, ◌+◌, ◌<◌, ◌≤◌, suc, List, [], ◌∷◌, ◌++◌, Bool, true, false, Option, Some, None, ap, refl, subst, arith, if◌then◌else◌}
use Rattle.std.specs.Prelude.{slice_get, option_map, option_and_then, is_some}
use Rattle.std.proofs.lemmas.Option.{same_Some}
use Rattle.fx_types.specs.declared.comparisons.Cmp.{Cmp}
use Rattle.fx_plan.specs.declared.plans.Sketch.{Sketch}
use Rattle.fx_plan.specs.Outlines.{Outline, always, flag, constant, compares, is_blank, starts, contains, all_of, any_of, outline_list}
use Rattle.fx_plan.specs.QueryExpressions.{along, patterns_behind, beside, call_pattern, called_with_one, called_with_two, column_of, comparison_pattern, compared_with, comparison_by, filter_sketch, is_constant, is_falling, negated, pattern_by, pattern_of, patterns_of, plain_column, sketch_of, sorted, sorted_by, flipped, with_constant}
use Rattle.fx_core.specs.declared.functions.Form.TheVariants as form
use Rattle.fx_core.specs.declared.functions.Fun.{Fun}
use Rattle.fx_core.specs.declared.functions.Fun.TheVariants as fun
use Rattle.fx_core.specs.declared.literals.SortOrder.{SortOrder}
use Rattle.fx_core.specs.declared.rows.Scalar.{Scalar}
use Rattle.fx_core.specs.declared.rows.Scalar.TheVariants.{Boolean, Text}
use Rattle.fx_core.specs.declared.schema.TableShape.{TableShape}
use Rattle.fx_core.specs.declared.sources.Source.TheVariants as source
use Rattle.fx_core.specs.Term.{Term, Terms, of, nil, cons, Top, all, term_size, terms_size}
use Rattle.fx_core.specs.Term as top
use Rattle.fx_plan.proofs.Placing.{in_front, joined, negated_same, some_map, some_then}

abbrev weight : List Term → ℕ
weight ds = terms_size (all ds)

one_more : (ds : List Term) (x : Term) → weight (ds ++ x ∷ []) ≤ weight ds + suc (term_size x)
one_more [] x = omega arith
one_more (d ∷ ds) x = let h = one_more ds x in omega (arith, h)

module _ (k : ℕ) where
  kept : (f : ℕ → Outline) (x : Term) (ds : List Term) (o : Outline) (es : List Term) → with_constant f x ds ≡ (o, es) → weight es ≤ weight ds + suc (term_size x)
  kept f x ds o es e =
      let same : ds ++ x ∷ [] ≡ es = ap (λ p. p.1) e in
      subst (λ (z : List Term). weight z ≤ weight ds + suc (term_size x)) same (one_more ds x)

  beside_falls : (t : TableShape) (s : Scalar) (f : ℕ → ℕ → Outline) (x y : Term) (ds : List Term) (o : Outline) (es : List Term) →
      option_map (λ (i : ℕ). with_constant (f i) y ds) (beside t k s x y) ≡ Some (o, es) → weight es ≤ weight ds + suc (term_size y)
  beside_falls t s f x y ds o es e = let m = some_map (λ (i : ℕ). with_constant (f i) y ds) (beside t k s x y) (o, es) e in kept (f m.0) y ds o es m.2

  compared_falls : (t : TableShape) (p : Option (Cmp × Scalar)) (x y : Term) (ds : List Term) (o : Outline) (es : List Term) →
      comparison_pattern t k p x y ds ≡ Some (o, es) → weight es ≤ weight ds + (suc (term_size x) + suc (term_size y))
  compared_falls t None x y ds o es e = absurd cc
  compared_falls t (Some p) x y ds o es e = by (is_constant k y) e
    where
      by : (b : Bool) → (if b then compared_with t k p.0 p.1 x y ds else compared_with t k (flipped p.0) p.1 y x ds) ≡ Some (o, es) →
          weight es ≤ weight ds + (suc (term_size x) + suc (term_size y))
      by true q = let h = beside_falls t p.1 (compares p.0) x y ds o es q in omega (arith, h)
      by false q = let h = beside_falls t p.1 (compares (flipped p.0)) y x ds o es q in omega (arith, h)

  pair_falls : (t : TableShape) (f : Fun) (x y : Term) (ds : List Term) (o : Outline) (es : List Term) →
      called_with_two t k f x y ds ≡ Some (o, es) → weight es ≤ weight ds + (suc (term_size x) + suc (term_size y))
  pair_falls t fun.StartsWith x y ds o es e = let h = beside_falls t Text starts x y ds o es e in omega (arith, h)
  pair_falls t fun.In x y ds o es e = let h = beside_falls t Text contains y x ds o es e in omega (arith, h)
  pair_falls t f x y ds o es e = compared_falls t (comparison_by f) x y ds o es e

  -- a pattern of columns alone has no more constants
  bare : (c : Option Outline) (ds : List Term) (o : Outline) (es : List Term) → along ds c ≡ Some (o, es) → weight es ≤ weight ds
  bare c ds o es e =
      let Beside : Outline → Outline × List Term = λ p. (p, ds) in
      let m = some_map Beside c (o, es) e in
      let same : ds ≡ es = ap (λ p. p.1) m.2 in
      subst (λ (z : List Term). weight z ≤ weight ds) same (omega arith)

  single_falls : (t : TableShape) (f : Fun) (x : Term) (ds : List Term) (o : Outline) (es : List Term) → called_with_one t k f x ds ≡ Some (o, es) → weight es ≤ weight ds
  single_falls t fun.IsBlank x ds o es e = bare (option_map is_blank (plain_column t k x)) ds o es e
  single_falls t f x ds o es e = absurd cc

  call_falls : (t : TableShape) (f : Fun) (cs : Terms) (ds : List Term) (o : Outline) (es : List Term) → call_pattern t k f cs ds ≡ Some (o, es) → weight es ≤ weight ds + terms_size cs
  call_falls t f nil ds o es e = absurd cc
  call_falls t f (cons x nil) ds o es e = let h = single_falls t f x ds o es e in omega (arith, h)
  call_falls t f (cons x (cons y nil)) ds o es e = let h = pair_falls t f x y ds o es e in omega (arith, h)
  call_falls t f (cons x (cons y (cons z zs))) ds o es e = absurd cc

  mutual
    pattern_falls : (t : TableShape) (x : Term) (ds : List Term) (o : Outline) (es : List Term) → pattern_of t k x ds ≡ Some (o, es) → weight es ≤ weight ds + suc (term_size x)
    pattern_falls t (of h cs) ds o es e = by (is_constant k (of h cs)) (λ os fs q. patterns_fall t cs ds os fs q) e
      where
        Go : Type 0
        Go = (os : List Outline) (fs : List Term) → patterns_of t k cs ds ≡ Some (os, fs) → weight fs ≤ weight ds + terms_size cs

        ends : (fs : List Term) → fs ≡ es → weight fs ≤ weight ds + terms_size cs → weight es ≤ weight ds + terms_size cs
        ends fs same l = subst (λ (z : List Term). weight z ≤ weight ds + terms_size cs) same l

        heads : (g : Top) → Go → pattern_by t k g cs ds (patterns_of t k cs ds) ≡ Some (o, es) → weight es ≤ weight ds + terms_size cs
        heads (top.form form.All) go q =
            let m = some_map (joined all_of) (patterns_of t k cs ds) (o, es) q in ends m.0.1 (ap (λ p. p.1) m.2) (go m.0.0 m.0.1 m.1)
        heads (top.form form.Any) go q =
            let m = some_map (joined any_of) (patterns_of t k cs ds) (o, es) q in ends m.0.1 (ap (λ p. p.1) m.2) (go m.0.0 m.0.1 m.1)
        heads (top.call fun.Not) go q =
            let m = some_then negated (patterns_of t k cs ds) (o, es) q in ends m.0.1 (negated_same m.0 o es m.2) (go m.0.0 m.0.1 m.1)
        heads (top.call f) go q = call_falls t f cs ds o es q
        heads (top.dot n) go q = let l = bare (option_map flag (column_of t k Boolean (of (top.dot n) cs))) ds o es q in omega (arith, l)
        heads g go q = absurd cc

        by : (b : Bool) → Go → (if b then Some (with_constant constant (of h cs) ds) else pattern_by t k h cs ds (patterns_of t k cs ds)) ≡ Some (o, es) →
            weight es ≤ weight ds + suc (term_size (of h cs))
        by true go q = kept constant (of h cs) ds o es (same_Some (with_constant constant (of h cs) ds) (o, es) q)
        by false go q = let l = heads h go q in omega (arith, l)

    patterns_fall : (t : TableShape) (xs : Terms) (ds : List Term) (os : List Outline) (es : List Term) → patterns_of t k xs ds ≡ Some (os, es) → weight es ≤ weight ds + terms_size xs
    patterns_fall t nil ds os es e =
        let same : ds ≡ es = ap (λ p. p.1) (same_Some ([], ds) (os, es) e) in
        subst (λ (z : List Term). weight z ≤ weight ds + 0) same (omega arith)
    patterns_fall t (cons x xs) ds os es e =
        let m = some_then (λ (p : Outline × List Term). option_map (in_front p.0) (patterns_of t k xs p.1)) (pattern_of t k x ds) (os, es) e in
        let z = some_map (in_front m.0.0) (patterns_of t k xs m.0.1) (os, es) m.2 in
        let first = pattern_falls t x ds m.0.0 m.0.1 m.1 in
        let rest = patterns_fall t xs m.0.1 z.0.0 z.0.1 z.1 in
        let same : z.0.1 ≡ es = ap (λ p. p.1) z.2 in
        let short : weight z.0.1 ≤ weight ds + (suc (term_size x) + terms_size xs) = omega (arith, first, rest) in
        subst (λ (y : List Term). weight y ≤ weight ds + (suc (term_size x) + terms_size xs)) same short

  -- ---- query expressions

  filtered_falls : (ts : List TableShape) (cs : Terms) (s z : Sketch) → filter_sketch ts k cs s ≡ Some z → weight z.constants ≤ weight s.constants + terms_size cs
  filtered_falls ts cs s z e =
      let With : List Outline × List Term → Sketch = λ p. record s { test = all_of (outline_list p.0); constants = p.1 } in
      let m = some_then (λ (t : TableShape). option_map With (patterns_behind (s.test ∷ []) (patterns_of t k cs s.constants))) (slice_get ts s.table) z e in
      let p = some_map With (patterns_behind (s.test ∷ []) (patterns_of m.0 k cs s.constants)) z m.2 in
      let b = some_map (in_front s.test) (patterns_of m.0 k cs s.constants) p.0 p.1 in
      let l = patterns_fall m.0 cs s.constants b.0.0 b.0.1 b.1 in
      let same : b.0.1 ≡ z.constants = ap (λ q. q.1) b.2 ∙ ap (λ (x : Sketch). x.constants) p.2 in
      subst (λ (y : List Term). weight y ≤ weight s.constants + terms_size cs) same l

  sorted_falls : (ts : List TableShape) (o : SortOrder) (cs : Terms) (s z : Sketch) → sorted ts k o cs s ≡ Some z → weight z.constants ≤ weight s.constants
  sorted_falls ts o nil s z e = absurd cc
  sorted_falls ts o (cons f (cons g gs)) s z e = absurd cc
  sorted_falls ts o (cons f nil) s z e = by (is_some s.order) e
    where
      With : ℕ → Sketch
      With i = record s { order = Some (i, is_falling o) }

      by : (b : Bool) → (if b then None else sorted_by ts k o f s) ≡ Some z → weight z.constants ≤ weight s.constants
      by true q = absurd cc
      by false q =
          let m = some_then (λ (t : TableShape). option_map With (plain_column t k f)) (slice_get ts s.table) z q in
          let p = some_map With (plain_column m.0 k f) z m.2 in
          let same : s.constants ≡ z.constants = ap (λ (x : Sketch). x.constants) p.2 in
          subst (λ (y : List Term). weight y ≤ weight s.constants) same (omega arith)

  pub constants_fall : (ts : List TableShape) (q : Term) (s : Sketch) → sketch_of ts k q ≡ Some s → terms_size (all s.constants) < term_size q
  constants_fall ts (of (top.read (source.Table t)) nil) s e =
      let m = some_map (λ (u : TableShape). record { table = t; test = always; order = None; constants = [] }) (slice_get ts t) s e in
      let same : [] ≡ s.constants = ap (λ (x : Sketch). x.constants) m.2 in
      subst (λ (y : List Term). weight y < 1) same (omega arith)
  constants_fall ts (of (top.over fun.Filter) (cons q cs)) s e =
      let m = some_then (filter_sketch ts k cs) (sketch_of ts k q) s e in
      let first = constants_fall ts q m.0 m.1 in
      let rest = filtered_falls ts cs m.0 s m.2 in
      omega (arith, first, rest)
  constants_fall ts (of (top.over (fun.Sort o)) (cons q cs)) s e =
      let m = some_then (sorted ts k o cs) (sketch_of ts k q) s e in
      let first = constants_fall ts q m.0 m.1 in
      let rest = sorted_falls ts o cs m.0 s m.2 in
      omega (arith, first, rest)
  constants_fall ts q s e = absurd cc
