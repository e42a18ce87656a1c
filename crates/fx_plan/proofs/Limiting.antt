-- A query expression whose parts take first rows where they aren't taken whole is sketched as before, with such constants.
use Rattle.std.proofs.Common.{◌≡◌, ℕ, suc, List, [], ◌∷◌, ◌++◌, length, map, Bool, true, false, not, Option, Some, None, refl, sym, ap, subst, ◌∙◌, arith}
use Rattle.std.specs.Prelude.{◌&&◌, ◌||◌, ◌%◌, nat_eq, slice_get, option_map, option_and_then, is_some, if◌then◌else◌}
use Rattle.std.proofs.lemmas.Option.{same_Some}
use Rattle.std.proofs.Math.Bool.{and-false, and-true, or-true}
use Rattle.filter_parts.specs.Splits.{marked, split_with, unmarked}
use Rattle.fx_types.specs.declared.comparisons.Cmp.{Cmp}
use Rattle.fx_plan.specs.declared.plans.Sketch.{Sketch}
use Rattle.fx_plan.specs.Outlines.{Outline, always, flag, constant, compares, is_blank, starts, contains, all_of, any_of, opposite, outline_list}
use Rattle.fx_plan.specs.QueryExpressions.{along, are_constant, patterns_behind, beside, call_pattern, called_with_one, called_with_two, column_number, column_of, comparison_pattern, compared_with, comparison_by, filter_sketch, is_barred, is_constant, is_falling, is_row, negated, only_of, pattern_by, pattern_of, patterns_of, plain_column, sketch_of, sorted, sorted_by, flipped, with_constant}
use Rattle.fx_plan.specs.Sites.{terms_count, deeper, is_first, is_query, opens_row_scope, takes_whole}
use Rattle.fx_core.specs.declared.functions.Form.TheVariants as form
use Rattle.fx_core.specs.declared.functions.Fun.{Fun}
use Rattle.fx_core.specs.declared.functions.Fun.TheVariants as fun
use Rattle.fx_core.specs.declared.literals.SortOrder.{SortOrder}
use Rattle.fx_core.specs.declared.rows.Scalar.{Scalar}
use Rattle.fx_core.specs.declared.rows.Scalar.TheVariants.{Boolean, Text}
use Rattle.fx_core.specs.declared.rows.Takes.TheVariants as takes
use Rattle.fx_core.specs.Rows.{row_of, takes_at}
use Rattle.fx_semantics.proofs.Branches.{differs}
use Rattle.fx_core.specs.declared.schema.TableShape.{TableShape}
use Rattle.fx_core.specs.declared.sources.Source.TheVariants as source
use Rattle.fx_core.specs.Term.{Term, Terms, of, nil, cons, Top}
use Rattle.fx_core.specs.Term as top
use Rattle.fx_plan.specs.Sites.{is_formula}
use Rattle.fx_plan.proofs.Placing.{condition_behind, in_front, joined, some_map, some_then}
use Rattle.fx_semantics.specs.Fresh.{IsValue}
use Rattle.fx_plan.proofs.MixedFilters.{queries_are_unmixed, splits_are_queries}
use Rattle.fx_plan.proofs.Splitting.{mixed_tree, split_constant}
use Rattle.fx_plan.specs.Limited.{LimitedSketches, MixedAreTaken, conditions_limited, first_rows_of, limited, limited_sketch, over_first, parts_limited, taken_as, takes_first_whole}
use Rattle.fx_plan.specs.Mixed.{MixOf, is_mixed, mix_of, split_of}
use Rattle.fx_plan.specs.Settings.{setting_around}

module _ (ts : List TableShape) (n : ℕ) where
  -- ---- constants stay constants

  constant_rows : (j : ℕ) (x : Term) → is_constant j (first_rows_of n x) ≡ is_constant j x
  constant_rows j x = and-true (is_constant j x)

  constant_capped : (j : ℕ) (b : Bool) (x : Term) → is_constant j (taken_as n None b x) ≡ is_constant j x
  constant_capped j true x = constant_rows j x
  constant_capped j false x = refl

  constant_taken : (j k : ℕ) (first cut : Bool) (h : Top) (cs : Terms) (o : Option MixOf) → mix_of ts k (of h cs) ≡ o →
      is_constant j (taken_as n o cut (of h (parts_limited ts n k h (terms_count cs) first 0 cs))) ≡ is_constant j (of h (parts_limited ts n k h (terms_count cs) first 0 cs))
  constant_taken j k first cut h cs None e = constant_capped j cut (of h (parts_limited ts n k h (terms_count cs) first 0 cs))
  constant_taken j k first cut h cs (Some m) e =
      let d = mixed_tree ts n k first h cs m e in
      subst (λ (x : Term). is_constant j (over_first n (split_with m.marks x)) ≡ is_constant j x) (sym d.limits) (split_constant j n m.marks d.table d.others d.each)

  mutual
    pub constant_limited : (j k : ℕ) (w : Bool) (x : Term) → is_constant j (limited ts n k w x) ≡ is_constant j x
    constant_limited j k w (of h cs) =
        constant_taken j k (takes_first_whole ts k (of h cs)) (is_query ts k (of h cs) && not w) h cs (mix_of ts k (of h cs)) refl
        ∙ ap (λ b. not (is_barred j h) && b) (constants_limited j k h (terms_count cs) (takes_first_whole ts k (of h cs)) 0 cs)

    constants_limited : (j k : ℕ) (h : Top) (m : ℕ) (w : Bool) (i : ℕ) (cs : Terms) → are_constant j (parts_limited ts n k h m w i cs) ≡ are_constant j cs
    constants_limited j k h m w i nil = refl
    constants_limited j k h m w i (cons c cs) =
        ap (λ b. b && are_constant j (parts_limited ts n k h m w (suc i) cs)) (constant_limited j (deeper (opens_row_scope h m i) k) (w && is_first i) c)
        ∙ ap (λ b. is_constant j c && b) (constants_limited j k h m w (suc i) cs)

  -- ---- columns stay columns

  no_row : (k : ℕ) (o : Option MixOf) (b : Bool) (f : Fun) (cs : Terms) → is_row k (taken_as n o b (of (top.over f) cs)) ≡ false
  no_row k (Some m) b f cs = refl
  no_row k None true f cs = refl
  no_row k None false f cs = refl

  no_read_row : (k : ℕ) (b : Bool) (h : Top) (cs : Terms) → is_row k (of h cs) ≡ false → is_row k (taken_as n None b (of h cs)) ≡ false
  no_read_row k true h cs e = refl
  no_read_row k false h cs e = e

  row_limited : (k j : ℕ) (w : Bool) (x : Term) → is_row k (limited ts n j w x) ≡ is_row k x
  row_limited k j w (of (top.row i) nil) = refl
  row_limited k j w (of (top.row i) (cons c cs)) = refl
  row_limited k j w (of (top.over f) cs) =
      no_row k (mix_of ts j (of (top.over f) cs)) (is_query ts j (of (top.over f) cs) && not w) f (parts_limited ts n j (top.over f) (terms_count cs) (takes_first_whole ts j (of (top.over f) cs)) 0 cs)
  row_limited k j w (of (top.read s) cs) =
      no_read_row k (is_query ts j (of (top.read s) cs) && not w) (top.read s) (parts_limited ts n j (top.read s) (terms_count cs) (takes_first_whole ts j (of (top.read s) cs)) 0 cs) refl
  row_limited k j w (of h cs) = refl

  no_over_column : (t : TableShape) (k : ℕ) (o : Option MixOf) (b : Bool) (f : Fun) (cs : Terms) → plain_column t k (taken_as n o b (of (top.over f) cs)) ≡ None
  no_over_column t k (Some m) b f cs = refl
  no_over_column t k None true f cs = refl
  no_over_column t k None false f cs = refl

  no_column : (t : TableShape) (k : ℕ) (b : Bool) (h : Top) (cs : Terms) → plain_column t k (of h cs) ≡ None → plain_column t k (taken_as n None b (of h cs)) ≡ None
  no_column t k true h cs e = refl
  no_column t k false h cs e = e

  plain_limited : (t : TableShape) (k j : ℕ) (w : Bool) (x : Term) → plain_column t k (limited ts n j w x) ≡ plain_column t k x
  plain_limited t k j w (of (top.dot m) (cons c nil)) = ap (λ b. if b then column_number t m else None) (row_limited k j false c)
  plain_limited t k j w (of (top.dot m) nil) = refl
  plain_limited t k j w (of (top.dot m) (cons c (cons d ds))) = refl
  plain_limited t k j w (of (top.over f) cs) =
      no_over_column t k (mix_of ts j (of (top.over f) cs)) (is_query ts j (of (top.over f) cs) && not w) f (parts_limited ts n j (top.over f) (terms_count cs) (takes_first_whole ts j (of (top.over f) cs)) 0 cs)
  plain_limited t k j w (of (top.read s) cs) =
      no_column t k (is_query ts j (of (top.read s) cs) && not w) (top.read s) (parts_limited ts n j (top.read s) (terms_count cs) (takes_first_whole ts j (of (top.read s) cs)) 0 cs) refl
  plain_limited t k j w (of h cs) = refl

  column_limited : (t : TableShape) (k j : ℕ) (w : Bool) (s : Scalar) (x : Term) → column_of t k s (limited ts n j w x) ≡ column_of t k s x
  column_limited t k j w s x = ap (option_and_then (only_of t s)) (plain_limited t k j w x)

  -- ---- conditions on the rows of scope k

  module _ (k : ℕ) where
    abbrev lim : Term → Term
    lim x = limited ts n (suc k) false x

    abbrev lims : Terms → Terms
    lims cs = conditions_limited ts n k cs

    -- parts that stand where the whole stands
    plain_parts : (h : Top) → ((m i : ℕ) → opens_row_scope h m i ≡ false) → (m i : ℕ) (cs : Terms) → parts_limited ts n (suc k) h m false i cs ≡ lims cs
    plain_parts h p m i nil = refl
    plain_parts h p m i (cons c cs) =
        ap (λ b. cons (limited ts n (deeper b (suc k)) false c) (parts_limited ts n (suc k) h m false (suc i) cs)) (p m i) ∙ ap (cons (lim c)) (plain_parts h p m (suc i) cs)

    -- conditions behind a table
    behind_parts : (h : Top) (m : ℕ) (w : Bool) → ((i : ℕ) → opens_row_scope h m (suc i) ≡ true) → (i : ℕ) (cs : Terms) → parts_limited ts n k h m w (suc i) cs ≡ lims cs
    behind_parts h m w p i nil = refl
    behind_parts h m w p i (cons c cs) =
        ap (λ b. cons (limited ts n (deeper b k) (w && false) c) (parts_limited ts n k h m w (suc (suc i)) cs)) (p i)
        ∙ ap (λ b. cons (limited ts n (suc k) b c) (parts_limited ts n k h m w (suc (suc i)) cs)) (and-false w) ∙ ap (cons (lim c)) (behind_parts h m w p (suc i) cs)

    many : (ds : List Term) → length (map lim ds) ≡ length ds
    many [] = refl
    many (d ∷ ds) = ap suc (many ds)

    one_more : (ds : List Term) (x : Term) → map lim ds ++ lim x ∷ [] ≡ map lim (ds ++ x ∷ [])
    one_more [] x = refl
    one_more (d ∷ ds) x = ap (λ xs. lim d ∷ xs) (one_more ds x)

    kept_limited : (f : ℕ → Outline) (x : Term) (ds : List Term) (o : Outline) (es : List Term) → with_constant f x ds ≡ (o, es) → with_constant f (lim x) (map lim ds) ≡ (o, map lim es)
    kept_limited f x ds o es e =
        let first : f (length (map lim ds)) ≡ o = ap f (many ds) ∙ ap (λ p. p.0) e in
        let second : map lim ds ++ lim x ∷ [] ≡ map lim es = one_more ds x ∙ ap (map lim) (ap (λ p. p.1) e) in
        λ i. (first i, second i)

    beside_limited : (t : TableShape) (s : Scalar) (x y : Term) → beside t k s (lim x) (lim y) ≡ beside t k s x y
    beside_limited t s x y =
        ap (λ b. if b then column_of t k s (lim x) else None) (constant_limited k (suc k) false y) ∙ ap (λ c. if is_constant k y then c else None) (column_limited t k (suc k) false s x)

    beside_pattern : (t : TableShape) (s : Scalar) (f : ℕ → ℕ → Outline) (x y : Term) (ds : List Term) (o : Outline) (es : List Term) →
        option_map (λ (i : ℕ). with_constant (f i) y ds) (beside t k s x y) ≡ Some (o, es) → option_map (λ (i : ℕ). with_constant (f i) (lim y) (map lim ds)) (beside t k s (lim x) (lim y)) ≡ Some (o, map lim es)
    beside_pattern t s f x y ds o es e =
        let m = some_map (λ (i : ℕ). with_constant (f i) y ds) (beside t k s x y) (o, es) e in
        ap (option_map (λ (i : ℕ). with_constant (f i) (lim y) (map lim ds))) (beside_limited t s x y ∙ m.1) ∙ ap Some (kept_limited (f m.0) y ds o es m.2)

    compared_pattern : (t : TableShape) (p : Option (Cmp × Scalar)) (x y : Term) (ds : List Term) (o : Outline) (es : List Term) →
        comparison_pattern t k p x y ds ≡ Some (o, es) → comparison_pattern t k p (lim x) (lim y) (map lim ds) ≡ Some (o, map lim es)
    compared_pattern t None x y ds o es e = absurd cc
    compared_pattern t (Some p) x y ds o es e =
        ap (λ b. if b then compared_with t k p.0 p.1 (lim x) (lim y) (map lim ds) else compared_with t k (flipped p.0) p.1 (lim y) (lim x) (map lim ds)) (constant_limited k (suc k) false y)
        ∙ by (is_constant k y) e
      where
        by : (b : Bool) → (if b then compared_with t k p.0 p.1 x y ds else compared_with t k (flipped p.0) p.1 y x ds) ≡ Some (o, es) →
            (if b then compared_with t k p.0 p.1 (lim x) (lim y) (map lim ds) else compared_with t k (flipped p.0) p.1 (lim y) (lim x) (map lim ds)) ≡ Some (o, map lim es)
        by true q = beside_pattern t p.1 (compares p.0) x y ds o es q
        by false q = beside_pattern t p.1 (compares (flipped p.0)) y x ds o es q

    pair_pattern : (t : TableShape) (f : Fun) (x y : Term) (ds : List Term) (o : Outline) (es : List Term) →
        called_with_two t k f x y ds ≡ Some (o, es) → called_with_two t k f (lim x) (lim y) (map lim ds) ≡ Some (o, map lim es)
    pair_pattern t fun.StartsWith x y ds o es e = beside_pattern t Text starts x y ds o es e
    pair_pattern t fun.In x y ds o es e = beside_pattern t Text contains y x ds o es e
    pair_pattern t f x y ds o es e = compared_pattern t (comparison_by f) x y ds o es e

    -- a pattern of columns alone, along with the constants so far
    bare_pattern : (c c' : Option Outline) (ds : List Term) (o : Outline) (es : List Term) → c' ≡ c → along ds c ≡ Some (o, es) → along (map lim ds) c' ≡ Some (o, map lim es)
    bare_pattern c c' ds o es q e =
        let Beside : Outline → Outline × List Term = λ p. (p, ds) in
        let m = some_map Beside c (o, es) e in
        let is : m.0 ≡ o = ap (λ p. p.0) m.2 in
        let kept : ds ≡ es = ap (λ p. p.1) m.2 in
        ap (along (map lim ds)) (q ∙ m.1) ∙ (λ i. Some (is i, map lim (kept i)))

    single_pattern : (t : TableShape) (f : Fun) (x : Term) (ds : List Term) (o : Outline) (es : List Term) →
        called_with_one t k f x ds ≡ Some (o, es) → called_with_one t k f (lim x) (map lim ds) ≡ Some (o, map lim es)
    single_pattern t fun.IsBlank x ds o es e =
        bare_pattern (option_map is_blank (plain_column t k x)) (option_map is_blank (plain_column t k (lim x))) ds o es (ap (option_map is_blank) (plain_limited t k (suc k) false x)) e
    single_pattern t f x ds o es e = absurd cc

    call_limited : (t : TableShape) (f : Fun) (cs : Terms) (ds : List Term) (o : Outline) (es : List Term) → call_pattern t k f cs ds ≡ Some (o, es) → call_pattern t k f (lims cs) (map lim ds) ≡ Some (o, map lim es)
    call_limited t f nil ds o es e = absurd cc
    call_limited t f (cons x nil) ds o es e = single_pattern t f x ds o es e
    call_limited t f (cons x (cons y nil)) ds o es e = pair_pattern t f x y ds o es e
    call_limited t f (cons x (cons y (cons z zs))) ds o es e = absurd cc

    negated_limited : (p : List Outline × List Term) (o : Outline) (es : List Term) → negated p ≡ Some (o, es) → negated (p.0, map lim p.1) ≡ Some (o, map lim es)
    negated_limited ([], ds) o es e = absurd cc
    negated_limited (x ∷ [], ds) o es e =
        let is : (opposite x, ds) ≡ (o, es) = same_Some (opposite x, ds) (o, es) e in
        λ i. Some ((is i).0, map lim (is i).1)
    negated_limited (x ∷ y ∷ xs, ds) o es e = absurd cc

    -- where the head is no query, and no mixed filter
    same_head : (h : Top) (cs : Terms) → mix_of ts (suc k) (of h cs) ≡ None → is_query ts (suc k) (of h cs) ≡ false → takes_whole ts (suc k) (of h cs) ≡ false →
        ((m i : ℕ) → opens_row_scope h m i ≡ false) → lim (of h cs) ≡ of h (lims cs)
    same_head h cs x q w p =
        ap (λ (o : Option MixOf). taken_as n o (is_query ts (suc k) (of h cs) && true) (of h (parts_limited ts n (suc k) h (terms_count cs) (takes_first_whole ts (suc k) (of h cs)) 0 cs))) x
        ∙ ap (λ b. taken_as n None (b && true) (of h (parts_limited ts n (suc k) h (terms_count cs) (takes_first_whole ts (suc k) (of h cs)) 0 cs))) q
        ∙ ap (λ (o : Option MixOf). of h (parts_limited ts n (suc k) h (terms_count cs) ((is_some o || is_query ts (suc k) (of h cs)) || takes_whole ts (suc k) (of h cs)) 0 cs)) x
        ∙ ap (λ b. of h (parts_limited ts n (suc k) h (terms_count cs) (b || takes_whole ts (suc k) (of h cs)) 0 cs)) q
        ∙ ap (λ b. of h (parts_limited ts n (suc k) h (terms_count cs) b 0 cs)) w
        ∙ ap (of h) (plain_parts h p (terms_count cs) 0 cs)

    constant_pattern : (t : TableShape) (x : Term) (ds : List Term) → is_constant k x ≡ true → pattern_of t k x ds ≡ Some (with_constant constant x ds)
    constant_pattern t (of h cs) ds e = ap (λ b. if b then Some (with_constant constant (of h cs) ds) else pattern_by t k h cs ds (patterns_of t k cs ds)) e

    other_pattern : (t : TableShape) (h : Top) (cs : Terms) (ds : List Term) → is_constant k (of h cs) ≡ false → pattern_of t k (of h cs) ds ≡ pattern_by t k h cs ds (patterns_of t k cs ds)
    other_pattern t h cs ds e = ap (λ b. if b then Some (with_constant constant (of h cs) ds) else pattern_by t k h cs ds (patterns_of t k cs ds)) e

    mutual
      pub pattern_limited : (t : TableShape) (x : Term) (ds : List Term) (o : Outline) (es : List Term) → pattern_of t k x ds ≡ Some (o, es) → pattern_of t k (lim x) (map lim ds) ≡ Some (o, map lim es)
      pattern_limited t (of h cs) ds o es e = by (is_constant k (of h cs)) refl (λ os fs q. patterns_limited t cs ds os fs q) e
        where
          Go : Type 0
          Go = (os : List Outline) (fs : List Term) → patterns_of t k cs ds ≡ Some (os, fs) → patterns_of t k (lims cs) (map lim ds) ≡ Some (os, map lim fs)

          -- the pattern of this head and such parts is that of the whole
          whole : (g : Top) → is_constant k (of g cs) ≡ false → lim (of g cs) ≡ of g (lims cs) → (r : Option (Outline × List Term)) → pattern_by t k g (lims cs) (map lim ds) (patterns_of t k (lims cs) (map lim ds)) ≡ r →
              pattern_of t k (lim (of g cs)) (map lim ds) ≡ r
          whole g c q r z =
              let still : is_constant k (of g (lims cs)) ≡ false = subst (λ (y : Term). is_constant k y ≡ false) q (constant_limited k (suc k) false (of g cs) ∙ c) in
              ap (λ (y : Term). pattern_of t k y (map lim ds)) q ∙ other_pattern t g (lims cs) (map lim ds) still ∙ z

          heads : (g : Top) → is_constant k (of g cs) ≡ false → Go → pattern_by t k g cs ds (patterns_of t k cs ds) ≡ Some (o, es) → pattern_of t k (lim (of g cs)) (map lim ds) ≡ Some (o, map lim es)
          heads (top.form form.All) c go q =
              let m = some_map (joined all_of) (patterns_of t k cs ds) (o, es) q in
              whole (top.form form.All) c (same_head (top.form form.All) cs refl refl refl (λ m i. refl)) (Some (o, map lim es))
              (ap (option_map (joined all_of)) (go m.0.0 m.0.1 m.1) ∙ (λ i. Some ((m.2 i).0, map lim (m.2 i).1)))
          heads (top.form form.Any) c go q =
              let m = some_map (joined any_of) (patterns_of t k cs ds) (o, es) q in
              whole (top.form form.Any) c (same_head (top.form form.Any) cs refl refl refl (λ m i. refl)) (Some (o, map lim es))
              (ap (option_map (joined any_of)) (go m.0.0 m.0.1 m.1) ∙ (λ i. Some ((m.2 i).0, map lim (m.2 i).1)))
          heads (top.call fun.Not) c go q =
              let m = some_then negated (patterns_of t k cs ds) (o, es) q in
              whole (top.call fun.Not) c (same_head (top.call fun.Not) cs refl refl refl (λ m i. refl)) (Some (o, map lim es))
              (ap (option_and_then negated) (go m.0.0 m.0.1 m.1) ∙ negated_limited m.0 o es m.2)
          heads (top.call f) c go q = whole (top.call f) c (same_head (top.call f) cs refl refl refl (λ m i. refl)) (Some (o, map lim es)) (call_limited t f cs ds o es q)
          heads (top.dot m) c go q =
              let is = same_head (top.dot m) cs refl refl refl (λ m i. refl) in
              whole (top.dot m) c is (Some (o, map lim es))
              (bare_pattern (option_map flag (column_of t k Boolean (of (top.dot m) cs))) (option_map flag (column_of t k Boolean (of (top.dot m) (lims cs)))) ds o es
              (ap (λ (y : Term). option_map flag (column_of t k Boolean y)) (sym is) ∙ ap (option_map flag) (column_limited t k (suc k) false Boolean (of (top.dot m) cs))) q)
          heads g c go q = absurd cc

          by : (b : Bool) → is_constant k (of h cs) ≡ b → Go → (if b then Some (with_constant constant (of h cs) ds) else pattern_by t k h cs ds (patterns_of t k cs ds)) ≡ Some (o, es) →
              pattern_of t k (lim (of h cs)) (map lim ds) ≡ Some (o, map lim es)
          by true c go q =
              constant_pattern t (lim (of h cs)) (map lim ds) (constant_limited k (suc k) false (of h cs) ∙ c)
              ∙ ap Some (kept_limited constant (of h cs) ds o es (same_Some (with_constant constant (of h cs) ds) (o, es) q))
          by false c go q = heads h c go q

      pub patterns_limited : (t : TableShape) (xs : Terms) (ds : List Term) (os : List Outline) (es : List Term) → patterns_of t k xs ds ≡ Some (os, es) → patterns_of t k (lims xs) (map lim ds) ≡ Some (os, map lim es)
      patterns_limited t nil ds os es e =
          let q : ([], ds) ≡ (os, es) = same_Some ([], ds) (os, es) e in
          λ i. Some ((q i).0, map lim (q i).1)
      patterns_limited t (cons x xs) ds os es e =
          let m = some_then (λ (p : Outline × List Term). option_map (in_front p.0) (patterns_of t k xs p.1)) (pattern_of t k x ds) (os, es) e in
          let z = some_map (in_front m.0.0) (patterns_of t k xs m.0.1) (os, es) m.2 in
          ap (option_and_then (λ (p : Outline × List Term). option_map (in_front p.0) (patterns_of t k (lims xs) p.1))) (pattern_limited t x ds m.0.0 m.0.1 m.1)
          ∙ ap (option_map (in_front m.0.0)) (patterns_limited t xs m.0.1 z.0.0 z.0.1 z.1) ∙ (λ i. Some ((z.2 i).0, map lim (z.2 i).1))

    -- ---- query expressions

    abbrev Limited : Sketch → Sketch
    Limited s = limited_sketch ts n k s

    -- the inside of a larger query expression
    inner : (h : Top) (cs : Terms) → mix_of ts k (of h cs) ≡ None → limited ts n k true (of h cs) ≡ of h (parts_limited ts n k h (terms_count cs) (takes_first_whole ts k (of h cs)) 0 cs)
    inner h cs x =
        ap (λ (o : Option MixOf). taken_as n o (is_query ts k (of h cs) && false) (of h (parts_limited ts n k h (terms_count cs) (takes_first_whole ts k (of h cs)) 0 cs))) x
        ∙ ap (λ b. taken_as n None b (of h (parts_limited ts n k h (terms_count cs) (takes_first_whole ts k (of h cs)) 0 cs))) (and-false (is_query ts k (of h cs)))

    none_mixed : (h : Top) (cs : Terms) (s : Sketch) → sketch_of ts k (of h cs) ≡ Some s → mix_of ts k (of h cs) ≡ None
    none_mixed h cs s e = queries_are_unmixed ts k (of h cs) (ap is_some e)

    some_query : (h : Top) (cs : Terms) (s : Sketch) → sketch_of ts k (of h cs) ≡ Some s → takes_first_whole ts k (of h cs) ≡ true
    some_query h cs s e =
        ap (λ (o : Option Sketch). (is_mixed ts k (of h cs) || is_some o) || takes_whole ts k (of h cs)) e
        ∙ ap (λ b. b || takes_whole ts k (of h cs)) (or-true (is_mixed ts k (of h cs)))

    over_inner : (f : Fun) (q : Term) (cs : Terms) (s : Sketch) → ((m i : ℕ) → opens_row_scope (top.over f) m (suc i) ≡ true) → sketch_of ts k (of (top.over f) (cons q cs)) ≡ Some s →
        limited ts n k true (of (top.over f) (cons q cs)) ≡ of (top.over f) (cons (limited ts n k true q) (lims cs))
    over_inner f q cs s p e =
        inner (top.over f) (cons q cs) (none_mixed (top.over f) (cons q cs) s e) ∙ ap (λ b. of (top.over f) (parts_limited ts n k (top.over f) (terms_count (cons q cs)) b 0 (cons q cs))) (some_query (top.over f) (cons q cs) s e)
        ∙ ap (λ xs. of (top.over f) (cons (limited ts n k true q) xs)) (behind_parts (top.over f) (terms_count (cons q cs)) true (λ i. p (terms_count (cons q cs)) i) 0 cs)

    condition_opens : (m i : ℕ) → opens_row_scope (top.over fun.Filter) m (suc i) ≡ true
    condition_opens m i = ap is_formula (condition_behind m i)

    filtered_limited : (cs : Terms) (s z : Sketch) → filter_sketch ts k cs s ≡ Some z → filter_sketch ts k (lims cs) (Limited s) ≡ Some (Limited z)
    filtered_limited cs s z e =
        let With : List Outline × List Term → Sketch = λ p. record s { test = all_of (outline_list p.0); constants = p.1 } in
        let m = some_then (λ (t : TableShape). option_map With (patterns_behind (s.test ∷ []) (patterns_of t k cs s.constants))) (slice_get ts s.table) z e in
        let p = some_map With (patterns_behind (s.test ∷ []) (patterns_of m.0 k cs s.constants)) z m.2 in
        let b = some_map (in_front s.test) (patterns_of m.0 k cs s.constants) p.0 p.1 in
        let Then : List Outline × List Term → Sketch = λ r. record (Limited s) { test = all_of (outline_list r.0); constants = r.1 } in
        let patterns = patterns_limited m.0 cs s.constants b.0.0 b.0.1 b.1 in
        let is : With (in_front s.test b.0) ≡ z = ap With b.2 ∙ p.2 in
        ap (option_and_then (λ (t : TableShape). option_map Then (patterns_behind (s.test ∷ []) (patterns_of t k (lims cs) (map lim s.constants))))) m.1
        ∙ ap (λ r. option_map Then (patterns_behind (s.test ∷ []) r)) patterns ∙ ap (λ (x : Sketch). Some (Limited x)) is

    key_behind : (o : SortOrder) (m i : ℕ) → takes_at (row_of (fun.Sort o)) m (suc i) ≡ takes.ScalarFormula
    key_behind o m i = by (nat_eq (suc i) 0) (nat_eq (suc i) 1) (nat_eq (suc i % 2) 0) (differs (suc i) 0 (λ e. omega (arith, e)))
      where
        by : (a b d : Bool) → a ≡ false → (if a then takes.Table else (if b then takes.ScalarFormula else (if d then takes.ScalarFormula else takes.ScalarFormula))) ≡ takes.ScalarFormula
        by true b d e = absurd cc
        by false true d e = refl
        by false false true e = refl
        by false false false e = refl

    sorted_limited : (o : SortOrder) (cs : Terms) (s z : Sketch) → sorted ts k o cs s ≡ Some z → sorted ts k o (lims cs) (Limited s) ≡ Some (Limited z)
    sorted_limited o nil s z e = absurd cc
    sorted_limited o (cons f (cons g gs)) s z e = absurd cc
    sorted_limited o (cons f nil) s z e = by (is_some s.order) e
      where
        With : ℕ → Sketch
        With i = record s { order = Some (i, is_falling o) }

        by : (b : Bool) → (if b then None else sorted_by ts k o f s) ≡ Some z → (if b then None else sorted_by ts k o (lim f) (Limited s)) ≡ Some (Limited z)
        by true q = absurd cc
        by false q =
            let m = some_then (λ (t : TableShape). option_map With (plain_column t k f)) (slice_get ts s.table) z q in
            let p = some_map With (plain_column m.0 k f) z m.2 in
            let Then : ℕ → Sketch = λ i. record (Limited s) { order = Some (i, is_falling o) } in
            ap (option_and_then (λ (t : TableShape). option_map Then (plain_column t k (lim f)))) m.1
            ∙ ap (option_map Then) (plain_limited m.0 k (suc k) false f ∙ p.1) ∙ ap (λ (x : Sketch). Some (Limited x)) p.2

    pub query_limited : (q : Term) (s : Sketch) → sketch_of ts k q ≡ Some s → sketch_of ts k (limited ts n k true q) ≡ Some (Limited s)
    query_limited (of (top.read (source.Table t)) nil) s e =
        let m = some_map (λ (u : TableShape). record { table = t; test = always; order = None; constants = [] }) (slice_get ts t) s e in
        ap (sketch_of ts k) (inner (top.read (source.Table t)) nil refl) ∙ e ∙ ap (λ (x : Sketch). Some x) (sym m.2) ∙ ap (λ (x : Sketch). Some (Limited x)) m.2
    query_limited (of (top.over fun.Filter) (cons q cs)) s e =
        let m = some_then (filter_sketch ts k cs) (sketch_of ts k q) s e in
        ap (sketch_of ts k) (over_inner fun.Filter q cs s condition_opens e)
        ∙ ap (option_and_then (filter_sketch ts k (lims cs))) (query_limited q m.0 m.1) ∙ filtered_limited cs m.0 s m.2
    query_limited (of (top.over (fun.Sort o)) (cons q cs)) s e =
        let m = some_then (sorted ts k o cs) (sketch_of ts k q) s e in
        ap (sketch_of ts k) (over_inner (fun.Sort o) q cs s (λ m i. ap is_formula (key_behind o m i)) e)
        ∙ ap (option_and_then (sorted ts k o (lims cs))) (query_limited q m.0 m.1) ∙ sorted_limited o cs m.0 s m.2
    query_limited q s e = absurd cc

    -- ---- mixed filters

    marked_limited : (bs : List Bool) (cs : Terms) → marked bs (lims cs) ≡ lims (marked bs cs)
    marked_limited [] cs = refl
    marked_limited (true ∷ bs) nil = refl
    marked_limited (false ∷ bs) nil = refl
    marked_limited (true ∷ bs) (cons c cs) = ap (cons (lim c)) (marked_limited bs cs)
    marked_limited (false ∷ bs) (cons c cs) = marked_limited bs cs

    unmarked_limited : (bs : List Bool) (cs : Terms) → unmarked bs (lims cs) ≡ lims (unmarked bs cs)
    unmarked_limited [] cs = refl
    unmarked_limited (true ∷ bs) nil = refl
    unmarked_limited (false ∷ bs) nil = refl
    unmarked_limited (true ∷ bs) (cons c cs) = unmarked_limited bs cs
    unmarked_limited (false ∷ bs) (cons c cs) = ap (cons (lim c)) (unmarked_limited bs cs)

    -- a mixed filter is split, and its parts are limited each
    mixed_limited : (w : Bool) (q : Term) (cs : Terms) (m : MixOf) → mix_of ts k (of (top.over fun.Filter) (cons q cs)) ≡ Some m →
        limited ts n k w (of (top.over fun.Filter) (cons q cs))
        ≡ of (top.over fun.Filter) (cons (first_rows_of n (of (top.over fun.Filter) (cons (limited ts n k true q) (lims (marked m.marks cs))))) (lims (unmarked m.marks cs)))
    mixed_limited w q cs m e =
        let whole : Term = of (top.over fun.Filter) (cons q cs) in
        ap (λ (o : Option MixOf). taken_as n o (is_query ts k whole && not w) (of (top.over fun.Filter) (parts_limited ts n k (top.over fun.Filter) (terms_count (cons q cs)) (takes_first_whole ts k whole) 0 (cons q cs)))) e
        ∙ ap (λ (b : Bool). over_first n (split_with m.marks (of (top.over fun.Filter) (parts_limited ts n k (top.over fun.Filter) (terms_count (cons q cs)) b 0 (cons q cs)))))
        (ap (λ (o : Option MixOf). (is_some o || is_query ts k whole) || takes_whole ts k whole) e)
        ∙ ap (λ (xs : Terms). over_first n (split_with m.marks (of (top.over fun.Filter) (cons (limited ts n k true q) xs))))
        (behind_parts (top.over fun.Filter) (terms_count (cons q cs)) true (λ i. condition_opens (terms_count (cons q cs)) i) 0 cs)
        ∙ (λ i. over_first n (of (top.over fun.Filter) (cons (limited ts n k true q) (marked_limited m.marks cs i)), unmarked_limited m.marks cs i))

    -- a query expression that isn't taken whole is cut
    cut_whole : (h : Top) (cs : Terms) (s : Sketch) → sketch_of ts k (of h cs) ≡ Some s → limited ts n k false (of h cs) ≡ first_rows_of n (limited ts n k true (of h cs))
    cut_whole h cs s e =
        ap (λ (o : Option MixOf). taken_as n o (is_query ts k (of h cs) && true) (of h (parts_limited ts n k h (terms_count cs) (takes_first_whole ts k (of h cs)) 0 cs))) (none_mixed h cs s e)
        ∙ ap (λ (r : Option Sketch). taken_as n None (is_some r && true) (of h (parts_limited ts n k h (terms_count cs) (takes_first_whole ts k (of h cs)) 0 cs))) e
        ∙ ap (first_rows_of n) (sym (inner h cs (none_mixed h cs s e)))

    some_sketch : (o : Option Sketch) → is_some o ≡ true → (s : Sketch) × (o ≡ Some s)
    some_sketch None e = absurd cc
    some_sketch (Some s) e = (s, refl)

    -- a mixed filter is that of its other conditions over what is taken of its query expression
    pub mixed_taken : (t x : Term) (rest : Terms) → split_of ts k t ≡ Some (x, rest) → limited ts n k false t ≡ of (top.over fun.Filter) (cons (limited ts n k false x) (lims rest))
    mixed_taken (of (top.over fun.Filter) (cons q cs)) x rest e =
        let m = some_map (λ (m : MixOf). split_with m.marks (of (top.over fun.Filter) (cons q cs))) (mix_of ts k (of (top.over fun.Filter) (cons q cs))) (x, rest) e in
        let y : Term = of (top.over fun.Filter) (cons q (marked m.0.marks cs)) in
        let asked : is_some (sketch_of ts k y) ≡ true = ap (λ (p : Term × Terms). is_some (sketch_of ts k p.0)) m.2 ∙ splits_are_queries ts k (of (top.over fun.Filter) (cons q cs)) (x, rest) e in
        let s = some_sketch (sketch_of ts k y) asked in
        let cut : limited ts n k false y ≡ first_rows_of n (of (top.over fun.Filter) (cons (limited ts n k true q) (lims (marked m.0.marks cs)))) =
        cut_whole (top.over fun.Filter) (cons q (marked m.0.marks cs)) s.0 s.1 ∙ ap (first_rows_of n) (over_inner fun.Filter q (marked m.0.marks cs) s.0 condition_opens s.1) in
        mixed_limited false q cs m.0 m.1
        ∙ ap (λ (z : Term). of (top.over fun.Filter) (cons z (lims (unmarked m.0.marks cs)))) (sym cut)
        ∙ (λ i. of (top.over fun.Filter) (cons (limited ts n k false ((m.2 i).0)) (lims ((m.2 i).1))))
    mixed_taken t x rest e = absurd cc

pub mixed_are_taken : MixedAreTaken
mixed_are_taken s ts n t x rest v e =
    let is = mixed_taken ts n (length s.rows) t x rest e in
    (λ h. subst (λ (z : Term). IsValue (setting_around s) z v) is h, λ h. subst (λ (z : Term). IsValue (setting_around s) z v) (sym is) h)

pub sketches_limited : LimitedSketches
sketches_limited ts n k q s e = query_limited ts n k q s e
