-- A tree whose query expressions give what is taken of them has the types that it had.
use Rattle.std.specs.Cmp.{first_so}
use Rattle.std.proofs.Common.{◌≡◌, ℕ, zero, suc, List, [], ◌∷◌, ◌++◌, length, Bool, true, false, not, Option, Some, None, refl, sym, ap, subst, ◌∙◌, arith}
use Rattle.std.specs.Prelude.{◌&&◌, ◌||◌, Result, Ok, Err, is_some, if◌then◌else◌}
use Rattle.std.proofs.lemmas.List.{length-append}
use Rattle.std.proofs.Math.Bool.{or-false}
use Rattle.fx_types.specs.Types.{Shape, blanks, records, tables, ColumnList}
use Rattle.fx_types.specs.Values.{Data, text}
use Rattle.fx_plan.specs.declared.plans.Sketch.{Sketch}
use Rattle.fx_plan.specs.QueryExpressions.{sketch_of}
use Rattle.fx_plan.specs.Sites.{terms_count, deeper, is_first, is_formula, is_query, opens_row_scope}
use Rattle.fx_semantics.specs.Sound.{AreLawfulTypings, IsLawfulType}
use Rattle.fx_semantics.proofs.Calls.{call_quiet}
use Rattle.fx_semantics.proofs.Forms.{IsQuiet, form_quiet}
use Rattle.fx_core.specs.declared.rows.Answer.{Answer}
use Rattle.fx_core.specs.declared.rows.Answer.TheVariants as answer
use Rattle.fx_core.specs.declared.rows.Row.{Row}
use Rattle.fx_core.specs.declared.rows.Takes.{Takes}
use Rattle.fx_core.specs.declared.rows.Takes.TheVariants as takes
use Rattle.fx_core.specs.declared.schema.TableShape.{TableShape}
use Rattle.fx_core.specs.Rules as rules
use Rattle.fx_core.specs.Rows.{form_row, row_of, takes_at}
use Rattle.fx_core.specs.SourceTypes.{columns_of}
use Rattle.fx_core.specs.Term.{Term, Terms, of, nil, cons, Top}
use Rattle.fx_core.specs.Term as top
use Rattle.fx_typing.specs.Acts.{acts, any_acts, is_acting}
use Rattle.fx_typing.specs.Columns.{added, are_keys, by_label, dropped, grouped, is_key, label_of, last_label, names_there, out_of, columns_renamed, columns_shown, ungrouped, with_group}
use Rattle.fx_core.specs.ColumnLists.{and_then, before_last, field_in, if_free, if_there, columns_only, row_columns, value_column, with_new, with_renamed, columns_without, without_all}
use Rattle.fx_typing.specs.WellTyped.{AreTyped, Context, IsByRow, IsRuled, PartScope, answered_type, as_table, bound, catching, context_for, head_of, inside, typed_pairs, parts_count, plain, row_type, standing_at, standing_of}
use Rattle.fx_plan.proofs.Placing.{query_found}
use Rattle.fx_plan.specs.Constants.{HasType, ReadsTables}
use Rattle.filter_parts.specs.Splits.{split_with}
use Rattle.fx_plan.proofs.Retyping.{filter_parts}
use Rattle.fx_plan.proofs.Splitting.{mixed_tree, rows_typed, split_acts, split_typed}
use Rattle.fx_plan.specs.Limited.{LimitedTypes, first_rows_of, limited, over_first, parts_limited, taken_as, takes_first_whole}
use Rattle.fx_plan.specs.Mixed.{MixOf, mix_of}

-- ---- the same labels and types

abbrev SameLabels : List (Term × Shape) → List (Term × Shape) → Type 0
SameLabels [] [] = Unit {0}
SameLabels (x ∷ xs) (y ∷ ys) = (label_of x.0 ≡ label_of y.0) × (x.1 ≡ y.1) × SameLabels xs ys
SameLabels xs ys = ⊥

added_same : (xs ys : List (Term × Shape)) → SameLabels xs ys → (cs : ColumnList) → added xs cs ≡ added ys cs
added_same [] [] h cs = refl
added_same (x ∷ []) (y ∷ []) h cs = refl
added_same (x ∷ f ∷ xs) (y ∷ g ∷ ys) h cs = λ i. by_label (h.0 i) (λ n. and_then (with_new n (h.2.1 i) cs) (λ ds. added_same xs ys h.2.2 ds i))
added_same [] (y ∷ ys) h cs = absurd h
added_same (x ∷ xs) [] h cs = absurd h
added_same (x ∷ []) (y ∷ g ∷ ys) h cs = absurd h.2
added_same (x ∷ f ∷ xs) (y ∷ []) h cs = absurd h.2

there_same : (xs ys : List (Term × Shape)) → SameLabels xs ys → (cs : ColumnList) → names_there xs cs ≡ names_there ys cs
there_same [] [] h cs = refl
there_same (x ∷ xs) (y ∷ ys) h cs = λ i. by_label (h.0 i) (λ n. and_then (if_there (field_in n cs)) (λ t. and_then (there_same xs ys h.2 cs i) (λ ns. Ok (n ∷ ns))))
there_same [] (y ∷ ys) h cs = absurd h
there_same (x ∷ xs) [] h cs = absurd h

dropped_same : (xs ys : List (Term × Shape)) → SameLabels xs ys → (cs : ColumnList) → dropped xs cs ≡ dropped ys cs
dropped_same xs ys h cs = ap (λ r. and_then r (λ ns. Ok (without_all ns cs))) (there_same xs ys h cs)

shown_same : (xs ys : List (Term × Shape)) → SameLabels xs ys → (cs : ColumnList) → columns_shown xs cs ≡ columns_shown ys cs
shown_same xs ys h cs = ap (λ r. and_then r (λ ns. Ok (columns_only ns cs))) (there_same xs ys h cs)

renamed_same : (xs ys : List (Term × Shape)) → SameLabels xs ys → (cs : ColumnList) → columns_renamed xs cs ≡ columns_renamed ys cs
renamed_same [] [] h cs = refl
renamed_same (x ∷ []) (y ∷ []) h cs = refl
renamed_same (x ∷ f ∷ xs) (y ∷ g ∷ ys) h cs = λ i. by_label (h.0 i) (λ n. by_label (h.2.0 i) (λ m. and_then (with_renamed n m cs) (λ ds. renamed_same xs ys h.2.2 ds i)))
renamed_same [] (y ∷ ys) h cs = absurd h
renamed_same (x ∷ xs) [] h cs = absurd h
renamed_same (x ∷ []) (y ∷ g ∷ ys) h cs = absurd h.2
renamed_same (x ∷ f ∷ xs) (y ∷ []) h cs = absurd h.2

last_same : (xs ys : List (Term × Shape)) → SameLabels xs ys → last_label xs ≡ last_label ys
last_same [] [] h = refl
last_same (x ∷ []) (y ∷ []) h = h.0
last_same (x ∷ f ∷ xs) (y ∷ g ∷ ys) h = last_same (f ∷ xs) (g ∷ ys) h.2
last_same [] (y ∷ ys) h = absurd h
last_same (x ∷ xs) [] h = absurd h
last_same (x ∷ []) (y ∷ g ∷ ys) h = absurd h.2
last_same (x ∷ f ∷ xs) (y ∷ []) h = absurd h.2

before_same : (xs ys : List (Term × Shape)) → SameLabels xs ys → SameLabels (before_last xs) (before_last ys)
before_same [] [] h = tt
before_same (x ∷ []) (y ∷ []) h = tt
before_same (x ∷ f ∷ xs) (y ∷ g ∷ ys) h = (h.0, h.1, before_same (f ∷ xs) (g ∷ ys) h.2)
before_same [] (y ∷ ys) h = absurd h
before_same (x ∷ xs) [] h = absurd h
before_same (x ∷ []) (y ∷ g ∷ ys) h = absurd h.2
before_same (x ∷ f ∷ xs) (y ∷ []) h = absurd h.2

keys_same : (xs ys : List (Term × Shape)) → SameLabels xs ys → (cs : ColumnList) → are_keys xs cs ≡ are_keys ys cs
keys_same [] [] h cs = refl
keys_same (x ∷ xs) (y ∷ ys) h cs = λ i. is_key (h.0 i) cs && keys_same xs ys h.2 cs i
keys_same [] (y ∷ ys) h cs = absurd h
keys_same (x ∷ xs) [] h cs = absurd h

grouped_same : (xs ys : List (Term × Shape)) → SameLabels xs ys → (cs : ColumnList) → grouped xs cs ≡ grouped ys cs
grouped_same xs ys h cs =
    let b = before_same xs ys h in
    λ i. by_label (last_same xs ys h i) (λ g. and_then (if_free (field_in g cs) cs) (λ ds.
    if keys_same (before_last xs) (before_last ys) b ds i then and_then (there_same (before_last xs) (before_last ys) b ds i) (λ ns. Ok (with_group g ns ds))
    else Err rules.wrong_type))

ungrouped_same : (xs ys : List (Term × Shape)) → SameLabels xs ys → (cs : ColumnList) → ungrouped xs cs ≡ ungrouped ys cs
ungrouped_same [] [] h cs = refl
ungrouped_same (x ∷ []) (y ∷ []) h cs = ap (λ o. by_label o (λ g. and_then (if_there (field_in g cs)) (λ t. out_of t (columns_without g cs)))) h.0
ungrouped_same (x ∷ f ∷ xs) (y ∷ g ∷ ys) h cs = refl
ungrouped_same [] (y ∷ ys) h cs = absurd h
ungrouped_same (x ∷ xs) [] h cs = absurd h
ungrouped_same (x ∷ []) (y ∷ g ∷ ys) h cs = absurd h.2
ungrouped_same (x ∷ f ∷ xs) (y ∷ []) h cs = absurd h.2

-- what is made of the columns of a table
abbrev of_table : (ColumnList → Result ColumnList ℕ) → Shape → Result Shape ℕ
of_table f (tables cs) = as_table (f cs)
of_table f t = Err rules.wrong_type

by_table : (f g : ColumnList → Result ColumnList ℕ) → ((cs : ColumnList) → f cs ≡ g cs) → (t u : Shape) → t ≡ u → of_table f t ≡ of_table g u
by_table f g e t u q = by t ∙ ap (of_table g) q
  where
    by : (x : Shape) → of_table f x ≡ of_table g x
    by (tables cs) = ap as_table (e cs)
    by x = refl

added_told : (common : Shape) (x : Term × Shape) (xs : List (Term × Shape)) → answered_type answer.Added common (x ∷ xs) ≡ of_table (added xs) x.1
added_told common (c, tables cs) xs = refl
added_told common (c, t) xs = refl

dropped_told : (common : Shape) (x : Term × Shape) (xs : List (Term × Shape)) → answered_type answer.Dropped common (x ∷ xs) ≡ of_table (dropped xs) x.1
dropped_told common (c, tables cs) xs = refl
dropped_told common (c, t) xs = refl

shown_told : (common : Shape) (x : Term × Shape) (xs : List (Term × Shape)) → answered_type answer.Shown common (x ∷ xs) ≡ of_table (columns_shown xs) x.1
shown_told common (c, tables cs) xs = refl
shown_told common (c, t) xs = refl

renamed_told : (common : Shape) (x : Term × Shape) (xs : List (Term × Shape)) → answered_type answer.Renamed common (x ∷ xs) ≡ of_table (columns_renamed xs) x.1
renamed_told common (c, tables cs) xs = refl
renamed_told common (c, t) xs = refl

grouped_told : (common : Shape) (x : Term × Shape) (xs : List (Term × Shape)) → answered_type answer.Grouped common (x ∷ xs) ≡ of_table (grouped xs) x.1
grouped_told common (c, tables cs) xs = refl
grouped_told common (c, t) xs = refl

ungrouped_told : (common : Shape) (x : Term × Shape) (xs : List (Term × Shape)) → answered_type answer.Ungrouped common (x ∷ xs) ≡ of_table (ungrouped xs) x.1
ungrouped_told common (c, tables cs) xs = refl
ungrouped_told common (c, t) xs = refl

answered_same : (a : Answer) (common : Shape) (xs ys : List (Term × Shape)) → SameLabels xs ys → answered_type a common xs ≡ answered_type a common ys
answered_same (answer.Scalar s) common xs ys h = refl
answered_same answer.Common common xs ys h = refl
answered_same answer.Same common (x ∷ xs) (y ∷ ys) h = ap Ok h.1
answered_same answer.Row common (x ∷ xs) (y ∷ ys) h = ap (λ t. Ok (row_type t)) h.1
answered_same answer.Found common (x ∷ []) (y ∷ []) h = ap (λ t. Ok (row_type t)) h.1
answered_same answer.Found common (x ∷ p ∷ []) (y ∷ q ∷ []) h = ap (λ t. Ok (row_type t)) h.1
answered_same answer.Found common (x ∷ p ∷ z ∷ xs) (y ∷ q ∷ w ∷ ys) h = ap Ok h.2.2.1
answered_same answer.Added common (x ∷ xs) (y ∷ ys) h = added_told common x xs ∙ by_table (added xs) (added ys) (added_same xs ys h.2) x.1 y.1 h.1 ∙ sym (added_told common y ys)
answered_same answer.Dropped common (x ∷ xs) (y ∷ ys) h = dropped_told common x xs ∙ by_table (dropped xs) (dropped ys) (dropped_same xs ys h.2) x.1 y.1 h.1 ∙ sym (dropped_told common y ys)
answered_same answer.Shown common (x ∷ xs) (y ∷ ys) h = shown_told common x xs ∙ by_table (columns_shown xs) (columns_shown ys) (shown_same xs ys h.2) x.1 y.1 h.1 ∙ sym (shown_told common y ys)
answered_same answer.Renamed common (x ∷ xs) (y ∷ ys) h = renamed_told common x xs ∙ by_table (columns_renamed xs) (columns_renamed ys) (renamed_same xs ys h.2) x.1 y.1 h.1 ∙ sym (renamed_told common y ys)
answered_same answer.Grouped common (x ∷ xs) (y ∷ ys) h = grouped_told common x xs ∙ by_table (grouped xs) (grouped ys) (grouped_same xs ys h.2) x.1 y.1 h.1 ∙ sym (grouped_told common y ys)
answered_same answer.Ungrouped common (x ∷ xs) (y ∷ ys) h = ungrouped_told common x xs ∙ by_table (ungrouped xs) (ungrouped ys) (ungrouped_same xs ys h.2) x.1 y.1 h.1 ∙ sym (ungrouped_told common y ys)
answered_same answer.Values common (x ∷ []) (y ∷ []) h = refl
answered_same answer.Values common (x ∷ p ∷ xs) (y ∷ q ∷ ys) h = ap (λ t. Ok (tables (value_column t))) h.2.1
answered_same answer.Each common (x ∷ []) (y ∷ []) h = refl
answered_same answer.Each common (x ∷ p ∷ xs) (y ∷ q ∷ ys) h = ap (λ t. Ok (tables (row_columns t))) h.2.1
answered_same a common [] [] h = refl
answered_same a common [] (y ∷ ys) h = absurd h
answered_same a common (x ∷ xs) [] h = absurd h
answered_same a common (x ∷ []) (y ∷ q ∷ ys) h = absurd h.2
answered_same a common (x ∷ p ∷ xs) (y ∷ []) h = absurd h.2
answered_same a common (x ∷ p ∷ []) (y ∷ q ∷ w ∷ ys) h = absurd h.2.2
answered_same a common (x ∷ p ∷ z ∷ xs) (y ∷ q ∷ []) h = absurd h.2.2

-- ---- depth

more_deep : (xs : List Shape) (t : Shape) → length (xs ++ t ∷ []) ≡ suc (length xs)
more_deep xs t = let e = length-append xs (t ∷ []) in omega (arith, e)

quiet_deep : (c : Context) (s : PartScope) (done : List Shape) → IsQuiet s → length (context_for s c done).rows ≡ length c.rows
quiet_deep c plain done q = refl
quiet_deep c catching done q = refl
quiet_deep c inside done q = absurd q
quiet_deep c bound done q = absurd q

first_deep : (c : Context) (s : PartScope) → length (context_for s c []).rows ≡ length c.rows
first_deep c plain = refl
first_deep c catching = refl
first_deep c inside = refl
first_deep c bound = refl

take_deep : (c : Context) (k : Takes) (t : Shape) (done : List Shape) → length (context_for (standing_of k) c (t ∷ done)).rows ≡ deeper (is_formula k) (length c.rows)
take_deep c (takes.Formula s) t done = more_deep c.rows (row_type t)
take_deep c takes.ScalarFormula t done = more_deep c.rows (row_type t)
take_deep c takes.AnyFormula t done = more_deep c.rows (row_type t)
take_deep c takes.RowFormula t done = more_deep c.rows (row_type t)
take_deep c k t done = refl

-- heads of trees that don't act, and calls of what is called
abbrev IsFine : Top → Type 0
IsFine (top.call f) = head_of f ≡ top.call f
IsFine top.chain = ⊥
IsFine (top.act d) = ⊥
IsFine h = Unit {0}

depth_of : (c : Context) (h : Top) → IsFine h → (m i : ℕ) (done : List Shape) → i ≡ length done → length (context_for (standing_at h m i) c done).rows ≡ deeper (opens_row_scope h m i) (length c.rows)
depth_of c (top.over f) g m zero [] e = first_deep c (standing_at (top.over f) m zero)
depth_of c (top.over f) g m (suc i) (t ∷ done) e = take_deep c (takes_at (row_of f) m (suc i)) t done
depth_of c (top.over f) g m zero (t ∷ done) e = absurd (omega (arith, e))
depth_of c (top.over f) g m (suc i) [] e = absurd (omega (arith, e))
depth_of c (top.call f) g m i done e = quiet_deep c (standing_at (top.call f) m i) done (call_quiet f g m i)
depth_of c (top.form f) g m i done e = quiet_deep c (standing_at (top.form f) m i) done (form_quiet f m i)
depth_of c top.within g m zero done e = refl
depth_of c top.within g m (suc i) (t ∷ done) e = more_deep c.rows t
depth_of c top.within g m (suc i) [] e = absurd (omega (arith, e))
depth_of c top.chain g m i done e = absurd g
depth_of c (top.act d) g m i done e = absurd g
depth_of c h g m i done e = refl

reads_there : (ts : List TableShape) (s : PartScope) (c : Context) (done : List Shape) → ReadsTables ts c → ReadsTables ts (context_for s c done)
reads_there ts inside c (t ∷ done) r = r
reads_there ts bound c (t ∷ done) r = r
reads_there ts catching c done r = r
reads_there ts plain c done r = r
reads_there ts inside c [] r = r
reads_there ts bound c [] r = r

same_count : (cs : Terms) → terms_count cs ≡ parts_count cs
same_count nil = refl
same_count (cons c cs) = ap suc (same_count cs)

first_quiet : (a b : Bool) → (a || b) ≡ false → a ≡ false
first_quiet true b e = absurd cc
first_quiet false b e = refl

second_quiet : (a b : Bool) → (a || b) ≡ false → b ≡ false
second_quiet true b e = absurd cc
second_quiet false b e = e

module _ (ts : List TableShape) (n : ℕ) where
  -- ---- nothing begins to act

  acts_capped : (b : Bool) (x : Term) → acts (taken_as n None b x) ≡ acts x
  acts_capped true x = or-false (acts x)
  acts_capped false x = refl

  acts_taken : (k : ℕ) (first cut : Bool) (h : Top) (cs : Terms) (o : Option MixOf) → mix_of ts k (of h cs) ≡ o →
      acts (taken_as n o cut (of h (parts_limited ts n k h (terms_count cs) first 0 cs))) ≡ acts (of h (parts_limited ts n k h (terms_count cs) first 0 cs))
  acts_taken k first cut h cs None e = acts_capped cut (of h (parts_limited ts n k h (terms_count cs) first 0 cs))
  acts_taken k first cut h cs (Some m) e =
      let d = mixed_tree ts n k first h cs m e in
      subst (λ (x : Term). acts (over_first n (split_with m.marks x)) ≡ acts x) (sym d.limits) (split_acts n m.marks d.table d.others d.each)

  mutual
    pub acts_limited : (k : ℕ) (w : Bool) (x : Term) → acts (limited ts n k w x) ≡ acts x
    acts_limited k w (of h cs) =
        acts_taken k (takes_first_whole ts k (of h cs)) (is_query ts k (of h cs) && not w) h cs (mix_of ts k (of h cs)) refl
        ∙ ap (λ b. is_acting h || b) (all_act_limited k h (terms_count cs) (takes_first_whole ts k (of h cs)) 0 cs)

    all_act_limited : (k : ℕ) (h : Top) (m : ℕ) (w : Bool) (i : ℕ) (cs : Terms) → any_acts (parts_limited ts n k h m w i cs) ≡ any_acts cs
    all_act_limited k h m w i nil = refl
    all_act_limited k h m w i (cons c cs) =
        ap (λ b. b || any_acts (parts_limited ts n k h m w (suc i) cs)) (acts_limited (deeper (opens_row_scope h m i) k) (w && is_first i) c)
        ∙ ap (λ b. acts c || b) (all_act_limited k h m w (suc i) cs)

  -- ---- labels stay

  no_label : (o : Option MixOf) (b : Bool) (x : Term) → label_of x ≡ None → label_of (taken_as n o b x) ≡ None
  no_label (Some m) b x e = refl
  no_label None true x e = refl
  no_label None false x e = e

  no_name : (d : Data) (c : Term) (cs : Terms) → label_of (of (top.const d) (cons c cs)) ≡ None
  no_name (text x) c cs = refl
  no_name d c cs = refl

  label_limited : (k : ℕ) (w : Bool) (x : Term) → label_of (limited ts n k w x) ≡ label_of x
  label_limited k w (of (top.const (text cs)) nil) = refl
  label_limited k w (of (top.over f) cs) =
      no_label (mix_of ts k (of (top.over f) cs)) (is_query ts k (of (top.over f) cs) && not w) (of (top.over f) (parts_limited ts n k (top.over f) (terms_count cs) (takes_first_whole ts k (of (top.over f) cs)) 0 cs)) refl
  label_limited k w (of (top.read s) cs) =
      no_label None (is_query ts k (of (top.read s) cs) && not w) (of (top.read s) (parts_limited ts n k (top.read s) (terms_count cs) (takes_first_whole ts k (of (top.read s) cs)) 0 cs)) refl
  label_limited k w (of (top.const d) (cons c cs)) =
      no_name d (limited ts n k (false && is_first 0) c) (parts_limited ts n k (top.const d) (terms_count (cons c cs)) false 1 cs) ∙ sym (no_name d c cs)
  label_limited k w (of h nil) = refl
  label_limited k w (of h (cons c cs)) = refl

  labels_limited : (k : ℕ) (h : Top) (m : ℕ) (w : Bool) (i : ℕ) (cs : Terms) (us : List Shape) → SameLabels (typed_pairs cs us) (typed_pairs (parts_limited ts n k h m w i cs) us)
  labels_limited k h m w i nil us = tt
  labels_limited k h m w i (cons c cs) [] = tt
  labels_limited k h m w i (cons c cs) (u ∷ us) =
      (sym (label_limited (deeper (opens_row_scope h m i) k) (w && is_first i) c), refl, labels_limited k h m w (suc i) cs us)

  by_row : (r : Row) (cs ds : Terms) (us : List Shape) (t : Shape) → SameLabels (typed_pairs cs us) (typed_pairs ds us) → IsByRow r cs us t → IsByRow r ds us t
  by_row r cs ds us t s h = (h.0, h.1, h.2, sym (answered_same r.answer h.1 (typed_pairs cs us) (typed_pairs ds us) s) ∙ h.3)

  ruled : (c : Context) (h : Top) → IsFine h → (cs ds : Terms) (us : List Shape) (t : Shape) → SameLabels (typed_pairs cs us) (typed_pairs ds us) → IsRuled c h cs us t → IsRuled c h ds us t
  ruled c (top.const v) g cs ds us t s r = r
  ruled c (top.read x) g cs ds us t s r = r
  ruled c (top.row k) g cs ds us t s r = r
  ruled c top.item g cs ds us t s r = r
  ruled c top.caught g cs ds us t s r = r
  ruled c (top.dot x) g cs ds (u ∷ []) t s r = r
  ruled c (top.dot x) g cs ds us t s r = absurd r
  ruled c (top.call f) g cs ds us t s r = (r.0, by_row (row_of f) cs ds us t s r.1)
  ruled c (top.over f) g cs ds us t s r = (r.0, by_row (row_of f) cs ds us t s r.1)
  ruled c (top.user f) g cs ds us t s r = r
  ruled c (top.form f) g cs ds us t s r = by_row (form_row f) cs ds us t s r
  ruled c top.within g cs ds (records ks ∷ u ∷ []) t s r = r
  ruled c top.within g cs ds us t s r = absurd r
  ruled c (top.rec ns) g cs ds us t s r = r
  ruled c (top.list (tables ks)) g cs ds us t s r = absurd r
  ruled c (top.list x) g cs ds us t s r = r
  ruled c (top.coerce blanks) g cs ds (u ∷ []) t s r = r
  ruled c (top.coerce x) g cs ds (u ∷ []) t s r = r
  ruled c (top.coerce x) g cs ds us t s r = absurd r
  ruled c top.chain g cs ds us t s r = absurd g
  ruled c (top.act d) g cs ds us t s r = absurd g

  fine : (c : Context) (h : Top) (cs : Terms) (us : List Shape) (t : Shape) → is_acting h ≡ false → IsRuled c h cs us t → IsFine h
  fine c (top.call f) cs us t q r = r.0
  fine c top.chain cs us t q r = absurd cc
  fine c (top.act d) cs us t q r = absurd cc
  fine c h cs us t q r = tt

  -- ---- first rows

  capped_typed : (c : Context) (b : Bool) (x : Term) (u : Shape) → HasType c x u → IsLawfulType u → (b ≡ true → (ks : ColumnList) × (u ≡ tables ks)) → HasType c (taken_as n None b x) u
  capped_typed c false x u h l f = h
  capped_typed c true x u h l f =
      let is = f refl in
      subst (HasType c (first_rows_of n x)) (sym is.1) (rows_typed n c x is.0 (subst (HasType c x) is.1 h) (subst IsLawfulType is.1 l))

  some_query : (o : Option Sketch) → is_some o ≡ true → (s : Sketch) × (o ≡ Some s)
  some_query None e = absurd cc
  some_query (Some s) e = (s, refl)

  -- a tree whose parts are limited, as it is taken
  taken_typed : (c : Context) (w : Bool) (h : Top) (cs : Terms) (u : Shape) → ReadsTables ts c → HasType c (of h cs) u →
      HasType c (of h (parts_limited ts n (length c.rows) h (terms_count cs) (takes_first_whole ts (length c.rows) (of h cs)) 0 cs)) u →
      (o : Option MixOf) → mix_of ts (length c.rows) (of h cs) ≡ o →
      HasType c (taken_as n o (is_query ts (length c.rows) (of h cs) && not w) (of h (parts_limited ts n (length c.rows) h (terms_count cs) (takes_first_whole ts (length c.rows) (of h cs)) 0 cs))) u
  taken_typed c w h cs u r t placed None e =
      capped_typed c (is_query ts (length c.rows) (of h cs) && not w) (of h (parts_limited ts n (length c.rows) h (terms_count cs) (takes_first_whole ts (length c.rows) (of h cs)) 0 cs)) u placed t.1.0
      (λ i.
      let s = some_query (sketch_of ts (length c.rows) (of h cs)) (first_so (is_query ts (length c.rows) (of h cs)) (not w) i) in
      let f = query_found c ts (of h cs) u s.0 r t s.1 in
      (columns_of f.table, f.type))
  taken_typed c w h cs u r t placed (Some m) e =
      let d = mixed_tree ts n (length c.rows) (takes_first_whole ts (length c.rows) (of h cs)) h cs m e in
      let f = filter_parts c d.rows d.conditions u (subst (λ (z : Term). HasType c z u) d.is_filter t) in
      let q = query_found c ts d.rows u d.mix.sketch r f.first d.mix.sketched in
      subst (λ (z : Term). HasType c (over_first n (split_with m.marks z)) u) (sym d.limits)
      (split_typed n c q.table m.marks d.table d.others u q.type d.each d.mix.both (subst (λ (z : Term). HasType c z u) d.limits placed))

  -- parts, as they stand
  abbrev HaveParts : Context → Top → ℕ → List Shape → Terms → List Shape → Type 0
  HaveParts c h m done cs us = (v : AreTyped c h m done cs us) × AreLawfulTypings c h m done cs us v

  so_many : (k : ℕ) (h : Top) (m : ℕ) (w : Bool) (i : ℕ) (cs : Terms) → parts_count (parts_limited ts n k h m w i cs) ≡ parts_count cs
  so_many k h m w i nil = refl
  so_many k h m w i (cons c cs) = ap suc (so_many k h m w (suc i) cs)

  mutual
    pub typed_limited : (c : Context) (w : Bool) (x : Term) (u : Shape) → ReadsTables ts c → HasType c x u → acts x ≡ false → HasType c (limited ts n (length c.rows) w x) u
    typed_limited c w (of h cs) u r t q =
        let us = t.0.0 in
        let k = length c.rows in
        let first = takes_first_whole ts k (of h cs) in
        let g = fine c h cs us u (first_quiet (is_acting h) (any_acts cs) q) t.0.2 in
        let parts : HaveParts c h (parts_count cs) [] (parts_limited ts n k h (parts_count cs) first 0 cs) us =
        parts_typed c h g (parts_count cs) first 0 cs [] us r refl (t.0.1, t.1.1) (second_quiet (is_acting h) (any_acts cs) q) in
        let counted : HaveParts c h (parts_count cs) [] (parts_limited ts n k h (terms_count cs) first 0 cs) us =
        subst (λ (m : ℕ). HaveParts c h (parts_count cs) [] (parts_limited ts n k h m first 0 cs) us) (sym (same_count cs)) parts in
        let rules = ruled c h g cs (parts_limited ts n k h (terms_count cs) first 0 cs) us u (labels_limited k h (terms_count cs) first 0 cs us) t.0.2 in
        let many : parts_count cs ≡ parts_count (parts_limited ts n k h (terms_count cs) first 0 cs) = sym (so_many k h (terms_count cs) first 0 cs) in
        let placed : HaveParts c h (parts_count (parts_limited ts n k h (terms_count cs) first 0 cs)) [] (parts_limited ts n k h (terms_count cs) first 0 cs) us =
        subst (λ (m : ℕ). HaveParts c h m [] (parts_limited ts n k h (terms_count cs) first 0 cs) us) many counted in
        taken_typed c w h cs u r t ((us, placed.0, rules), (t.1.0, placed.1)) (mix_of ts k (of h cs)) refl

    parts_typed : (c : Context) (h : Top) → IsFine h → (m : ℕ) (w : Bool) (i : ℕ) (cs : Terms) (done us : List Shape) → ReadsTables ts c → i ≡ length done → HaveParts c h m done cs us → any_acts cs ≡ false →
        HaveParts c h m done (parts_limited ts n (length c.rows) h m w i cs) us
    parts_typed c h g m w i nil done us r e t q = t
    parts_typed c h g m w i (cons x xs) done us r e t q =
        let there = context_for (standing_at h m (length done)) c done in
        let one : HasType there x t.0.0 = (t.0.3, t.1.0) in
        let depth : length there.rows ≡ deeper (opens_row_scope h m i) (length c.rows) =
        subst (λ (j : ℕ). length (context_for (standing_at h m j) c done).rows ≡ deeper (opens_row_scope h m i) (length c.rows)) e (depth_of c h g m i done e) in
        let typed : HasType there (limited ts n (length there.rows) (w && is_first i) x) t.0.0 =
        typed_limited there (w && is_first i) x t.0.0 (reads_there ts (standing_at h m (length done)) c done r) one (first_quiet (acts x) (any_acts xs) q) in
        let moved : HasType there (limited ts n (deeper (opens_row_scope h m i) (length c.rows)) (w && is_first i) x) t.0.0 =
        subst (λ (j : ℕ). HasType there (limited ts n j (w && is_first i) x) t.0.0) depth typed in
        let next : suc i ≡ length (done ++ t.0.0 ∷ []) = ap suc e ∙ sym (more_deep done t.0.0) in
        let rest = parts_typed c h g m w (suc i) xs (done ++ t.0.0 ∷ []) t.0.1 r next (t.0.4, t.1.1) (second_quiet (acts x) (any_acts xs) q) in
        ((t.0.0, t.0.1, t.0.2, moved.0, rest.0), (moved.1, rest.1))

pub types_limited : LimitedTypes
types_limited ts n c w x u r t q = (typed_limited ts n c w x u r t q, acts_limited ts n (length c.rows) w x ∙ q)
