-- What a settled query expression is worth, it is worth.
use Rattle.std.proofs.Common.{◌≡◌, ℕ, suc, List, [], ◌∷◌, ◌++◌, length, Bool, true, false, Option, Some, None, refl, sym, ap, subst, ◌∙◌, arith}
use Rattle.std.specs.Prelude.{◌%◌, nat_eq, not, ◌&&◌, option_map, slice_get, is_some, if◌then◌else◌}
use Rattle.std.proofs.lemmas.List.{length-append}
use Rattle.std.proofs.lemmas.Bool.{eq-eqb}
use Rattle.std.proofs.lemmas.Option.{same_Some}
use Rattle.fx_types.specs.declared.comparisons.Cmp.{Cmp}
use Rattle.fx_types.specs.Values.{Data, boolean}
use Rattle.fx_plan.specs.declared.plans.Sketch.{Sketch}
use Rattle.fx_plan.specs.Outlines.{Outline, constant_at, always, flag, constant, compares, is_blank, starts, contains, all_of, any_of, outline_list}
use Rattle.fx_plan.specs.QueryExpressions.{along, patterns_behind, beside, call_pattern, called_with_one, called_with_two, column_of, comparison_pattern, compared_with, comparison_by, filter_sketch, is_constant, is_falling, negated, pattern_by, pattern_of, patterns_of, plain_column, sketch_of, sorted, sorted_by, flipped, with_constant}
use Rattle.fx_scalar.specs.LazyForms.{decision_of}
use Rattle.fx_scalar.specs.ScalarFunctions.{is_blank_or_empty as is_blank_value}
use Rattle.fx_semantics.specs.Around.{Around, Meaning, AreEach, AreValues, inside, record_of}
use Rattle.fx_semantics.specs.Forms.{IsAll, IsAny, IsCoalesced}
use Rattle.fx_semantics.specs.Fresh.{IsCalled, IsValue, OfAll, meaning, meanings}
use Rattle.fx_semantics.specs.Rows.{IsMade, IsConjunction, rows_in}
use Rattle.fx_value.specs.Columns.{Row}
use Rattle.fx_core.specs.declared.functions.Form.TheVariants as form
use Rattle.fx_core.specs.declared.functions.Fun.{Fun}
use Rattle.fx_core.specs.declared.functions.Fun.TheVariants as fun
use Rattle.fx_core.specs.declared.literals.SortOrder.{SortOrder}
use Rattle.fx_core.specs.declared.rows.Scalar.{Scalar}
use Rattle.fx_core.specs.declared.rows.Scalar.TheVariants.{Boolean, Text}
use Rattle.fx_core.specs.declared.rows.Answer.TheVariants as answer
use Rattle.fx_core.specs.declared.rows.Row.{Row as FunRow}
use Rattle.fx_core.specs.declared.rows.Takes.TheVariants as takes
use Rattle.fx_core.specs.Rows.{form_row, row_of, takes_at, two}
use Rattle.fx_core.specs.declared.schema.TableShape.{TableShape}
use Rattle.fx_core.specs.declared.sources.Source.TheVariants as source
use Rattle.fx_core.specs.Term.{Term, Terms, of, nil, cons, Top}
use Rattle.fx_core.specs.Term as top
use Rattle.fx_typing.proofs.RelatedSteps.{if_true}
use Rattle.fx_plan.proofs.Constancy.{constant_stays}
use Rattle.fx_plan.proofs.Placing.{column_typed, got_last, got_more, joined, negated_same, plain_is, some_map, some_then}
use Rattle.fx_plan.proofs.Placing.{in_front as put_in_front}
use Rattle.fx_plan.proofs.Testing.{values_worth}
use Rattle.fx_plan.specs.Settings.{setting_around}
use Rattle.fx_plan.specs.Settled.{SearchesAreWorth, SettledAreWorth, as_value, by_head, condition_settled, conditions_settled, in_front, query_settled, search_settled, under_head}
use Rattle.fx_semantics.proofs.Wider.{by_decision, passed_or, error_or}
use Rattle.fx_plan.proofs.Placing.{same_inner, two_at}

-- what these parts are worth in the scope of d, those are worth
abbrev Implies : Around → List Meaning → List Meaning → Type 0
Implies b [] [] = Unit {0}
Implies b (P ∷ Ps) (Q ∷ Qs) = ((v : Data) → P b v → Q b v) × Implies b Ps Qs
Implies b Ps Qs = ⊥

values_imply : (b : Around) (Ps Qs : List Meaning) → Implies b Ps Qs → (ds : List Data) → AreValues Ps b ds → AreValues Qs b ds
values_imply b [] [] i [] h = tt
values_imply b (P ∷ Ps) (Q ∷ Qs) i (d ∷ ds) h = (i.0 d h.0, values_imply b Ps Qs i.1 ds h.1)
values_imply b [] [] i (d ∷ ds) h = absurd h
values_imply b (P ∷ Ps) (Q ∷ Qs) i [] h = absurd h
values_imply b [] (Q ∷ Qs) i ds h = absurd i
values_imply b (P ∷ Ps) [] i ds h = absurd i

all_imply : (b : Around) (Ps Qs : List Meaning) → Implies b Ps Qs → (v : Data) → IsAll Ps b v → IsAll Qs b v
all_imply b [] [] i v h = h
all_imply b (P ∷ Ps) (Q ∷ Qs) i v h =
    (h.0, i.0 h.0 h.1, by_decision (decision_of h.0) (IsAll Ps b v) (IsAll Qs b v) (v ≡ boolean false) (v ≡ boolean false) v (all_imply b Ps Qs i.1 v) (λ e. e) h.2)
all_imply b [] (Q ∷ Qs) i v h = absurd i
all_imply b (P ∷ Ps) [] i v h = absurd i

any_imply : (b : Around) (Ps Qs : List Meaning) → Implies b Ps Qs → (v : Data) → IsAny Ps b v → IsAny Qs b v
any_imply b [] [] i v h = h
any_imply b (P ∷ Ps) (Q ∷ Qs) i v h =
    (h.0, i.0 h.0 h.1, by_decision (decision_of h.0) (v ≡ boolean true) (v ≡ boolean true) (IsAny Ps b v) (IsAny Qs b v) v (λ e. e) (any_imply b Ps Qs i.1 v) h.2)
any_imply b [] (Q ∷ Qs) i v h = absurd i
any_imply b (P ∷ Ps) [] i v h = absurd i

coalesced_imply : (b : Around) (Ps Qs : List Meaning) → Implies b Ps Qs → (v : Data) → IsCoalesced Ps b v → IsCoalesced Qs b v
coalesced_imply b [] [] i v h = h
coalesced_imply b (P ∷ Ps) (Q ∷ Qs) i v h =
    (h.0, i.0 h.0 h.1, passed_or (is_blank_value h.0) (IsCoalesced Ps b v) (IsCoalesced Qs b v) (v ≡ h.0) (coalesced_imply b Ps Qs i.1 v) h.2)
coalesced_imply b [] (Q ∷ Qs) i v h = absurd i
coalesced_imply b (P ∷ Ps) [] i v h = absurd i

all_values_imply : (b : Around) (Ps Qs : List Meaning) → Implies b Ps Qs → (R : List Data → Type 0) → OfAll Ps b R → OfAll Qs b R
all_values_imply b Ps Qs i R h = (h.0, values_imply b Ps Qs i h.0 h.1, h.2)

called_imply : (b : Around) (f : Fun) (Ps Qs : List Meaning) → Implies b Ps Qs → (v : Data) → IsCalled f Ps b v → IsCalled f Qs b v
called_imply b fun.Coalesce Ps Qs i v h = coalesced_imply b Ps Qs i v h
called_imply b f Ps Qs i v h = all_values_imply b Ps Qs i _ h

each_implies : (a : Around) (P Q : Meaning) → ((d v : Data) → P (inside a d) v → Q (inside a d) v) → (rows : List Row) (ds : List Data) → AreEach P a rows ds → AreEach Q a rows ds
each_implies a P Q i [] [] h = tt
each_implies a P Q i (r ∷ rs) (d ∷ ds) h = (i (record_of r) d h.0, each_implies a P Q i rs ds h.1)
each_implies a P Q i [] (d ∷ ds) h = absurd h
each_implies a P Q i (r ∷ rs) [] h = absurd h

-- ---- numbers

same_number : (k : ℕ) → nat_eq k k ≡ true
same_number k = eq-eqb k k refl

if_false : {A : Type 0} (b : Bool) (x y : A) → b ≡ false → (if b then x else y) ≡ y
if_false true x y e = absurd cc
if_false false x y e = refl

one_longer : (ds : List Term) (x : Term) → suc (length ds) ≡ length (ds ++ x ∷ [])
one_longer ds x = let e = length-append ds (x ∷ []) in omega (arith, e)

module _ (k : ℕ) (vs : List Data) where
  -- a constant gives way to its value
  constant_part : (x : Term) (n : ℕ) → is_constant k x ≡ true → condition_settled k vs x n ≡ (as_value (constant_at vs n), suc n)
  constant_part (of h cs) n e = if_true (is_constant k (of h cs)) (as_value (constant_at vs n), suc n) (by_head h cs n (conditions_settled k vs cs n)) e

  -- and what isn't one goes by its head
  other_part : (h : Top) (cs : Terms) (n : ℕ) → is_constant k (of h cs) ≡ false → condition_settled k vs (of h cs) n ≡ by_head h cs n (conditions_settled k vs cs n)
  other_part h cs n e = if_false (is_constant k (of h cs)) (as_value (constant_at vs n), suc n) (by_head h cs n (conditions_settled k vs cs n)) e

  row_is_none : is_constant k (of (top.row k) nil) ≡ false
  row_is_none = ap (λ b. not b && true) (same_number k)

  column_is_none : (name : List ℕ) → is_constant k (of (top.dot name) (cons (of (top.row k) nil) nil)) ≡ false
  column_is_none name = ap (λ b. b && true) row_is_none

  -- a column stays
  pub column_part : (t : TableShape) (x : Term) (i n : ℕ) → plain_column t k x ≡ Some i → condition_settled k vs x n ≡ (x, n)
  column_part t x i n e =
      let c = plain_is t k x i e in
      let Kept : Term → Type 0 = λ y. condition_settled k vs y n ≡ (y, n) in
      subst Kept (sym c.is) (other_part (top.dot c.name) (cons (of (top.row k) nil) nil) n (column_is_none c.name))

-- parts of one type that is a scalar's, and a Boolean answer
abbrev IsPlainCall : Fun → Type 0
IsPlainCall f = (s : Scalar) × ((n i : ℕ) → takes_at (row_of f) n i ≡ takes.Scalar s) × ((row_of f).answer ≡ answer.Scalar Boolean)

-- what joins conditions, negates one, or compares a column
abbrev pub Joins : Top → Type 0
Joins (top.form form.All) = Unit {0}
Joins (top.form form.Any) = Unit {0}
Joins (top.call f) = IsPlainCall f
Joins h = ⊥

joins_under : (h : Top) (cs : Terms) (n : ℕ) (p : Terms × ℕ) → Joins h → by_head h cs n p ≡ under_head h p
joins_under (top.form form.All) cs n p j = refl
joins_under (top.form form.Any) cs n p j = refl
joins_under (top.call f) cs n p j = refl
joins_under h cs n p j = absurd j

pub condition_at : (n i : ℕ) → takes_at (form_row form.All) n i ≡ takes.Scalar Boolean
condition_at n i = same_inner (nat_eq i 0) (nat_eq i 1) (nat_eq (i % 2) 0) (takes.Scalar Boolean)

plain_two : (f : Fun) (s : Scalar) → row_of f ≡ two s s Boolean → IsPlainCall f
plain_two f s e = (s, (λ n i. subst (λ (x : FunRow). takes_at x n i ≡ takes.Scalar s) (sym e) (two_at s n i)), ap (λ (x : FunRow). x.answer) e)

plain_not : IsPlainCall fun.Not
plain_not = (Boolean, condition_at, refl)

abbrev OfComparison : Fun → Option (Cmp × Scalar) → Type 0
OfComparison f None = Unit {0}
OfComparison f (Some p) = row_of f ≡ two p.1 p.1 Boolean

compares_so : (f : Fun) → OfComparison f (comparison_by f)
compares_so fun.EqualNumbers = refl
compares_so fun.EqualTexts = refl
compares_so fun.EqualBooleans = refl
compares_so fun.EqualDates = refl
compares_so fun.UnequalNumbers = refl
compares_so fun.UnequalTexts = refl
compares_so fun.UnequalBooleans = refl
compares_so fun.UnequalDates = refl
compares_so fun.LessNumbers = refl
compares_so fun.LessDates = refl
compares_so fun.LessEqualNumbers = refl
compares_so fun.LessEqualDates = refl
compares_so fun.GreaterNumbers = refl
compares_so fun.GreaterDates = refl
compares_so fun.GreaterEqualNumbers = refl
compares_so fun.GreaterEqualDates = refl
compares_so f = tt

-- what holds between a condition and the settled one, by what holds of constants, of columns and of what joins
module _ (k : ℕ) (vs : List Data) (Kept : List Term → Term → Term → Type 0) where
  abbrev pub AllKept : List Term → Terms → Terms → Type 0
  AllKept es nil nil = Unit {0}
  AllKept es (cons x xs) (cons y ys) = Kept es x y × AllKept es xs ys
  AllKept es xs ys = ⊥

  pub record IsKeeping : Type 0 where
    pub constants : (es : List Term) (x : Term) (i : ℕ) → is_constant k x ≡ true → slice_get es i ≡ Some x → Kept es x (as_value (constant_at vs i))
    pub stays : (es : List Term) (x : Term) → Kept es x x
    pub joins : (es : List Term) (h : Top) (cs xs : Terms) → Joins h → AllKept es cs xs → Kept es (of h cs) (of h xs)

  abbrev pub Grows : List Term → List Term → Type 0
  Grows ds es = (i : ℕ) (c : Term) → slice_get ds i ≡ Some c → slice_get es i ≡ Some c

  -- a condition whose constants stand from the end of ds to that of es
  pub record Settles (x : Term) (ds es : List Term) : Type 0 where
    pub grows : Grows ds es
    pub next : (condition_settled k vs x (length ds)).1 ≡ length es
    pub kept : (fs : List Term) → Grows es fs → Kept fs x ((condition_settled k vs x (length ds)).0)

  pub record AllSettle (xs : Terms) (ds es : List Term) : Type 0 where
    pub grows : Grows ds es
    pub next : (conditions_settled k vs xs (length ds)).1 ≡ length es
    pub kept : (fs : List Term) → Grows es fs → AllKept fs xs ((conditions_settled k vs xs (length ds)).0)

  module _ (keeps : IsKeeping) where
    constant_settles : (x : Term) (ds es : List Term) → is_constant k x ≡ true → ds ++ x ∷ [] ≡ es → Settles x ds es
    constant_settles x ds es c e =
        let n = length ds in
        let is = constant_part k vs x n c in
        subst (λ (zs : List Term). Settles x ds zs) e (record {
          grows = λ i z q. got_more ds (x ∷ []) i z q;
          next = ap (λ (p : Term × ℕ). p.1) is ∙ one_longer ds x;
          kept = λ fs g. subst (λ (p : Term × ℕ). Kept fs x (p.0)) (sym is) (keeps.constants fs x n c (g n x (got_last ds x)));
        })

    stays_so : (x : Term) (ds : List Term) → condition_settled k vs x (length ds) ≡ (x, length ds) → Settles x ds ds
    stays_so x ds is = record {
      grows = λ i z q. q;
      next = ap (λ (p : Term × ℕ). p.1) is;
      kept = λ fs g. subst (λ (p : Term × ℕ). Kept fs x (p.0)) (sym is) (keeps.stays fs x);
    }

    pub column_settles : (t : TableShape) (x : Term) (i : ℕ) (ds : List Term) → plain_column t k x ≡ Some i → Settles x ds ds
    column_settles t x i ds e = stays_so x ds (column_part k vs t x i (length ds) e)

    pub nil_settles : (ds : List Term) → AllSettle nil ds ds
    nil_settles ds = record { grows = λ i z q. q; next = refl; kept = λ fs g. tt }

    pub cons_settles : (x : Term) (xs : Terms) (ds es fs : List Term) → Settles x ds es → AllSettle xs es fs → AllSettle (cons x xs) ds fs
    cons_settles x xs ds es fs one rest = record {
      grows = λ i z q. rest.grows i z (one.grows i z q);
      next = ap (λ (n : ℕ). (conditions_settled k vs xs n).1) one.next ∙ rest.next;
      kept = λ gs g. (
        one.kept gs (λ i c q. g i c (rest.grows i c q)),
        subst (λ (n : ℕ). AllKept gs xs ((conditions_settled k vs xs n).0)) (sym one.next) (rest.kept gs g),
      );
    }

    two_settle : (x y : Term) (ds es fs : List Term) → Settles x ds es → Settles y es fs → AllSettle (cons x (cons y nil)) ds fs
    two_settle x y ds es fs p q = cons_settles x (cons y nil) ds es fs p (cons_settles y nil es fs fs q (nil_settles fs))

    join_settles : (h : Top) (cs : Terms) (ds es : List Term) → Joins h → is_constant k (of h cs) ≡ false → AllSettle cs ds es → Settles (of h cs) ds es
    join_settles h cs ds es j e parts =
        let is = other_part k vs h cs (length ds) e ∙ joins_under h cs (length ds) (conditions_settled k vs cs (length ds)) j in
        record {
          grows = parts.grows;
          next = ap (λ (p : Term × ℕ). p.1) is ∙ parts.next;
          kept = λ fs g. subst (λ (p : Term × ℕ). Kept fs (of h cs) (p.0)) (sym is)
              (keeps.joins fs h cs ((conditions_settled k vs cs (length ds)).0) j (parts.kept fs g));
        }

    -- ---- patterns

    beside_is : (t : TableShape) (s : Scalar) (x y : Term) (i : ℕ) → beside t k s x y ≡ Some i → (is_constant k y ≡ true) × (plain_column t k x ≡ Some i)
    beside_is t s x y i e = by (is_constant k y) refl e
      where
        by : (b : Bool) → is_constant k y ≡ b → (if b then column_of t k s x else None) ≡ Some i → (is_constant k y ≡ true) × (plain_column t k x ≡ Some i)
        by true q z = (q, (column_typed t k s x i z).0)
        by false q z = absurd cc

    -- a column before a constant, and behind one
    ahead_settles : (t : TableShape) (s : Scalar) (f : ℕ → ℕ → Outline) (x y : Term) (ds : List Term) (o : Outline) (es : List Term) →
        option_map (λ (i : ℕ). with_constant (f i) y ds) (beside t k s x y) ≡ Some (o, es) → AllSettle (cons x (cons y nil)) ds es
    ahead_settles t s f x y ds o es e =
        let m = some_map (λ (i : ℕ). with_constant (f i) y ds) (beside t k s x y) (o, es) e in
        let q = beside_is t s x y m.0 m.1 in
        two_settle x y ds ds es (column_settles t x m.0 ds q.1) (constant_settles y ds es q.0 (ap (λ (p : Outline × List Term). p.1) m.2))

    behind_settles : (t : TableShape) (s : Scalar) (f : ℕ → ℕ → Outline) (x y : Term) (ds : List Term) (o : Outline) (es : List Term) →
        option_map (λ (i : ℕ). with_constant (f i) x ds) (beside t k s y x) ≡ Some (o, es) → AllSettle (cons x (cons y nil)) ds es
    behind_settles t s f x y ds o es e =
        let m = some_map (λ (i : ℕ). with_constant (f i) x ds) (beside t k s y x) (o, es) e in
        let q = beside_is t s y x m.0 m.1 in
        two_settle x y ds es es (constant_settles x ds es q.0 (ap (λ (p : Outline × List Term). p.1) m.2)) (column_settles t y m.0 es q.1)

    compared_settles : (t : TableShape) (f : Fun) (p : Option (Cmp × Scalar)) (x y : Term) (ds : List Term) (o : Outline) (es : List Term) → OfComparison f p →
        is_constant k (of (top.call f) (cons x (cons y nil))) ≡ false → comparison_pattern t k p x y ds ≡ Some (o, es) → Settles (of (top.call f) (cons x (cons y nil))) ds es
    compared_settles t f None x y ds o es g c e = absurd cc
    compared_settles t f (Some p) x y ds o es g c e = by (is_constant k y) e
      where
        by : (b : Bool) → (if b then compared_with t k p.0 p.1 x y ds else compared_with t k (flipped p.0) p.1 y x ds) ≡ Some (o, es) → Settles (of (top.call f) (cons x (cons y nil))) ds es
        by true q = join_settles (top.call f) (cons x (cons y nil)) ds es (plain_two f p.1 g) c (ahead_settles t p.1 (compares p.0) x y ds o es q)
        by false q = join_settles (top.call f) (cons x (cons y nil)) ds es (plain_two f p.1 g) c (behind_settles t p.1 (compares (flipped p.0)) x y ds o es q)

    pair_settles : (t : TableShape) (f : Fun) (x y : Term) (ds : List Term) (o : Outline) (es : List Term) → is_constant k (of (top.call f) (cons x (cons y nil))) ≡ false →
        called_with_two t k f x y ds ≡ Some (o, es) → Settles (of (top.call f) (cons x (cons y nil))) ds es
    pair_settles t fun.StartsWith x y ds o es c e =
        join_settles (top.call fun.StartsWith) (cons x (cons y nil)) ds es (plain_two fun.StartsWith Text refl) c (ahead_settles t Text starts x y ds o es e)
    pair_settles t fun.In x y ds o es c e = join_settles (top.call fun.In) (cons x (cons y nil)) ds es (plain_two fun.In Text refl) c (behind_settles t Text contains x y ds o es e)
    pair_settles t f x y ds o es c e = compared_settles t f (comparison_by f) x y ds o es (compares_so f) c e

    -- columns alone
    bare_same : (g : ℕ → Outline) (c : Option ℕ) (ds : List Term) (o : Outline) (es : List Term) → along ds (option_map g c) ≡ Some (o, es) → (i : ℕ) × (c ≡ Some i) × (ds ≡ es)
    bare_same g c ds o es e =
        let Beside : Outline → Outline × List Term = λ p. (p, ds) in
        let m = some_map Beside (option_map g c) (o, es) e in
        let n = some_map g c m.0 m.1 in
        (n.0, n.1, ap (λ (p : Outline × List Term). p.1) m.2)

    blank_settles : (t : TableShape) (x : Term) (i : ℕ) (ds : List Term) → plain_column t k x ≡ Some i → is_constant k (of (top.call fun.IsBlank) (cons x nil)) ≡ false →
        Settles (of (top.call fun.IsBlank) (cons x nil)) ds ds
    blank_settles t x i ds e c =
        stays_so (of (top.call fun.IsBlank) (cons x nil)) ds
        (other_part k vs (top.call fun.IsBlank) (cons x nil) (length ds) c
        ∙ ap (λ (p : Term × ℕ). under_head (top.call fun.IsBlank) (in_front p.0 (nil, p.1))) (column_part k vs t x i (length ds) e))

    single_settles : (t : TableShape) (f : Fun) (x : Term) (ds : List Term) (o : Outline) (es : List Term) → is_constant k (of (top.call f) (cons x nil)) ≡ false →
        called_with_one t k f x ds ≡ Some (o, es) → Settles (of (top.call f) (cons x nil)) ds es
    single_settles t fun.IsBlank x ds o es c e =
        let m = bare_same is_blank (plain_column t k x) ds o es e in
        subst (λ (zs : List Term). Settles (of (top.call fun.IsBlank) (cons x nil)) ds zs) m.2 (blank_settles t x m.0 ds m.1 c)
    single_settles t f x ds o es c e = absurd cc

    call_settles : (t : TableShape) (f : Fun) (cs : Terms) (ds : List Term) (o : Outline) (es : List Term) → is_constant k (of (top.call f) cs) ≡ false → call_pattern t k f cs ds ≡ Some (o, es) →
        Settles (of (top.call f) cs) ds es
    call_settles t f nil ds o es c e = absurd cc
    call_settles t f (cons x nil) ds o es c e = single_settles t f x ds o es c e
    call_settles t f (cons x (cons y nil)) ds o es c e = pair_settles t f x y ds o es c e
    call_settles t f (cons x (cons y (cons z zs))) ds o es c e = absurd cc

    flag_settles : (t : TableShape) (x : Term) (ds : List Term) (o : Outline) (es : List Term) → along ds (option_map flag (column_of t k Boolean x)) ≡ Some (o, es) → Settles x ds es
    flag_settles t x ds o es e =
        let m = bare_same flag (column_of t k Boolean x) ds o es e in
        subst (λ (zs : List Term). Settles x ds zs) m.2 (column_settles t x m.0 ds (column_typed t k Boolean x m.0 m.1).0)

    mutual
      pub pattern_settles : (t : TableShape) (x : Term) (ds : List Term) (o : Outline) (es : List Term) → pattern_of t k x ds ≡ Some (o, es) → Settles x ds es
      pattern_settles t (of h cs) ds o es e = by (is_constant k (of h cs)) refl (λ os fs q. patterns_settle t cs ds os fs q) e
        where
          Go : Type 0
          Go = (os : List Outline) (fs : List Term) → patterns_of t k cs ds ≡ Some (os, fs) → AllSettle cs ds fs

          heads : (g : Top) → is_constant k (of g cs) ≡ false → Go → pattern_by t k g cs ds (patterns_of t k cs ds) ≡ Some (o, es) → Settles (of g cs) ds es
          heads (top.form form.All) c go q =
              let m = some_map (joined all_of) (patterns_of t k cs ds) (o, es) q in
              join_settles (top.form form.All) cs ds es tt c (subst (λ (zs : List Term). AllSettle cs ds zs) (ap (λ (p : Outline × List Term). p.1) m.2) (go m.0.0 m.0.1 m.1))
          heads (top.form form.Any) c go q =
              let m = some_map (joined any_of) (patterns_of t k cs ds) (o, es) q in
              join_settles (top.form form.Any) cs ds es tt c (subst (λ (zs : List Term). AllSettle cs ds zs) (ap (λ (p : Outline × List Term). p.1) m.2) (go m.0.0 m.0.1 m.1))
          heads (top.call fun.Not) c go q =
              let m = some_then negated (patterns_of t k cs ds) (o, es) q in
              join_settles (top.call fun.Not) cs ds es plain_not c (subst (λ (zs : List Term). AllSettle cs ds zs) (negated_same m.0 o es m.2) (go m.0.0 m.0.1 m.1))
          heads (top.call f) c go q = call_settles t f cs ds o es c q
          heads (top.dot n) c go q = flag_settles t (of (top.dot n) cs) ds o es q
          heads g c go q = absurd cc

          by : (b : Bool) → is_constant k (of h cs) ≡ b → Go → (if b then Some (with_constant constant (of h cs) ds) else pattern_by t k h cs ds (patterns_of t k cs ds)) ≡ Some (o, es) → Settles (of h cs) ds es
          by true c go q = constant_settles (of h cs) ds es c (ap (λ (p : Outline × List Term). p.1) (same_Some (with_constant constant (of h cs) ds) (o, es) q))
          by false c go q = heads h c go q

      pub patterns_settle : (t : TableShape) (xs : Terms) (ds : List Term) (os : List Outline) (es : List Term) → patterns_of t k xs ds ≡ Some (os, es) → AllSettle xs ds es
      patterns_settle t nil ds os es e =
          subst (λ (zs : List Term). AllSettle nil ds zs) (ap (λ (p : List Outline × List Term). p.1) (same_Some ([], ds) (os, es) e)) (nil_settles ds)
      patterns_settle t (cons x xs) ds os es e =
          let m = some_then (λ (p : Outline × List Term). option_map (put_in_front p.0) (patterns_of t k xs p.1)) (pattern_of t k x ds) (os, es) e in
          let n = some_map (put_in_front m.0.0) (patterns_of t k xs m.0.1) (os, es) m.2 in
          subst (λ (zs : List Term). AllSettle (cons x xs) ds zs) (ap (λ (p : List Outline × List Term). p.1) n.2)
          (cons_settles x xs ds m.0.1 n.0.1 (pattern_settles t x ds m.0.0 m.0.1 m.1) (patterns_settle t xs m.0.1 n.0.0 n.0.1 n.1))

-- ---- values

module _ (a : Around) (place : Data) (vs : List Data) where
  abbrev k : ℕ
  k = length a.rows

  -- the constants have these values, by their places
  abbrev Worth : List Term → Type 0
  Worth es = (i : ℕ) (c : Term) → slice_get es i ≡ Some c → IsValue (inside a place) c (constant_at vs i)

  -- what the settled condition is worth for a row, the condition is
  abbrev Kept : List Term → Term → Term → Type 0
  Kept es x y = Worth es → (d v : Data) → meaning y (inside a d) v → meaning x (inside a d) v

  parts_imply : (es : List Term) (cs xs : Terms) → AllKept k vs Kept es cs xs → Worth es → (d : Data) → Implies (inside a d) (meanings xs) (meanings cs)
  parts_imply es nil nil p w d = tt
  parts_imply es (cons c cs) (cons x xs) p w d = (p.0 w d, parts_imply es cs xs p.1 w d)
  parts_imply es nil (cons x xs) p w d = absurd p
  parts_imply es (cons c cs) nil p w d = absurd p

  joins_worth : (es : List Term) (h : Top) (cs xs : Terms) → Joins h → AllKept k vs Kept es cs xs → Kept es (of h cs) (of h xs)
  joins_worth es (top.form form.All) cs xs j p w d v m = all_imply (inside a d) (meanings xs) (meanings cs) (parts_imply es cs xs p w d) v m
  joins_worth es (top.form form.Any) cs xs j p w d v m = any_imply (inside a d) (meanings xs) (meanings cs) (parts_imply es cs xs p w d) v m
  joins_worth es (top.call f) cs xs j p w d v m = called_imply (inside a d) f (meanings xs) (meanings cs) (parts_imply es cs xs p w d) v m
  joins_worth es h cs xs j p w d v m = absurd j

  keeps : IsKeeping k vs Kept
  keeps = record {
    constants = λ es x i c at w d v m. subst (meaning x (inside a d)) (sym m) (constant_stays a place d x (constant_at vs i) c (w i x at));
    stays = λ es x w d v m. m;
    joins = joins_worth;
  }

  record QuerySettles (q : Term) (es : List Term) : Type 0 where
    next : (query_settled k vs q).1 ≡ length es
    worth : Worth es → (v : Data) → IsValue a ((query_settled k vs q).0) v → IsValue a q v

  -- a call over a settled query expression, with settled parts
  over_settles : (f : Fun) (q : Term) (cs : Terms) (ds es : List Term) → QuerySettles q ds → AllSettle k vs Kept cs ds es →
      ((Ps : List Meaning) (rows : List Row) (v : Data) → ((d : Data) → Implies (inside a d) Ps (meanings cs)) → IsMade f rows Ps a v → IsMade f rows (meanings cs) a v) →
      QuerySettles (of (top.over f) (cons q cs)) es
  over_settles f q cs ds es table parts made = record {
    next = ap (λ (n : ℕ). (conditions_settled k vs cs n).1) table.next ∙ parts.next;
    worth = λ w v h.
        let xs = (conditions_settled k vs cs ((query_settled k vs q).1)).0 in
        let kept : AllKept k vs Kept es cs xs = subst (λ (m : ℕ). AllKept k vs Kept es cs ((conditions_settled k vs cs m).0)) (sym table.next) (parts.kept es (λ i c q. q)) in (
          h.0,
          table.worth (λ i c z. w i c (parts.grows i c z)) h.0 h.1,
          error_or h.0 (IsMade f (rows_in h.0) (meanings xs) a v) (IsMade f (rows_in h.0) (meanings cs) a v) v
              (made (meanings xs) (rows_in h.0) v (parts_imply es cs xs kept w)) h.2,
        );
  }

  filter_made : (cs : Terms) (Ps : List Meaning) (rows : List Row) (v : Data) → ((d : Data) → Implies (inside a d) Ps (meanings cs)) → IsMade fun.Filter rows Ps a v → IsMade fun.Filter rows (meanings cs) a v
  filter_made cs Ps rows v i h =
      (h.0, each_implies a (IsConjunction Ps) (IsConjunction (meanings cs)) (λ d w m. (m.0, values_imply (inside a d) Ps (meanings cs) (i d) m.0 m.1, m.2)) rows h.0 h.1, h.2)

  sort_made : (o : SortOrder) (x : Term) (Ps : List Meaning) (rows : List Row) (v : Data) → ((d : Data) → Implies (inside a d) Ps (meaning x ∷ [])) → IsMade (fun.Sort o) rows Ps a v →
      IsMade (fun.Sort o) rows (meaning x ∷ []) a v
  sort_made o x [] rows v i h = absurd h
  sort_made o x (P ∷ []) rows v i h = (h.0, each_implies a P (meaning x) (λ d. (i d).0) rows h.0 h.1, h.2)
  sort_made o x (P ∷ Q ∷ Ps) rows v i h = absurd h

  filtered_settles : (ts : List TableShape) (q : Term) (cs : Terms) (s z : Sketch) → QuerySettles q s.constants → filter_sketch ts k cs s ≡ Some z → QuerySettles (of (top.over fun.Filter) (cons q cs)) z.constants
  filtered_settles ts q cs s z table e =
      let With : List Outline × List Term → Sketch = λ p. record s { test = all_of (outline_list p.0); constants = p.1 } in
      let m = some_then (λ (t : TableShape). option_map With (patterns_behind (s.test ∷ []) (patterns_of t k cs s.constants))) (slice_get ts s.table) z e in
      let p = some_map With (patterns_behind (s.test ∷ []) (patterns_of m.0 k cs s.constants)) z m.2 in
      let b = some_map (λ (x : List Outline × List Term). (s.test ∷ [] ++ x.0, x.1)) (patterns_of m.0 k cs s.constants) p.0 p.1 in
      let same : b.0.1 ≡ z.constants = ap (λ (x : List Outline × List Term). x.1) b.2 ∙ ap (λ (x : Sketch). x.constants) p.2 in
      subst (QuerySettles (of (top.over fun.Filter) (cons q cs))) same
      (over_settles fun.Filter q cs s.constants b.0.1 table (patterns_settle k vs Kept keeps m.0 cs s.constants b.0.0 b.0.1 b.1) (filter_made cs))

  sorted_settles : (ts : List TableShape) (o : SortOrder) (q : Term) (cs : Terms) (s z : Sketch) → QuerySettles q s.constants → sorted ts k o cs s ≡ Some z →
      QuerySettles (of (top.over (fun.Sort o)) (cons q cs)) z.constants
  sorted_settles ts o q nil s z table e = absurd cc
  sorted_settles ts o q (cons f (cons g gs)) s z table e = absurd cc
  sorted_settles ts o q (cons f nil) s z table e = by (is_some s.order) e
    where
      With : ℕ → Sketch
      With i = record s { order = Some (i, is_falling o) }

      by : (b : Bool) → (if b then None else sorted_by ts k o f s) ≡ Some z → QuerySettles (of (top.over (fun.Sort o)) (cons q (cons f nil))) z.constants
      by true r = absurd cc
      by false r =
          let m = some_then (λ (t : TableShape). option_map With (plain_column t k f)) (slice_get ts s.table) z r in
          let p = some_map With (plain_column m.0 k f) z m.2 in
          let same : s.constants ≡ z.constants = ap (λ (x : Sketch). x.constants) p.2 in
          subst (QuerySettles (of (top.over (fun.Sort o)) (cons q (cons f nil)))) same
          (over_settles (fun.Sort o) q (cons f nil) s.constants s.constants table
          (cons_settles k vs Kept keeps f nil s.constants s.constants s.constants (column_settles k vs Kept keeps m.0 f p.0 s.constants p.1) (nil_settles k vs Kept keeps s.constants)) (sort_made o f))

  query_settles : (ts : List TableShape) (q : Term) (s : Sketch) → sketch_of ts k q ≡ Some s → QuerySettles q s.constants
  query_settles ts (of (top.read (source.Table t)) nil) s e =
      let m = some_map (λ (u : TableShape). record { table = t; test = always; order = None; constants = [] }) (slice_get ts t) s e in
      let same : [] ≡ s.constants = ap (λ (x : Sketch). x.constants) m.2 in
      subst (QuerySettles (of (top.read (source.Table t)) nil)) same (record { next = refl; worth = λ w v h. h })
  query_settles ts (of (top.over fun.Filter) (cons q cs)) s e =
      let m = some_then (filter_sketch ts k cs) (sketch_of ts k q) s e in
      filtered_settles ts q cs m.0 s (query_settles ts q m.0 m.1) m.2
  query_settles ts (of (top.over (fun.Sort o)) (cons q cs)) s e =
      let m = some_then (sorted ts k o cs) (sketch_of ts k q) s e in
      sorted_settles ts o q cs m.0 s (query_settles ts q m.0 m.1) m.2
  query_settles ts q s e = absurd cc

  -- `LookUp`, whose condition is one more filter's
  looked_up : (x y : Term) (cs : Terms) (rows : List Row) (v : Data) → ((d w : Data) → meaning y (inside a d) w → meaning x (inside a d) w) → IsMade fun.LookUp rows (meanings (cons y cs)) a v →
      IsMade fun.LookUp rows (meanings (cons x cs)) a v
  looked_up x y nil rows v i h = (h.0, each_implies a (meaning y) (meaning x) i rows h.0 h.1, h.2)
  looked_up x y (cons f nil) rows v i h = (h.0, each_implies a (meaning y) (meaning x) i rows h.0 h.1, h.2)
  looked_up x y (cons f (cons g gs)) rows v i h = absurd h

  search_settles : (ts : List TableShape) (q x : Term) (cs : Terms) (s z : Sketch) → QuerySettles q s.constants → filter_sketch ts k (cons x nil) s ≡ Some z → Worth z.constants → (v : Data) →
      IsValue a (search_settled k vs (of (top.over fun.LookUp) (cons q (cons x cs)))) v → IsValue a (of (top.over fun.LookUp) (cons q (cons x cs))) v
  search_settles ts q x cs s z table e w v h =
      let With : List Outline × List Term → Sketch = λ p. record s { test = all_of (outline_list p.0); constants = p.1 } in
      let m = some_then (λ (t : TableShape). option_map With (patterns_behind (s.test ∷ []) (patterns_of t k (cons x nil) s.constants))) (slice_get ts s.table) z e in
      let p = some_map With (patterns_behind (s.test ∷ []) (patterns_of m.0 k (cons x nil) s.constants)) z m.2 in
      let b = some_map (put_in_front s.test) (patterns_of m.0 k (cons x nil) s.constants) p.0 p.1 in
      let same : b.0.1 ≡ z.constants = ap (λ (y : List Outline × List Term). y.1) b.2 ∙ ap (λ (y : Sketch). y.constants) p.2 in
      let parts = patterns_settle k vs Kept keeps m.0 (cons x nil) s.constants b.0.0 b.0.1 b.1 in
      let own : Worth b.0.1 = subst Worth (sym same) w in
      let n = (query_settled k vs q).1 in
      let kept : AllKept k vs Kept b.0.1 (cons x nil) ((conditions_settled k vs (cons x nil) n).0) =
      subst (λ (i : ℕ). AllKept k vs Kept b.0.1 (cons x nil) ((conditions_settled k vs (cons x nil) i).0)) (sym table.next) (parts.kept b.0.1 (λ i c g. g)) in
      let y = (condition_settled k vs x n).0 in (
        h.0,
        table.worth (λ i c g. own i c (parts.grows i c g)) h.0 h.1,
        error_or h.0 (IsMade fun.LookUp (rows_in h.0) (meanings (cons y cs)) a v) (IsMade fun.LookUp (rows_in h.0) (meanings (cons x cs)) a v) v
            (looked_up x y cs (rows_in h.0) v (kept.0 own)) h.2,
      )

pub settled_worth : SettledAreWorth
settled_worth a ts q s ds v e values h =
    (query_settles (setting_around a) values.0 ds ts q s e).worth (values_worth (inside (setting_around a) values.0) s.constants ds values.1) v h

pub searches_worth : SearchesAreWorth
searches_worth a ts q c cs s ds v e values h =
    let m = some_then (filter_sketch ts (length a.rows) (cons c nil)) (sketch_of ts (length a.rows) q) s e in
    search_settles (setting_around a) values.0 ds ts q c cs m.0 s (query_settles (setting_around a) values.0 ds ts q m.0 m.1) m.2 (values_worth (inside (setting_around a) values.0) s.constants ds values.1) v h
