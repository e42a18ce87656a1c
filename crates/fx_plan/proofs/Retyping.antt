-- A settled query expression has the types of the query expression.
use Rattle.std.proofs.Common.{◌≡◌, ℕ, suc, List, [], ◌∷◌, ◌++◌, length, Bool, true, false, Some, None, inl, refl, sym, ap, subst, ◌∙◌}
use Rattle.std.specs.Prelude.{Ok, is_some, option_map, slice_get, if◌then◌else◌}
use Rattle.std.proofs.lemmas.Option.{same_Some}
use Rattle.fx_types.specs.Types.{Shape, booleans, tables}
use Rattle.fx_types.specs.Values.{Data}
use Rattle.fx_plan.specs.declared.plans.Sketch.{Sketch}
use Rattle.fx_plan.specs.Outlines.{Outline, always, all_of, outline_list}
use Rattle.fx_plan.specs.QueryExpressions.{patterns_behind, filter_sketch, is_falling, patterns_of, plain_column, sketch_of, sorted, sorted_by}
use Rattle.fx_semantics.specs.Sound.{AreLawfulTypings, IsLawfulType}
use Rattle.fx_core.specs.declared.functions.Form.TheVariants as form
use Rattle.fx_core.specs.declared.functions.Fun.{Fun}
use Rattle.fx_core.specs.declared.functions.Fun.TheVariants as fun
use Rattle.fx_core.specs.declared.literals.SortOrder.{SortOrder}
use Rattle.fx_core.specs.declared.rows.Answer.{Answer}
use Rattle.fx_core.specs.declared.rows.Answer.TheVariants as answer
use Rattle.fx_core.specs.declared.rows.Row.{Row}
use Rattle.fx_core.specs.declared.rows.Scalar.{Scalar}
use Rattle.fx_core.specs.declared.rows.Scalar.TheVariants.{Boolean}
use Rattle.fx_core.specs.declared.rows.Takes.{Takes}
use Rattle.fx_core.specs.declared.rows.Takes.TheVariants as takes
use Rattle.fx_core.specs.declared.schema.TableShape.{TableShape}
use Rattle.fx_core.specs.declared.sources.Source.TheVariants as source
use Rattle.fx_core.specs.Rows.{form_row, row_of, shape_of, takes_at, takes_count}
use Rattle.fx_core.specs.SourceTypes.{columns_of}
use Rattle.fx_core.specs.Term.{Term, Terms, of, nil, cons, Top}
use Rattle.fx_core.specs.Term as top
use Rattle.fx_typing.specs.WellTyped.{AllStand, AreTyped, Context, IsByRow, PartScope, Stands, answered_type, context_for, first_type, inside, typed_pairs, parts_count, plain, row_type, standing_at, standing_of}
use Rattle.fx_plan.proofs.Placing.{condition_behind, query_found, some_map, some_then}
use Rattle.fx_plan.proofs.Placing.{in_front as put_in_front}
use Rattle.fx_plan.specs.Constants.{HasType, ReadsTables, in_row}
use Rattle.fx_plan.proofs.Keeping.{AllKept, IsKeeping, Joins, column_part, condition_at, patterns_settle}
use Rattle.fx_plan.specs.Settled.{AreFitting, SearchesHaveTypes, SettledHaveTypes, condition_settled, conditions_settled, in_front, query_settled, search_settled}
use Rattle.fx_plan.proofs.Placing.{AllOf, as_answer, same_answer}

lawful_of : (c : Context) (x : Term) (u : Shape) → HasType c x u → IsLawfulType u
lawful_of c (of h ts) u l = l.1.0

typed_many : (c : Context) (h : Top) (n : ℕ) (done : List Shape) (cs : Terms) (us : List Shape) → AreTyped c h n done cs us → length us ≡ parts_count cs
typed_many c h n done nil us w = ap length w
typed_many c h n done (cons x xs) us w = ap length w.2 ∙ ap suc (typed_many c h n (done ++ w.0 ∷ []) xs w.1 w.4)

-- ---- parts of one type

abbrev pub copies : Shape → Terms → List Shape
copies u nil = []
copies u (cons x xs) = u ∷ copies u xs

copies_many : (u : Shape) (cs : Terms) → length (copies u cs) ≡ parts_count cs
copies_many u nil = refl
copies_many u (cons x xs) = ap suc (copies_many u xs)

-- parts where the whole stands, at places of this type
parts_of : (c : Context) (h : Top) (r : Row) (s : Scalar) → ((n i : ℕ) → standing_at h n i ≡ plain) → ((n i : ℕ) → takes_at r n i ≡ takes.Scalar s) →
    (n m i : ℕ) (first common : Shape) (cs : Terms) (done us : List Shape) → (w : AreTyped c h n done cs us) → AreLawfulTypings c h n done cs us w →
    AllStand r m i first common us → AllOf c (shape_of s) cs
parts_of c h r s p q n m i first common nil done us w l a = tt
parts_of c h r s p q n m i first common (cons x xs) done us w l a =
    let at : AllStand r m i first common (w.0 ∷ w.1) = subst (AllStand r m i first common) w.2 a in
    let own : w.0 ≡ shape_of s = subst (λ (k : Takes). Stands k first common w.0) (q m i) at.0 in
    let typed : HasType (context_for (standing_at h n (length done)) c done) x w.0 = (w.3, l.0) in (
      subst (HasType c x) own (subst (λ (z : PartScope). HasType (context_for z c done) x w.0) (p n (length done)) typed),
      parts_of c h r s p q n m (suc i) first common xs (done ++ w.0 ∷ []) w.1 w.4 l.1 at.1,
    )

abbrev pub HaveParts : Context → Top → ℕ → List Shape → Terms → List Shape → Type 0
HaveParts c h n done cs us = (w : AreTyped c h n done cs us) × AreLawfulTypings c h n done cs us w

parts_back : (c : Context) (h : Top) (u : Shape) → ((n i : ℕ) → standing_at h n i ≡ plain) → (n : ℕ) (cs : Terms) (done : List Shape) → AllOf c u cs → HaveParts c h n done cs (copies u cs)
parts_back c h u p n nil done a = (refl, tt)
parts_back c h u p n (cons x xs) done a =
    let there : HasType (context_for (standing_at h n (length done)) c done) x u = subst (λ (z : PartScope). HasType (context_for z c done) x u) (sym (p n (length done))) a.0 in
    let rest = parts_back c h u p n xs (done ++ u ∷ []) a.1 in
    ((u, copies u xs, refl, there.0, rest.0), (there.1, rest.1))

copies_stand : (r : Row) (s : Scalar) → ((n i : ℕ) → takes_at r n i ≡ takes.Scalar s) → (m i : ℕ) (first common : Shape) (cs : Terms) → AllStand r m i first common (copies (shape_of s) cs)
copies_stand r s q m i first common nil = tt
copies_stand r s q m i first common (cons x xs) = (subst (λ (k : Takes). Stands k first common (shape_of s)) (sym (q m i)) refl, copies_stand r s q m (suc i) first common xs)

-- a call by a row of parts of one type
by_row_back : (r : Row) (s b : Scalar) → ((n i : ℕ) → takes_at r n i ≡ takes.Scalar s) → r.answer ≡ answer.Scalar b → (cs xs : Terms) (us : List Shape) (t : Shape) →
    length us ≡ parts_count cs → parts_count xs ≡ parts_count cs → IsByRow r cs us t → IsByRow r xs (copies (shape_of s) xs) t
by_row_back r s b q e cs xs us t many same h =
    let vs = copies (shape_of s) xs in
    let count : length us ≡ length vs = many ∙ sym same ∙ sym (copies_many (shape_of s) xs) in
    let told : answered_type (answer.Scalar b) h.1 (typed_pairs cs us) ≡ Ok t = subst (λ (a : Answer). answered_type a h.1 (typed_pairs cs us) ≡ Ok t) e h.3 in (
      subst (λ (n : ℕ). takes_count r n ≡ true) count h.0,
      h.1,
      copies_stand r s q (length vs) 0 (first_type vs) h.1 xs,
      subst (λ (a : Answer). answered_type a h.1 (typed_pairs xs vs) ≡ Ok t) (sym e) told,
    )

form_back : (c : Context) (f : Top) (r : Row) (s b : Scalar) → ((n i : ℕ) → standing_at f n i ≡ plain) → ((n i : ℕ) → takes_at r n i ≡ takes.Scalar s) → r.answer ≡ answer.Scalar b →
    (cs xs : Terms) (us : List Shape) (t : Shape) → parts_count xs ≡ parts_count cs → HaveParts c f (parts_count cs) [] cs us → IsByRow r cs us t →
    (AllOf c (shape_of s) cs → AllOf c (shape_of s) xs) → HaveParts c f (parts_count xs) [] xs (copies (shape_of s) xs) × IsByRow r xs (copies (shape_of s) xs) t
form_back c f r s b p q e cs xs us t same parts rule g =
    let own = parts_of c f r s p q (parts_count cs) (length us) 0 (first_type us) rule.1 cs [] us parts.0 parts.1 rule.2 in (
      parts_back c f (shape_of s) p (parts_count xs) xs [] (g own),
      by_row_back r s b q e cs xs us t (typed_many c f (parts_count cs) [] cs us parts.0) same rule,
    )

-- ---- conditions

module _ (t : TableShape) (c : Context) (vs : List Data) where
  abbrev r : Context
  r = in_row c t

  abbrev pub Kept : List Term → Term → Term → Type 0
  Kept es x y = AreFitting c t es vs → (u : Shape) → HasType r x u → HasType r y u

  kept_many : (es : List Term) (cs xs : Terms) → AllKept (length c.rows) vs Kept es cs xs → parts_count xs ≡ parts_count cs
  kept_many es nil nil p = refl
  kept_many es (cons x cs) (cons y xs) p = ap suc (kept_many es cs xs p.1)
  kept_many es nil (cons y xs) p = absurd p
  kept_many es (cons x cs) nil p = absurd p

  pub kept_all : (es : List Term) (cs xs : Terms) (u : Shape) → AreFitting c t es vs → AllKept (length c.rows) vs Kept es cs xs → AllOf r u cs → AllOf r u xs
  kept_all es nil nil u fit p h = tt
  kept_all es (cons x cs) (cons y xs) u fit p h = (p.0 fit u h.0, kept_all es cs xs u fit p.1 h.1)
  kept_all es nil (cons y xs) u fit p h = absurd p
  kept_all es (cons x cs) nil u fit p h = absurd p

  joins_typed : (es : List Term) (h : Top) (cs xs : Terms) → Joins h → AllKept (length c.rows) vs Kept es cs xs → Kept es (of h cs) (of h xs)
  joins_typed es (top.form form.All) cs xs j p fit u typed =
      let b = form_back r (top.form form.All) (form_row form.All) Boolean Boolean (λ n i. ap standing_of (condition_at n i)) condition_at refl cs xs typed.0.0 u (kept_many es cs xs p)
      (typed.0.1, typed.1.1) typed.0.2 (kept_all es cs xs booleans fit p) in
      ((copies booleans xs, b.0.0, b.1), (typed.1.0, b.0.1))
  joins_typed es (top.form form.Any) cs xs j p fit u typed =
      let b = form_back r (top.form form.Any) (form_row form.Any) Boolean Boolean (λ n i. ap standing_of (condition_at n i)) condition_at refl cs xs typed.0.0 u (kept_many es cs xs p)
      (typed.0.1, typed.1.1) typed.0.2 (kept_all es cs xs booleans fit p) in
      ((copies booleans xs, b.0.0, b.1), (typed.1.0, b.0.1))
  joins_typed es (top.call f) cs xs j p fit u typed =
      let b = form_back r (top.call f) (row_of f) j.0 Boolean (λ n i. ap standing_of (j.1 n i)) j.1 j.2 cs xs typed.0.0 u (kept_many es cs xs p)
      (typed.0.1, typed.1.1) typed.0.2.1 (kept_all es cs xs (shape_of j.0) fit p) in
      ((copies (shape_of j.0) xs, b.0.0, (typed.0.2.0, b.1)), (typed.1.0, b.0.1))
  joins_typed es h cs xs j p fit u typed = absurd j

  pub keeps : IsKeeping (length c.rows) vs Kept
  keeps = record {
    constants = λ es x i con at fit u h. let l = lawful_of r x u h in (([], refl, (fit i x u at h, inl l)), (l, tt));
    stays = λ es x fit u h. h;
    joins = joins_typed;
  }

-- ---- the table of a call

first_answered : (a : Answer) (common u : Shape) (q p : Term) (xs : List (Term × Shape)) → answered_type a common ((q, u) ∷ xs) ≡ answered_type a common ((p, u) ∷ xs)
first_answered (answer.Scalar s) common u q p xs = refl
first_answered answer.Same common u q p xs = refl
first_answered answer.Row common u q p xs = refl
first_answered answer.Found common u q p [] = refl
first_answered answer.Found common u q p (x ∷ []) = refl
first_answered answer.Found common u q p (x ∷ y ∷ xs) = refl
first_answered answer.Common common u q p xs = refl
first_answered answer.Added common (tables cs) q p xs = refl
first_answered answer.Added common u q p xs = refl
first_answered answer.Dropped common (tables cs) q p xs = refl
first_answered answer.Dropped common u q p xs = refl
first_answered answer.Shown common (tables cs) q p xs = refl
first_answered answer.Shown common u q p xs = refl
first_answered answer.Renamed common (tables cs) q p xs = refl
first_answered answer.Renamed common u q p xs = refl
first_answered answer.Grouped common (tables cs) q p xs = refl
first_answered answer.Grouped common u q p xs = refl
first_answered answer.Ungrouped common (tables cs) q p xs = refl
first_answered answer.Ungrouped common u q p xs = refl
first_answered answer.Values common u q p [] = refl
first_answered answer.Values common u q p (x ∷ xs) = refl
first_answered answer.Each common u q p [] = refl
first_answered answer.Each common u q p (x ∷ xs) = refl

-- another tree of its types in the place of the table
pub table_replaced : (c : Context) (f : Fun) (q p : Term) (cs : Terms) (u : Shape) → ((n : ℕ) → standing_at (top.over f) n 0 ≡ plain) → ((w : Shape) → HasType c q w → HasType c p w) →
    HasType c (of (top.over f) (cons q cs)) u → HasType c (of (top.over f) (cons p cs)) u
table_replaced c f q p cs u s g h =
    let n = suc (parts_count cs) in
    let w = h.0.1 in
    let rule = h.0.2.1 in
    let here : HasType c q w.0 = subst (λ (z : PartScope). HasType (context_for z c []) q w.0) (s n) (w.3, h.1.1.0) in
    let there : HasType (context_for (standing_at (top.over f) n 0) c []) p w.0 = subst (λ (z : PartScope). HasType (context_for z c []) p w.0) (sym (s n)) (g w.0 here) in
    let told : answered_type (row_of f).answer rule.1 (typed_pairs (cons q cs) (w.0 ∷ w.1)) ≡ Ok u = subst (λ (us : List Shape). answered_type (row_of f).answer rule.1 (typed_pairs (cons q cs) us) ≡ Ok u) w.2 rule.3 in
    let answer : answered_type (row_of f).answer rule.1 (typed_pairs (cons p cs) h.0.0) ≡ Ok u =
    subst (λ (us : List Shape). answered_type (row_of f).answer rule.1 (typed_pairs (cons p cs) us) ≡ Ok u) (sym w.2)
    (sym (first_answered (row_of f).answer rule.1 w.0 q p (typed_pairs cs w.1)) ∙ told) in
    ((h.0.0, (w.0, w.1, w.2, there.0, w.4), (h.0.2.0, (rule.0, rule.1, rule.2, answer))), (h.1.0, (there.1, h.1.1.1)))

-- so in the places of the table and the condition of `LookUp`
found_answered : (common w b u : Shape) (q p x y : Term) (xs : List (Term × Shape)) → answered_type answer.Found common ((q, w) ∷ (x, b) ∷ xs) ≡ Ok u → answered_type answer.Found common ((p, w) ∷ (y, b) ∷ xs) ≡ Ok u
found_answered common w b u q p x y [] e = e
found_answered common w b u q p x y (z ∷ xs) e = e

search_replaced : (c : Context) (q p x y : Term) (cs : Terms) (u : Shape) → ((w : Shape) → HasType c q w → HasType c p w) →
    ((w : Shape) → HasType c q w → (b : Shape) → HasType (record c { rows = c.rows ++ row_type w ∷ [] }) x b → HasType (record c { rows = c.rows ++ row_type w ∷ [] }) y b) →
    HasType c (of (top.over fun.LookUp) (cons q (cons x cs))) u → HasType c (of (top.over fun.LookUp) (cons p (cons y cs))) u
search_replaced c q p x y cs u f g h =
    let w = h.0.1 in
    let v = w.4 in
    let rule = h.0.2.1 in
    let table : HasType c q w.0 = (w.3, h.1.1.0) in
    let first : HasType c p w.0 = f w.0 table in
    let second : HasType (record c { rows = c.rows ++ row_type w.0 ∷ [] }) y v.0 = g w.0 table v.0 (v.3, h.1.1.1.0) in
    let all : h.0.0 ≡ w.0 ∷ v.0 ∷ v.1 = w.2 ∙ ap (λ (us : List Shape). w.0 ∷ us) v.2 in
    let told : answered_type answer.Found rule.1 (typed_pairs (cons q (cons x cs)) (w.0 ∷ v.0 ∷ v.1)) ≡ Ok u =
    subst (λ (us : List Shape). answered_type answer.Found rule.1 (typed_pairs (cons q (cons x cs)) us) ≡ Ok u) all rule.3 in
    let answer : answered_type answer.Found rule.1 (typed_pairs (cons p (cons y cs)) h.0.0) ≡ Ok u =
    subst (λ (us : List Shape). answered_type answer.Found rule.1 (typed_pairs (cons p (cons y cs)) us) ≡ Ok u) (sym all)
    (found_answered rule.1 w.0 v.0 u q p x y (typed_pairs cs v.1) told) in (
      (h.0.0, (w.0, w.1, w.2, first.0, (v.0, v.1, v.2, second.0, v.4)), (h.0.2.0, (rule.0, rule.1, rule.2, answer))),
      (h.1.0, (first.1, (second.1, h.1.1.1.1))),
    )

-- ---- filters

pub record IsFilter (c : Context) (q : Term) (cs : Terms) (u : Shape) : Type 0 where
  pub first : HasType c q u
  pub types : List Shape
  pub parts : HaveParts c (top.over fun.Filter) (suc (parts_count cs)) (u ∷ []) cs types
  pub common : Shape
  pub stand : AllStand (row_of fun.Filter) (length (u ∷ types)) 1 u common types
  pub count : takes_count (row_of fun.Filter) (suc (length types)) ≡ true

pub filter_parts : (c : Context) (q : Term) (cs : Terms) (u : Shape) → HasType c (of (top.over fun.Filter) (cons q cs)) u → IsFilter c q cs u
filter_parts c q cs u h =
    let n = suc (parts_count cs) in
    let w = h.0.1 in
    let rule = h.0.2.1 in
    let told : answered_type answer.Same rule.1 (typed_pairs (cons q cs) (w.0 ∷ w.1)) ≡ as_answer u = subst (λ (us : List Shape). answered_type answer.Same rule.1 (typed_pairs (cons q cs) us) ≡ as_answer u) w.2 rule.3 in
    let own : w.0 ≡ u = same_answer w.0 u told in
    let here : HasType c q w.0 = (w.3, h.1.1.0) in
    let stand : AllStand (row_of fun.Filter) (length (w.0 ∷ w.1)) 0 w.0 rule.1 (w.0 ∷ w.1) = subst (λ (us : List Shape). AllStand (row_of fun.Filter) (length us) 0 (first_type us) rule.1 us) w.2 rule.2 in
    let Rest : Shape → Type 0 = λ z. HaveParts c (top.over fun.Filter) n (z ∷ []) cs w.1 in
    let rest : Rest w.0 = (w.4, h.1.1.1) in
    record {
      first = subst (HasType c q) own here;
      types = w.1;
      parts = subst Rest own rest;
      common = rule.1;
      stand = subst (λ (z : Shape). AllStand (row_of fun.Filter) (length (z ∷ w.1)) 1 z rule.1 w.1) own stand.1;
      count = subst (λ (us : List Shape). takes_count (row_of fun.Filter) (length us) ≡ true) w.2 rule.0;
    }

-- the conditions stand in the scope of a row
pub conditions_of : (c : Context) (t : TableShape) (n m i : ℕ) (u common : Shape) (cs : Terms) (done us : List Shape) → u ≡ tables (columns_of t) →
    (w : AreTyped c (top.over fun.Filter) n (u ∷ done) cs us) → AreLawfulTypings c (top.over fun.Filter) n (u ∷ done) cs us w → AllStand (row_of fun.Filter) m (suc i) u common us →
    AllOf (in_row c t) booleans cs
conditions_of c t n m i u common nil done us e w l a = tt
conditions_of c t n m i u common (cons x xs) done us e w l a =
    let at : AllStand (row_of fun.Filter) m (suc i) u common (w.0 ∷ w.1) = subst (AllStand (row_of fun.Filter) m (suc i) u common) w.2 a in
    let own : w.0 ≡ booleans = subst (λ (k : Takes). Stands k u common w.0) (condition_behind m i) at.0 in
    let typed : HasType (context_for (standing_at (top.over fun.Filter) n (suc (length done))) c (u ∷ done)) x w.0 = (w.3, l.0) in
    let stands : standing_at (top.over fun.Filter) n (suc (length done)) ≡ inside = ap standing_of (condition_behind n (length done)) in
    let there : HasType (record c { rows = c.rows ++ row_type u ∷ [] }) x w.0 = subst (λ (z : PartScope). HasType (context_for z c (u ∷ done)) x w.0) stands typed in (
      subst (HasType (in_row c t) x) own (subst (λ (z : Shape). HasType (record c { rows = c.rows ++ row_type z ∷ [] }) x w.0) e there),
      conditions_of c t n m (suc i) u common xs (done ++ w.0 ∷ []) w.1 e w.4 l.1 at.1,
    )

pub conditions_back : (c : Context) (t : TableShape) (n : ℕ) (u : Shape) (cs : Terms) (done : List Shape) → u ≡ tables (columns_of t) → AllOf (in_row c t) booleans cs →
    HaveParts c (top.over fun.Filter) n (u ∷ done) cs (copies booleans cs)
conditions_back c t n u nil done e a = (refl, tt)
conditions_back c t n u (cons x xs) done e a =
    let stands : standing_at (top.over fun.Filter) n (suc (length done)) ≡ inside = ap standing_of (condition_behind n (length done)) in
    let here : HasType (record c { rows = c.rows ++ row_type u ∷ [] }) x booleans = subst (λ (z : Shape). HasType (record c { rows = c.rows ++ row_type z ∷ [] }) x booleans) (sym e) a.0 in
    let there : HasType (context_for (standing_at (top.over fun.Filter) n (suc (length done))) c (u ∷ done)) x booleans =
    subst (λ (z : PartScope). HasType (context_for z c (u ∷ done)) x booleans) (sym stands) here in
    let rest = conditions_back c t n u xs (done ++ booleans ∷ []) e a.1 in
    ((booleans, copies booleans xs, refl, there.0, rest.0), (there.1, rest.1))

pub conditions_stand : (m i : ℕ) (u common : Shape) (cs : Terms) → AllStand (row_of fun.Filter) m (suc i) u common (copies booleans cs)
conditions_stand m i u common nil = tt
conditions_stand m i u common (cons x xs) = (subst (λ (k : Takes). Stands k u common booleans) (sym (condition_behind m i)) refl, conditions_stand m (suc i) u common xs)

filter_typed : (c : Context) (t : TableShape) (q p : Term) (cs xs : Terms) (u : Shape) → u ≡ tables (columns_of t) → (HasType c q u → HasType c p u) → parts_count xs ≡ parts_count cs →
    (AllOf (in_row c t) booleans cs → AllOf (in_row c t) booleans xs) → HasType c (of (top.over fun.Filter) (cons q cs)) u → HasType c (of (top.over fun.Filter) (cons p xs)) u
filter_typed c t q p cs xs u e g same k h =
    let f = filter_parts c q cs u h in
    let vs = copies booleans xs in
    let own = conditions_of c t (suc (parts_count cs)) (length (u ∷ f.types)) 0 u f.common cs [] f.types e f.parts.0 f.parts.1 f.stand in
    let rest = conditions_back c t (suc (parts_count xs)) u xs [] e (k own) in
    let table = g f.first in
    let many : length f.types ≡ length vs = typed_many c (top.over fun.Filter) (suc (parts_count cs)) (u ∷ []) cs f.types f.parts.0 ∙ sym same ∙ sym (copies_many booleans xs) in
    let count : takes_count (row_of fun.Filter) (suc (length vs)) ≡ true = subst (λ (n : ℕ). takes_count (row_of fun.Filter) (suc n) ≡ true) many f.count in (
      (u ∷ vs, (u, vs, refl, table.0, rest.0), (h.0.2.0, (count, f.common, ((columns_of t, e), conditions_stand (length (u ∷ vs)) 0 u f.common xs), refl))),
      (h.1.0, (table.1, rest.1)),
    )

-- ---- query expressions

module _ (c : Context) (ts : List TableShape) (vs : List Data) (reads : ReadsTables ts c) where
  abbrev k : ℕ
  k = length c.rows

  -- the values of the constants of a sketch fit
  abbrev Fit : Sketch → Type 0
  Fit s = (t : TableShape) → slice_get ts s.table ≡ Some t → AreFitting c t s.constants vs

  record Retypes (q : Term) (s : Sketch) : Type 0 where
    next : (query_settled k vs q).1 ≡ length s.constants
    typed : Fit s → (u : Shape) → HasType c q u → HasType c ((query_settled k vs q).0) u

  -- the conditions of one more filter: the table, and what is kept of them
  record Behind (q : Term) (cs : Terms) (s : Sketch) (u : Shape) : Type 0 where
    table : TableShape
    type : u ≡ tables (columns_of table)
    inner : Fit s
    constants : List Term
    fit : AreFitting c table constants vs
    kept : AllKept k vs (Kept table c vs) constants cs ((conditions_settled k vs cs ((query_settled k vs q).1)).0)

  filter_behind : (q : Term) (cs : Terms) (s z : Sketch) → Retypes q s → sketch_of ts k q ≡ Some s → filter_sketch ts k cs s ≡ Some z → Fit z → (u : Shape) → HasType c q u → Behind q cs s u
  filter_behind q cs s z table sketched e fit u h =
      let With : List Outline × List Term → Sketch = λ p. record s { test = all_of (outline_list p.0); constants = p.1 } in
      let m = some_then (λ (t : TableShape). option_map With (patterns_behind (s.test ∷ []) (patterns_of t k cs s.constants))) (slice_get ts s.table) z e in
      let p = some_map With (patterns_behind (s.test ∷ []) (patterns_of m.0 k cs s.constants)) z m.2 in
      let b = some_map (put_in_front s.test) (patterns_of m.0 k cs s.constants) p.0 p.1 in
      let same : b.0.1 ≡ z.constants = ap (λ (x : List Outline × List Term). x.1) b.2 ∙ ap (λ (x : Sketch). x.constants) p.2 in
      let at : s.table ≡ z.table = ap (λ (x : Sketch). x.table) p.2 in
      let found = query_found c ts q u s reads h sketched in
      let t = found.table in
      let settled = patterns_settle k vs (Kept t c vs) (keeps t c vs) m.0 cs s.constants b.0.0 b.0.1 b.1 in
      let own : AreFitting c t b.0.1 vs =
      subst (λ (es : List Term). AreFitting c t es vs) (sym same) (fit t (ap (λ (i : ℕ). slice_get ts i) (sym at) ∙ found.is_table)) in
      record {
        table = t;
        type = found.type;
        inner = λ y is i x v g w.
            let one : y ≡ t = same_Some y t (sym is ∙ found.is_table) in
            own i x v (settled.grows i x g) (subst (λ (a : TableShape). HasType (in_row c a) x v) one w);
        constants = b.0.1;
        fit = own;
        kept = subst (λ (i : ℕ). AllKept k vs (Kept t c vs) b.0.1 cs ((conditions_settled k vs cs i).0)) (sym table.next) (settled.kept b.0.1 (λ i x g. g));
      }

  filter_next : (q : Term) (cs : Terms) (s z : Sketch) → Retypes q s → filter_sketch ts k cs s ≡ Some z → (query_settled k vs (of (top.over fun.Filter) (cons q cs))).1 ≡ length z.constants
  filter_next q cs s z table e =
      let With : List Outline × List Term → Sketch = λ p. record s { test = all_of (outline_list p.0); constants = p.1 } in
      let m = some_then (λ (t : TableShape). option_map With (patterns_behind (s.test ∷ []) (patterns_of t k cs s.constants))) (slice_get ts s.table) z e in
      let p = some_map With (patterns_behind (s.test ∷ []) (patterns_of m.0 k cs s.constants)) z m.2 in
      let b = some_map (put_in_front s.test) (patterns_of m.0 k cs s.constants) p.0 p.1 in
      let same : b.0.1 ≡ z.constants = ap (λ (x : List Outline × List Term). x.1) b.2 ∙ ap (λ (x : Sketch). x.constants) p.2 in
      let settled = patterns_settle k vs (Kept m.0 c vs) (keeps m.0 c vs) m.0 cs s.constants b.0.0 b.0.1 b.1 in
      ap (λ (i : ℕ). (conditions_settled k vs cs i).1) table.next ∙ settled.next ∙ ap length same

  filter_retypes : (q : Term) (cs : Terms) (s z : Sketch) → Retypes q s → sketch_of ts k q ≡ Some s → filter_sketch ts k cs s ≡ Some z → Retypes (of (top.over fun.Filter) (cons q cs)) z
  filter_retypes q cs s z table sketched e = record {
    next = filter_next q cs s z table e;
    typed = λ fit u h.
        let first = (filter_parts c q cs u h).first in
        let g = filter_behind q cs s z table sketched e fit u first in
        let xs = (conditions_settled k vs cs ((query_settled k vs q).1)).0 in
        filter_typed c g.table q ((query_settled k vs q).0) cs xs u g.type (table.typed g.inner u) (kept_many g.table c vs g.constants cs xs g.kept)
        (kept_all g.table c vs g.constants cs xs booleans g.fit g.kept) h;
  }

  sort_retypes : (o : SortOrder) (q : Term) (cs : Terms) (s z : Sketch) → Retypes q s → sorted ts k o cs s ≡ Some z → Retypes (of (top.over (fun.Sort o)) (cons q cs)) z
  sort_retypes o q nil s z table e = absurd cc
  sort_retypes o q (cons f (cons g gs)) s z table e = absurd cc
  sort_retypes o q (cons f nil) s z table e = by (is_some s.order) e
    where
      With : ℕ → Sketch
      With i = record s { order = Some (i, is_falling o) }

      by : (b : Bool) → (if b then None else sorted_by ts k o f s) ≡ Some z → Retypes (of (top.over (fun.Sort o)) (cons q (cons f nil))) z
      by true r = absurd cc
      by false r =
          let m = some_then (λ (t : TableShape). option_map With (plain_column t k f)) (slice_get ts s.table) z r in
          let p = some_map With (plain_column m.0 k f) z m.2 in
          let n = (query_settled k vs q).1 in
          let key : conditions_settled k vs (cons f nil) n ≡ (cons f nil, n) = ap (λ (x : Term × ℕ). in_front x.0 (nil, x.1)) (column_part k vs m.0 f p.0 n p.1) in
          subst (Retypes (of (top.over (fun.Sort o)) (cons q (cons f nil)))) p.2 (record {
            next = ap (λ (x : Terms × ℕ). x.1) key ∙ table.next;
            typed = λ fit u h.
                subst (λ (x : Terms × ℕ). HasType c (of (top.over (fun.Sort o)) (cons ((query_settled k vs q).0) (x.0))) u) (sym key)
                (table_replaced c (fun.Sort o) q ((query_settled k vs q).0) (cons f nil) u (λ i. refl) (table.typed fit) h);
          })

  query_retypes : (q : Term) (s : Sketch) → sketch_of ts k q ≡ Some s → Retypes q s
  query_retypes (of (top.read (source.Table t)) nil) s e =
      let m = some_map (λ (u : TableShape). record { table = t; test = always; order = None; constants = [] }) (slice_get ts t) s e in
      subst (Retypes (of (top.read (source.Table t)) nil)) m.2 (record { next = refl; typed = λ fit u h. h })
  query_retypes (of (top.over fun.Filter) (cons q cs)) s e =
      let m = some_then (filter_sketch ts k cs) (sketch_of ts k q) s e in
      filter_retypes q cs m.0 s (query_retypes q m.0 m.1) m.1 m.2
  query_retypes (of (top.over (fun.Sort o)) (cons q cs)) s e =
      let m = some_then (sorted ts k o cs) (sketch_of ts k q) s e in
      sort_retypes o q cs m.0 s (query_retypes q m.0 m.1) m.2
  query_retypes q s e = absurd cc

  search_retypes : (q x : Term) (cs : Terms) (z : Sketch) (u : Shape) → sketch_of ts k (of (top.over fun.Filter) (cons q (cons x nil))) ≡ Some z → Fit z →
      HasType c (of (top.over fun.LookUp) (cons q (cons x cs))) u → HasType c (search_settled k vs (of (top.over fun.LookUp) (cons q (cons x cs)))) u
  search_retypes q x cs z u e fit h =
      let m = some_then (filter_sketch ts k (cons x nil)) (sketch_of ts k q) z e in
      let table = query_retypes q m.0 m.1 in
      search_replaced c q ((query_settled k vs q).0) x ((condition_settled k vs x ((query_settled k vs q).1)).0) cs u
      (λ w t. table.typed (filter_behind q (cons x nil) m.0 z table m.1 m.2 fit w t).inner w t)
      (λ w t b y.
      let g = filter_behind q (cons x nil) m.0 z table m.1 m.2 fit w t in
      let Row : Shape → Term → Type 0 = λ a i. HasType (record c { rows = c.rows ++ row_type a ∷ [] }) i b in
      subst (λ (a : Shape). Row a ((condition_settled k vs x ((query_settled k vs q).1)).0)) (sym g.type)
      (g.kept.0 g.fit b (subst (λ (a : Shape). Row a x) g.type y))) h

pub settled_typed : SettledHaveTypes
settled_typed c ts q u s ds reads h e fit = (query_retypes c ts ds reads q s e).typed fit u h

pub searches_typed : SearchesHaveTypes
searches_typed c ts q x cs u s ds reads h e fit = search_retypes c ts ds reads q x cs s u e fit h
