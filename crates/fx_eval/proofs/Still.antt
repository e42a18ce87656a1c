-- What visits no rows: columns, and conditions with values in the places of their constants. And the constants of a query
-- expression's sketch are those that stand in it.
use Rattle.std.proofs.lemmas.Option.{same_Some}
use Rattle.std.proofs.Common.{◌≡◌, ◌∙◌, ◌≤◌, ℕ, suc, ◌+◌, List, [], ◌∷◌, ◌++◌, length, Bool, true, false, Option, Some, None, ap, refl, sym, subst, arith, if◌then◌else◌}
use Rattle.std.specs.Prelude.{◌&&◌, cond, not, nat_eq, slice_get, option_map, is_some}
use Rattle.std.specs.List.{filter}
use Rattle.std.proofs.lemmas.Bool.{eq-eqb}
use Rattle.fx_types.specs.declared.comparisons.Cmp.{Cmp}
use Rattle.fx_types.specs.Values.{Data, blank, fault, number, text, boolean, date, rec, tab}
use Rattle.fx_eval.specs.Courses.{Going, Turning, answers, chooses, catches, goes, passes, coalesces, turned_by}
use Rattle.fx_eval.specs.Visits.{AllVisit, AskedTables, Both, ConditionsVisit, ConstantsVisit, EachVisits, FormVisits, HeadVisits, InCondition, InQuery, IsUnasked, OnceOr, VisitPart, PartVisits, PartsVisit, RowsVisit, TreeVisits, TurnVisits, UnlessError, Visiting, Visits, VisitsBy, VisitsByHead, form_begun, lies_in, visit_part, parts, search_of}
use Rattle.fx_plan.specs.declared.plans.Sketch.{Sketch}
use Rattle.fx_plan.specs.Outlines.{Outline, always, flag, constant, compares, is_blank, starts, contains, all_of, any_of, opposite, outline_list, constant_at}
use Rattle.fx_plan.specs.QueryExpressions.{along, patterns_behind, beside, call_pattern, called_with_one, called_with_two, column_of, comparison_pattern, compared_with, comparison_by, filter_sketch, is_constant, is_falling, negated, pattern_by, pattern_of, patterns_of, plain_column, sketch_of, sorted, sorted_by, flipped as changed_over, with_constant}
use Rattle.fx_plan.specs.Settled.{as_value, by_head, condition_settled, conditions_settled, query_settled, under_head}
use Rattle.fx_plan.proofs.Placing.{column_typed, in_front, joined, plain_is, some_map, some_then}
use Rattle.fx_semantics.specs.Around.{Around, record_of}
use Rattle.fx_semantics.specs.Around.{catching as around_caught, inside as inside_of}
use Rattle.fx_semantics.specs.Rows.{rows_in}
use Rattle.fx_core.specs.declared.functions.Form.TheVariants as form
use Rattle.fx_core.specs.declared.functions.Fun.{Fun}
use Rattle.fx_core.specs.declared.functions.Fun.TheVariants as fun
use Rattle.fx_core.specs.declared.literals.SortOrder.{SortOrder}
use Rattle.fx_core.specs.declared.rows.Scalar.{Scalar}
use Rattle.fx_core.specs.declared.rows.Scalar.TheVariants.{Boolean, Text}
use Rattle.fx_core.specs.declared.schema.TableShape.{TableShape}
use Rattle.fx_core.specs.declared.sources.Source.TheVariants as source
use Rattle.fx_core.specs.Term.{Term, Terms, of, nil, cons, Top, all}
use Rattle.fx_core.specs.Term as top
use Rattle.fx_typing.specs.WellTyped.{PartScope, inside, plain, bound, catching, standing_at}
use Rattle.fx_value.specs.Columns.{Row as Fields}
use Rattle.row_queries.specs.TableRows.{rows_at}

-- ---- parts that visit nothing

-- neither evaluating a part nor evaluating the constants in it visits any row
pub record IsStill (P : VisitPart) : Type 1 where
  pub visits : (a : Around) (n : ℕ) → P.visits a n → n ≡ 0
  pub constants : (a : Around) (n : ℕ) → P.in_condition a n → n ≡ 0

abbrev pub AllStill : List VisitPart → Type 1
AllStill [] = Unit {1}
AllStill (P ∷ Ps) = IsStill P × AllStill Ps

pub all_none : (Ps : List VisitPart) → AllStill Ps → (a : Around) (n : ℕ) → AllVisit Ps a n → n ≡ 0
all_none [] s a n h = h
all_none (P ∷ Ps) s a n h =
    let p = s.0.visits a h.0 h.2 in
    let q = all_none Ps s.1 a h.1 h.3 in
    let e : n ≡ h.0 + h.1 = h.4 in
    omega (arith, p, q, e)

pub conditions_none : (Ps : List VisitPart) → AllStill Ps → (a : Around) (n : ℕ) → ConditionsVisit Ps a n → n ≡ 0
conditions_none [] s a n h = h
conditions_none (P ∷ Ps) s a n h =
    let p = s.0.constants a h.0 h.2 in
    let q = conditions_none Ps s.1 a h.1 h.3 in
    let e : n ≡ h.0 + h.1 = h.4 in
    omega (arith, p, q, e)

each_none : (V : Visiting) → ((a : Around) (n : ℕ) → V a n → n ≡ 0) → (rows : List Fields) (a : Around) (n : ℕ) → EachVisits V rows a n → n ≡ 0
each_none V v [] a n h = h
each_none V v (r ∷ rows) a n h =
    let p = v (inside_of a (record_of r)) h.0 h.2 in
    let q = each_none V v rows a h.1 h.3 in
    let e : n ≡ h.0 + h.1 = h.4 in
    omega (arith, p, q, e)

part_none : (x : PartScope) (rows : List Fields) (P : VisitPart) → IsStill P → (a : Around) (n : ℕ) → PartVisits x rows P a n → n ≡ 0
part_none inside rows P s a n h = each_none P.visits s.visits rows a n h
part_none plain rows P s a n h = s.visits a n h
part_none bound rows P s a n h = s.visits a n h
part_none catching rows P s a n h = s.visits a n h

pub parts_none : (f : Fun) (m i : ℕ) (rows : List Fields) (Ps : List VisitPart) → AllStill Ps → (a : Around) (n : ℕ) → PartsVisit f m i rows Ps a n → n ≡ 0
parts_none f m i rows [] s a n h = h
parts_none f m i rows (P ∷ Ps) s a n h =
    let p = part_none (standing_at (top.over f) m i) rows P s.0 a h.0 h.2 in
    let q = parts_none f m (suc i) rows Ps s.1 a h.1 h.3 in
    let e : n ≡ h.0 + h.1 = h.4 in
    omega (arith, p, q, e)

pub unless_none : (d : Data) (P : ℕ → Type 0) (n : ℕ) → ((k : ℕ) → P k → k ≡ 0) → UnlessError d P n → n ≡ 0
unless_none (fault k cs) P n f h = h
unless_none blank P n f h = f n h
unless_none (number z) P n f h = f n h
unless_none (text cs) P n f h = f n h
unless_none (boolean b) P n f h = f n h
unless_none (date z) P n f h = f n h
unless_none (rec fs) P n f h = f n h
unless_none (tab rs) P n f h = f n h

turn_none : (x : Turning) (Ps : List VisitPart) → AllStill Ps → (a : Around) (n : ℕ) → TurnVisits x Ps a n → n ≡ 0
turn_none (answers d) Ps s a n h = h
turn_none chooses (P ∷ Ps) s a n h = s.0.visits a n h
turn_none (catches k cs) (P ∷ Ps) s a n h = s.0.visits (around_caught a k cs) n h
turn_none (passes g) (P ∷ Ps) s a n h = turn_none (goes g) Ps s.1 a n h
turn_none (goes g) (P ∷ Ps) s a n h =
    let p = s.0.visits a h.2.0 h.2.2 in
    let q = turn_none (turned_by g h.0) Ps s.1 a h.2.1 h.2.3 in
    let e : n ≡ h.2.0 + h.2.1 = h.2.4 in
    omega (arith, p, q, e)
turn_none chooses [] s a n h = h
turn_none (catches k cs) [] s a n h = h
turn_none (passes g) [] s a n h = h
turn_none (goes g) [] s a n h = h

form_none : (g : Going) (Ps : List VisitPart) → AllStill Ps → (a : Around) (n : ℕ) → FormVisits g Ps a n → n ≡ 0
form_none g Ps s a n h = turn_none (goes g) Ps s a n h

-- ---- trees that visit nothing

-- a head whose parts visit nothing visits nothing, and makes no query expression
pub record IsQuiet (w : AskedTables) (h : Top) : Type 1 where
  pub visits : (Ps : List VisitPart) → AllStill Ps → (a : Around) (n : ℕ) → HeadVisits w h Ps a n → n ≡ 0
  pub unasked : (k : ℕ) (ts : Terms) → IsUnasked w.shapes k (of h ts)

pub quiet_tree : (w : AskedTables) (h : Top) (ts : Terms) → IsQuiet w h → AllStill (parts w ts) → IsStill (visit_part w (of h ts))
quiet_tree w h ts q s = record { visits = visited; constants = λ a n c. once a n (is_constant (length a.rows) (of h ts)) c }
  where
    visited : (a : Around) (n : ℕ) → Visits w (of h ts) a n → n ≡ 0
    visited a n v =
        let u = q.unasked (length a.rows) ts in
        q.visits (parts w ts) s a n
        (subst (λ (o : Option Sketch). VisitsBy w None o h (parts w ts) a n) u.1
        (subst (λ (o : Option Sketch). VisitsBy w o (search_of w.shapes (length a.rows) (of h ts)) h (parts w ts) a n) u.0 v))

    once : (a : Around) (n : ℕ) (b : Bool) → OnceOr b (TreeVisits w h ts (parts w ts) (inside_of a blank)) (ConditionsVisit (parts w ts) a) n → n ≡ 0
    once a n true v = visited (inside_of a blank) n v
    once a n false v = conditions_none (parts w ts) s a n v

all_quiet : (w : AskedTables) → IsQuiet w (top.form form.All)
all_quiet w = record { visits = λ Ps s a n h. form_none (form_begun form.All) Ps s a n h; unasked = λ k ts. (refl, refl) }

any_quiet : (w : AskedTables) → IsQuiet w (top.form form.Any)
any_quiet w = record { visits = λ Ps s a n h. form_none (form_begun form.Any) Ps s a n h; unasked = λ k ts. (refl, refl) }

call_quiet : (w : AskedTables) (f : Fun) → IsQuiet w (top.call f)
call_quiet w f = record { visits = λ Ps s a n h. called_none f Ps s a n h; unasked = λ k ts. (refl, refl) }
  where
    called_none : (g : Fun) (Ps : List VisitPart) → AllStill Ps → (a : Around) (n : ℕ) → HeadVisits w (top.call g) Ps a n → n ≡ 0
    called_none fun.Coalesce Ps s a n h = form_none coalesces Ps s a n h
    called_none g Ps s a n h = all_none Ps s a n h

dot_quiet : (w : AskedTables) (name : List ℕ) → IsQuiet w (top.dot name)
dot_quiet w name = record { visits = λ Ps s a n h. all_none Ps s a n h; unasked = λ k ts. (refl, refl) }

row_quiet : (w : AskedTables) (j : ℕ) → IsQuiet w (top.row j)
row_quiet w j = record { visits = λ Ps s a n h. all_none Ps s a n h; unasked = λ k ts. (refl, refl) }

const_quiet : (w : AskedTables) (d : Data) → IsQuiet w (top.const d)
const_quiet w d = record { visits = λ Ps s a n h. all_none Ps s a n h; unasked = λ k ts. (refl, refl) }

pub literal_still : (w : AskedTables) (d : Data) → IsStill (visit_part w (as_value d))
literal_still w d = quiet_tree w (top.const d) nil (const_quiet w d) tt

-- a column of a row
abbrev column_by : ℕ → List ℕ → Term
column_by k name = of (top.dot name) (cons (of (top.row k) nil) nil)

pub column_still : (w : AskedTables) (t : TableShape) (k : ℕ) (x : Term) (i : ℕ) → plain_column t k x ≡ Some i → IsStill (visit_part w x)
column_still w t k x i e =
    let c = plain_is t k x i e in
    let row : IsStill (visit_part w (of (top.row k) nil)) = quiet_tree w (top.row k) nil (row_quiet w k) tt in
    subst (λ (z : Term). IsStill (visit_part w z)) (sym c.is) (quiet_tree w (top.dot c.name) (cons (of (top.row k) nil) nil) (dot_quiet w c.name) (row, tt))

-- evaluating it is no visit, wherever it stands
pub column_visits : (w : AskedTables) (t : TableShape) (k : ℕ) (x : Term) (i : ℕ) → plain_column t k x ≡ Some i → (a : Around) → Visits w x a 0
column_visits w t k x i e a =
    let c = plain_is t k x i e in
    subst (λ (z : Term). Visits w z a 0) (sym c.is) (0, 0, refl, refl, refl)

-- ---- numbers

same_number : (k : ℕ) → nat_eq k k ≡ true
same_number k = eq-eqb k k refl

if_true : {A : Type 0} (b : Bool) (x y : A) → b ≡ true → (if b then x else y) ≡ x
if_true true x y e = refl
if_true false x y e = absurd cc

if_false : {A : Type 0} (b : Bool) (x y : A) → b ≡ false → (if b then x else y) ≡ y
if_false true x y e = absurd cc
if_false false x y e = refl

column_is_none : (k : ℕ) (name : List ℕ) → is_constant k (column_by k name) ≡ false
column_is_none k name = ap (λ b. (not b && true) && true) (same_number k)

row_is_none : (k : ℕ) → is_constant k (of (top.row k) nil) ≡ false
row_is_none k = ap (λ b. not b && true) (same_number k)

-- ---- lists of parts

all_split : (w : AskedTables) (fs gs : List Term) (a : Around) (n : ℕ) → AllVisit (parts w (all (fs ++ gs))) a n → Both (AllVisit (parts w (all fs)) a) (AllVisit (parts w (all gs)) a) n
all_split w [] gs a n h = (0, n, refl, h, omega arith)
all_split w (f ∷ fs) gs a n h =
    let r = all_split w fs gs a h.1 h.3 in
    let e : n ≡ h.0 + h.1 = h.4 in
    let q : h.1 ≡ r.0 + r.1 = r.4 in
    (h.0 + r.0, r.1, (h.0, r.0, h.2, r.2, refl), r.3, omega (arith, e, q))

joined_front : {A : Type 0} (xs ys zs : List A) → xs ++ (ys ++ zs) ≡ xs ++ ys ++ zs
joined_front [] ys zs = refl
joined_front (x ∷ xs) ys zs = ap (λ us. x ∷ us) (joined_front xs ys zs)

nothing_behind : {A : Type 0} (xs : List A) → xs ++ [] ≡ xs
nothing_behind [] = refl
nothing_behind (x ∷ xs) = ap (λ us. x ∷ us) (nothing_behind xs)

-- ---- conditions

module _ (w : AskedTables) (k : ℕ) where
  -- a condition whose constants stand behind ds up to es: what evaluating these visits, they do in the condition; and with values in
  -- their places it visits nothing
  pub record IsCondition (x : Term) (ds es : List Term) : Type 1 where
    pub more : List Term
    pub is : ds ++ more ≡ es
    pub adds : (a : Around) (n : ℕ) → length a.rows ≡ k → AllVisit (parts w (all more)) (inside_of a blank) n → InCondition w x a n
    pub still : (vs : List Data) (i : ℕ) → IsStill (visit_part w ((condition_settled k vs x i).0))

  pub record AreConditions (xs : Terms) (ds es : List Term) : Type 1 where
    pub more : List Term
    pub is : ds ++ more ≡ es
    pub adds : (a : Around) (n : ℕ) → length a.rows ≡ k → AllVisit (parts w (all more)) (inside_of a blank) n → ConditionsVisit (parts w xs) a n
    pub still : (vs : List Data) (i : ℕ) → AllStill (parts w ((conditions_settled k vs xs i).0))

  constant_is : (x : Term) (ds es : List Term) → is_constant k x ≡ true → ds ++ x ∷ [] ≡ es → IsCondition x ds es
  constant_is (of h cs) ds es c e = record {
    more = of h cs ∷ [];
    is = e;
    adds = λ a n l m.
        let none : m.1 ≡ 0 = m.3 in
        let sum : n ≡ m.0 + m.1 = m.4 in
        let same : m.0 ≡ n = omega (arith, none, sum) in
        let once : is_constant (length a.rows) (of h cs) ≡ true = ap (λ j. is_constant j (of h cs)) l ∙ c in
        subst (λ (b : Bool). OnceOr b (TreeVisits w h cs (parts w cs) (inside_of a blank)) (ConditionsVisit (parts w cs) a) n) (sym once)
        (subst (λ (z : ℕ). TreeVisits w h cs (parts w cs) (inside_of a blank) z) same m.2);
    still = λ vs i.
        subst (λ (p : Term × ℕ). IsStill (visit_part w (p.0)))
        (sym (if_true (is_constant k (of h cs)) (as_value (constant_at vs i), suc i) (by_head h cs i (conditions_settled k vs cs i)) c))
        (literal_still w (constant_at vs i));
  }

  -- what isn't a constant, and stays as it is or settles its parts
  other_is : (h : Top) (cs : Terms) (ds es : List Term) → is_constant k (of h cs) ≡ false → IsQuiet w h → ((i : ℕ) (p : Terms × ℕ) → by_head h cs i p ≡ under_head h p) → AreConditions cs ds es →
      IsCondition (of h cs) ds es
  other_is h cs ds es c quiet heads parts_are = record {
    more = parts_are.more;
    is = parts_are.is;
    adds = λ a n l m.
        let once : is_constant (length a.rows) (of h cs) ≡ false = ap (λ j. is_constant j (of h cs)) l ∙ c in
        subst (λ (b : Bool). OnceOr b (TreeVisits w h cs (parts w cs) (inside_of a blank)) (ConditionsVisit (parts w cs) a) n) (sym once) (parts_are.adds a n l m);
    still = λ vs i.
        subst (λ (p : Term × ℕ). IsStill (visit_part w (p.0)))
        (sym (if_false (is_constant k (of h cs)) (as_value (constant_at vs i), suc i) (by_head h cs i (conditions_settled k vs cs i)) c ∙ heads i (conditions_settled k vs cs i)))
        (quiet_tree w h ((conditions_settled k vs cs i).0) quiet (parts_are.still vs i));
  }

  -- a column has no constants, and stays
  column_once : (t : TableShape) (x : Term) (i : ℕ) → plain_column t k x ≡ Some i → (a : Around) → length a.rows ≡ k → InCondition w x a 0
  column_once t x i e a l =
      let c = plain_is t k x i e in
      let row = of (top.row k) nil in
      let once : is_constant (length a.rows) (column_by k c.name) ≡ false = ap (λ j. is_constant j (column_by k c.name)) l ∙ column_is_none k c.name in
      let own : is_constant (length a.rows) row ≡ false = ap (λ j. is_constant j row) l ∙ row_is_none k in
      let inner : InCondition w row a 0 = subst (λ (b : Bool). OnceOr b (TreeVisits w (top.row k) nil [] (inside_of a blank)) (ConditionsVisit [] a) 0) (sym own) refl in
      subst (λ (z : Term). InCondition w z a 0) (sym c.is)
      (subst (λ (b : Bool). OnceOr b (TreeVisits w (top.dot c.name) (cons row nil) (parts w (cons row nil)) (inside_of a blank)) (ConditionsVisit (parts w (cons row nil)) a) 0) (sym once)
      (0, 0, inner, refl, refl))

  column_part : (t : TableShape) (x : Term) (i : ℕ) → plain_column t k x ≡ Some i → (vs : List Data) (j : ℕ) → condition_settled k vs x j ≡ (x, j)
  column_part t x i e vs j =
      let c = plain_is t k x i e in
      subst (λ (y : Term). condition_settled k vs y j ≡ (y, j)) (sym c.is)
      (if_false (is_constant k (column_by k c.name)) (as_value (constant_at vs j), suc j) (column_by k c.name, j) (column_is_none k c.name))

  pub column_is : (t : TableShape) (x : Term) (i : ℕ) (ds : List Term) → plain_column t k x ≡ Some i → IsCondition x ds ds
  column_is t x i ds e = record {
    more = [];
    is = nothing_behind ds;
    adds = λ a n l m. subst (λ (z : ℕ). InCondition w x a z) (sym m) (column_once t x i e a l);
    still = λ vs j. subst (λ (p : Term × ℕ). IsStill (visit_part w (p.0))) (sym (column_part t x i e vs j)) (column_still w t k x i e);
  }

  pub none_are : (ds : List Term) → AreConditions nil ds ds
  none_are ds = record { more = []; is = nothing_behind ds; adds = λ a n l m. m; still = λ vs i. tt }

  pub more_are : (x : Term) (xs : Terms) (ds es fs : List Term) → IsCondition x ds es → AreConditions xs es fs → AreConditions (cons x xs) ds fs
  more_are x xs ds es fs one rest = record {
    more = one.more ++ rest.more;
    is = joined_front ds one.more rest.more ∙ ap (λ zs. zs ++ rest.more) one.is ∙ rest.is;
    adds = λ a n l m.
        let s = all_split w one.more rest.more (inside_of a blank) n m in
        (s.0, s.1, one.adds a s.0 l s.2, rest.adds a s.1 l s.3, s.4);
    still = λ vs i. (one.still vs i, rest.still vs ((condition_settled k vs x i).1));
  }

  two_are : (x y : Term) (ds es fs : List Term) → IsCondition x ds es → IsCondition y es fs → AreConditions (cons x (cons y nil)) ds fs
  two_are x y ds es fs p q = more_are x (cons y nil) ds es fs p (more_are y nil es fs fs q (none_are fs))

  -- ---- patterns

  beside_is : (t : TableShape) (s : Scalar) (x y : Term) (i : ℕ) → beside t k s x y ≡ Some i → (is_constant k y ≡ true) × (plain_column t k x ≡ Some i)
  beside_is t s x y i e = by (is_constant k y) refl e
    where
      by : (b : Bool) → is_constant k y ≡ b → (if b then column_of t k s x else None) ≡ Some i → (is_constant k y ≡ true) × (plain_column t k x ≡ Some i)
      by true q z = (q, (column_typed t k s x i z).0)
      by false q z = absurd cc

  -- a column before a constant, and behind one
  ahead_are : (t : TableShape) (s : Scalar) (f : ℕ → ℕ → Outline) (x y : Term) (ds : List Term) (o : Outline) (es : List Term) →
      option_map (λ (i : ℕ). with_constant (f i) y ds) (beside t k s x y) ≡ Some (o, es) → AreConditions (cons x (cons y nil)) ds es
  ahead_are t s f x y ds o es e =
      let m = some_map (λ (i : ℕ). with_constant (f i) y ds) (beside t k s x y) (o, es) e in
      let q = beside_is t s x y m.0 m.1 in
      two_are x y ds ds es (column_is t x m.0 ds q.1) (constant_is y ds es q.0 (ap (λ (p : Outline × List Term). p.1) m.2))

  behind_are : (t : TableShape) (s : Scalar) (f : ℕ → ℕ → Outline) (x y : Term) (ds : List Term) (o : Outline) (es : List Term) →
      option_map (λ (i : ℕ). with_constant (f i) x ds) (beside t k s y x) ≡ Some (o, es) → AreConditions (cons x (cons y nil)) ds es
  behind_are t s f x y ds o es e =
      let m = some_map (λ (i : ℕ). with_constant (f i) x ds) (beside t k s y x) (o, es) e in
      let q = beside_is t s y x m.0 m.1 in
      two_are x y ds es es (constant_is x ds es q.0 (ap (λ (p : Outline × List Term). p.1) m.2)) (column_is t y m.0 es q.1)

  compared_are : (t : TableShape) (p : Option (Cmp × Scalar)) (x y : Term) (ds : List Term) (o : Outline) (es : List Term) → comparison_pattern t k p x y ds ≡ Some (o, es) →
      AreConditions (cons x (cons y nil)) ds es
  compared_are t None x y ds o es e = absurd cc
  compared_are t (Some p) x y ds o es e = by (is_constant k y) e
    where
      by : (b : Bool) → (if b then compared_with t k p.0 p.1 x y ds else compared_with t k (changed_over p.0) p.1 y x ds) ≡ Some (o, es) → AreConditions (cons x (cons y nil)) ds es
      by true q = ahead_are t p.1 (compares p.0) x y ds o es q
      by false q = behind_are t p.1 (compares (changed_over p.0)) x y ds o es q

  pair_are : (t : TableShape) (f : Fun) (x y : Term) (ds : List Term) (o : Outline) (es : List Term) → called_with_two t k f x y ds ≡ Some (o, es) → AreConditions (cons x (cons y nil)) ds es
  pair_are t fun.StartsWith x y ds o es e = ahead_are t Text starts x y ds o es e
  pair_are t fun.In x y ds o es e = behind_are t Text contains x y ds o es e
  pair_are t f x y ds o es e = compared_are t (comparison_by f) x y ds o es e

  -- columns alone
  bare_same : (g : ℕ → Outline) (c : Option ℕ) (ds : List Term) (o : Outline) (es : List Term) → along ds (option_map g c) ≡ Some (o, es) → (i : ℕ) × (c ≡ Some i) × (ds ≡ es)
  bare_same g c ds o es e =
      let Beside : Outline → Outline × List Term = λ p. (p, ds) in
      let m = some_map Beside (option_map g c) (o, es) e in
      let n = some_map g c m.0 m.1 in
      (n.0, n.1, ap (λ (p : Outline × List Term). p.1) m.2)

  single_are : (t : TableShape) (f : Fun) (x : Term) (ds : List Term) (o : Outline) (es : List Term) → called_with_one t k f x ds ≡ Some (o, es) → AreConditions (cons x nil) ds es
  single_are t fun.IsBlank x ds o es e =
      let m = bare_same is_blank (plain_column t k x) ds o es e in
      subst (λ (zs : List Term). AreConditions (cons x nil) ds zs) m.2 (more_are x nil ds ds ds (column_is t x m.0 ds m.1) (none_are ds))
  single_are t f x ds o es e = absurd cc

  call_are : (t : TableShape) (f : Fun) (cs : Terms) (ds : List Term) (o : Outline) (es : List Term) → call_pattern t k f cs ds ≡ Some (o, es) → AreConditions cs ds es
  call_are t f nil ds o es e = absurd cc
  call_are t f (cons x nil) ds o es e = single_are t f x ds o es e
  call_are t f (cons x (cons y nil)) ds o es e = pair_are t f x y ds o es e
  call_are t f (cons x (cons y (cons z zs))) ds o es e = absurd cc

  negated_same : (p : List Outline × List Term) (o : Outline) (es : List Term) → negated p ≡ Some (o, es) → p.1 ≡ es
  negated_same ([], ds) o es e = absurd cc
  negated_same (x ∷ [], ds) o es e = ap (λ p. p.1) (same_Some (opposite x, ds) (o, es) e)
  negated_same (x ∷ y ∷ xs, ds) o es e = absurd cc

  mutual
    pub pattern_is : (t : TableShape) (x : Term) (ds : List Term) (o : Outline) (es : List Term) → pattern_of t k x ds ≡ Some (o, es) → IsCondition x ds es
    pattern_is t (of h cs) ds o es e = by (is_constant k (of h cs)) refl (λ os fs q. patterns_are t cs ds os fs q) e
      where
        Go : Type 1
        Go = (os : List Outline) (fs : List Term) → patterns_of t k cs ds ≡ Some (os, fs) → AreConditions cs ds fs

        heads : (g : Top) → is_constant k (of g cs) ≡ false → Go → pattern_by t k g cs ds (patterns_of t k cs ds) ≡ Some (o, es) → IsCondition (of g cs) ds es
        heads (top.form form.All) c go q =
            let m = some_map (joined all_of) (patterns_of t k cs ds) (o, es) q in
            other_is (top.form form.All) cs ds es c (all_quiet w) (λ i p. refl) (subst (λ (zs : List Term). AreConditions cs ds zs) (ap (λ (p : Outline × List Term). p.1) m.2) (go m.0.0 m.0.1 m.1))
        heads (top.form form.Any) c go q =
            let m = some_map (joined any_of) (patterns_of t k cs ds) (o, es) q in
            other_is (top.form form.Any) cs ds es c (any_quiet w) (λ i p. refl) (subst (λ (zs : List Term). AreConditions cs ds zs) (ap (λ (p : Outline × List Term). p.1) m.2) (go m.0.0 m.0.1 m.1))
        heads (top.call fun.Not) c go q =
            let m = some_then negated (patterns_of t k cs ds) (o, es) q in
            other_is (top.call fun.Not) cs ds es c (call_quiet w fun.Not) (λ i p. refl) (subst (λ (zs : List Term). AreConditions cs ds zs) (negated_same m.0 o es m.2) (go m.0.0 m.0.1 m.1))
        heads (top.call f) c go q = other_is (top.call f) cs ds es c (call_quiet w f) (λ i p. refl) (call_are t f cs ds o es q)
        heads (top.dot n) c go q =
            let m = bare_same flag (column_of t k Boolean (of (top.dot n) cs)) ds o es q in
            subst (λ (zs : List Term). IsCondition (of (top.dot n) cs) ds zs) m.2 (column_is t (of (top.dot n) cs) m.0 ds (column_typed t k Boolean (of (top.dot n) cs) m.0 m.1).0)
        heads g c go q = absurd cc

        by : (b : Bool) → is_constant k (of h cs) ≡ b → Go → (if b then Some (with_constant constant (of h cs) ds) else pattern_by t k h cs ds (patterns_of t k cs ds)) ≡ Some (o, es) →
            IsCondition (of h cs) ds es
        by true c go q = constant_is (of h cs) ds es c (ap (λ (p : Outline × List Term). p.1) (same_Some (with_constant constant (of h cs) ds) (o, es) q))
        by false c go q = heads h c go q

    pub patterns_are : (t : TableShape) (xs : Terms) (ds : List Term) (os : List Outline) (es : List Term) → patterns_of t k xs ds ≡ Some (os, es) → AreConditions xs ds es
    patterns_are t nil ds os es e =
        subst (λ (zs : List Term). AreConditions nil ds zs) (ap (λ (p : List Outline × List Term). p.1) (same_Some ([], ds) (os, es) e)) (none_are ds)
    patterns_are t (cons x xs) ds os es e =
        let m = some_then (λ (p : Outline × List Term). option_map (in_front p.0) (patterns_of t k xs p.1)) (pattern_of t k x ds) (os, es) e in
        let z = some_map (in_front m.0.0) (patterns_of t k xs m.0.1) (os, es) m.2 in
        subst (λ (zs : List Term). AreConditions (cons x xs) ds zs) (ap (λ (p : List Outline × List Term). p.1) z.2)
        (more_are x xs ds m.0.1 z.0.1 (pattern_is t x ds m.0.0 m.0.1 m.1) (patterns_are t xs m.0.1 z.0.0 z.0.1 z.1))

-- ---- query expressions

-- the table that a query expression is of, by what stands innermost
abbrev base : Term → Option ℕ
base (of (top.read (source.Table n)) nil) = Some n
base (of (top.over f) (cons q cs)) = base q
base t = None

filtered_table : (ts : List TableShape) (k : ℕ) (cs : Terms) (s z : Sketch) → filter_sketch ts k cs s ≡ Some z → s.table ≡ z.table
filtered_table ts k cs s z e =
    let With : List Outline × List Term → Sketch = λ p. record s { test = all_of (outline_list p.0); constants = p.1 } in
    let m = some_then (λ (t : TableShape). option_map With (patterns_behind (s.test ∷ []) (patterns_of t k cs s.constants))) (slice_get ts s.table) z e in
    let p = some_map With (patterns_behind (s.test ∷ []) (patterns_of m.0 k cs s.constants)) z m.2 in
    ap (λ (x : Sketch). x.table) p.2

-- rows that are sorted are those of a table by a plain column of it
record IsSorted (ts : List TableShape) (k : ℕ) (cs : Terms) (s z : Sketch) : Type 0 where
  pub formula : Term
  pub one : cs ≡ cons formula nil
  pub shape : TableShape
  pub column : ℕ
  pub plain : plain_column shape k formula ≡ Some column
  pub table : s.table ≡ z.table
  pub constants : s.constants ≡ z.constants

sorted_is : (ts : List TableShape) (k : ℕ) (o : SortOrder) (cs : Terms) (s z : Sketch) → sorted ts k o cs s ≡ Some z → IsSorted ts k cs s z
sorted_is ts k o nil s z e = absurd cc
sorted_is ts k o (cons f (cons g gs)) s z e = absurd cc
sorted_is ts k o (cons f nil) s z e = by (is_some s.order) e
  where
    With : ℕ → Sketch
    With i = record s { order = Some (i, is_falling o) }

    by : (b : Bool) → (if b then None else sorted_by ts k o f s) ≡ Some z → IsSorted ts k (cons f nil) s z
    by true q = absurd cc
    by false q =
        let m = some_then (λ (t : TableShape). option_map With (plain_column t k f)) (slice_get ts s.table) z q in
        let p = some_map With (plain_column m.0 k f) z m.2 in
        record { formula = f; one = refl; shape = m.0; column = p.0; plain = p.1; table = ap (λ (x : Sketch). x.table) p.2; constants = ap (λ (x : Sketch). x.constants) p.2 }

sketch_base : (ts : List TableShape) (k : ℕ) (q : Term) (s : Sketch) → sketch_of ts k q ≡ Some s → base q ≡ Some s.table
sketch_base ts k (of (top.read (source.Table t)) nil) s e =
    let m = some_map (λ (u : TableShape). record { table = t; test = always; order = None; constants = [] }) (slice_get ts t) s e in
    ap (λ (x : Sketch). Some x.table) m.2
sketch_base ts k (of (top.over fun.Filter) (cons q cs)) s e =
    let m = some_then (filter_sketch ts k cs) (sketch_of ts k q) s e in
    sketch_base ts k q m.0 m.1 ∙ ap Some (filtered_table ts k cs m.0 s m.2)
sketch_base ts k (of (top.over (fun.Sort o)) (cons q cs)) s e =
    let m = some_then (sorted ts k o cs) (sketch_of ts k q) s e in
    let i = sorted_is ts k o cs m.0 s m.2 in
    sketch_base ts k q m.0 m.1 ∙ ap Some i.table
sketch_base ts k q s e = absurd cc

filter_short : {A : Type 0} (p : A → Bool) (xs : List A) → length (filter p xs) ≤ length xs
filter_short p [] = omega arith
filter_short {A} p (x ∷ xs) = by (p x) (filter_short p xs)
  where
    by : (b : Bool) → length (filter p xs) ≤ length xs → length (cond b (x ∷ filter p xs) (filter p xs)) ≤ suc (length xs)
    by true l = omega (arith, l)
    by false l = omega (arith, l)

module _ (w : AskedTables) where
  -- evaluating a tree visits no more rows than a table has, and no constant in it visits any
  pub record IsScanOf (t : Term) (m : ℕ) : Type 1 where
    pub based : base t ≡ Some m
    pub unsought : (k : ℕ) → search_of w.shapes k t ≡ None
    pub still : (a : Around) (n : ℕ) → InQuery w t a n → n ≡ 0
    pub few : (a : Around) (n : ℕ) → VisitsByHead w t a n → n ≤ length (rows_at w.rows m)

  pub scan_few : (t : Term) (m : ℕ) → IsScanOf t m → (a : Around) (n : ℕ) → Visits w t a n → n ≤ length (rows_at w.rows m)
  scan_few (of h ts) m i a n v =
      by (sketch_of w.shapes (length a.rows) (of h ts)) refl
      (subst (λ (o : Option Sketch). VisitsBy w (sketch_of w.shapes (length a.rows) (of h ts)) o h (parts w ts) a n) (i.unsought (length a.rows)) v)
    where
      by : (o : Option Sketch) → sketch_of w.shapes (length a.rows) (of h ts) ≡ o → VisitsBy w o None h (parts w ts) a n → n ≤ length (rows_at w.rows m)
      by None e x = i.few a n x
      by (Some s) e x =
          let none = i.still a x.0 x.2 in
          let ranges = x.3.2 in
          let same : s.table ≡ m = same_Some s.table m (sym (sketch_base w.shapes (length a.rows) (of h ts) s e) ∙ i.based) in
          let short = filter_short (lies_in ranges.1) (rows_at w.rows s.table) in
          let at : length (rows_at w.rows s.table) ≡ length (rows_at w.rows m) = ap (λ j. length (rows_at w.rows j)) same in
          let long : x.1 ≡ length (filter (lies_in ranges.1) (rows_at w.rows s.table)) = ranges.4 in
          let sum : n ≡ x.0 + x.1 = x.4 in
          omega (arith, none, short, at, long, sum)

  table_scan : (m : ℕ) → IsScanOf (of (top.read (source.Table m)) nil) m
  table_scan m = record { based = refl; unsought = λ k. refl; still = λ a n h. h; few = λ a n h. let same : n ≡ length (rows_at w.rows m) = h in omega (arith, same) }

  pub rows_few : (f : Fun) (q : Term) (cs : Terms) (m : ℕ) → IsScanOf q m → AllStill (parts w cs) → (a : Around) (n : ℕ) → RowsVisit f (visit_part w q ∷ parts w cs) a n → n ≤ length (rows_at w.rows m)
  rows_few f q cs m i s a n h =
      let few = scan_few q m i a h.2.0 h.2.2 in
      let none = unless_none h.0 (PartsVisit f (suc (length (parts w cs))) 1 (rows_in h.0) (parts w cs) a) h.2.1 (λ k x. parts_none f (suc (length (parts w cs))) 1 (rows_in h.0) (parts w cs) s a k x) h.2.3 in
      let e : n ≡ h.2.0 + h.2.1 = h.2.4 in
      omega (arith, few, none, e)

  over_still : (q : Term) (cs : Terms) (m : ℕ) → IsScanOf q m → AllStill (parts w cs) → (a : Around) (n : ℕ) → ConstantsVisit (visit_part w q ∷ parts w cs) a n → n ≡ 0
  over_still q cs m i s a n h =
      let p = i.still a h.0 h.2 in
      let r = conditions_none (parts w cs) s a h.1 h.3 in
      let e : n ≡ h.0 + h.1 = h.4 in
      omega (arith, p, r, e)

  filter_scan : (q : Term) (cs : Terms) (m : ℕ) → IsScanOf q m → AllStill (parts w cs) → IsScanOf (of (top.over fun.Filter) (cons q cs)) m
  filter_scan q cs m i s = record { based = i.based; unsought = λ k. refl; still = λ a n h. over_still q cs m i s a n h; few = λ a n h. rows_few fun.Filter q cs m i s a n h }

  sort_scan : (o : SortOrder) (q : Term) (cs : Terms) (m : ℕ) → IsScanOf q m → AllStill (parts w cs) → IsScanOf (of (top.over (fun.Sort o)) (cons q cs)) m
  sort_scan o q cs m i s = record { based = i.based; unsought = λ k. refl; still = λ a n h. over_still q cs m i s a n h; few = λ a n h. rows_few (fun.Sort o) q cs m i s a n h }

  -- a query expression under k scopes: what evaluating its constants visits, they do in it; and with values in their places it visits
  -- no more rows than its table has
  pub record IsQueryOf (k : ℕ) (q : Term) (s : Sketch) : Type 1 where
    pub adds : (a : Around) (n : ℕ) → length a.rows ≡ k → AllVisit (parts w (all s.constants)) (inside_of a blank) n → InQuery w q a n
    pub scan : (vs : List Data) → IsScanOf ((query_settled k vs q).0) s.table

  filtered_query : (k : ℕ) (q : Term) (cs : Terms) (s z : Sketch) → IsQueryOf k q s → filter_sketch w.shapes k cs s ≡ Some z → IsQueryOf k (of (top.over fun.Filter) (cons q cs)) z
  filtered_query k q cs s z i e =
      let With : List Outline × List Term → Sketch = λ p. record s { test = all_of (outline_list p.0); constants = p.1 } in
      let m = some_then (λ (t : TableShape). option_map With (patterns_behind (s.test ∷ []) (patterns_of t k cs s.constants))) (slice_get w.shapes s.table) z e in
      let p = some_map With (patterns_behind (s.test ∷ []) (patterns_of m.0 k cs s.constants)) z m.2 in
      let b = some_map (in_front s.test) (patterns_of m.0 k cs s.constants) p.0 p.1 in
      let c = patterns_are w k m.0 cs s.constants b.0.0 b.0.1 b.1 in
      let same : s.constants ++ c.more ≡ z.constants = c.is ∙ ap (λ q. q.1) b.2 ∙ ap (λ (x : Sketch). x.constants) p.2 in
      record {
        adds = λ a n l h.
            let r = all_split w s.constants c.more (inside_of a blank) n (subst (λ (xs : List Term). AllVisit (parts w (all xs)) (inside_of a blank) n) (sym same) h) in
            (r.0, r.1, i.adds a r.0 l r.2, c.adds a r.1 l r.3, r.4);
        scan = λ vs.
            subst (λ (j : ℕ). IsScanOf (of (top.over fun.Filter) (cons ((query_settled k vs q).0) ((conditions_settled k vs cs ((query_settled k vs q).1)).0))) j) (filtered_table w.shapes k cs s z e)
            (filter_scan ((query_settled k vs q).0) ((conditions_settled k vs cs ((query_settled k vs q).1)).0) s.table (i.scan vs) (c.still vs ((query_settled k vs q).1)));
      }

  sorted_query : (k : ℕ) (o : SortOrder) (q : Term) (cs : Terms) (s z : Sketch) → IsQueryOf k q s → sorted w.shapes k o cs s ≡ Some z → IsQueryOf k (of (top.over (fun.Sort o)) (cons q cs)) z
  unfolding more_are column_is none_are
  sorted_query k o q cs s z i e =
      let r = sorted_is w.shapes k o cs s z e in
      let one = column_is w k r.shape r.formula r.column s.constants r.plain in
      let c = more_are w k r.formula nil s.constants s.constants s.constants one (none_are w k s.constants) in
      subst (λ (xs : Terms). IsQueryOf k (of (top.over (fun.Sort o)) (cons q xs)) z) (sym r.one) (record {
        adds = λ a n l h.
            let none : AllVisit (parts w (all s.constants)) (inside_of a blank) n = subst (λ (xs : List Term). AllVisit (parts w (all xs)) (inside_of a blank) n) (sym r.constants) h in
            (n, 0, i.adds a n l none, c.adds a 0 l refl, omega arith);
        scan = λ vs.
            subst (λ (j : ℕ). IsScanOf (of (top.over (fun.Sort o)) (cons ((query_settled k vs q).0) ((conditions_settled k vs (cons r.formula nil) ((query_settled k vs q).1)).0))) j) r.table
            (sort_scan o ((query_settled k vs q).0) ((conditions_settled k vs (cons r.formula nil) ((query_settled k vs q).1)).0) s.table (i.scan vs) (c.still vs ((query_settled k vs q).1)));
      })

  pub query_is : (k : ℕ) (q : Term) (s : Sketch) → sketch_of w.shapes k q ≡ Some s → IsQueryOf k q s
  query_is k (of (top.read (source.Table t)) nil) s e =
      let m = some_map (λ (u : TableShape). record { table = t; test = always; order = None; constants = [] }) (slice_get w.shapes t) s e in
      subst (λ (z : Sketch). IsQueryOf k (of (top.read (source.Table t)) nil) z) m.2 (record { adds = λ a n l h. h; scan = λ vs. table_scan t })
  query_is k (of (top.over fun.Filter) (cons q cs)) s e =
      let m = some_then (filter_sketch w.shapes k cs) (sketch_of w.shapes k q) s e in
      filtered_query k q cs m.0 s (query_is k q m.0 m.1) m.2
  query_is k (of (top.over (fun.Sort o)) (cons q cs)) s e =
      let m = some_then (sorted w.shapes k o cs) (sketch_of w.shapes k q) s e in
      sorted_query k o q cs m.0 s (query_is k q m.0 m.1) m.2
  query_is k q s e = absurd cc

  -- what `Filter` is made of: a query expression, and conditions that visit nothing with values in the places of their constants
  pub record IsFilterOf (k : ℕ) (q : Term) (cs : Terms) (z : Sketch) : Type 1 where
    pub inner : Sketch
    pub sketched : sketch_of w.shapes k q ≡ Some inner
    pub table : inner.table ≡ z.table
    pub still : (vs : List Data) (i : ℕ) → AllStill (parts w ((conditions_settled k vs cs i).0))

  pub filter_is : (k : ℕ) (q : Term) (cs : Terms) (z : Sketch) → sketch_of w.shapes k (of (top.over fun.Filter) (cons q cs)) ≡ Some z → IsFilterOf k q cs z
  filter_is k q cs z e =
      let m = some_then (filter_sketch w.shapes k cs) (sketch_of w.shapes k q) z e in
      let s = m.0 in
      let With : List Outline × List Term → Sketch = λ p. record s { test = all_of (outline_list p.0); constants = p.1 } in
      let n = some_then (λ (t : TableShape). option_map With (patterns_behind (s.test ∷ []) (patterns_of t k cs s.constants))) (slice_get w.shapes s.table) z m.2 in
      let p = some_map With (patterns_behind (s.test ∷ []) (patterns_of n.0 k cs s.constants)) z n.2 in
      let b = some_map (in_front s.test) (patterns_of n.0 k cs s.constants) p.0 p.1 in
      record { inner = s; sketched = m.1; table = filtered_table w.shapes k cs s z m.2; still = (patterns_are w k n.0 cs s.constants b.0.0 b.0.1 b.1).still }

-- the table of a query expression is there
pub table_there : (ts : List TableShape) (k : ℕ) (q : Term) (s : Sketch) → sketch_of ts k q ≡ Some s → (t : TableShape) × (slice_get ts s.table ≡ Some t)
table_there ts k (of (top.read (source.Table t)) nil) s e =
    let m = some_map (λ (u : TableShape). record { table = t; test = always; order = None; constants = [] }) (slice_get ts t) s e in
    (m.0, subst (λ (x : Sketch). slice_get ts x.table ≡ Some m.0) m.2 m.1)
table_there ts k (of (top.over fun.Filter) (cons q cs)) s e =
    let m = some_then (filter_sketch ts k cs) (sketch_of ts k q) s e in
    let t = table_there ts k q m.0 m.1 in
    (t.0, subst (λ (j : ℕ). slice_get ts j ≡ Some t.0) (filtered_table ts k cs m.0 s m.2) t.1)
table_there ts k (of (top.over (fun.Sort o)) (cons q cs)) s e =
    let m = some_then (sorted ts k o cs) (sketch_of ts k q) s e in
    let t = table_there ts k q m.0 m.1 in
    let i = sorted_is ts k o cs m.0 s m.2 in
    (t.0, subst (λ (j : ℕ). slice_get ts j ≡ Some t.0) i.table t.1)
table_there ts k q s e = absurd cc

-- over no tables nothing is a query expression
pub no_tables : (k : ℕ) (q : Term) → sketch_of [] k q ≡ None
no_tables k q = by (sketch_of [] k q) refl
  where
    none_there : (n : ℕ) (t : TableShape) → slice_get [] n ≡ Some t → ⊥
    none_there n t e = absurd cc

    by : (o : Option Sketch) → sketch_of [] k q ≡ o → o ≡ None
    by None e = refl
    by (Some s) e = let t = table_there [] k q s e in absurd (none_there s.table t.0 t.1)

pub none_sought : (k : ℕ) (t : Term) → search_of [] k t ≡ None
none_sought k (of (top.over fun.LookUp) (cons q (cons c nil))) = no_tables k (of (top.over fun.Filter) (cons q (cons c nil)))
none_sought k (of (top.over fun.LookUp) (cons q (cons c (cons f nil)))) = no_tables k (of (top.over fun.Filter) (cons q (cons c nil)))
none_sought k t = refl

pub none_asked : (ts : List TableShape) (k : ℕ) (t : Term) → length ts ≡ 0 → IsUnasked ts k t
none_asked [] k t e = (no_tables k t, none_sought k t)
none_asked (x ∷ xs) k t e = absurd (omega arith)
