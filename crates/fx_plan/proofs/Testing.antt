-- What the test of a condition's pattern comes to on a row is what the condition's value decides.
use Rattle.std.proofs.Common.{◌≡◌, ◌↔◌, ℕ, zero, suc, List, [], ◌∷◌, ◌++◌, length, Bool, true, false, Option, Some, None, ℤ, pos, refl, sym, ap, subst, ◌∙◌}
use Rattle.std.specs.Prelude.{IsTrue, not, slice_get, option_map, unwrap_or, if◌then◌else◌}
use Rattle.std.specs.Option.{option_map_or}
use Rattle.std.specs.Cmp.{IsTotalOrder}
use Rattle.std.specs.Ordering.{int_cmp, is_eq, is_ge, is_gt, is_le, is_lt, ordering_reverse}
use Rattle.std.specs.declared.cmp.Ordering.{Ordering}
use Rattle.std.specs.declared.cmp.Ordering.TheVariants.{Less, Equal, Greater}
use Rattle.std.proofs.lemmas.Cmp.{int_cmp_total}
use Rattle.caseless.specs.Caseless.{default_case_fold}
use Rattle.std.proofs.lemmas.Option.{same_Some}
use Rattle.fx_primitives.specs.Folding.{BeginsWithoutCase, HasPartWithoutCase}
use Rattle.fx_types.specs.declared.comparisons.Cmp.{Cmp}
use Rattle.fx_types.specs.declared.comparisons.Cmp.TheVariants.{Eq, Ne, Lt, Le, Gt, Ge}
use Rattle.fx_types.specs.declared.faults.Kind.{Kind}
use Rattle.fx_types.specs.Values.{Data, blank, number, text, boolean, date, rec, tab, fault, field_list, FieldList, RowList}
use Rattle.fx_plan.specs.Outlines.{Outline, all_filled, filled, constant_at, flag, constant, compares, is_blank, starts, contains, all_of, any_of, opposite, outline_list}
use Rattle.fx_plan.specs.QueryExpressions.{along, beside, call_pattern, called_with_one, called_with_two, column_of, comparison_pattern, compared_with, comparison_by, is_constant, negated, pattern_by, pattern_of, patterns_of, plain_column, flipped, with_constant}
use Rattle.fx_scalar.specs.Arguments.{first_fault}
use Rattle.fx_scalar.specs.Arguments.{text_in as text_of}
use Rattle.fx_scalar.specs.Answers.{UnlessFault}
use Rattle.fx_scalar.specs.LazyForms.{AtAll, AtAny}
use Rattle.fx_scalar.specs.ScalarFunctions.{IsAnswer, IsCompared}
use Rattle.fx_scalar.specs.ScalarFunctions.{is_blank_or_empty as is_blank_value}
use Rattle.fx_semantics.specs.Around.{Around, Meaning, AreValues, inside}
use Rattle.fx_semantics.specs.Forms.{IsAll, IsAny}
use Rattle.fx_semantics.specs.Fresh.{IsCalled, IsValue, OfAll, meaning, meanings}
use Rattle.fx_core.specs.declared.functions.Form.TheVariants as form
use Rattle.fx_core.specs.declared.functions.Fun.{Fun}
use Rattle.fx_core.specs.declared.functions.Fun.TheVariants as fun
use Rattle.fx_core.specs.declared.rows.Scalar.{Scalar}
use Rattle.fx_core.specs.declared.rows.Scalar.TheVariants.{Boolean, Text}
use Rattle.fx_core.specs.declared.schema.Column.{Column}
use Rattle.fx_core.specs.declared.schema.TableShape.{TableShape}
use Rattle.fx_core.specs.Lawful.{IsLawfulTable}
use Rattle.fx_core.specs.Term.{Term, Terms, of, nil, cons, all, Top}
use Rattle.fx_core.specs.Term as top
use Rattle.fx_value.specs.Operators.{compared_by, holds_of, sides, takes}
use Rattle.fx_value.specs.Order.{IsScalar, order}
use Rattle.fx_plan.proofs.Columns.{column_worth}
use Rattle.fx_plan.proofs.Constancy.{constant_stays}
use Rattle.fx_plan.proofs.Placing.{column_typed, got_last, got_more, in_front, joined, plain_is, some_map, some_then}
use Rattle.fx_plan.specs.Settings.{setting_around}
use Rattle.fx_plan.specs.TestValues.{TestComesTo, TestsAreConditions, in_scope}
use Rattle.row_queries.specs.declared.rows.Row.{Row}
use Rattle.row_queries.specs.RowTests.{Outcome, all_outcome, and_outcome, any_outcome, begins_without_case, decided, decided_by, has_part_without_case, is_empty_value, or_outcome, outcome, reversed, text_or_empty, unless_fault}
use Rattle.row_queries.specs.TableRows.{AreCellsOf, IsRowOf, record_of_row, values_of}
use Rattle.row_queries.specs.TableRows.{value_at as value_in_row}
use Rattle.row_queries.proofs.Texts.{begins_there, part_there, there_begins, there_part}

-- ---- a comparison with its sides changed over

reversed_eq : (o : Ordering) → is_eq (ordering_reverse o) ≡ is_eq o
reversed_eq Less = refl
reversed_eq Equal = refl
reversed_eq Greater = refl

reversed_lt : (o : Ordering) → is_gt (ordering_reverse o) ≡ is_lt o
reversed_lt Less = refl
reversed_lt Equal = refl
reversed_lt Greater = refl

reversed_le : (o : Ordering) → is_ge (ordering_reverse o) ≡ is_le o
reversed_le Less = refl
reversed_le Equal = refl
reversed_le Greater = refl

reversed_gt : (o : Ordering) → is_lt (ordering_reverse o) ≡ is_gt o
reversed_gt Less = refl
reversed_gt Equal = refl
reversed_gt Greater = refl

reversed_ge : (o : Ordering) → is_le (ordering_reverse o) ≡ is_ge o
reversed_ge Less = refl
reversed_ge Equal = refl
reversed_ge Greater = refl

turned_takes : (op : Cmp) (o : Ordering) → takes (flipped op) (ordering_reverse o) ≡ takes op o
turned_takes Eq o = reversed_eq o
turned_takes Ne o = ap not (reversed_eq o)
turned_takes Lt o = reversed_lt o
turned_takes Le o = reversed_le o
turned_takes Gt o = reversed_gt o
turned_takes Ge o = reversed_ge o

int_turned : (z w : ℤ) → Some (int_cmp z w) ≡ option_map ordering_reverse (Some (int_cmp w z))
int_turned z w = ap Some (int_cmp_total.antisymm z w)

-- what isn't ordered
text_sides : (cs : List ℕ) (d : Data) → None ≡ option_map ordering_reverse (sides d (text cs))
text_sides cs blank = refl
text_sides cs d = refl

boolean_sides : (b : Bool) (d : Data) → None ≡ option_map ordering_reverse (sides d (boolean b))
boolean_sides b blank = refl
boolean_sides b d = refl

record_sides : (fs : FieldList) (d : Data) → None ≡ option_map ordering_reverse (sides d (rec fs))
record_sides fs blank = refl
record_sides fs d = refl

table_sides : (rs : RowList) (d : Data) → None ≡ option_map ordering_reverse (sides d (tab rs))
table_sides rs blank = refl
table_sides rs d = refl

fault_sides : (k : Kind) (cs : List ℕ) (d : Data) → None ≡ option_map ordering_reverse (sides d (fault k cs))
fault_sides k cs blank = refl
fault_sides k cs d = refl

sides_turned : (x d : Data) → sides x d ≡ option_map ordering_reverse (sides d x)
sides_turned blank blank = refl
sides_turned blank (number w) = int_turned (pos 0) w
sides_turned (number z) blank = int_turned z (pos 0)
sides_turned (number z) (number w) = int_turned z w
sides_turned (date z) (date w) = int_turned z w
sides_turned (text cs) d = text_sides cs d
sides_turned (boolean b) d = boolean_sides b d
sides_turned (rec fs) d = record_sides fs d
sides_turned (tab rs) d = table_sides rs d
sides_turned (fault k cs) d = fault_sides k cs d
sides_turned x d = refl

order_turned : IsTotalOrder order → (x d : Data) → Some (order x d) ≡ option_map ordering_reverse (Some (order d x))
order_turned t x d = ap Some (t.antisymm x d)

compared_turned : IsTotalOrder order → (op : Cmp) (x d : Data) → compared_by (flipped op) x d ≡ option_map ordering_reverse (compared_by op d x)
compared_turned t Eq x d = order_turned t x d
compared_turned t Ne x d = order_turned t x d
compared_turned t Lt x d = sides_turned x d
compared_turned t Le x d = sides_turned x d
compared_turned t Gt x d = sides_turned x d
compared_turned t Ge x d = sides_turned x d

holds_turned : IsTotalOrder order → (op : Cmp) (x d : Data) → holds_of (flipped op) x d ≡ holds_of op d x
holds_turned t op x d = ap (λ (o : Option Ordering). option_map_or (takes (flipped op)) o false) (compared_turned t op x d) ∙ by (compared_by op d x)
  where
    by : (o : Option Ordering) → option_map_or (takes (flipped op)) (option_map ordering_reverse o) false ≡ option_map_or (takes op) o false
    by None = refl
    by (Some o) = turned_takes op o

-- ---- texts

same_text : (d : Data) → text_of d ≡ text_or_empty d
same_text (text cs) = refl
same_text blank = refl
same_text (number z) = refl
same_text (boolean b) = refl
same_text (date z) = refl
same_text (rec fs) = refl
same_text (tab rs) = refl
same_text (fault k cs) = refl

same_blank : (d : Data) → is_blank_value d ≡ is_empty_value d
same_blank blank = refl
same_blank (text []) = refl
same_blank (text (c ∷ cs)) = refl
same_blank (number z) = refl
same_blank (boolean b) = refl
same_blank (date z) = refl
same_blank (rec fs) = refl
same_blank (tab rs) = refl
same_blank (fault k cs) = refl

begins_so : (x d : Data) → IsTrue (begins_without_case x d) ↔ BeginsWithoutCase (text_of x) (text_of d)
begins_so x d =
    subst (λ (p : List ℕ × List ℕ). IsTrue (begins_without_case x d) ↔ BeginsWithoutCase p.0 p.1) (λ i. (sym (same_text x) i, sym (same_text d) i))
    (begins_there (default_case_fold (text_or_empty x)) (default_case_fold (text_or_empty d)), there_begins (default_case_fold (text_or_empty x)) (default_case_fold (text_or_empty d)))

part_so : (x d : Data) → IsTrue (has_part_without_case x d) ↔ HasPartWithoutCase (text_of x) (text_of d)
part_so x d =
    subst (λ (p : List ℕ × List ℕ). IsTrue (has_part_without_case x d) ↔ HasPartWithoutCase p.0 p.1) (λ i. (sym (same_text x) i, sym (same_text d) i)) (
      part_there (default_case_fold (text_or_empty x)) (default_case_fold (text_or_empty d)),
      λ h. there_part (default_case_fold (text_or_empty x)) (default_case_fold (text_or_empty d)) h.0 h.1,
    )

-- ---- calls

-- the answer of a call of two scalars: the first error, else a Boolean of which P holds
two_faultless : (x d : Data) → IsScalar x → first_fault (x ∷ d ∷ []) ≡ first_fault (d ∷ [])
two_faultless blank d s = refl
two_faultless (number z) d s = refl
two_faultless (text cs) d s = refl
two_faultless (boolean b) d s = refl
two_faultless (date z) d s = refl
two_faultless x d s = absurd s

faultless_two : (x d : Data) → IsScalar x → first_fault (d ∷ x ∷ []) ≡ first_fault (d ∷ [])
faultless_two x (fault k cs) s = refl
faultless_two blank d s = refl
faultless_two (number z) d s = refl
faultless_two (text cs) d s = refl
faultless_two (boolean b) d s = refl
faultless_two (date z) d s = refl
faultless_two x d s = absurd s

one_faultless : (x : Data) → IsScalar x → first_fault (x ∷ []) ≡ None
one_faultless blank s = refl
one_faultless (number z) s = refl
one_faultless (text cs) s = refl
one_faultless (boolean b) s = refl
one_faultless (date z) s = refl
one_faultless x s = absurd s

-- a constant's error, else a Boolean
told : (d : Data) (b : Bool) (P : Data → Type 0) → P (boolean b) → (v : Data) × UnlessFault (first_fault (d ∷ [])) P v × (unless_fault d (decided b) ≡ decided_by v)
told (fault k cs) b P p = (fault k cs, refl, refl)
told blank b P p = (boolean b, p, refl)
told (number z) b P p = (boolean b, p, refl)
told (text cs) b P p = (boolean b, p, refl)
told (boolean c) b P p = (boolean b, p, refl)
told (date z) b P p = (boolean b, p, refl)
told (rec fs) b P p = (boolean b, p, refl)
told (tab rs) b P p = (boolean b, p, refl)

-- what a function that compares answers
abbrev Answers : Fun → Option (Cmp × Scalar) → Type 1
Answers f None = Unit {1}
Answers f (Some p) = (Ps : List Meaning) (a : Around) (v : Data) → OfAll Ps a (λ ds. UnlessFault (first_fault ds) (IsCompared (Some p.0) ds) v) → IsCalled f Ps a v

answers : (f : Fun) → Answers f (comparison_by f)
answers fun.EqualNumbers = λ Ps a v h. h
answers fun.EqualTexts = λ Ps a v h. h
answers fun.EqualBooleans = λ Ps a v h. h
answers fun.EqualDates = λ Ps a v h. h
answers fun.UnequalNumbers = λ Ps a v h. h
answers fun.UnequalTexts = λ Ps a v h. h
answers fun.UnequalBooleans = λ Ps a v h. h
answers fun.UnequalDates = λ Ps a v h. h
answers fun.LessNumbers = λ Ps a v h. h
answers fun.LessDates = λ Ps a v h. h
answers fun.LessEqualNumbers = λ Ps a v h. h
answers fun.LessEqualDates = λ Ps a v h. h
answers fun.GreaterNumbers = λ Ps a v h. h
answers fun.GreaterDates = λ Ps a v h. h
answers fun.GreaterEqualNumbers = λ Ps a v h. h
answers fun.GreaterEqualDates = λ Ps a v h. h
answers f = tt

-- ---- conditions joined

-- `And` and `Or` at a part
and_value : (w : Data) (o : Outcome) (P : Data → Type 0) → (v : Data) × P v × (o ≡ decided_by v) → (v : Data) × AtAll w (P v) v × (and_outcome (decided_by w) o ≡ decided_by v)
and_value (boolean true) o P h = (h.0, h.1, h.2)
and_value (boolean false) o P h = (boolean false, refl, refl)
and_value (fault k cs) o P h = (fault k cs, refl, refl)
and_value blank o P h = (boolean false, refl, refl)
and_value (number z) o P h = (boolean false, refl, refl)
and_value (text cs) o P h = (boolean false, refl, refl)
and_value (date z) o P h = (boolean false, refl, refl)
and_value (rec fs) o P h = (boolean false, refl, refl)
and_value (tab rs) o P h = (boolean false, refl, refl)

or_value : (w : Data) (o : Outcome) (P : Data → Type 0) → (v : Data) × P v × (o ≡ decided_by v) → (v : Data) × AtAny w (P v) v × (or_outcome (decided_by w) o ≡ decided_by v)
or_value (boolean true) o P h = (boolean true, refl, refl)
or_value (boolean false) o P h = (h.0, h.1, h.2)
or_value (fault k cs) o P h = (fault k cs, refl, refl)
or_value blank o P h = (h.0, h.1, h.2)
or_value (number z) o P h = (h.0, h.1, h.2)
or_value (text cs) o P h = (h.0, h.1, h.2)
or_value (date z) o P h = (h.0, h.1, h.2)
or_value (rec fs) o P h = (h.0, h.1, h.2)
or_value (tab rs) o P h = (h.0, h.1, h.2)

not_value : (w : Data) → (v : Data) × IsAnswer fun.Not (w ∷ []) v × (reversed (decided_by w) ≡ decided_by v)
not_value (boolean true) = (boolean false, refl, refl)
not_value (boolean false) = (boolean true, refl, refl)
not_value (fault k cs) = (fault k cs, refl, refl)
not_value blank = (boolean true, refl, refl)
not_value (number z) = (boolean true, refl, refl)
not_value (text cs) = (boolean true, refl, refl)
not_value (date z) = (boolean true, refl, refl)
not_value (rec fs) = (boolean true, refl, refl)
not_value (tab rs) = (boolean true, refl, refl)

-- ---- cells

cell_scalar : (cs : List Column) (ds : List Data) (i : ℕ) → AreCellsOf cs ds → IsScalar (unwrap_or (slice_get ds i) blank)
cell_scalar cs [] i h = tt
cell_scalar [] (d ∷ ds) i h = absurd h
cell_scalar (c ∷ cs) (d ∷ ds) zero h = h.0
cell_scalar (c ∷ cs) (d ∷ ds) (suc i) h = cell_scalar cs ds i h.2

pub value_scalar : (t : TableShape) (r : Row) (i : ℕ) → IsRowOf t r → IsScalar (value_in_row (values_of r) i)
value_scalar t r zero h = tt
value_scalar t r (suc i) h = cell_scalar t.columns r.cells i h.1

-- a column is worth the value at its number
pub column_value : (t : TableShape) (a : Around) (r : Row) (x : Term) (i : ℕ) → IsLawfulTable t → IsRowOf t r → plain_column t (length a.rows) x ≡ Some i →
    IsValue (in_scope a t r) x (value_in_row (values_of r) i)
column_value t a r x i l h e =
    let c = plain_is t (length a.rows) x i e in
    let row = rec (field_list (record_of_row t r)) in
    subst (λ (y : Term). IsValue (in_scope a t r) y (value_in_row (values_of r) i)) (sym c.is)
    (row, got_last a.rows row, sym (column_worth t r c.name i l h c.named))

-- ---- the tests of patterns
module _ (total : IsTotalOrder order) (t : TableShape) (lawful : IsLawfulTable t) (a : Around) (d : Data) (vs : List Data) (r : Row) (own : IsRowOf t r) where
  abbrev pub k : ℕ
  k = length a.rows

  abbrev pub here : Around
  here = in_scope a t r

  abbrev pub cell : ℕ → Data
  cell i = value_in_row (values_of r) i

  abbrev pub came : Outline → Outcome
  came o = outcome (values_of r) (filled vs o)

  -- the constants so far have these values, by their places
  abbrev pub Worth : List Term → Type 0
  Worth cs = (i : ℕ) (c : Term) → slice_get cs i ≡ Some c → IsValue (inside a d) c (constant_at vs i)

  abbrev pub Grows : List Term → List Term → Type 0
  Grows ds es = (i : ℕ) (c : Term) → slice_get ds i ≡ Some c → slice_get es i ≡ Some c

  pub record IsTest (x : Term) (ds : List Term) (o : Outline) (es : List Term) : Type 0 where
    pub grows : Grows ds es
    pub test : Worth es → TestComesTo here x (came o)

  abbrev pub AllWorth : Terms → List Outline → Type 0
  AllWorth nil [] = Unit {0}
  AllWorth (cons x xs) (o ∷ os) = TestComesTo here x (came o) × AllWorth xs os
  AllWorth xs os = ⊥

  pub record AreTests (xs : Terms) (ds : List Term) (os : List Outline) (es : List Term) : Type 0 where
    pub grows : Grows ds es
    pub test : Worth es → AllWorth xs os

  -- a test of a constant that is kept
  kept_test : (ds : List Term) (f : ℕ → Outline) (x y : Term) (o : Outline) (es : List Term) → is_constant k x ≡ true →
      ((j : ℕ) → IsValue here x (constant_at vs j) → TestComesTo here y (came (f j))) → with_constant f x ds ≡ (o, es) → IsTest y ds o es
  kept_test ds f x y o es c g e =
      let kept : ds ++ x ∷ [] ≡ es = ap (λ p. p.1) e in
      let tested : f (length ds) ≡ o = ap (λ p. p.0) e in
      let there : slice_get es (length ds) ≡ Some x = subst (λ (xs : List Term). slice_get xs (length ds) ≡ Some x) kept (got_last ds x) in
      record {
        grows = λ i z q. subst (λ (xs : List Term). slice_get xs i ≡ Some z) kept (got_more ds (x ∷ []) i z q);
        test = λ w. subst (λ (p : Outline). TestComesTo here y (came p)) tested
            (g (length ds) (constant_stays a d _ x (constant_at vs (length ds)) c (w (length ds) x there)));
      }

  -- a test of columns alone
  bare_test : (ds : List Term) (y : Term) (o : Outline) (es : List Term) → ds ≡ es → TestComesTo here y (came o) → IsTest y ds o es
  bare_test ds y o es e h = record { grows = λ i z q. subst (λ (xs : List Term). slice_get xs i ≡ Some z) e q; test = λ w. h }

  pair_value : (f : Fun) (op : Cmp) (x y : Term) (p q v : Data) → ((Ps : List Meaning) (b : Around) (w : Data) → OfAll Ps b (λ ds. UnlessFault (first_fault ds) (IsCompared (Some op) ds) w) → IsCalled f Ps b w) →
      IsValue here x p → IsValue here y q → UnlessFault (first_fault (p ∷ q ∷ [])) (IsCompared (Some op) (p ∷ q ∷ [])) v → IsValue here (of (top.call f) (cons x (cons y nil))) v
  pair_value f op x y p q v g hx hy u = g (meaning x ∷ meaning y ∷ []) here v (p ∷ q ∷ [], (hx, (hy, tt)), u)

  -- a column before a constant
  ahead_test : (f : Fun) (op : Cmp) (x y : Term) (i j : ℕ) → ((Ps : List Meaning) (b : Around) (w : Data) → OfAll Ps b (λ ds. UnlessFault (first_fault ds) (IsCompared (Some op) ds) w) → IsCalled f Ps b w) →
      plain_column t k x ≡ Some i → IsValue here y (constant_at vs j) → TestComesTo here (of (top.call f) (cons x (cons y nil))) (came (compares op i j))
  ahead_test f op x y i j g e h =
      let c = constant_at vs j in
      let s = value_scalar t r i own in
      let w = told c (holds_of op (cell i) c) (IsCompared (Some op) (cell i ∷ c ∷ [])) refl in (
        w.0,
        pair_value f op x y (cell i) c w.0 g (column_value t a r x i lawful own e) h
            (subst (λ (o : Option Data). UnlessFault o (IsCompared (Some op) (cell i ∷ c ∷ [])) w.0) (sym (two_faultless (cell i) c s)) w.1),
        w.2,
      )

  -- and behind one
  behind_test : (f : Fun) (op : Cmp) (x y : Term) (i j : ℕ) → ((Ps : List Meaning) (b : Around) (w : Data) → OfAll Ps b (λ ds. UnlessFault (first_fault ds) (IsCompared (Some op) ds) w) → IsCalled f Ps b w) →
      plain_column t k y ≡ Some i → IsValue here x (constant_at vs j) → TestComesTo here (of (top.call f) (cons x (cons y nil))) (came (compares (flipped op) i j))
  behind_test f op x y i j g e h =
      let c = constant_at vs j in
      let s = value_scalar t r i own in
      let w = told c (holds_of op c (cell i)) (IsCompared (Some op) (c ∷ cell i ∷ [])) refl in (
        w.0,
        pair_value f op x y c (cell i) w.0 g h (column_value t a r y i lawful own e)
            (subst (λ (o : Option Data). UnlessFault o (IsCompared (Some op) (c ∷ cell i ∷ [])) w.0) (sym (faultless_two (cell i) c s)) w.1),
        ap (λ (b : Bool). unless_fault c (decided b)) (holds_turned total op (cell i) c) ∙ w.2,
      )

  beside_is : (s : Scalar) (x y : Term) (i : ℕ) → beside t k s x y ≡ Some i → (is_constant k y ≡ true) × (plain_column t k x ≡ Some i)
  beside_is s x y i e = by (is_constant k y) refl e
    where
      by : (b : Bool) → is_constant k y ≡ b → (if b then column_of t k s x else None) ≡ Some i → (is_constant k y ≡ true) × (plain_column t k x ≡ Some i)
      by true q z = (q, (column_typed t k s x i z).0)
      by false q z = absurd cc

  -- a test of a column beside a constant
  beside_test : (ds : List Term) (s : Scalar) (f : ℕ → ℕ → Outline) (x y z : Term) (o : Outline) (es : List Term) →
      ((i j : ℕ) → plain_column t k x ≡ Some i → IsValue here y (constant_at vs j) → TestComesTo here z (came (f i j))) →
      option_map (λ (i : ℕ). with_constant (f i) y ds) (beside t k s x y) ≡ Some (o, es) → IsTest z ds o es
  beside_test ds s f x y z o es g e =
      let m = some_map (λ (i : ℕ). with_constant (f i) y ds) (beside t k s x y) (o, es) e in
      let q = beside_is s x y m.0 m.1 in
      kept_test ds (f m.0) y z o es q.0 (λ j h. g m.0 j q.1 h) m.2

  compared_test : (ds : List Term) (f : Fun) (p : Option (Cmp × Scalar)) (x y : Term) (o : Outline) (es : List Term) → Answers f p → comparison_pattern t k p x y ds ≡ Some (o, es) →
      IsTest (of (top.call f) (cons x (cons y nil))) ds o es
  compared_test ds f None x y o es g e = absurd cc
  compared_test ds f (Some p) x y o es g e = by (is_constant k y) e
    where
      by : (b : Bool) → (if b then compared_with t k p.0 p.1 x y ds else compared_with t k (flipped p.0) p.1 y x ds) ≡ Some (o, es) → IsTest (of (top.call f) (cons x (cons y nil))) ds o es
      by true q = beside_test ds p.1 (compares p.0) x y (of (top.call f) (cons x (cons y nil))) o es (λ i j z h. ahead_test f p.0 x y i j g z h) q
      by false q = beside_test ds p.1 (compares (flipped p.0)) y x (of (top.call f) (cons x (cons y nil))) o es (λ i j z h. behind_test f p.0 x y i j g z h) q

  -- texts
  starts_test : (x y : Term) (i j : ℕ) → plain_column t k x ≡ Some i → IsValue here y (constant_at vs j) → TestComesTo here (of (top.call fun.StartsWith) (cons x (cons y nil))) (came (starts i j))
  starts_test x y i j e h =
      let c = constant_at vs j in
      let P : Data → Type 0 = λ v. (b : Bool) × (IsTrue b ↔ BeginsWithoutCase (text_of (cell i)) (text_of c)) × (v ≡ boolean b) in
      let w = told c (begins_without_case (cell i) c) P (begins_without_case (cell i) c, begins_so (cell i) c, refl) in (
        w.0,
        (cell i ∷ c ∷ [], (column_value t a r x i lawful own e, (h, tt)), subst (λ (o : Option Data). UnlessFault o P w.0) (sym (two_faultless (cell i) c (value_scalar t r i own))) w.1),
        w.2,
      )

  contains_test : (x y : Term) (i j : ℕ) → plain_column t k y ≡ Some i → IsValue here x (constant_at vs j) → TestComesTo here (of (top.call fun.In) (cons x (cons y nil))) (came (contains i j))
  contains_test x y i j e h =
      let c = constant_at vs j in
      let P : Data → Type 0 = λ v. (b : Bool) × (IsTrue b ↔ HasPartWithoutCase (text_of (cell i)) (text_of c)) × (v ≡ boolean b) in
      let w = told c (has_part_without_case (cell i) c) P (has_part_without_case (cell i) c, part_so (cell i) c, refl) in (
        w.0,
        (c ∷ cell i ∷ [], (h, (column_value t a r y i lawful own e, tt)), subst (λ (o : Option Data). UnlessFault o P w.0) (sym (faultless_two (cell i) c (value_scalar t r i own))) w.1),
        w.2,
      )

  pair_test : (ds : List Term) (f : Fun) (x y : Term) (o : Outline) (es : List Term) → called_with_two t k f x y ds ≡ Some (o, es) → IsTest (of (top.call f) (cons x (cons y nil))) ds o es
  pair_test ds fun.StartsWith x y o es e = beside_test ds Text starts x y (of (top.call fun.StartsWith) (cons x (cons y nil))) o es (starts_test x y) e
  pair_test ds fun.In x y o es e = beside_test ds Text contains y x (of (top.call fun.In) (cons x (cons y nil))) o es (contains_test x y) e
  pair_test ds f x y o es e = compared_test ds f (comparison_by f) x y o es (answers f) e

  blank_value : (x : Term) (i : ℕ) → plain_column t k x ≡ Some i → TestComesTo here (of (top.call fun.IsBlank) (cons x nil)) (came (is_blank i))
  blank_value x i e =
      let v = boolean (is_blank_value (cell i)) in (
        v,
        (cell i ∷ [], (column_value t a r x i lawful own e, tt), subst (λ (o : Option Data). UnlessFault o (λ w. w ≡ v) v) (sym (one_faultless (cell i) (value_scalar t r i own))) refl),
        ap decided (sym (same_blank (cell i))),
      )

  blank_test : (ds : List Term) (x : Term) (o : Outline) (es : List Term) → along ds (option_map is_blank (plain_column t k x)) ≡ Some (o, es) →
      IsTest (of (top.call fun.IsBlank) (cons x nil)) ds o es
  blank_test ds x o es e =
      let Beside : Outline → Outline × List Term = λ p. (p, ds) in
      let m = some_map Beside (option_map is_blank (plain_column t k x)) (o, es) e in
      let n = some_map is_blank (plain_column t k x) m.0 m.1 in
      bare_test ds (of (top.call fun.IsBlank) (cons x nil)) o es (ap (λ p. p.1) m.2)
      (subst (λ (p : Outline). TestComesTo here (of (top.call fun.IsBlank) (cons x nil)) (came p)) (n.2 ∙ ap (λ p. p.0) m.2) (blank_value x n.0 n.1))

  single_test : (ds : List Term) (f : Fun) (x : Term) (o : Outline) (es : List Term) → called_with_one t k f x ds ≡ Some (o, es) → IsTest (of (top.call f) (cons x nil)) ds o es
  single_test ds fun.IsBlank x o es e = blank_test ds x o es e
  single_test ds f x o es e = absurd cc

  call_test : (ds : List Term) (f : Fun) (cs : Terms) (o : Outline) (es : List Term) → call_pattern t k f cs ds ≡ Some (o, es) → IsTest (of (top.call f) cs) ds o es
  call_test ds f nil o es e = absurd cc
  call_test ds f (cons x nil) o es e = single_test ds f x o es e
  call_test ds f (cons x (cons y nil)) o es e = pair_test ds f x y o es e
  call_test ds f (cons x (cons y (cons z zs))) o es e = absurd cc

  flag_test : (ds : List Term) (x : Term) (o : Outline) (es : List Term) → along ds (option_map flag (column_of t k Boolean x)) ≡ Some (o, es) → IsTest x ds o es
  flag_test ds x o es e =
      let Beside : Outline → Outline × List Term = λ p. (p, ds) in
      let m = some_map Beside (option_map flag (column_of t k Boolean x)) (o, es) e in
      let n = some_map flag (column_of t k Boolean x) m.0 m.1 in
      bare_test ds x o es (ap (λ p. p.1) m.2)
      (subst (λ (p : Outline). TestComesTo here x (came p)) (n.2 ∙ ap (λ p. p.0) m.2)
      (cell n.0, column_value t a r x n.0 lawful own (column_typed t k Boolean x n.0 n.1).0, refl))

  -- what joins conditions
  all_worth : (xs : Terms) (os : List Outline) → AllWorth xs os → (v : Data) × IsAll (meanings xs) here v × (all_outcome (values_of r) (all_filled vs (outline_list os)) ≡ decided_by v)
  all_worth nil [] h = (boolean true, refl, refl)
  all_worth (cons x xs) (o ∷ os) h =
      let rest = all_worth xs os h.1 in
      let one = h.0 in
      let both = and_value one.0 (all_outcome (values_of r) (all_filled vs (outline_list os))) (IsAll (meanings xs) here) rest in
      (both.0, (one.0, one.1, both.1), ap (λ (p : Outcome). and_outcome p (all_outcome (values_of r) (all_filled vs (outline_list os)))) one.2 ∙ both.2)
  all_worth nil (o ∷ os) h = absurd h
  all_worth (cons x xs) [] h = absurd h

  any_worth : (xs : Terms) (os : List Outline) → AllWorth xs os → (v : Data) × IsAny (meanings xs) here v × (any_outcome (values_of r) (all_filled vs (outline_list os)) ≡ decided_by v)
  any_worth nil [] h = (boolean false, refl, refl)
  any_worth (cons x xs) (o ∷ os) h =
      let rest = any_worth xs os h.1 in
      let one = h.0 in
      let both = or_value one.0 (any_outcome (values_of r) (all_filled vs (outline_list os))) (IsAny (meanings xs) here) rest in
      (both.0, (one.0, one.1, both.1), ap (λ (p : Outcome). or_outcome p (any_outcome (values_of r) (all_filled vs (outline_list os)))) one.2 ∙ both.2)
  any_worth nil (o ∷ os) h = absurd h
  any_worth (cons x xs) [] h = absurd h

  negated_worth : (x : Term) (o : Outline) → TestComesTo here x (came o) → TestComesTo here (of (top.call fun.Not) (cons x nil)) (came (opposite o))
  negated_worth x o h = let w = not_value h.0 in (w.0, (h.0 ∷ [], (h.1, tt), w.1), ap reversed h.2 ∙ w.2)

  negated_test : (xs : Terms) (ds : List Term) (p : List Outline × List Term) (o : Outline) (es : List Term) → AreTests xs ds p.0 p.1 → negated p ≡ Some (o, es) → IsTest (of (top.call fun.Not) xs) ds o es
  negated_test xs ds ([], fs) o es m e = absurd cc
  negated_test xs ds (u ∷ w ∷ us, fs) o es m e = absurd cc
  negated_test (cons x nil) ds (u ∷ [], fs) o es m e =
      let is : (opposite u, fs) ≡ (o, es) = same_Some (opposite u, fs) (o, es) e in
      subst (λ (p : Outline × List Term). IsTest (of (top.call fun.Not) (cons x nil)) ds p.0 p.1) is
      (record { grows = m.grows; test = λ w. negated_worth x u (m.test w).0 })
  negated_test nil ds (u ∷ [], fs) o es m e =
      let is : (opposite u, fs) ≡ (o, es) = same_Some (opposite u, fs) (o, es) e in
      subst (λ (p : Outline × List Term). IsTest (of (top.call fun.Not) nil) ds p.0 p.1) is (record { grows = m.grows; test = λ w. absurd (m.test w) })
  negated_test (cons x (cons y ys)) ds (u ∷ [], fs) o es m e =
      let is : (opposite u, fs) ≡ (o, es) = same_Some (opposite u, fs) (o, es) e in
      subst (λ (p : Outline × List Term). IsTest (of (top.call fun.Not) (cons x (cons y ys))) ds p.0 p.1) is (record { grows = m.grows; test = λ w. absurd (m.test w).1 })

  mutual
    pub pattern_test : (x : Term) (ds : List Term) (o : Outline) (es : List Term) → pattern_of t k x ds ≡ Some (o, es) → IsTest x ds o es
    pattern_test (of h cs) ds o es e = by (is_constant k (of h cs)) refl (λ os fs q. patterns_test cs ds os fs q) e
      where
        Go : Type 0
        Go = (os : List Outline) (fs : List Term) → patterns_of t k cs ds ≡ Some (os, fs) → AreTests cs ds os fs

        heads : (g : Top) → Go → pattern_by t k g cs ds (patterns_of t k cs ds) ≡ Some (o, es) → IsTest (of g cs) ds o es
        heads (top.form form.All) go q =
            let m = some_map (joined all_of) (patterns_of t k cs ds) (o, es) q in
            let n = go m.0.0 m.0.1 m.1 in
            subst (λ (p : Outline × List Term). IsTest (of (top.form form.All) cs) ds p.0 p.1) m.2 (record { grows = n.grows; test = λ w. all_worth cs m.0.0 (n.test w) })
        heads (top.form form.Any) go q =
            let m = some_map (joined any_of) (patterns_of t k cs ds) (o, es) q in
            let n = go m.0.0 m.0.1 m.1 in
            subst (λ (p : Outline × List Term). IsTest (of (top.form form.Any) cs) ds p.0 p.1) m.2 (record { grows = n.grows; test = λ w. any_worth cs m.0.0 (n.test w) })
        heads (top.call fun.Not) go q =
            let m = some_then negated (patterns_of t k cs ds) (o, es) q in
            negated_test cs ds m.0 o es (go m.0.0 m.0.1 m.1) m.2
        heads (top.call f) go q = call_test ds f cs o es q
        heads (top.dot n) go q = flag_test ds (of (top.dot n) cs) o es q
        heads g go q = absurd cc

        by : (b : Bool) → is_constant k (of h cs) ≡ b → Go → (if b then Some (with_constant constant (of h cs) ds) else pattern_by t k h cs ds (patterns_of t k cs ds)) ≡ Some (o, es) → IsTest (of h cs) ds o es
        by true q go z = kept_test ds constant (of h cs) (of h cs) o es q (λ j v. (constant_at vs j, v, refl)) (same_Some (with_constant constant (of h cs) ds) (o, es) z)
        by false q go z = heads h go z

    pub patterns_test : (xs : Terms) (ds : List Term) (os : List Outline) (es : List Term) → patterns_of t k xs ds ≡ Some (os, es) → AreTests xs ds os es
    patterns_test nil ds os es e =
        let q : ([], ds) ≡ (os, es) = same_Some ([], ds) (os, es) e in
        subst (λ (p : List Outline × List Term). AreTests nil ds p.0 p.1) q (record { grows = λ i c z. z; test = λ w. tt })
    patterns_test (cons x xs) ds os es e =
        let m = some_then (λ (p : Outline × List Term). option_map (in_front p.0) (patterns_of t k xs p.1)) (pattern_of t k x ds) (os, es) e in
        let n = some_map (in_front m.0.0) (patterns_of t k xs m.0.1) (os, es) m.2 in
        let one = pattern_test x ds m.0.0 m.0.1 m.1 in
        let others = patterns_test xs m.0.1 n.0.0 n.0.1 n.1 in
        subst (λ (p : List Outline × List Term). AreTests (cons x xs) ds p.0 p.1) n.2 (record {
          grows = λ i c z. others.grows i c (one.grows i c z);
          test = λ w. (one.test (λ i c z. w i c (others.grows i c z)), others.test w);
        })

-- ---- the law

pub values_worth : (a : Around) (cs : List Term) (ds : List Data) → AreValues (meanings (all cs)) a ds → (i : ℕ) (c : Term) → slice_get cs i ≡ Some c → IsValue a c (constant_at ds i)
values_worth a [] ds h i c e = absurd cc
values_worth a (x ∷ cs) [] h i c e = absurd h
values_worth a (x ∷ cs) (d ∷ ds) h zero c e = subst (λ (y : Term). IsValue a y d) (same_Some x c e) h.0
values_worth a (x ∷ cs) (d ∷ ds) h (suc i) c e = values_worth a cs ds h.1 i c e

pub test_worth : IsTotalOrder order → (t : TableShape) (a : Around) (x : Term) (o : Outline) (cs : List Term) (d : Data) (ds : List Data) (r : Row) →
    IsLawfulTable t → pattern_of t (length a.rows) x [] ≡ Some (o, cs) → AreValues (meanings (all cs)) (inside a d) ds → IsRowOf t r →
    TestComesTo (in_scope a t r) x (outcome (values_of r) (filled ds o))
test_worth total t a x o cs d ds r lawful e h own = (pattern_test total t lawful a d ds r own x [] o cs e).test (values_worth (inside a d) cs ds h)

pub tests_are_conditions : IsTotalOrder order → TestsAreConditions
tests_are_conditions total s t x o cs d ds r = test_worth total t (setting_around s) x o cs d ds r
