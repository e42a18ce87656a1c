-- Tests that suit a table take its columns, and can be asked of its rows.
use Rattle.std.proofs.Common.{◌≡◌, ℕ, zero, suc, ◌*◌, ◌<◌, ◌==◌, List, [], ◌∷◌, ◌++◌, length, Bool, true, false, cond, ◌&&◌, ◌||◌, Option, Some, None, ℤ, pos, refl, subst, arith}
use Rattle.std.specs.Prelude.{IsSomeAnd, slice_get, option_map}
use Rattle.std.specs.List.{AllByRecursion, list_any}
use Rattle.std.proofs.lemmas.Bool.{eqb-true}
use Rattle.std.proofs.lemmas.List.Elements.{recursion_from_All}
use Rattle.fx_types.specs.declared.comparisons.Cmp.{Cmp}
use Rattle.fx_types.specs.declared.comparisons.Cmp.TheVariants.{Eq, Ne, Lt, Le, Gt, Ge}
use Rattle.fx_types.specs.declared.faults.Kind.{Kind}
use Rattle.fx_types.specs.declared.types.Ty.{Ty}
use Rattle.fx_types.specs.declared.types.Ty.TheVariants as ty
use Rattle.fx_types.specs.TypeView.{shape}
use Rattle.fx_types.specs.Types.{Shape, numbers, texts, booleans, dates}
use Rattle.fx_types.specs.Values.{Data, blank, number, text, boolean, date, rec, tab, fault}
use Rattle.fx_core.specs.declared.schema.Column.{Column}
use Rattle.fx_core.specs.declared.schema.TableShape.{TableShape}
use Rattle.fx_core.specs.Lawful.{IsColumnType, IsLawfulTable}
use Rattle.fx_value.specs.Operators.{AreOrdered, CanCompare}
use Rattle.fx_value.specs.Order.{AreOfOneType, IsScalar}
use Rattle.fx_plan.specs.Outlines.{AreWithin, IsWithin, Outline, OutlineList, constant_at, always, flag, constant, compares, is_blank, starts, contains, all_of, any_of, opposite, no_outlines, with, all_filled, filled}
use Rattle.fx_plan.specs.Plans.{AllSuit, Suits, is_fault}
use Rattle.fx_plan.specs.Ranges.{AllTaken, Comparison, Compares, TakesComparisons, all_comparisons, column_type, comparisons, serves}
use Rattle.fx_value.specs.Fits.{fits_in}
use Rattle.row_queries.specs.Conditions.{Condition, ConditionList, no_conditions, also}
use Rattle.row_queries.specs.Conditions as test
use Rattle.row_queries.specs.declared.rows.Row.{Row}
use Rattle.row_queries.specs.RowTests.{CanAsk, CanAskAll, IsFaultOr, IsTruth, IsWords}
use Rattle.row_queries.specs.TableRows.{AreCellsOf, IsRowOf, values_of}

-- ---- types of columns

-- a type that columns have
abbrev IsColumnShape : Shape → Type 0
IsColumnShape numbers = Unit {0}
IsColumnShape texts = Unit {0}
IsColumnShape booleans = Unit {0}
IsColumnShape dates = Unit {0}
IsColumnShape t = ⊥

shape_ok : (y : Ty) → IsColumnType y → IsColumnShape (shape y)
shape_ok ty.Number h = tt
shape_ok ty.Text h = tt
shape_ok ty.Boolean h = tt
shape_ok ty.Date h = tt
shape_ok y h = absurd h

shapes_ok : (cs : List Column) (k : ℕ) (u : Shape) → AllByRecursion (λ (c : Column). IsColumnType c.ty) cs → option_map (λ (c : Column). shape c.ty) (slice_get cs k) ≡ Some u → IsColumnShape u
shapes_ok [] k u h e = absurd cc
shapes_ok (c ∷ cs) zero u h e = let q : shape c.ty ≡ u = cc in subst IsColumnShape q (shape_ok c.ty h.0)
shapes_ok (c ∷ cs) (suc k) u h e = shapes_ok cs k u h.1 e

column_ok : (t : TableShape) (k : ℕ) (u : Shape) → IsLawfulTable t → column_type t k ≡ Some u → IsColumnShape u
column_ok t zero u l e = let q : numbers ≡ u = cc in subst IsColumnShape q tt
column_ok t (suc k) u l e = shapes_ok t.columns k u (recursion_from_All (λ (c : Column). IsColumnType c.ty) t.columns l.1) e

-- ---- values of these types

scalar_ok : (u : Shape) → IsColumnShape u → (d : Data) → fits_in d u ≡ true → is_fault d ≡ false → IsScalar d
scalar_ok u s blank e n = tt
scalar_ok u s (number z) e n = tt
scalar_ok u s (text cs) e n = tt
scalar_ok u s (boolean b) e n = tt
scalar_ok u s (date z) e n = tt
scalar_ok u s (fault k cs) e n = absurd cc
scalar_ok numbers s (rec fs) e n = absurd cc
scalar_ok texts s (rec fs) e n = absurd cc
scalar_ok booleans s (rec fs) e n = absurd cc
scalar_ok dates s (rec fs) e n = absurd cc
scalar_ok numbers s (tab rs) e n = absurd cc
scalar_ok texts s (tab rs) e n = absurd cc
scalar_ok booleans s (tab rs) e n = absurd cc
scalar_ok dates s (tab rs) e n = absurd cc
scalar_ok u s d e n = absurd s

-- what holds of blank, of errors and of every number holds of all that fits numbers; and so on
number_case : (P : Data → Type 0) → P blank → ((k : Kind) (cs : List ℕ) → P (fault k cs)) → ((z : ℤ) → P (number z)) → (d : Data) → fits_in d numbers ≡ true → P d
number_case P b f g blank e = b
number_case P b f g (fault k cs) e = f k cs
number_case P b f g (number z) e = g z
number_case P b f g d e = absurd cc

text_case : (P : Data → Type 0) → P blank → ((k : Kind) (cs : List ℕ) → P (fault k cs)) → ((xs : List ℕ) → P (text xs)) → (d : Data) → fits_in d texts ≡ true → P d
text_case P b f g blank e = b
text_case P b f g (fault k cs) e = f k cs
text_case P b f g (text xs) e = g xs
text_case P b f g d e = absurd cc

boolean_case : (P : Data → Type 0) → P blank → ((k : Kind) (cs : List ℕ) → P (fault k cs)) → ((x : Bool) → P (boolean x)) → (d : Data) → fits_in d booleans ≡ true → P d
boolean_case P b f g blank e = b
boolean_case P b f g (fault k cs) e = f k cs
boolean_case P b f g (boolean x) e = g x
boolean_case P b f g d e = absurd cc

date_case : (P : Data → Type 0) → P blank → ((k : Kind) (cs : List ℕ) → P (fault k cs)) → ((z : ℤ) → P (date z)) → (d : Data) → fits_in d dates ≡ true → P d
date_case P b f g blank e = b
date_case P b f g (fault k cs) e = f k cs
date_case P b f g (date z) e = g z
date_case P b f g d e = absurd cc

-- ---- comparisons

ordered_can : (op : Cmp) (v d : Data) → AreOrdered v d → AreOfOneType v d → CanCompare op v d
ordered_can Eq v d h k = k
ordered_can Ne v d h k = k
ordered_can Lt v d h k = h
ordered_can Le v d h k = h
ordered_can Gt v d h k = h
ordered_can Ge v d h k = h

text_can : (op : Cmp) → Compares op texts → (v d : Data) → AreOfOneType v d → CanCompare op v d
text_can Eq o v d k = k
text_can Ne o v d k = k
text_can op o v d k = absurd o

boolean_can : (op : Cmp) → Compares op booleans → (v d : Data) → AreOfOneType v d → CanCompare op v d
boolean_can Eq o v d k = k
boolean_can Ne o v d k = k
boolean_can op o v d k = absurd o

abbrev Can : Cmp → Data → Data → Type 0
Can op v d = IsScalar v → IsFaultOr (CanCompare op v) d

can_compare : (op : Cmp) (u : Shape) → Compares op u → IsColumnShape u → (v d : Data) → fits_in v u ≡ true → fits_in d u ≡ true → Can op v d
can_compare op numbers o s v d e f =
    number_case (λ x. Can op x d)
    (λ i. number_case (λ y. IsFaultOr (CanCompare op blank) y) (ordered_can op blank blank tt tt) (λ k cs. tt) (λ w. ordered_can op blank (number w) tt tt) d f)
    (λ k cs i. absurd i)
    (λ z i. number_case (λ y. IsFaultOr (CanCompare op (number z)) y) (ordered_can op (number z) blank tt tt) (λ k cs. tt) (λ w. ordered_can op (number z) (number w) tt tt) d f)
    v e
can_compare op dates o s v d e f =
    date_case (λ x. Can op x d)
    (λ i. date_case (λ y. IsFaultOr (CanCompare op blank) y) (ordered_can op blank blank tt tt) (λ k cs. tt) (λ w. ordered_can op blank (date w) tt tt) d f)
    (λ k cs i. absurd i)
    (λ z i. date_case (λ y. IsFaultOr (CanCompare op (date z)) y) (ordered_can op (date z) blank tt tt) (λ k cs. tt) (λ w. ordered_can op (date z) (date w) tt tt) d f)
    v e
can_compare op texts o s v d e f =
    text_case (λ x. Can op x d)
    (λ i. text_case (λ y. IsFaultOr (CanCompare op blank) y) (text_can op o blank blank tt) (λ k cs. tt) (λ ys. text_can op o blank (text ys) tt) d f)
    (λ k cs i. absurd i)
    (λ xs i. text_case (λ y. IsFaultOr (CanCompare op (text xs)) y) (text_can op o (text xs) blank tt) (λ k cs. tt) (λ ys. text_can op o (text xs) (text ys) tt) d f)
    v e
can_compare op booleans o s v d e f =
    boolean_case (λ x. Can op x d)
    (λ i. boolean_case (λ y. IsFaultOr (CanCompare op blank) y) (boolean_can op o blank blank tt) (λ k cs. tt) (λ y. boolean_can op o blank (boolean y) tt) d f)
    (λ k cs i. absurd i)
    (λ x i. boolean_case (λ y. IsFaultOr (CanCompare op (boolean x)) y) (boolean_can op o (boolean x) blank tt) (λ k cs. tt) (λ y. boolean_can op o (boolean x) (boolean y) tt) d f)
    v e
can_compare op u o s v d e f = absurd s

truth_of : (d : Data) → fits_in d booleans ≡ true → IsFaultOr IsTruth d
truth_of d e = boolean_case (IsFaultOr IsTruth) tt (λ k cs. tt) (λ x. tt) d e

words_of : (d : Data) → fits_in d texts ≡ true → IsFaultOr IsWords d
words_of d e = text_case (IsFaultOr IsWords) tt (λ k cs. tt) (λ xs. tt) d e

own_truth : (d : Data) → IsScalar d → fits_in d booleans ≡ true → IsTruth d
own_truth d s e = boolean_case (λ x. IsScalar x → IsTruth x) (λ i. tt) (λ k cs i. absurd i) (λ x i. tt) d e s

own_words : (d : Data) → IsScalar d → fits_in d texts ≡ true → IsWords d
own_words d s e = text_case (λ x. IsScalar x → IsWords x) (λ i. tt) (λ k cs i. absurd i) (λ xs i. tt) d e s

-- ---- rows

abbrev IsCell : Shape → Data → Type 0
IsCell u v = IsScalar v × (fits_in v u ≡ true)

some_and : (o : Option Data) (P Q : Data → Type 0) → ((v : Data) → P v → Q v) → IsSomeAnd o P → IsSomeAnd o Q
some_and None P Q f h = h
some_and (Some v) P Q f h = f v h

cell_there : (cs : List Column) (ds : List Data) (k : ℕ) (u : Shape) → AreCellsOf cs ds → option_map (λ (c : Column). shape c.ty) (slice_get cs k) ≡ Some u → IsSomeAnd (slice_get ds k) (IsCell u)
cell_there [] ds k u h e = absurd cc
cell_there (c ∷ cs) [] k u h e = absurd h
cell_there (c ∷ cs) (d ∷ ds) zero u h e = let q : shape c.ty ≡ u = cc in (h.0, subst (λ s. fits_in d s ≡ true) q h.1)
cell_there (c ∷ cs) (d ∷ ds) (suc k) u h e = cell_there cs ds k u h.2 e

value_there : (t : TableShape) (r : Row) (k : ℕ) (u : Shape) → IsRowOf t r → column_type t k ≡ Some u → IsSomeAnd (slice_get (values_of r) k) (IsCell u)
value_there t r zero u h e = let q : numbers ≡ u = cc in (tt, subst (λ s. fits_in (number (pos (r.id * 10000))) s ≡ true) q refl)
value_there t r (suc k) u h e = cell_there t.columns r.cells k u h.1 e

mutual
  pub can_ask : (t : TableShape) (r : Row) (c : Condition) → IsLawfulTable t → IsRowOf t r → Suits t c → CanAsk (values_of r) c
  can_ask t r test.always l h s = tt
  can_ask t r (test.flag k) l h s = some_and (slice_get (values_of r) k) (IsCell booleans) IsTruth (λ v i. own_truth v i.0 i.1) (value_there t r k booleans h s)
  can_ask t r (test.constant d) l h s = truth_of d s
  can_ask t r (test.compares op k d) l h s =
      some_and (slice_get (values_of r) k) (IsCell s.0) (λ v. IsScalar v × IsFaultOr (CanCompare op v) d)
      (λ v i. (i.0, can_compare op s.0 s.2 (column_ok t k s.0 l s.1) v d i.1 s.3 i.0)) (value_there t r k s.0 h s.1)
  can_ask t r (test.is_blank k) l h s = some_and (slice_get (values_of r) k) (IsCell s.0) IsScalar (λ v i. i.0) (value_there t r k s.0 h s.1)
  can_ask t r (test.starts k d) l h s = (some_and (slice_get (values_of r) k) (IsCell texts) IsWords (λ v i. own_words v i.0 i.1) (value_there t r k texts h s.0), words_of d s.1)
  can_ask t r (test.contains k d) l h s = (some_and (slice_get (values_of r) k) (IsCell texts) IsWords (λ v i. own_words v i.0 i.1) (value_there t r k texts h s.0), words_of d s.1)
  can_ask t r (test.all_of cs) l h s = can_ask_all t r cs l h s
  can_ask t r (test.any_of cs) l h s = can_ask_all t r cs l h s
  can_ask t r (test.opposite c) l h s = can_ask t r c l h s

  can_ask_all : (t : TableShape) (r : Row) (cs : ConditionList) → IsLawfulTable t → IsRowOf t r → AllSuit t cs → CanAskAll (values_of r) cs
  can_ask_all t r no_conditions l h s = tt
  can_ask_all t r (also c cs) l h s = (can_ask t r c l h s.0, can_ask_all t r cs l h s.1)

-- ---- comparisons among the conjuncts

no_fault_at : (ds : List Data) (i : ℕ) → list_any is_fault ds ≡ false → i < length ds → is_fault (constant_at ds i) ≡ false
no_fault_at [] i n l = absurd (omega (arith, l))
no_fault_at (d ∷ ds) zero n l = first (is_fault d) n
  where
    first : (b : Bool) → (b || list_any is_fault ds) ≡ false → b ≡ false
    first true e = e
    first false e = refl
no_fault_at (d ∷ ds) (suc i) n l = no_fault_at ds i (second (is_fault d) n) (omega (arith, l))
  where
    second : (b : Bool) → (b || list_any is_fault ds) ≡ false → list_any is_fault ds ≡ false
    second true e = absurd cc
    second false e = e

same_some : (u w : Shape) (o : Option Shape) → o ≡ Some u → o ≡ Some w → u ≡ w
same_some u w o e f = cc

join_taken : (u : Shape) (ps qs : List Comparison) → AllTaken u ps → AllTaken u qs → AllTaken u (ps ++ qs)
join_taken u [] qs h k = k
join_taken u (p ∷ ps) qs h k = (h.0, join_taken u ps qs h.1 k)

mutual
  pub takes_them : (t : TableShape) (ds : List Data) (o : Outline) → IsLawfulTable t → list_any is_fault ds ≡ false → IsWithin (length ds) o → Suits t (filled ds o) → TakesComparisons t (filled ds o)
  takes_them t ds (compares op at i) l n w s k u e = go (at == k) refl (serves op)
    where
      go : (b : Bool) → (at == k) ≡ b → (x : Bool) → AllTaken u (cond (b && x) ((op, constant_at ds i) ∷ []) [])
      go true q true =
          let same : at ≡ k = eqb-true at k q in
          let type : s.0 ≡ u = same_some s.0 u (column_type t k) (subst (λ m. column_type t m ≡ Some s.0) same s.1) e in (
            record {
              operator = subst (Compares op) type s.2;
              scalar = scalar_ok s.0 (column_ok t at s.0 l s.1) (constant_at ds i) s.3 (no_fault_at ds i n w);
              fits = subst (λ x. fits_in (constant_at ds i) x ≡ true) type s.3;
            },
            tt,
          )
      go true q false = tt
      go false q x = tt
  takes_them t ds (all_of os) l n w s k u e = take_them t ds os l n w s k u e
  takes_them t ds always l n w s k u e = tt
  takes_them t ds (flag at) l n w s k u e = tt
  takes_them t ds (constant i) l n w s k u e = tt
  takes_them t ds (is_blank at) l n w s k u e = tt
  takes_them t ds (starts at i) l n w s k u e = tt
  takes_them t ds (contains at i) l n w s k u e = tt
  takes_them t ds (any_of os) l n w s k u e = tt
  takes_them t ds (opposite o) l n w s k u e = tt

  take_them : (t : TableShape) (ds : List Data) (os : OutlineList) → IsLawfulTable t → list_any is_fault ds ≡ false → AreWithin (length ds) os → AllSuit t (all_filled ds os) →
      (k : ℕ) (u : Shape) → column_type t k ≡ Some u → AllTaken u (all_comparisons k (all_filled ds os))
  take_them t ds no_outlines l n w s k u e = tt
  take_them t ds (with o os) l n w s k u e =
      join_taken u (comparisons k (filled ds o)) (all_comparisons k (all_filled ds os)) (takes_them t ds o l n w.0 s.0 k u e) (take_them t ds os l n w.1 s.1 k u e)
