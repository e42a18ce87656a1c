-- A sketch of a well typed query expression can be planned, with constants that fit.
use Rattle.std.specs.Cmp.{first_so, second_so}
use Rattle.std.proofs.Common.{◌≡◌, ℕ, zero, suc, ◌<◌, ◌≤◌, List, [], ◌∷◌, ◌++◌, length, Bool, true, false, Option, Some, None, refl, sym, ap, subst, ◌∙◌, arith}
use Rattle.std.specs.Prelude.{◌&&◌, ◌%◌, not, nat_eq, bytes_eq, slice_get, option_map, option_and_then, position, IfSome, is_some, Result, Ok, if◌then◌else◌}
use Rattle.std.specs.List.{AllByRecursion}
use Rattle.std.proofs.lemmas.Bool.{eqb-true, or_from}
use Rattle.std.proofs.lemmas.List.Elements.{recursion_from_All}
use Rattle.std.proofs.lemmas.List.Quantifiers.{position-Some}
use Rattle.std.proofs.lemmas.Option.{same_Some}
use Rattle.fx_types.specs.declared.comparisons.Cmp.{Cmp}
use Rattle.fx_types.specs.TypeView.{shape}
use Rattle.fx_types.specs.Types.{Shape, numbers, texts, booleans, dates, tables}
use Rattle.fx_types.specs.Values.{Data}
use Rattle.fx_plan.specs.declared.plans.Sketch.{Sketch}
use Rattle.fx_plan.specs.Outlines.{Outline, OutlineList, AreWithin, IsWithin, all_filled, filled, constant_at, always, flag, constant, compares, is_blank, starts, contains, all_of, any_of, opposite, no_outlines, with, outline_list}
use Rattle.fx_plan.specs.Plans.{AllSuit, Suits}
use Rattle.fx_plan.specs.QueryExpressions.{along, are_constant, patterns_behind, beside, call_pattern, called_with_one, called_with_two, column_number, column_of, comparison_pattern, compared_with, comparison_by, filter_sketch, is_barred, is_constant, is_falling, is_of, negated, only_of, pattern_by, pattern_of, patterns_of, plain_column, sketch_of, sorted, sorted_by, flipped, table_sketch, with_constant, is_row}
use Rattle.fx_plan.specs.Ranges.{Compares, column_type}
use Rattle.fx_semantics.specs.Sound.{AreFit, AreLawfulTypings}
use Rattle.fx_semantics.proofs.Branches.{differs}
use Rattle.fx_core.specs.declared.functions.Form.{Form}
use Rattle.fx_core.specs.declared.functions.Form.TheVariants as form
use Rattle.fx_core.specs.declared.functions.Fun.{Fun}
use Rattle.fx_core.specs.declared.functions.Fun.TheVariants as fun
use Rattle.fx_core.specs.declared.literals.SortOrder.{SortOrder}
use Rattle.fx_core.specs.declared.rows.Answer.{Answer}
use Rattle.fx_core.specs.declared.rows.Answer.TheVariants as answer
use Rattle.fx_core.specs.declared.rows.Row.{Row}
use Rattle.fx_core.specs.declared.rows.Scalar.{Scalar}
use Rattle.fx_core.specs.declared.rows.Scalar.TheVariants.{Number, Text, Boolean, Date}
use Rattle.fx_core.specs.declared.rows.Takes.{Takes}
use Rattle.fx_core.specs.declared.rows.Takes.TheVariants as takes
use Rattle.fx_core.specs.declared.schema.Column.{Column}
use Rattle.fx_core.specs.declared.schema.TableShape.{TableShape}
use Rattle.fx_core.specs.declared.sources.Source.TheVariants as source
use Rattle.fx_core.specs.Lawful.{IsLawfulTable, id_name}
use Rattle.fx_core.specs.Rows.{form_row, row_of, shape_of, takes_at, two}
use Rattle.fx_core.specs.SourceTypes.{columns_of}
use Rattle.fx_core.specs.Term.{Term, Terms, of, nil, cons, Top}
use Rattle.fx_core.specs.Term as top
use Rattle.fx_typing.specs.Acts.{acts, any_acts, is_acting}
use Rattle.fx_typing.specs.WellTyped.{AllStand, AreTyped, Context, PartScope, Stands, answered_type, context_for, first_type, inside, typed_pairs, parts_count, plain, row_type, standing_at, standing_of}
use Rattle.fx_value.specs.Fits.{fits_in}
use Rattle.fx_plan.specs.Constants.{HasType, HaveTypes, ReadsTables, SketchesCanPlan, in_row}

-- ---- options

pub some_then : {A B : Type 0} (f : A → Option B) (o : Option A) (b : B) → option_and_then f o ≡ Some b → (a : A) × (o ≡ Some a) × (f a ≡ Some b)
some_then f None b e = absurd cc
some_then f (Some a) b e = (a, refl, e)

pub some_map : {A B : Type 0} (f : A → B) (o : Option A) (b : B) → option_map f o ≡ Some b → (a : A) × (o ≡ Some a) × (f a ≡ b)
some_map f None b e = absurd cc
some_map f (Some a) b e = (a, refl, same_Some (f a) b e)

pub some_if : {A : Type 0} (b : Bool) (a c : A) → (if b then Some a else None) ≡ Some c → (b ≡ true) × (a ≡ c)
some_if true a c e = (refl, same_Some a c e)
some_if false a c e = absurd cc

-- what is turned round keeps its constants
pub negated_same : (p : List Outline × List Term) (o : Outline) (es : List Term) → negated p ≡ Some (o, es) → p.1 ≡ es
negated_same ([], ds) o es e = absurd cc
negated_same (x ∷ [], ds) o es e = ap (λ p. p.1) (same_Some (opposite x, ds) (o, es) e)
negated_same (x ∷ y ∷ xs, ds) o es e = absurd cc

-- ---- constants that are kept

pub not_barred : (b c : Bool) → (not b && c) ≡ true → b ≡ false
not_barred true c e = absurd cc
not_barred false c e = refl

never_acts : (k : ℕ) (h : Top) → is_barred k h ≡ false → is_acting h ≡ false
never_acts k top.chain e = absurd cc
never_acts k (top.act d) e = absurd cc
never_acts k h e = refl

mutual
  pub constant_quiet : (k : ℕ) (c : Term) → is_constant k c ≡ true → acts c ≡ false
  constant_quiet k (of h cs) e =
      or_from (is_acting h) (any_acts cs) (never_acts k h (not_barred (is_barred k h) (are_constant k cs) e)) (constants_quiet k cs (second_so (not (is_barred k h)) (are_constant k cs) e))

  constants_quiet : (k : ℕ) (cs : Terms) → are_constant k cs ≡ true → any_acts cs ≡ false
  constants_quiet k nil e = refl
  constants_quiet k (cons c cs) e =
      or_from (acts c) (any_acts cs) (constant_quiet k c (first_so (is_constant k c) (are_constant k cs) e)) (constants_quiet k cs (second_so (is_constant k c) (are_constant k cs) e))

-- ---- the type that stands at each place of a pattern

abbrev mutual
  pub IsPlaced : TableShape → List Shape → Outline → Type 0
  IsPlaced t us always = Unit {0}
  IsPlaced t us (flag k) = column_type t k ≡ Some booleans
  IsPlaced t us (constant i) = slice_get us i ≡ Some booleans
  IsPlaced t us (compares op k i) = (u : Shape) × (column_type t k ≡ Some u) × Compares op u × (slice_get us i ≡ Some u)
  IsPlaced t us (is_blank k) = (u : Shape) × (column_type t k ≡ Some u)
  IsPlaced t us (starts k i) = (column_type t k ≡ Some texts) × (slice_get us i ≡ Some texts)
  IsPlaced t us (contains k i) = (column_type t k ≡ Some texts) × (slice_get us i ≡ Some texts)
  IsPlaced t us (all_of os) = ArePlaced t us os
  IsPlaced t us (any_of os) = ArePlaced t us os
  IsPlaced t us (opposite o) = IsPlaced t us o

  pub ArePlaced : TableShape → List Shape → OutlineList → Type 0
  ArePlaced t us no_outlines = Unit {0}
  ArePlaced t us (with o os) = IsPlaced t us o × ArePlaced t us os

pub got_more : {A : Type 0} (xs ys : List A) (i : ℕ) (x : A) → slice_get xs i ≡ Some x → slice_get (xs ++ ys) i ≡ Some x
got_more [] ys i x e = absurd cc
got_more (z ∷ xs) ys zero x e = e
got_more (z ∷ xs) ys (suc i) x e = got_more xs ys i x e

pub got_last : {A : Type 0} (xs : List A) (x : A) → slice_get (xs ++ x ∷ []) (length xs) ≡ Some x
got_last [] x = refl
got_last (z ∷ xs) x = got_last xs x

mutual
  placed_more : (t : TableShape) (us vs : List Shape) (o : Outline) → IsPlaced t us o → IsPlaced t (us ++ vs) o
  placed_more t us vs always p = tt
  placed_more t us vs (flag k) p = p
  placed_more t us vs (constant i) p = got_more us vs i booleans p
  placed_more t us vs (compares op k i) p = (p.0, p.1, p.2, got_more us vs i p.0 p.3)
  placed_more t us vs (is_blank k) p = p
  placed_more t us vs (starts k i) p = (p.0, got_more us vs i texts p.1)
  placed_more t us vs (contains k i) p = (p.0, got_more us vs i texts p.1)
  placed_more t us vs (all_of os) p = all_placed_more t us vs os p
  placed_more t us vs (any_of os) p = all_placed_more t us vs os p
  placed_more t us vs (opposite o) p = placed_more t us vs o p

  all_placed_more : (t : TableShape) (us vs : List Shape) (os : OutlineList) → ArePlaced t us os → ArePlaced t (us ++ vs) os
  all_placed_more t us vs no_outlines p = tt
  all_placed_more t us vs (with o os) p = (placed_more t us vs o p.0, all_placed_more t us vs os p.1)

-- values that fit these types suit a pattern
there_fits : (ds : List Data) (us : List Shape) (i : ℕ) (u : Shape) → AreFit ds us → slice_get us i ≡ Some u → (fits_in (constant_at ds i) u ≡ true) × (i < length ds)
there_fits [] [] i u f e = absurd cc
there_fits [] (w ∷ us) i u f e = absurd f
there_fits (d ∷ ds) [] i u f e = absurd f
there_fits (d ∷ ds) (w ∷ us) zero u f e = (subst (λ (z : Shape). fits_in d z ≡ true) (same_Some w u e) f.0, omega arith)
there_fits (d ∷ ds) (w ∷ us) (suc i) u f e = let r = there_fits ds us i u f.1 e in (r.0, omega (arith, r.1))

mutual
  pub placed_suits : (t : TableShape) (ds : List Data) (us : List Shape) (o : Outline) → AreFit ds us → IsPlaced t us o → Suits t (filled ds o)
  placed_suits t ds us always f p = tt
  placed_suits t ds us (flag k) f p = p
  placed_suits t ds us (constant i) f p = (there_fits ds us i booleans f p).0
  placed_suits t ds us (compares op k i) f p = (p.0, p.1, p.2, (there_fits ds us i p.0 f p.3).0)
  placed_suits t ds us (is_blank k) f p = p
  placed_suits t ds us (starts k i) f p = (p.0, (there_fits ds us i texts f p.1).0)
  placed_suits t ds us (contains k i) f p = (p.0, (there_fits ds us i texts f p.1).0)
  placed_suits t ds us (all_of os) f p = all_placed_suit t ds us os f p
  placed_suits t ds us (any_of os) f p = all_placed_suit t ds us os f p
  placed_suits t ds us (opposite o) f p = placed_suits t ds us o f p

  all_placed_suit : (t : TableShape) (ds : List Data) (us : List Shape) (os : OutlineList) → AreFit ds us → ArePlaced t us os → AllSuit t (all_filled ds os)
  all_placed_suit t ds us no_outlines f p = tt
  all_placed_suit t ds us (with o os) f p = (placed_suits t ds us o f p.0, all_placed_suit t ds us os f p.1)

mutual
  pub placed_within : (t : TableShape) (ds : List Data) (us : List Shape) (o : Outline) → AreFit ds us → IsPlaced t us o → IsWithin (length ds) o
  placed_within t ds us always f p = tt
  placed_within t ds us (flag k) f p = tt
  placed_within t ds us (constant i) f p = (there_fits ds us i booleans f p).1
  placed_within t ds us (compares op k i) f p = (there_fits ds us i p.0 f p.3).1
  placed_within t ds us (is_blank k) f p = tt
  placed_within t ds us (starts k i) f p = (there_fits ds us i texts f p.1).1
  placed_within t ds us (contains k i) f p = (there_fits ds us i texts f p.1).1
  placed_within t ds us (all_of os) f p = all_placed_within t ds us os f p
  placed_within t ds us (any_of os) f p = all_placed_within t ds us os f p
  placed_within t ds us (opposite o) f p = placed_within t ds us o f p

  all_placed_within : (t : TableShape) (ds : List Data) (us : List Shape) (os : OutlineList) → AreFit ds us → ArePlaced t us os → AreWithin (length ds) os
  all_placed_within t ds us no_outlines f p = tt
  all_placed_within t ds us (with o os) f p = (placed_within t ds us o f p.0, all_placed_within t ds us os f p.1)

-- ---- constants with their types

typed_more : (c : Context) (ds : List Term) (us : List Shape) (d : Term) (u : Shape) → HaveTypes c ds us → HasType c d u → acts d ≡ false → HaveTypes c (ds ++ d ∷ []) (us ++ u ∷ [])
typed_more c [] [] d u h t q = (t, q, tt)
typed_more c (e ∷ ds) (v ∷ us) d u h t q = (h.0, h.1, typed_more c ds us d u h.2 t q)
typed_more c [] (v ∷ us) d u h t q = absurd h
typed_more c (e ∷ ds) [] d u h t q = absurd h

so_many : (c : Context) (ds : List Term) (us : List Shape) → HaveTypes c ds us → length ds ≡ length us
so_many c [] [] h = refl
so_many c (d ∷ ds) (u ∷ us) h = ap suc (so_many c ds us h.2)
so_many c [] (u ∷ us) h = absurd h
so_many c (d ∷ ds) [] h = absurd h

pub fit_many : (ds : List Data) (us : List Shape) → AreFit ds us → length ds ≡ length us
fit_many [] [] h = refl
fit_many (d ∷ ds) (u ∷ us) h = ap suc (fit_many ds us h.1)
fit_many [] (u ∷ us) h = absurd h
fit_many (d ∷ ds) [] h = absurd h

-- a pattern that is made with constants so far, of these types
pub record IsMade (t : TableShape) (c : Context) (us : List Shape) (o : Outline) (es : List Term) : Type 0 where
  pub more : List Shape
  pub typed : HaveTypes c es (us ++ more)
  pub placed : IsPlaced t (us ++ more) o

pub record AreMade (t : TableShape) (c : Context) (us : List Shape) (os : List Outline) (es : List Term) : Type 0 where
  pub more : List Shape
  pub typed : HaveTypes c es (us ++ more)
  pub placed : ArePlaced t (us ++ more) (outline_list os)

-- a test of a constant that is kept
kept_made : (t : TableShape) (c : Context) (us : List Shape) (ds : List Term) (f : ℕ → Outline) (x : Term) (u : Shape) (o : Outline) (es : List Term) →
    HaveTypes c ds us → HasType c x u → acts x ≡ false → ((vs : List Shape) (i : ℕ) → slice_get vs i ≡ Some u → IsPlaced t vs (f i)) →
    with_constant f x ds ≡ (o, es) → IsMade t c us o es
kept_made t c us ds f x u o es h k q place e =
    let there : slice_get (us ++ u ∷ []) (length ds) ≡ Some u = subst (λ (n : ℕ). slice_get (us ++ u ∷ []) n ≡ Some u) (sym (so_many c ds us h)) (got_last us u) in
    record {
      more = u ∷ [];
      typed = subst (λ (xs : List Term). HaveTypes c xs (us ++ u ∷ [])) (ap (λ p. p.1) e) (typed_more c ds us x u h k q);
      placed = subst (IsPlaced t (us ++ u ∷ [])) (ap (λ p. p.0) e) (place (us ++ u ∷ []) (length ds) there);
    }

-- a test of columns alone
bare_made : (t : TableShape) (c : Context) (us : List Shape) (ds : List Term) (o : Outline) (es : List Term) → HaveTypes c ds us → ds ≡ es → ((vs : List Shape) → IsPlaced t vs o) → IsMade t c us o es
bare_made t c us ds o es h e p =
    record { more = []; typed = subst (λ (xs : List Term). HaveTypes c xs (us ++ [])) e (subst (HaveTypes c ds) (sym (nothing us)) h); placed = p (us ++ []) }
  where
    nothing : (vs : List Shape) → vs ++ [] ≡ vs
    nothing [] = refl
    nothing (v ∷ vs) = ap (λ xs. v ∷ xs) (nothing vs)

-- ---- columns

own_type : (s : Scalar) (o : Option Shape) → is_of s o ≡ true → o ≡ Some (shape_of s)
own_type Number (Some numbers) e = refl
own_type Text (Some texts) e = refl
own_type Boolean (Some booleans) e = refl
own_type Date (Some dates) e = refl
own_type s o e = absurd cc

pub column_typed : (t : TableShape) (k : ℕ) (s : Scalar) (x : Term) (i : ℕ) → column_of t k s x ≡ Some i → (plain_column t k x ≡ Some i) × (column_type t i ≡ Some (shape_of s))
column_typed t k s x i e =
    let m = some_then (only_of t s) (plain_column t k x) i e in
    let o = some_if (is_of s (column_type t m.0)) m.0 i m.2 in
    let P : ℕ → Type 0 = λ j. (plain_column t k x ≡ Some j) × (column_type t j ≡ Some (shape_of s)) in
    subst P o.1 (m.1, own_type s (column_type t m.0) o.0)

placed_at : (cs : List Column) (n : List ℕ) (i : ℕ) → position (λ (c : Column). bytes_eq c.name n) cs ≡ Some i → i < length cs
placed_at [] n i e = absurd cc
placed_at (c ∷ cs) n i e = (position-Some (λ (d : Column). bytes_eq d.name n) (c ∷ cs) i c e).0

pub named_within : (t : TableShape) (n : List ℕ) (i : ℕ) → column_number t n ≡ Some i → i ≤ length t.columns
named_within t n i e = by (bytes_eq n id_name) e
  where
    by : (b : Bool) → (if b then Some 0 else option_map suc (position (λ (c : Column). bytes_eq c.name n) t.columns)) ≡ Some i → i ≤ length t.columns
    by true q = let z : 0 ≡ i = same_Some 0 i q in omega (arith, z)
    by false q = let m = some_map suc (position (λ (c : Column). bytes_eq c.name n) t.columns) i q in let l = placed_at t.columns n m.0 m.1 in let z = m.2 in omega (arith, l, z)

-- a column is one of the row of this scope, by its name
pub record IsColumn (t : TableShape) (k : ℕ) (x : Term) (i : ℕ) : Type 0 where
  pub name : List ℕ
  pub is : x ≡ of (top.dot name) (cons (of (top.row k) nil) nil)
  pub named : column_number t name ≡ Some i

row_there : (k : ℕ) (x : Term) → is_row k x ≡ true → x ≡ of (top.row k) nil
row_there k (of (top.row j) nil) e = let same : j ≡ k = eqb-true j k e in ap (λ n. of (top.row n) nil) same
row_there k x e = absurd cc

pub plain_is : (t : TableShape) (k : ℕ) (x : Term) (i : ℕ) → plain_column t k x ≡ Some i → IsColumn t k x i
plain_is t k (of (top.dot n) (cons x nil)) i e = by (is_row k x) refl e
  where
    by : (b : Bool) → is_row k x ≡ b → (if b then column_number t n else None) ≡ Some i → IsColumn t k (of (top.dot n) (cons x nil)) i
    by true q r = record { name = n; is = ap (λ y. of (top.dot n) (cons y nil)) (row_there k x q); named = r }
    by false q r = absurd cc
plain_is t k x i e = absurd cc

got_type : (cs : List Column) (i : ℕ) → i < length cs → (u : Shape) × (option_map (λ (c : Column). shape c.ty) (slice_get cs i) ≡ Some u)
got_type [] i l = absurd (omega (arith, l))
got_type (c ∷ cs) zero l = (shape c.ty, refl)
got_type (c ∷ cs) (suc i) l = got_type cs i (omega (arith, l))

pub any_type : (t : TableShape) (i : ℕ) → i ≤ length t.columns → (u : Shape) × (column_type t i ≡ Some u)
any_type t zero l = (numbers, refl)
any_type t (suc i) l = got_type t.columns i (omega (arith, l))

-- ---- parts of one type

-- parts of this type
abbrev pub AllOf : Context → Shape → Terms → Type 0
AllOf c u nil = Unit {0}
AllOf c u (cons x xs) = HasType c x u × AllOf c u xs

-- parts where the whole stands, at places of this type
same_parts : (c : Context) (h : Top) (r : Row) (s : Scalar) → ((n i : ℕ) → standing_at h n i ≡ plain) → ((n i : ℕ) → takes_at r n i ≡ takes.Scalar s) →
    (n m i : ℕ) (first common : Shape) (cs : Terms) (done us : List Shape) → (w : AreTyped c h n done cs us) → AreLawfulTypings c h n done cs us w →
    AllStand r m i first common us → AllOf c (shape_of s) cs
same_parts c h r s p q n m i first common nil done us w l a = tt
same_parts c h r s p q n m i first common (cons x xs) done us w l a =
    let at : AllStand r m i first common (w.0 ∷ w.1) = subst (AllStand r m i first common) w.2 a in
    let own : w.0 ≡ shape_of s = subst (λ (k : Takes). Stands k first common w.0) (q m i) at.0 in
    let typed : HasType (context_for (standing_at h n (length done)) c done) x w.0 = (w.3, l.0) in (
      subst (HasType c x) own (subst (λ (z : PartScope). HasType (context_for z c done) x w.0) (p n (length done)) typed),
      same_parts c h r s p q n m (suc i) first common xs (done ++ w.0 ∷ []) w.1 w.4 l.1 at.1,
    )

pub same_inner : (a b d : Bool) (k : Takes) → (if a then k else (if b then k else (if d then k else k))) ≡ k
same_inner true b d k = refl
same_inner false true d k = refl
same_inner false false true k = refl
same_inner false false false k = refl

condition_at : (f : Form) (n i : ℕ) → takes_at (form_row form.All) n i ≡ takes.Scalar Boolean
condition_at f n i = same_inner (nat_eq i 0) (nat_eq i 1) (nat_eq (i % 2) 0) (takes.Scalar Boolean)

all_parts : (c : Context) (cs : Terms) (u : Shape) → HasType c (of (top.form form.All) cs) u → AllOf c booleans cs
all_parts c cs u h =
    same_parts c (top.form form.All) (form_row form.All) Boolean (λ n i. ap standing_of (condition_at form.All n i)) (condition_at form.All)
    (parts_count cs) (length h.0.0) 0 (first_type h.0.0) h.0.2.1 cs [] h.0.0 h.0.1 h.1.1 h.0.2.2

any_parts : (c : Context) (cs : Terms) (u : Shape) → HasType c (of (top.form form.Any) cs) u → AllOf c booleans cs
any_parts c cs u h =
    same_parts c (top.form form.Any) (form_row form.Any) Boolean (λ n i. ap standing_of (condition_at form.Any n i)) (condition_at form.Any)
    (parts_count cs) (length h.0.0) 0 (first_type h.0.0) h.0.2.1 cs [] h.0.0 h.0.1 h.1.1 h.0.2.2

not_parts : (c : Context) (cs : Terms) (u : Shape) → HasType c (of (top.call fun.Not) cs) u → AllOf c booleans cs
not_parts c cs u h =
    let at : (n i : ℕ) → takes_at (row_of fun.Not) n i ≡ takes.Scalar Boolean = condition_at form.All in
    same_parts c (top.call fun.Not) (row_of fun.Not) Boolean (λ n i. ap standing_of (at n i)) at
    (parts_count cs) (length h.0.0) 0 (first_type h.0.0) h.0.2.1.1 cs [] h.0.0 h.0.1 h.1.1 h.0.2.1.2

-- the parts of a call of two scalars of one type
pub two_at : (s : Scalar) (n i : ℕ) → takes_at (two s s Boolean) n i ≡ takes.Scalar s
two_at s n i = same_inner (nat_eq i 0) (nat_eq i 1) (nat_eq (i % 2) 0) (takes.Scalar s)

pair_parts : (c : Context) (f : Fun) (s : Scalar) (cs : Terms) (u : Shape) → row_of f ≡ two s s Boolean → HasType c (of (top.call f) cs) u → AllOf c (shape_of s) cs
pair_parts c f s cs u e h =
    let at : (n i : ℕ) → takes_at (row_of f) n i ≡ takes.Scalar s = λ n i. subst (λ (x : Row). takes_at x n i ≡ takes.Scalar s) (sym e) (two_at s n i) in
    same_parts c (top.call f) (row_of f) s (λ n i. ap standing_of (at n i)) at
    (parts_count cs) (length h.0.0) 0 (first_type h.0.0) h.0.2.1.1 cs [] h.0.0 h.0.1 h.1.1 h.0.2.1.2

-- ---- conditions

-- what a function compares, and by what
pub record Comparing (f : Fun) (op : Cmp) (s : Scalar) : Type 0 where
  pub row : row_of f ≡ two s s Boolean
  pub ahead : Compares op (shape_of s)
  pub behind : Compares (flipped op) (shape_of s)

abbrev OfComparison : Fun → Option (Cmp × Scalar) → Type 0
OfComparison f None = Unit {0}
OfComparison f (Some p) = Comparing f p.0 p.1

compares_so : (f : Fun) → OfComparison f (comparison_by f)
compares_so fun.EqualNumbers = record { row = refl; ahead = tt; behind = tt }
compares_so fun.EqualTexts = record { row = refl; ahead = tt; behind = tt }
compares_so fun.EqualBooleans = record { row = refl; ahead = tt; behind = tt }
compares_so fun.EqualDates = record { row = refl; ahead = tt; behind = tt }
compares_so fun.UnequalNumbers = record { row = refl; ahead = tt; behind = tt }
compares_so fun.UnequalTexts = record { row = refl; ahead = tt; behind = tt }
compares_so fun.UnequalBooleans = record { row = refl; ahead = tt; behind = tt }
compares_so fun.UnequalDates = record { row = refl; ahead = tt; behind = tt }
compares_so fun.LessNumbers = record { row = refl; ahead = tt; behind = tt }
compares_so fun.LessDates = record { row = refl; ahead = tt; behind = tt }
compares_so fun.LessEqualNumbers = record { row = refl; ahead = tt; behind = tt }
compares_so fun.LessEqualDates = record { row = refl; ahead = tt; behind = tt }
compares_so fun.GreaterNumbers = record { row = refl; ahead = tt; behind = tt }
compares_so fun.GreaterDates = record { row = refl; ahead = tt; behind = tt }
compares_so fun.GreaterEqualNumbers = record { row = refl; ahead = tt; behind = tt }
compares_so fun.GreaterEqualDates = record { row = refl; ahead = tt; behind = tt }
compares_so f = tt

-- a column beside a constant
beside_is : (t : TableShape) (k : ℕ) (s : Scalar) (a b : Term) (i : ℕ) → beside t k s a b ≡ Some i → (is_constant k b ≡ true) × (column_of t k s a ≡ Some i)
beside_is t k s a b i e = by (is_constant k b) refl e
  where
    by : (x : Bool) → is_constant k b ≡ x → (if x then column_of t k s a else None) ≡ Some i → (is_constant k b ≡ true) × (column_of t k s a ≡ Some i)
    by true q r = (q, r)
    by false q r = absurd cc

-- a test of a column beside a constant
beside_made : (t : TableShape) (c : Context) (k : ℕ) (us : List Shape) (ds : List Term) (s : Scalar) (f : ℕ → ℕ → Outline) (a b : Term) (o : Outline) (es : List Term) →
    HaveTypes c ds us → HasType c b (shape_of s) → ((i : ℕ) → column_type t i ≡ Some (shape_of s) → (vs : List Shape) (j : ℕ) → slice_get vs j ≡ Some (shape_of s) → IsPlaced t vs (f i j)) →
    option_map (λ (i : ℕ). with_constant (f i) b ds) (beside t k s a b) ≡ Some (o, es) → IsMade t c us o es
beside_made t c k us ds s f a b o es h typed place e =
    let m = some_map (λ (i : ℕ). with_constant (f i) b ds) (beside t k s a b) (o, es) e in
    let q = beside_is t k s a b m.0 m.1 in
    kept_made t c us ds (f m.0) b (shape_of s) o es h typed (constant_quiet k b q.0) (place m.0 (column_typed t k s a m.0 q.1).1) m.2

compared_made : (t : TableShape) (c : Context) (k : ℕ) (us : List Shape) (ds : List Term) (op : Cmp) (s : Scalar) (a b : Term) (o : Outline) (es : List Term) →
    HaveTypes c ds us → HasType c b (shape_of s) → Compares op (shape_of s) → compared_with t k op s a b ds ≡ Some (o, es) → IsMade t c us o es
compared_made t c k us ds op s a b o es h typed can e =
    beside_made t c k us ds s (compares op) a b o es h typed (λ i q vs j p. (shape_of s, q, can, p)) e

either_made : (t : TableShape) (c : Context) (k : ℕ) (us : List Shape) (ds : List Term) (f : Fun) (r : Option (Cmp × Scalar)) (a b : Term) (u : Shape) (o : Outline) (es : List Term) →
    OfComparison f r → HaveTypes c ds us → HasType c (of (top.call f) (cons a (cons b nil))) u → comparison_pattern t k r a b ds ≡ Some (o, es) → IsMade t c us o es
either_made t c k us ds f None a b u o es g h typed e = absurd cc
either_made t c k us ds f (Some p) a b u o es g h typed e = by (is_constant k b) e
  where
    parts : AllOf c (shape_of p.1) (cons a (cons b nil))
    parts = pair_parts c f p.1 (cons a (cons b nil)) u g.row typed

    by : (x : Bool) → (if x then compared_with t k p.0 p.1 a b ds else compared_with t k (flipped p.0) p.1 b a ds) ≡ Some (o, es) → IsMade t c us o es
    by true q = compared_made t c k us ds p.0 p.1 a b o es h parts.1.0 g.ahead q
    by false q = compared_made t c k us ds (flipped p.0) p.1 b a o es h parts.0 g.behind q

pair_made : (t : TableShape) (c : Context) (k : ℕ) (us : List Shape) (ds : List Term) (f : Fun) (a b : Term) (u : Shape) (o : Outline) (es : List Term) →
    HaveTypes c ds us → HasType c (of (top.call f) (cons a (cons b nil))) u → called_with_two t k f a b ds ≡ Some (o, es) → IsMade t c us o es
pair_made t c k us ds fun.StartsWith a b u o es h typed e =
    let parts : AllOf c texts (cons a (cons b nil)) = pair_parts c fun.StartsWith Text (cons a (cons b nil)) u refl typed in
    beside_made t c k us ds Text starts a b o es h parts.1.0 (λ i q vs j p. (q, p)) e
pair_made t c k us ds fun.In a b u o es h typed e =
    let parts : AllOf c texts (cons a (cons b nil)) = pair_parts c fun.In Text (cons a (cons b nil)) u refl typed in
    beside_made t c k us ds Text contains b a o es h parts.0 (λ i q vs j p. (q, p)) e
pair_made t c k us ds f a b u o es h typed e = either_made t c k us ds f (comparison_by f) a b u o es (compares_so f) h typed e

-- a test of one column
blank_made : (t : TableShape) (c : Context) (k : ℕ) (us : List Shape) (ds : List Term) (x : Term) (o : Outline) (es : List Term) →
    HaveTypes c ds us → along ds (option_map is_blank (plain_column t k x)) ≡ Some (o, es) → IsMade t c us o es
blank_made t c k us ds x o es h e =
    let Beside : Outline → Outline × List Term = λ p. (p, ds) in
    let m = some_map Beside (option_map is_blank (plain_column t k x)) (o, es) e in
    let n = some_map is_blank (plain_column t k x) m.0 m.1 in
    let l = plain_is t k x n.0 n.1 in
    let own : is_blank n.0 ≡ o = n.2 ∙ ap (λ p. p.0) m.2 in
    bare_made t c us ds o es h (ap (λ p. p.1) m.2) (λ vs. subst (IsPlaced t vs) own (any_type t n.0 (named_within t l.name n.0 l.named)))

single_made : (t : TableShape) (c : Context) (k : ℕ) (us : List Shape) (ds : List Term) (f : Fun) (x : Term) (o : Outline) (es : List Term) →
    HaveTypes c ds us → called_with_one t k f x ds ≡ Some (o, es) → IsMade t c us o es
single_made t c k us ds fun.IsBlank x o es h e = blank_made t c k us ds x o es h e
single_made t c k us ds f x o es h e = absurd cc

call_made : (t : TableShape) (c : Context) (k : ℕ) (us : List Shape) (ds : List Term) (f : Fun) (cs : Terms) (u : Shape) (o : Outline) (es : List Term) →
    HaveTypes c ds us → HasType c (of (top.call f) cs) u → call_pattern t k f cs ds ≡ Some (o, es) → IsMade t c us o es
call_made t c k us ds f nil u o es h typed e = absurd cc
call_made t c k us ds f (cons x nil) u o es h typed e = single_made t c k us ds f x o es h e
call_made t c k us ds f (cons a (cons b nil)) u o es h typed e = pair_made t c k us ds f a b u o es h typed e
call_made t c k us ds f (cons a (cons b (cons x xs))) u o es h typed e = absurd cc

flag_made : (t : TableShape) (c : Context) (k : ℕ) (us : List Shape) (ds : List Term) (x : Term) (o : Outline) (es : List Term) →
    HaveTypes c ds us → along ds (option_map flag (column_of t k Boolean x)) ≡ Some (o, es) → IsMade t c us o es
flag_made t c k us ds x o es h e =
    let Beside : Outline → Outline × List Term = λ p. (p, ds) in
    let m = some_map Beside (option_map flag (column_of t k Boolean x)) (o, es) e in
    let n = some_map flag (column_of t k Boolean x) m.0 m.1 in
    let own : flag n.0 ≡ o = n.2 ∙ ap (λ p. p.0) m.2 in
    bare_made t c us ds o es h (ap (λ p. p.1) m.2) (λ vs. subst (IsPlaced t vs) own (column_typed t k Boolean x n.0 n.1).1)

negated_made : (t : TableShape) (c : Context) (us : List Shape) (p : List Outline × List Term) (o : Outline) (es : List Term) →
    AreMade t c us p.0 p.1 → negated p ≡ Some (o, es) → IsMade t c us o es
negated_made t c us ([], ds) o es m e = absurd cc
negated_made t c us (x ∷ [], ds) o es m e =
    let own : (opposite x, ds) ≡ (o, es) = same_Some (opposite x, ds) (o, es) e in
    record {
      more = m.more;
      typed = subst (λ (xs : List Term). HaveTypes c xs (us ++ m.more)) (ap (λ q. q.1) own) m.typed;
      placed = subst (IsPlaced t (us ++ m.more)) (ap (λ q. q.0) own) m.placed.0;
    }
negated_made t c us (x ∷ y ∷ xs, ds) o es m e = absurd cc

-- a pattern in front of others
abbrev pub in_front : Outline → List Outline × List Term → List Outline × List Term
in_front o p = (o ∷ p.0, p.1)

-- patterns under what joins them
abbrev pub joined : (OutlineList → Outline) → List Outline × List Term → Outline × List Term
joined f p = (f (outline_list p.0), p.1)

abbrev Same : Outline × List Term → Outline × List Term → Type 0
Same p q = p ≡ q

joined_made : (t : TableShape) (c : Context) (us : List Shape) (f : OutlineList → Outline) → ((vs : List Shape) (os : OutlineList) → ArePlaced t vs os → IsPlaced t vs (f os)) →
    (p : List Outline × List Term) (o : Outline) (es : List Term) → AreMade t c us p.0 p.1 → Same (f (outline_list p.0), p.1) (o, es) → IsMade t c us o es
joined_made t c us f g p o es m e = record {
  more = m.more;
  typed = subst (λ (xs : List Term). HaveTypes c xs (us ++ m.more)) (ap (λ q. q.1) e) m.typed;
  placed = subst (IsPlaced t (us ++ m.more)) (ap (λ q. q.0) e) (g (us ++ m.more) (outline_list p.0) m.placed);
}

assoc : (us vs ws : List Shape) → (us ++ vs) ++ ws ≡ us ++ (vs ++ ws)
assoc [] vs ws = refl
assoc (u ∷ us) vs ws = ap (λ xs. u ∷ xs) (assoc us vs ws)

mutual
  pub pattern_made : (t : TableShape) (c : Context) (k : ℕ) (us : List Shape) (x : Term) (ds : List Term) (o : Outline) (es : List Term) →
      HaveTypes c ds us → HasType c x booleans → pattern_of t k x ds ≡ Some (o, es) → IsMade t c us o es
  pattern_made t c k us (of h cs) ds o es typed own e =
      by (is_constant k (of h cs)) refl (λ os fs parts q. patterns_made t c k us cs ds os fs typed parts q) e
    where
      Go : Type 0
      Go = (os : List Outline) (fs : List Term) → AllOf c booleans cs → patterns_of t k cs ds ≡ Some (os, fs) → AreMade t c us os fs

      owned : (g : Top) → g ≡ h → HasType c (of g cs) booleans
      owned g q = subst (λ (x : Top). HasType c (of x cs) booleans) (sym q) own

      heads : (g : Top) → g ≡ h → Go → pattern_by t k g cs ds (patterns_of t k cs ds) ≡ Some (o, es) → IsMade t c us o es
      heads (top.form form.All) q go r =
          let m = some_map (joined all_of) (patterns_of t k cs ds) (o, es) r in
          joined_made t c us all_of (λ vs os p. p) m.0 o es (go m.0.0 m.0.1 (all_parts c cs booleans (owned (top.form form.All) q)) m.1) m.2
      heads (top.form form.Any) q go r =
          let m = some_map (joined any_of) (patterns_of t k cs ds) (o, es) r in
          joined_made t c us any_of (λ vs os p. p) m.0 o es (go m.0.0 m.0.1 (any_parts c cs booleans (owned (top.form form.Any) q)) m.1) m.2
      heads (top.call fun.Not) q go r =
          let m = some_then negated (patterns_of t k cs ds) (o, es) r in
          negated_made t c us m.0 o es (go m.0.0 m.0.1 (not_parts c cs booleans (owned (top.call fun.Not) q)) m.1) m.2
      heads (top.call f) q go r = call_made t c k us ds f cs booleans o es typed (owned (top.call f) q) r
      heads (top.dot n) q go r = flag_made t c k us ds (of (top.dot n) cs) o es typed r
      heads g q go r = absurd cc

      by : (b : Bool) → is_constant k (of h cs) ≡ b → Go → (if b then Some (with_constant constant (of h cs) ds) else pattern_by t k h cs ds (patterns_of t k cs ds)) ≡ Some (o, es) → IsMade t c us o es
      by true q go r =
          kept_made t c us ds constant (of h cs) booleans o es typed own (constant_quiet k (of h cs) q) (λ vs i p. p) (same_Some (with_constant constant (of h cs) ds) (o, es) r)
      by false q go r = heads h refl go r

  pub patterns_made : (t : TableShape) (c : Context) (k : ℕ) (us : List Shape) (xs : Terms) (ds : List Term) (os : List Outline) (es : List Term) →
      HaveTypes c ds us → AllOf c booleans xs → patterns_of t k xs ds ≡ Some (os, es) → AreMade t c us os es
  patterns_made t c k us nil ds os es typed own e =
      let q : ([], ds) ≡ (os, es) = same_Some ([], ds) (os, es) e in
      let m = bare_made t c us ds always es typed (ap (λ p. p.1) q) (λ vs. tt) in
      record { more = m.more; typed = m.typed; placed = subst (λ (p : List Outline). ArePlaced t (us ++ m.more) (outline_list p)) (ap (λ p. p.0) q) tt }
  patterns_made t c k us (cons x xs) ds os es typed own e =
      let m = some_then (λ (p : Outline × List Term). option_map (in_front p.0) (patterns_of t k xs p.1)) (pattern_of t k x ds) (os, es) e in
      let n = some_map (in_front m.0.0) (patterns_of t k xs m.0.1) (os, es) m.2 in
      let one = pattern_made t c k us x ds m.0.0 m.0.1 typed own.0 m.1 in
      let others = patterns_made t c k (us ++ one.more) xs m.0.1 n.0.0 n.0.1 one.typed own.1 n.1 in
      let all = one.more ++ others.more in
      let same = assoc us one.more others.more in
      record {
        more = all;
        typed = subst (λ (ys : List Term). HaveTypes c ys (us ++ all)) (ap (λ p. p.1) n.2) (subst (HaveTypes c n.0.1) same others.typed);
        placed = subst (λ (ps : List Outline). ArePlaced t (us ++ all) (outline_list ps)) (ap (λ p. p.0) n.2)
            (subst (λ (vs : List Shape). ArePlaced t vs (outline_list (m.0.0 ∷ n.0.0))) same (placed_more t (us ++ one.more) others.more m.0.0 one.placed, others.placed));
      }

-- ---- query expressions

-- what is known of a sketch
pub record IsFound (c : Context) (ts : List TableShape) (u : Shape) (s : Sketch) : Type 0 where
  pub table : TableShape
  pub is_table : slice_get ts s.table ≡ Some table
  pub type : u ≡ tables (columns_of table)
  pub order : IfSome s.order (λ o. o.0 ≤ length table.columns)
  pub types : List Shape
  pub constants : HaveTypes (in_row c table) s.constants types
  pub placed : IsPlaced table types s.test

-- ---- a call over a table of rows

-- the table, and the formulas behind it
pub record IsOver (c : Context) (f : Fun) (q : Term) (cs : Terms) (u : Shape) : Type 0 where
  pub first : HasType c q u
  pub types : List Shape
  pub typed : AreTyped c (top.over f) (suc (parts_count cs)) (u ∷ []) cs types
  pub lawful : AreLawfulTypings c (top.over f) (suc (parts_count cs)) (u ∷ []) cs types typed
  pub common : Shape
  pub stand : AllStand (row_of f) (length (u ∷ types)) 1 u common types

abbrev pub as_answer : Shape → Result Shape ℕ
as_answer a = Ok a

pub same_answer : (a b : Shape) → as_answer a ≡ as_answer b → a ≡ b
same_answer a b e = cc

over_parts : (c : Context) (f : Fun) (q : Term) (cs : Terms) (u : Shape) → (row_of f).answer ≡ answer.Same → ((n : ℕ) → standing_at (top.over f) n 0 ≡ plain) →
    HasType c (of (top.over f) (cons q cs)) u → IsOver c f q cs u
over_parts c f q cs u same p h =
    let n = suc (parts_count cs) in
    let w = h.0.1 in
    let common = h.0.2.1.1 in
    let told : answered_type (row_of f).answer common (typed_pairs (cons q cs) (w.0 ∷ w.1)) ≡ as_answer u = subst (λ (us : List Shape). answered_type (row_of f).answer common (typed_pairs (cons q cs) us) ≡ as_answer u) w.2 h.0.2.1.3 in
    let own : w.0 ≡ u = same_answer w.0 u (subst (λ (a : Answer). answered_type a common (typed_pairs (cons q cs) (w.0 ∷ w.1)) ≡ as_answer u) same told) in
    let first : HasType (context_for (standing_at (top.over f) n 0) c []) q w.0 = (w.3, h.1.1.0) in
    let here : HasType c q w.0 = subst (λ (z : PartScope). HasType (context_for z c []) q w.0) (p n) first in
    let stand : AllStand (row_of f) (length (w.0 ∷ w.1)) 0 w.0 common (w.0 ∷ w.1) = subst (λ (us : List Shape). AllStand (row_of f) (length us) 0 (first_type us) common us) w.2 h.0.2.1.2 in
    let Rest : Shape → Type 0 = λ z. (k : AreTyped c (top.over f) n (z ∷ []) cs w.1) × AreLawfulTypings c (top.over f) n (z ∷ []) cs w.1 k in
    let rest : Rest u = subst Rest own (w.4, h.1.1.1) in
    record {
      first = subst (HasType c q) own here;
      types = w.1;
      typed = rest.0;
      lawful = rest.1;
      common = common;
      stand = subst (λ (z : Shape). AllStand (row_of f) (length (z ∷ w.1)) 1 z common w.1) own stand.1;
    }

pub condition_behind : (n i : ℕ) → takes_at (row_of fun.Filter) n (suc i) ≡ takes.Formula Boolean
condition_behind n i = by (nat_eq (suc i) 0) (nat_eq (suc i) 1) (nat_eq (suc i % 2) 0) (differs (suc i) 0 (λ e. omega (arith, e)))
  where
    by : (a b d : Bool) → a ≡ false → (if a then takes.Table else (if b then takes.Formula Boolean else (if d then takes.Formula Boolean else takes.Formula Boolean))) ≡ takes.Formula Boolean
    by true b d e = absurd cc
    by false true d e = refl
    by false false true e = refl
    by false false false e = refl

-- the conditions of a filter stand in the scope of a row
conditions_inside : (c : Context) (t : TableShape) (n m i : ℕ) (u common : Shape) (cs : Terms) (done us : List Shape) → u ≡ tables (columns_of t) →
    (w : AreTyped c (top.over fun.Filter) n (u ∷ done) cs us) → AreLawfulTypings c (top.over fun.Filter) n (u ∷ done) cs us w → AllStand (row_of fun.Filter) m (suc i) u common us →
    AllOf (in_row c t) booleans cs
conditions_inside c t n m i u common nil done us e w l a = tt
conditions_inside c t n m i u common (cons x xs) done us e w l a =
    let at : AllStand (row_of fun.Filter) m (suc i) u common (w.0 ∷ w.1) = subst (AllStand (row_of fun.Filter) m (suc i) u common) w.2 a in
    let own : w.0 ≡ booleans = subst (λ (k : Takes). Stands k u common w.0) (condition_behind m i) at.0 in
    let typed : HasType (context_for (standing_at (top.over fun.Filter) n (suc (length done))) c (u ∷ done)) x w.0 = (w.3, l.0) in
    let stands : standing_at (top.over fun.Filter) n (suc (length done)) ≡ inside = ap standing_of (condition_behind n (length done)) in
    let there : HasType (record c { rows = c.rows ++ row_type u ∷ [] }) x w.0 = subst (λ (z : PartScope). HasType (context_for z c (u ∷ done)) x w.0) stands typed in (
      subst (HasType (in_row c t) x) own (subst (λ (z : Shape). HasType (record c { rows = c.rows ++ row_type z ∷ [] }) x w.0) e there),
      conditions_inside c t n m (suc i) u common xs (done ++ w.0 ∷ []) w.1 e w.4 l.1 at.1,
    )

-- ---- the three cases

same_table : (o : Option TableShape) (t u : TableShape) → o ≡ Some t → o ≡ Some u → t ≡ u
same_table o t u e f = same_Some t u (sym e ∙ f)

whole_found : (c : Context) (ts : List TableShape) (n : ℕ) (u : Shape) (s : Sketch) → ReadsTables ts c → c.sources (source.Table n) ≡ Some u → table_sketch ts n ≡ Some s → IsFound c ts u s
whole_found c ts n u s k r e =
    let m = some_map (λ (t : TableShape). record { table = n; test = always; order = None; constants = [] }) (slice_get ts n) s e in
    subst (IsFound c ts u) m.2 (record { table = m.0; is_table = m.1; type = same_Some u (tables (columns_of m.0)) (sym r ∙ k n m.0 m.1); order = tt; types = []; constants = tt; placed = tt })

filter_found : (c : Context) (ts : List TableShape) (k : ℕ) (cs : Terms) (u : Shape) (s z : Sketch) → (f : IsFound c ts u s) → AllOf (in_row c f.table) booleans cs →
    filter_sketch ts k cs s ≡ Some z → IsFound c ts u z
filter_found c ts k cs u s z f own e =
    let With : List Outline × List Term → Sketch = λ p. record s { test = all_of (outline_list p.0); constants = p.1 } in
    let m = some_then (λ (t : TableShape). option_map With (patterns_behind (s.test ∷ []) (patterns_of t k cs s.constants))) (slice_get ts s.table) z e in
    let n = some_map With (patterns_behind (s.test ∷ []) (patterns_of m.0 k cs s.constants)) z m.2 in
    let b = some_map (in_front s.test) (patterns_of m.0 k cs s.constants) n.0 n.1 in
    let same : m.0 ≡ f.table = same_table (slice_get ts s.table) m.0 f.table m.1 f.is_table in
    let made = patterns_made f.table (in_row c f.table) k f.types cs s.constants b.0.0 b.0.1 f.constants own (subst (λ (t : TableShape). patterns_of t k cs s.constants ≡ Some b.0) same b.1) in
    let found : IsFound c ts u (With (s.test ∷ b.0.0, b.0.1)) = record {
      table = f.table;
      is_table = f.is_table;
      type = f.type;
      order = f.order;
      types = f.types ++ made.more;
      constants = made.typed;
      placed = (placed_more f.table f.types made.more s.test f.placed, made.placed);
    } in
    subst (IsFound c ts u) n.2 (subst (λ (p : List Outline × List Term). IsFound c ts u (With p)) b.2 found)

sort_found : (c : Context) (ts : List TableShape) (k : ℕ) (o : SortOrder) (cs : Terms) (u : Shape) (s z : Sketch) → IsFound c ts u s → sorted ts k o cs s ≡ Some z → IsFound c ts u z
sort_found c ts k o nil u s z f e = absurd cc
sort_found c ts k o (cons x (cons y ys)) u s z f e = absurd cc
sort_found c ts k o (cons x nil) u s z f e = by (is_some s.order) e
  where
    With : ℕ → Sketch
    With i = record s { order = Some (i, is_falling o) }

    by : (b : Bool) → (if b then None else sorted_by ts k o x s) ≡ Some z → IsFound c ts u z
    by true q = absurd cc
    by false q =
        let m = some_then (λ (t : TableShape). option_map With (plain_column t k x)) (slice_get ts s.table) z q in
        let n = some_map With (plain_column m.0 k x) z m.2 in
        let l = plain_is m.0 k x n.0 n.1 in
        let same : m.0 ≡ f.table = same_table (slice_get ts s.table) m.0 f.table m.1 f.is_table in
        let within : n.0 ≤ length f.table.columns = subst (λ (t : TableShape). n.0 ≤ length t.columns) same (named_within m.0 l.name n.0 l.named) in
        subst (IsFound c ts u) n.2
        (record { table = f.table; is_table = f.is_table; type = f.type; order = within; types = f.types; constants = f.constants; placed = f.placed })

pub query_found : (c : Context) (ts : List TableShape) (q : Term) (u : Shape) (s : Sketch) → ReadsTables ts c → HasType c q u → sketch_of ts (length c.rows) q ≡ Some s → IsFound c ts u s
query_found c ts (of (top.read (source.Table n)) nil) u s k h e = whole_found c ts n u s k h.0.2 e
query_found c ts (of (top.over fun.Filter) (cons q cs)) u s k h e =
    let m = some_then (filter_sketch ts (length c.rows) cs) (sketch_of ts (length c.rows) q) s e in
    let o = over_parts c fun.Filter q cs u refl (λ n. refl) h in
    let f = query_found c ts q u m.0 k o.first m.1 in
    filter_found c ts (length c.rows) cs u m.0 s f
    (conditions_inside c f.table (suc (parts_count cs)) (length (u ∷ o.types)) 0 u o.common cs [] o.types f.type o.typed o.lawful o.stand) m.2
query_found c ts (of (top.over (fun.Sort o)) (cons q cs)) u s k h e =
    let m = some_then (sorted ts (length c.rows) o cs) (sketch_of ts (length c.rows) q) s e in
    let r = over_parts c (fun.Sort o) q cs u refl (λ n. refl) h in
    sort_found c ts (length c.rows) o cs u m.0 s (query_found c ts q u m.0 k r.first m.1) m.2
query_found c ts q u s k h e = absurd cc

-- ---- planning

pub lawful_at : (ts : List TableShape) (i : ℕ) (t : TableShape) → AllByRecursion IsLawfulTable ts → slice_get ts i ≡ Some t → IsLawfulTable t
lawful_at [] i t h e = absurd cc
lawful_at (x ∷ ts) zero t h e = subst IsLawfulTable (same_Some x t e) h.0
lawful_at (x ∷ ts) (suc i) t h e = lawful_at ts i t h.1 e

pub sketched : SketchesCanPlan
sketched c ts q u s lawful k h e =
    let f = query_found c ts q u s k h e in
    record {
      table = f.table;
      is_table = f.is_table;
      type = f.type;
      types = f.types;
      constants = f.constants;
      plans = λ ds fit. record {
        table = f.table;
        is_table = f.is_table;
        lawful = lawful_at ts s.table f.table (recursion_from_All IsLawfulTable ts lawful) f.is_table;
        has_order = f.order;
        count = fit_many ds f.types fit ∙ sym (so_many (in_row c f.table) s.constants f.types f.constants);
        within = placed_within f.table ds f.types s.test fit f.placed;
        suits = placed_suits f.table ds f.types s.test fit f.placed;
      };
    }
