-- What `With`, `Table` and `Defaults` make of well typed parts is well typed.
use Rattle.std.proofs.Common.{◌≡◌, ℕ, ◌++◌, List, [], ◌∷◌, Bool, true, false, ◌&&◌, not, nat_lt, length, bytes_eq, Result, Ok, Err, refl, ap, sym, subst, ◌∙◌, inl, inr, if◌then◌else◌}
use Rattle.std.specs.Prelude.{Option, Some, None}
use Rattle.std.proofs.lemmas.Slice.Eq.{bytes_eq-Decides}
use Rattle.std.proofs.Math.Bool.{or-false}
use Rattle.std.proofs.lemmas.List.{map_push}
use Rattle.fx_types.specs.Types.{Shape, blanks, records, tables, ColumnList, no_columns, column}
use Rattle.fx_core.specs.declared.deeds.Target.{Target}
use Rattle.fx_core.specs.declared.names.Names.{Names}
use Rattle.fx_core.specs.Term.{Term, Terms, of, nil, cons, all, within, list, coerce}
use Rattle.fx_value.specs.Fits.{fields_fit}
use Rattle.fx_core.specs.ColumnLists.{and_then, row_columns}
use Rattle.fx_typing.specs.Local.{value, coerced, by_way, put_first, join_all, firsts}
use Rattle.fx_typing.specs.Meaning.{Place, Scope}
use Rattle.fx_typing.specs.Ways.{Way, same, changed, refused, way}
use Rattle.fx_typing.specs.WellTyped.{Context, PartScope, plain, bound, AreAllOfShape, target_source, HasColumns, IsRuled, parts_count, IsTyped, AreTyped}
use Rattle.fx_typing.proofs.Rules.{Typed, seconds}
use Rattle.fx_typing.proofs.Same.{way_same}
use Rattle.fx_typing.specs.Builds.{is_bounded, bounded, rows_to, list_by, list_as, as_table_call, typed_table, as_record, with_of, blank_fields, blank_record}
use Rattle.fx_typing.specs.Calls.{defaults_of}
use Rattle.fx_typing.specs.Deeds.{by_first_name}
use Rattle.fx_typing.specs.Parts.{JudgedPart, piece, Setting, put_value, values, unless_rule}
use Rattle.fx_typing.specs.Plans.{plan_with, first_record, record_type}
use Rattle.fx_typing.specs.Targets.{AreRows, some_table, no_table, rows_named}
use Rattle.fx_typing.specs.Typing.{context_of}
use Rattle.fx_typing.proofs.Deeds.{Of, by_columns_ok, by_name_ok, has_columns}
use Rattle.fx_typing.proofs.Frame.{AllTyped}
use Rattle.fx_typing.proofs.Places.{PartsStand, flat_stood, stood}
use Rattle.fx_typing.proofs.Operators.{plainly_placed, then_ok}
use Rattle.fx_typing.proofs.RelatedSteps.{ok_is}

put_value_ok : (x : Term × Shape) (r : Result (List (Term × Shape)) ℕ) (xs : List (Term × Shape)) → put_value x r ≡ Ok xs →
    (ys : List (Term × Shape)) × (r ≡ Ok ys) × (xs ≡ x ∷ ys)
put_value_ok x (Ok ys) xs e = (ys, refl, sym cc)
put_value_ok x (Err n) xs e = absurd cc

put_first_ok : (x : Term × Shape) (r : Result (List (Term × Shape)) ℕ) (xs : List (Term × Shape)) → put_first x r ≡ Ok xs →
    (ys : List (Term × Shape)) × (r ≡ Ok ys) × (xs ≡ x ∷ ys)
put_first_ok x (Ok ys) xs e = (ys, refl, sym cc)
put_first_ok x (Err n) xs e = absurd cc

-- what keeps to a limit is what it was
pub within_limit : {A : Type 0} (b : Bool) (k : ℕ) (r : Result A ℕ) (x : A) → unless_rule b k r ≡ Ok x → r ≡ Ok x
within_limit true k (Ok y) x e = absurd cc
within_limit false k (Ok y) x e = e
within_limit {A = A} b k (Err n) x e = by_test (b && nat_lt k n) e
  where
    by_test : (t : Bool) → (if t then Err k else Err n) ≡ Ok x → ◌≡◌ {A = Result A ℕ} (Err n) (Ok x)
    by_test true i = absurd cc
    by_test false i = absurd cc

pub bounded_ok : (r : Result (Term × Shape) ℕ) (x : Term × Shape) → bounded r ≡ Ok x → r ≡ Ok x
bounded_ok (Ok y) x e = within_limit (not (is_bounded y.1)) 13 (Ok y) x e
bounded_ok (Err n) x e = absurd cc

-- values of parts that all stand plainly
values_typed : (p : Place) (s : Setting) (done qs : List JudgedPart) (xs : List (Term × Shape)) → values qs ≡ Ok xs → PartsStand p s plainly_placed done qs →
    AllTyped (context_of p s) xs
values_typed p s done [] xs e t = let k : [] ≡ xs = cc in subst (AllTyped (context_of p s)) k tt
values_typed p s done (piece (value a c u) ∷ qs) xs e t =
    let b = put_value_ok (c, u) (values qs) xs e in
    subst (AllTyped (context_of p s)) (sym b.2) (
      subst (λ w. IsTyped w c u) (flat_stood p s plain done refl) t.0,
      values_typed p s (done ++ piece (value a c u) ∷ []) qs b.0 b.1 t.1,
    )
values_typed p s done qs xs e t = absurd cc

-- `Table`: each row comes to the type of all
came : (c : Context) (w : Way) (k : Term) (u to : Shape) (x : Term × Shape) → way u to ≡ w → by_way w k to ≡ Ok x → IsTyped c k u → Typed c x × (x.1 ≡ to)
came c same k u to x w e h =
    let y : (k, to) ≡ x = cc in subst (λ (z : Term × Shape). Typed c z × (z.1 ≡ to)) y (subst (IsTyped c k) (way_same u to w) h, refl)
came c changed k u to x w e h =
    let y : (coerced k to, to) ≡ x = cc in
    subst (λ (z : Term × Shape). Typed c z × (z.1 ≡ to)) y ((u ∷ [], (u, [], refl, h, refl), coercion_ruled to w), refl)
  where
    coercion_ruled : (to : Shape) → way u to ≡ changed → IsRuled c (coerce to) (cons k nil) (u ∷ []) to
    coercion_ruled blanks e = refl
    coercion_ruled to e = (e, refl)
came c refused k u to x w e h = absurd cc

rows_typed : (c : Context) (t : Shape) (xs ys : List (Term × Shape)) → rows_to t xs ≡ Ok ys → AllTyped c xs → AllTyped c ys × AreAllOfShape t (seconds ys)
rows_typed c t [] ys e h = let k : [] ≡ ys = cc in subst (λ zs. AllTyped c zs × AreAllOfShape t (seconds zs)) k (tt, tt)
rows_typed c t (x ∷ xs) ys e h =
    let a = then_ok (by_way (way x.1 t) x.0 t) (λ y. put_first y (rows_to t xs)) ys e in
    let b = put_first_ok a.0 (rows_to t xs) ys a.2 in
    let one = came c (way x.1 t) x.0 x.1 t a.0 refl a.1 h.0 in
    let more = rows_typed c t xs b.0 b.1 h.1 in
    subst (λ zs. AllTyped c zs × AreAllOfShape t (seconds zs)) (sym b.2) ((one.0, more.0), (one.1, more.1))

abbrev is_rows : Shape → Bool
is_rows (tables cs) = true
is_rows t = false

list_ruled : (c : Context) (t : Shape) (cs : Terms) (us : List Shape) → is_rows t ≡ false → AreAllOfShape t us →
    IsRuled c (list t) cs us (tables (row_columns t))
list_ruled c (tables ds) cs us e h = absurd cc
list_ruled c blanks cs us e h = (h, refl)
list_ruled c t cs us e h = (h, refl)

list_parts : (c : Context) (t : Shape) (n : ℕ) (done : List Shape) (xs : List (Term × Shape)) → AllTyped c xs →
    AreTyped c (list t) n done (all (firsts xs)) (seconds xs)
list_parts c t n done [] h = refl
list_parts c t n done (x ∷ xs) h = (x.1, seconds xs, refl, h.0, list_parts c t n (done ++ x.1 ∷ []) xs h.1)

list_by_typed : (c : Context) (t : Shape) (xs : List (Term × Shape)) (x : Term × Shape) → is_rows t ≡ false → AllTyped c xs →
    and_then (rows_to t xs) (λ ys. Ok (list_by t ys)) ≡ Ok x → Typed c x
list_by_typed c t xs x i h e =
    let a = then_ok (rows_to t xs) (λ ys. Ok (list_by t ys)) x e in
    let k : Ok (list_by t a.0) ≡ Ok x = a.2 in
    let y : list_by t a.0 ≡ x = cc in
    let rows = rows_typed c t xs a.0 a.1 h in
    subst (Typed c) y (
      seconds a.0,
      list_parts c t (parts_count (all (firsts a.0))) [] a.0 rows.0,
      list_ruled c t (all (firsts a.0)) (seconds a.0) i rows.1,
    )

pub list_as_typed : (c : Context) (o : Option Shape) (xs : List (Term × Shape)) (x : Term × Shape) → AllTyped c xs → list_as o xs ≡ Ok x → Typed c x
list_as_typed c None xs x h e = absurd cc
list_as_typed c (Some (tables cs)) xs x h e = absurd cc
list_as_typed c (Some blanks) xs x h e = list_by_typed c blanks xs x refl h e
list_as_typed c (Some t) xs x h e = list_by_typed c t xs x refl h e

-- the call of `Table` has the type of its list
table_call_typed : (c : Context) (y : Term × Shape) → Typed c y → Typed c (as_table_call y)
table_call_typed c y h = (y.1 ∷ [], (y.1, [], refl, h, refl), (refl, (refl, blanks, (tt, tt), refl)))

pub table_typed : (p : Place) (s : Setting) (qs : List JudgedPart) (x : Term × Shape) → PartsStand p s plainly_placed [] qs →
    and_then (values qs) typed_table ≡ Ok x → Typed (context_of p s) x
table_typed p s qs x t e =
    let a = then_ok (values qs) typed_table x e in
    let joined = join_all (Some (records no_columns)) a.0 in
    let b = then_ok (list_as joined a.0) (λ y. Ok (as_table_call y)) x a.2 in
    subst (Typed (context_of p s)) (ok_is (as_table_call b.0) x b.2)
    (table_call_typed (context_of p s) b.0 (list_as_typed (context_of p s) joined a.0 b.0 (values_typed p s [] qs a.0 a.1 t) b.1))

-- `With`: a record, and a formula in its scope
abbrev pub with_placed : Bool → List JudgedPart → PartScope
with_placed b d = (plan_with b (length d)).standing

abbrev in_record : Context → Shape → Context
in_record c t = record c { rows = c.rows ++ record_type t ∷ [] }

record_stood : (p : Place) (s : Setting) (a : Option (List ℕ)) (k : Term) (t : Shape) →
    stood p s bound (piece (value a k t) ∷ []) ≡ in_record (context_of p s) t
record_stood p s a k t =
    let rows = map_push (λ (r : Scope). r.row_type) s.scopes (first_record (piece (value a k t))) in
    λ i. record (context_of p s) { rows = rows i; caught = or-false s.catches i }

with_parts : (p : Place) (s : Setting) (b : Bool) (qs : List JudgedPart) (r f : Term × Shape) → values qs ≡ Ok (r ∷ f ∷ []) →
    PartsStand p s (with_placed b) [] qs → Typed (context_of p s) r × Typed (in_record (context_of p s) r.1) f
with_parts p s b (piece (value a c t) ∷ piece (value d g u) ∷ qs) r f e h =
    let k = put_value_ok (c, t) (put_value (g, u) (values qs)) (r ∷ f ∷ []) e in
    let l = put_value_ok (g, u) (values qs) k.0 k.1 in
    let whole : r ∷ f ∷ [] ≡ (c, t) ∷ (g, u) ∷ l.0 = cc (k.2, l.2) in
    let first : (c, t) ≡ r = cc in
    let second : (g, u) ≡ f = cc in
    let outer = subst (λ w. IsTyped w c t) (flat_stood p s plain [] refl) h.0 in
    let inner = subst (λ w. IsTyped w g u) (record_stood p s a c t) h.1.0 in
    let scoped = subst (Typed (in_record (context_of p s) t)) second inner in
    (subst (Typed (context_of p s)) first outer, subst (λ (z : Term × Shape). Typed (in_record (context_of p s) z.1) f) first scoped)
with_parts p s b qs r f e h = absurd cc

-- a record for a scope has the columns of the scope
as_record_typed : (c : Context) (r : Term × Shape) (k : Term) → as_record r ≡ Ok k → Typed c r →
    (ds : ColumnList) × IsTyped c k (records ds) × (record_type r.1 ≡ records ds)
as_record_typed c (m, records ds) k e h = let y : m ≡ k = cc in (ds, subst (λ z. IsTyped c z (records ds)) y h, refl)
as_record_typed c (m, blanks) k e h =
    let y : coerced m (records no_columns) ≡ k = cc in
    (no_columns, subst (λ z. IsTyped c z (records no_columns)) y (blanks ∷ [], (blanks, [], refl, h, refl), (refl, refl)), refl)
as_record_typed c r k e h = absurd cc

with_of_typed : (c : Context) (r f x : Term × Shape) → Typed c r → Typed (in_record c r.1) f → with_of (r ∷ f ∷ []) ≡ Ok x → Typed c x
with_of_typed c r f x h g e =
    let a = then_ok (as_record r) (λ k. Ok (of within (cons k (cons f.0 nil)), f.1)) x e in
    let y : (of within (cons a.0 (cons f.0 nil)), f.1) ≡ x = cc in
    let k = as_record_typed c r a.0 a.1 h in
    let inner = subst (λ t. IsTyped (record c { rows = c.rows ++ t ∷ [] }) f.0 f.1) k.2 g in
    subst (Typed c) y (records k.0 ∷ f.1 ∷ [], (records k.0, f.1 ∷ [], refl, k.1, (f.1, [], refl, inner, refl)), refl)

with_values : (p : Place) (s : Setting) (b : Bool) (qs : List JudgedPart) (xs : List (Term × Shape)) (x : Term × Shape) →
    PartsStand p s (with_placed b) [] qs → values qs ≡ Ok xs → with_of xs ≡ Ok x → Typed (context_of p s) x
with_values p s b qs (r ∷ f ∷ []) x t v e =
    let k = with_parts p s b qs r f v t in with_of_typed (context_of p s) r f x k.0 k.1 e
with_values p s b qs xs x t v e = absurd cc

pub with_typed : (p : Place) (s : Setting) (b : Bool) (qs : List JudgedPart) (x : Term × Shape) → PartsStand p s (with_placed b) [] qs →
    and_then (values qs) with_of ≡ Ok x → Typed (context_of p s) x
with_typed p s b qs x t e =
    let a = then_ok (values qs) with_of x e in with_values p s b qs a.0 x t a.1 a.2

-- `Defaults`: a record of blanks has all types of its columns
own_name : (n : List ℕ) (rest : Bool) → rest ≡ true → (bytes_eq n n && rest) ≡ true
own_name n rest h = ap (λ b. b && rest) ((bytes_eq-Decides n n).1 refl) ∙ h

blanks_fit : (cs : ColumnList) → fields_fit (blank_fields cs) cs ≡ true
blanks_fit no_columns = refl
blanks_fit (column n t cs) = own_name n (fields_fit (blank_fields cs) cs) (blanks_fit cs)

blank_typed : (c : Context) (t : Target) (cs : ColumnList) → HasColumns c t cs → Typed c (blank_record cs)
blank_typed c t cs h = ([], refl, (blanks_fit cs, inr (t, cs, h, refl)))

pub defaults_typed : (c : Context) (n : Names) (qs : List JudgedPart) (x : Term × Shape) → Of n c → by_first_name qs (defaults_of n) ≡ Ok x → Typed c x
defaults_typed c n qs x here e =
    let b = by_name_ok qs (defaults_of n) x e in
    let r = by_columns_ok (rows_named n b.0) (λ cs. Ok (blank_record cs)) x b.3 in
    subst (Typed c) (ok_is (blank_record r.1) x r.4) (by_rows b.0 r.0 r.1 r.2 r.3)
  where
    by_rows : (m : List ℕ) (t : Target) (cs : ColumnList) (blank : Bool) → AreRows (rows_named n m) t cs blank → Typed c (blank_record cs)
    by_rows m t cs blank (some_table i) = blank_typed c t cs (here (target_source t) ∙ has_columns n m t cs i)
    by_rows m t cs blank (no_table i) = ([], refl, (refl, inl tt))
