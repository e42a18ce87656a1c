-- Steps through the definition that judges, forth and back.
use Rattle.std.proofs.Common.{◌≡◌, ℕ, List, [], ◌∷◌, Bool, true, false, ◌&&◌, not, nat_lt, Option, Some, Result, Ok, Err, refl, ap, subst, ◌∙◌, if◌then◌else◌}
use Rattle.std.proofs.lemmas.Bool.{not-false, not_from_true}
use Rattle.fx_types.specs.Types.{Shape}
use Rattle.fx_core.specs.Term.{Term}
use Rattle.fx_core.specs.ColumnLists.{and_then}
use Rattle.fx_typing.specs.Local.{value, label, put_first}
use Rattle.fx_typing.specs.Builds.{is_bounded, bounded}
use Rattle.fx_typing.specs.Parts.{JudgedPart, piece, meant, target, assigned, plainly, as_part, put_value, values, unless_rule, lowest}
use Rattle.fx_typing.specs.Records.{AreValueParts, no_values, one_value}

pub ok_is : {A : Type 0} (a b : A) → ◌≡◌ {A = Result A ℕ} (Ok a) (Ok b) → a ≡ b
ok_is a b e = cc

pub some_is : {A : Type 0} (a b : A) → ◌≡◌ {A = Option A} (Some a) (Some b) → a ≡ b
some_is a b e = cc

pub then_goes : {A B : Type 0} (r : Result A ℕ) (go : A → Result B ℕ) (a : A) (b : B) → r ≡ Ok a → go a ≡ Ok b → and_then r go ≡ Ok b
then_goes r go a b e f = ap (λ z. and_then z go) e ∙ f

pub put_first_ok : (x : Term × Shape) (r : Result (List (Term × Shape)) ℕ) (xs : List (Term × Shape)) → put_first x r ≡ Ok xs →
    (ys : List (Term × Shape)) × (r ≡ Ok ys) × (x ∷ ys ≡ xs)
put_first_ok x (Ok ys) xs e = (ys, refl, cc)
put_first_ok x (Err n) xs e = absurd cc

pub put_value_ok : (x : Term × Shape) (r : Result (List (Term × Shape)) ℕ) (xs : List (Term × Shape)) → put_value x r ≡ Ok xs →
    (ys : List (Term × Shape)) × (r ≡ Ok ys) × (x ∷ ys ≡ xs)
put_value_ok x (Ok ys) xs e = (ys, refl, cc)
put_value_ok x (Err n) xs e = absurd cc

pub as_part_ok : (r : Result (Term × Shape) ℕ) (q : JudgedPart) → as_part r ≡ Ok q → (x : Term × Shape) × (r ≡ Ok x) × (plainly x ≡ q)
as_part_ok (Ok x) q e = (x, refl, cc)
as_part_ok (Err n) q e = absurd cc

pub lowest_ok : {A B C : Type 0} (f : A → B → C) (p : Result A ℕ) (q : Result B ℕ) (z : C) → lowest f p q ≡ Ok z →
    (a : A) × (p ≡ Ok a) × (b : B) × (q ≡ Ok b) × (f a b ≡ z)
lowest_ok f (Ok a) (Ok b) z e = (a, refl, b, refl, ok_is (f a b) z e)
lowest_ok f (Ok a) (Err k) z e = absurd cc
lowest_ok f (Err k) (Ok b) z e = absurd cc
lowest_ok f (Err k) (Err j) z e = absurd cc

-- what breaks no rule of its place is admitted
pub unless_ok : {A : Type 0} (b : Bool) (k : ℕ) (r : Result A ℕ) (x : A) → unless_rule b k r ≡ Ok x → (b ≡ false) × (r ≡ Ok x)
unless_ok true k (Ok y) x e = absurd cc
unless_ok false k (Ok y) x e = (refl, e)
unless_ok {A = A} b k (Err n) x e = absurd (by_test (b && nat_lt k n) e)
  where
    by_test : (t : Bool) → ◌≡◌ {A = Result A ℕ} (if t then Err k else Err n) (Ok x) → ⊥
    by_test true i = absurd cc
    by_test false i = absurd cc

pub unless_goes : {A : Type 0} (b : Bool) (k : ℕ) (r : Result A ℕ) (x : A) → b ≡ false → r ≡ Ok x → unless_rule b k r ≡ Ok x
unless_goes b k r x e f = ap (λ c. unless_rule c k r) e ∙ ap (unless_rule false k) f

pub if_true : {A : Type 0} (b : Bool) (x y : A) → b ≡ true → (if b then x else y) ≡ x
if_true true x y e = refl
if_true false x y e = absurd cc

pub if_false : {A : Type 0} (b : Bool) (x y : A) → b ≡ false → (if b then x else y) ≡ y
if_false false x y e = refl
if_false true x y e = absurd cc

-- a thing where a test holds, and else a rule
pub if_ok : {A : Type 0} (b : Bool) (r : Result A ℕ) (k : ℕ) (x : A) → (if b then r else Err k) ≡ Ok x → (b ≡ true) × (r ≡ Ok x)
if_ok true r k x e = (refl, e)
if_ok false r k x e = absurd cc

-- the limits of types
pub bounded_ok : (r : Result (Term × Shape) ℕ) (x : Term × Shape) → bounded r ≡ Ok x → (r ≡ Ok x) × (is_bounded x.1 ≡ true)
bounded_ok (Ok y) x e =
    let u = unless_ok (not (is_bounded y.1)) 13 (Ok y) x e in
    let y_is : y ≡ x = ok_is y x u.1 in
    (u.1, subst (λ (z : Term × Shape). is_bounded z.1 ≡ true) y_is (not-false (is_bounded y.1) u.0))
bounded_ok (Err n) x e = absurd cc

pub bounded_goes : (r : Result (Term × Shape) ℕ) (x : Term × Shape) → r ≡ Ok x → is_bounded x.1 ≡ true → bounded r ≡ Ok x
bounded_goes r x e f = ap bounded e ∙ unless_goes (not (is_bounded x.1)) 13 (Ok x) x (not_from_true (is_bounded x.1) f) refl

-- parts that are all values
pub values_ok : (qs : List JudgedPart) (xs : List (Term × Shape)) → values qs ≡ Ok xs → AreValueParts qs xs
values_ok [] xs e = let k : [] ≡ xs = cc in subst (AreValueParts []) k no_values
values_ok (piece (value a c t) ∷ qs) xs e =
    let b = put_value_ok (c, t) (values qs) xs e in
    subst (AreValueParts (piece (value a c t) ∷ qs)) b.2 (one_value (values_ok qs b.0 b.1))
values_ok (piece (label x) ∷ qs) xs e = absurd cc
values_ok (meant m ∷ qs) xs e = absurd cc
values_ok (target a x ∷ qs) xs e = absurd cc
values_ok (assigned ns ys ∷ qs) xs e = absurd cc

pub values_are : (qs : List JudgedPart) (xs : List (Term × Shape)) → AreValueParts qs xs → values qs ≡ Ok xs
values_are qs xs no_values = refl
values_are qs xs (one_value {c = c} {t = t} {qs = more} {xs = others} v) = ap (put_value (c, t)) (values_are more others v)
