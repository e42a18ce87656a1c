-- Tests of values with whole numbers and with bytes, and what a column of whole numbers makes of a value.
use Rattle.std.proofs.Common.{◌≡◌, ◌≢◌, ℕ, ℤ, pos, List, [], ◌∷◌, Bool, true, false, ◌&&◌, ◌==◌, if◌then◌else◌, cond, refl, sym, ap, ◌∙◌, Ordering, Less, Equal, Greater, is_eq, is_lt, arith, ◌<◌}
use Rattle.std.proofs.lemmas.Int.{ints}
use Rattle.std.proofs.lemmas.Bool.Decides.{nat_tests}
use Rattle.std.specs.Prelude.{nat_le}
use Rattle.std.specs.Ordering.{int_cmp, nat_cmp, is_ge, is_le}
use Rattle.std.specs.Float.{minus_two_to}
use Rattle.std.proofs.lemmas.Cmp.{tied_itself}
use Rattle.sqlite_value.specs.declared.value.Value.{Value}
use Rattle.sqlite_value.specs.declared.value.Value.TheVariants.{Null, Int, Real, Text, Blob}
use Rattle.sqlite_value.specs.Order.{value_cmp}
use Rattle.sqlite_value.proofs.OrderLemmas.{value_cmp-Int, value_cmp-Null, value_cmp-apart, value_cmp_total}
use Rattle.sqlite_sql.specs.declared.ops.UnaryOp.TheVariants.{ToInt}
use Rattle.sqlite_sql.specs.declared.ops.CompareOp.TheVariants.{Eq, Ge, Le}
use Rattle.sqlite_sql.specs.Ops.{unary}
use Rattle.sqlite.specs.Kind.TheVariants.{Integer}
use Rattle.sqlite_rules.specs.Cast.{as_integer, cast}
use Rattle.sql_meanings.specs.Tests.{compares}

-- ---- numbers

pub same_ints : (m n : ℕ) → is_eq (int_cmp (pos m) (pos n)) ≡ (m == n)
same_ints m n = grind (arith, ints, nat_tests)

pub lower : (m n : ℕ) → m < n → int_cmp (pos m) (pos n) ≡ Less
lower m n h = grind (arith, ints, nat_tests)

pub at_least : (m n : ℕ) → is_ge (int_cmp (pos m) (pos n)) ≡ nat_le n m
at_least m n = grind (arith, ints, nat_tests)

pub at_most : (m n : ℕ) → is_le (int_cmp (pos m) (pos n)) ≡ nat_le m n
at_most m n = grind (arith, ints, nat_tests)

pub equal_ints : (m n : ℕ) → is_eq (int_cmp (pos m) (pos n)) ≡ true → m ≡ n
equal_ints m n = grind (arith, ints, nat_tests)

pub is_number : (m n : ℕ) → compares Eq (Int (pos m)) (Int (pos n)) ≡ (m == n)
is_number m n = ap is_eq (value_cmp-Int (pos m) (pos n)) ∙ same_ints m n

pub itself : (n : ℕ) → compares Eq (Int (pos n)) (Int (pos n)) ≡ true
itself n = ap is_eq (tied_itself value_cmp_total (Int (pos n)))

pub equal_is : (o : Ordering) → is_eq o ≡ true → o ≡ Equal
equal_is Less h = absurd cc
equal_is Equal h = refl
equal_is Greater h = absurd cc

pub false_if : (b : Bool) → (b ≡ true → ⊥) → b ≡ false
false_if true h = absurd (h refl)
false_if false h = refl

-- ---- a value that is equal to one number is equal to no other

two_numbers : (v : Value) (m n : ℕ) → is_eq (value_cmp v (Int (pos m))) ≡ true → is_eq (value_cmp v (Int (pos n))) ≡ true → m ≡ n
two_numbers v m n h k = equal_ints m n (ap is_eq (sym (value_cmp-Int (pos m) (pos n)) ∙ sym (value_cmp_total.congr v (Int (pos m)) (Int (pos n)) (equal_is _ h))) ∙ k)

one_number : (v : Value) (m n : ℕ) → compares Eq v (Int (pos m)) ≡ true → compares Eq v (Int (pos n)) ≡ true → m ≡ n
one_number Null m n h k = absurd cc
one_number (Int z) m n h k = two_numbers (Int z) m n h k
one_number (Real x) m n h k = two_numbers (Real x) m n h k
one_number (Text t) m n h k = two_numbers (Text t) m n h k
one_number (Blob b) m n h k = two_numbers (Blob b) m n h k

pub not_other : (v : Value) (m n : ℕ) → n ≢ m → compares Eq v (Int (pos m)) ≡ true → compares Eq v (Int (pos n)) ≡ false
not_other v m n apart h = false_if _ (λ k. apart (one_number v n m k h))

-- ---- what the column of whole numbers makes of a value is equal to it

either : (b : Bool) (x : Value) → cond b x x ≡ x
either true x = refl
either false x = refl

pub cast_null : cast Integer Null ≡ Null
unfolding unary
cast_null = either _ Null

pub cast_int : (n : ℤ) → cast Integer (Int n) ≡ Int n
unfolding unary
cast_int n = either _ (Int n)

equal_meets : (u v : Value) (n : ℕ) → is_eq (value_cmp u v) ≡ true → compares Eq v (Int (pos n)) ≡ true → compares Eq u (Int (pos n)) ≡ true
equal_meets u Null n h k = absurd cc
equal_meets Null (Int z) n h k = absurd (let e = rw (value_cmp-Null (Int z)) at h in cc)
equal_meets Null (Real x) n h k = absurd (let e = rw (value_cmp-Null (Real x)) at h in cc)
equal_meets Null (Text t) n h k = absurd (let e = rw (value_cmp-Null (Text t)) at h in cc)
equal_meets Null (Blob b) n h k = absurd (let e = rw (value_cmp-Null (Blob b)) at h in cc)
equal_meets (Int y) (Int z) n h k = ap is_eq (value_cmp_total.congr (Int y) (Int z) (Int (pos n)) (equal_is _ h)) ∙ k
equal_meets (Int y) (Real x) n h k = ap is_eq (value_cmp_total.congr (Int y) (Real x) (Int (pos n)) (equal_is _ h)) ∙ k
equal_meets (Int y) (Text t) n h k = ap is_eq (value_cmp_total.congr (Int y) (Text t) (Int (pos n)) (equal_is _ h)) ∙ k
equal_meets (Int y) (Blob b) n h k = ap is_eq (value_cmp_total.congr (Int y) (Blob b) (Int (pos n)) (equal_is _ h)) ∙ k
equal_meets (Real y) (Int z) n h k = ap is_eq (value_cmp_total.congr (Real y) (Int z) (Int (pos n)) (equal_is _ h)) ∙ k
equal_meets (Real y) (Real x) n h k = ap is_eq (value_cmp_total.congr (Real y) (Real x) (Int (pos n)) (equal_is _ h)) ∙ k
equal_meets (Real y) (Text t) n h k = ap is_eq (value_cmp_total.congr (Real y) (Text t) (Int (pos n)) (equal_is _ h)) ∙ k
equal_meets (Real y) (Blob b) n h k = ap is_eq (value_cmp_total.congr (Real y) (Blob b) (Int (pos n)) (equal_is _ h)) ∙ k
equal_meets (Text y) (Int z) n h k = ap is_eq (value_cmp_total.congr (Text y) (Int z) (Int (pos n)) (equal_is _ h)) ∙ k
equal_meets (Text y) (Real x) n h k = ap is_eq (value_cmp_total.congr (Text y) (Real x) (Int (pos n)) (equal_is _ h)) ∙ k
equal_meets (Text y) (Text t) n h k = ap is_eq (value_cmp_total.congr (Text y) (Text t) (Int (pos n)) (equal_is _ h)) ∙ k
equal_meets (Text y) (Blob b) n h k = ap is_eq (value_cmp_total.congr (Text y) (Blob b) (Int (pos n)) (equal_is _ h)) ∙ k
equal_meets (Blob y) (Int z) n h k = ap is_eq (value_cmp_total.congr (Blob y) (Int z) (Int (pos n)) (equal_is _ h)) ∙ k
equal_meets (Blob y) (Real x) n h k = ap is_eq (value_cmp_total.congr (Blob y) (Real x) (Int (pos n)) (equal_is _ h)) ∙ k
equal_meets (Blob y) (Text t) n h k = ap is_eq (value_cmp_total.congr (Blob y) (Text t) (Int (pos n)) (equal_is _ h)) ∙ k
equal_meets (Blob y) (Blob b) n h k = ap is_eq (value_cmp_total.congr (Blob y) (Blob b) (Int (pos n)) (equal_is _ h)) ∙ k

whole_meets : (v : Value) (n : ℕ) → compares Eq v (Int (pos n)) ≡ true → compares Eq (as_integer v) (Int (pos n)) ≡ true
whole_meets v n h = go (is_eq (value_cmp (unary ToInt v) v)) (is_lt (value_cmp (Real (minus_two_to 63)) v)) refl
  where
    go : (b c : Bool) → is_eq (value_cmp (unary ToInt v) v) ≡ b → compares Eq (if b && c then unary ToInt v else v) (Int (pos n)) ≡ true
    go true true e = equal_meets (unary ToInt v) v n e h
    go true false e = h
    go false c e = h

pub cast_meets : (v : Value) (n : ℕ) → compares Eq v (Int (pos n)) ≡ true → compares Eq (cast Integer v) (Int (pos n)) ≡ true
cast_meets Null n h = absurd cc
cast_meets (Int z) n h = whole_meets (Int z) n h
cast_meets (Real x) n h = whole_meets (Real x) n h
cast_meets (Text t) n h = absurd (let e = rw (value_cmp-apart (Text t) (Int (pos n)) (λ c. omega (arith, c))) at h in cc)
cast_meets (Blob b) n h = whole_meets (Blob b) n h

pub right_of : (a b : Bool) → (a && b) ≡ true → b ≡ true
right_of true b h = h
right_of false b h = absurd cc

pub left_of : (a b : Bool) → (a && b) ≡ true → a ≡ true
left_of true b h = refl
left_of false b h = absurd cc
