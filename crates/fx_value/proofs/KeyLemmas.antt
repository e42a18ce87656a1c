-- Keys order as the scalars do.
use Rattle.std.proofs.Common.{◌≡◌, ◌↔◌, true, false, subst, ℕ, ◌/◌, ◌%◌, ◌^◌, ◌<◌, List, refl, sym, ap, ◌∙◌, arith, ℤ, pos, negsuc, ◌+ℤ◌}
use Rattle.std.proofs.lemmas.Bool.Decides.{nat_tests}
use Rattle.std.proofs.lemmas.Int.{ints}
use Rattle.std.proofs.lemmas.Cmp.{nat_list_cmp_total}
use Rattle.std.proofs.lemmas.Map.Lookups.{exact_bytes}
use Rattle.std.specs.Cmp.{tied_itself}
use Rattle.std.specs.Prelude.{unsigned_abs}
use Rattle.std.specs.Ordering.{nat_cmp, int_cmp, ordering_then}
use Rattle.std.specs.Cmp.Lexicographic.{slice_cmp}
use Rattle.std.specs.Int.{bytes_high_first}
use Rattle.std.specs.declared.cmp.Ordering.TheVariants.{Equal}
use Rattle.std.specs.declared.cmp.Ordering.{Ordering}
use Rattle.fx_types.specs.Values.{Data, blank, number, text, boolean, date}
use Rattle.fx_types.specs.Days.{IsDay}
use Rattle.fx_value.specs.Keys.{IsProper, key_bytes}
use Rattle.fx_value.specs.Order.{AreOfOneType, order}
use Rattle.fx_value.proofs.Orders.{then_equal}
use Rattle.fx_types.proofs.Utf8Order.{then_then, slice_cmp-encodes}
use Rattle.fx_number.specs.Decimal.{IsInRange}

numbers_shifted : (z w : ℤ) → IsInRange z → IsInRange w → nat_cmp (unsigned_abs (z +ℤ pos (2 ^ 63))) (unsigned_abs (w +ℤ pos (2 ^ 63))) ≡ int_cmp z w
numbers_shifted (pos n) (pos m) h k = grind (arith, ints, nat_tests)
numbers_shifted (pos n) (negsuc m) h k = grind (arith, ints, nat_tests)
numbers_shifted (negsuc n) (pos m) h k = grind (arith, ints, nat_tests)
numbers_shifted (negsuc n) (negsuc m) h k = grind (arith, ints, nat_tests)

by_256 : (n m : ℕ) → nat_cmp n m ≡ ordering_then (nat_cmp (n / 256) (m / 256)) (nat_cmp (n % 256) (m % 256))
by_256 n m = grind (arith, nat_tests)

-- one byte more
up : (n m i j : ℕ) → i ≡ n / 256 → j ≡ m / 256 → (o : Ordering) → ordering_then (nat_cmp i j) (ordering_then (nat_cmp (n % 256) (m % 256)) o) ≡ ordering_then (nat_cmp n m) o
up n m i j e f o = rw (e, f) (then_then (nat_cmp (n / 256) (m / 256)) (nat_cmp (n % 256) (m % 256)) o ∙ ap (λ z. ordering_then z o) (sym (by_256 n m)))

eight_bytes : (n m : ℕ) → n < 2 ^ 64 → m < 2 ^ 64 → slice_cmp nat_cmp (bytes_high_first 8 n) (bytes_high_first 8 m) ≡ nat_cmp n m
eight_bytes n m h k =
    let e : n / 72057594037927936 % 256 ≡ n / 72057594037927936 = omega arith in
    let f : m / 72057594037927936 % 256 ≡ m / 72057594037927936 = omega arith in
    rw (e, f) (up (n / 281474976710656) (m / 281474976710656) (n / 72057594037927936) (m / 72057594037927936) (omega arith) (omega arith) _
    ∙ up (n / 1099511627776) (m / 1099511627776) (n / 281474976710656) (m / 281474976710656) (omega arith) (omega arith) _
    ∙ up (n / 4294967296) (m / 4294967296) (n / 1099511627776) (m / 1099511627776) (omega arith) (omega arith) _
    ∙ up (n / 16777216) (m / 16777216) (n / 4294967296) (m / 4294967296) (omega arith) (omega arith) _
    ∙ up (n / 65536) (m / 65536) (n / 16777216) (m / 16777216) (omega arith) (omega arith) _
    ∙ up (n / 256) (m / 256) (n / 65536) (m / 65536) (omega arith) (omega arith) _
    ∙ up n m (n / 256) (m / 256) (omega arith) (omega arith) _
    ∙ then_equal (nat_cmp n m))

four_bytes : (n m : ℕ) → n < 2 ^ 32 → m < 2 ^ 32 → slice_cmp nat_cmp (bytes_high_first 4 n) (bytes_high_first 4 m) ≡ nat_cmp n m
four_bytes n m h k =
    let e : n / 16777216 % 256 ≡ n / 16777216 = omega arith in
    let f : m / 16777216 % 256 ≡ m / 16777216 = omega arith in
    rw (e, f) (up (n / 65536) (m / 65536) (n / 16777216) (m / 16777216) (omega arith) (omega arith) _
    ∙ up (n / 256) (m / 256) (n / 65536) (m / 65536) (omega arith) (omega arith) _
    ∙ up n m (n / 256) (m / 256) (omega arith) (omega arith) _
    ∙ then_equal (nat_cmp n m))

dates_shifted : (z w : ℤ) → IsDay z → IsDay w → nat_cmp (unsigned_abs (z +ℤ pos (2 ^ 31))) (unsigned_abs (w +ℤ pos (2 ^ 31))) ≡ int_cmp z w
dates_shifted (pos n) (pos m) h k = grind (arith, ints, nat_tests)
dates_shifted (pos n) (negsuc m) h k = grind (arith, ints, nat_tests)
dates_shifted (negsuc n) (pos m) h k = grind (arith, ints, nat_tests)
dates_shifted (negsuc n) (negsuc m) h k = grind (arith, ints, nat_tests)

number_fits : (z : ℤ) → IsInRange z → unsigned_abs (z +ℤ pos (2 ^ 63)) < 2 ^ 64
number_fits (pos n) h = grind (arith, ints)
number_fits (negsuc n) h = grind (arith, ints)

date_fits : (z : ℤ) → IsDay z → unsigned_abs (z +ℤ pos (2 ^ 31)) < 2 ^ 32
date_fits (pos n) h = grind (arith, ints)
date_fits (negsuc n) h = grind (arith, ints)

-- the keys of two scalars order as they do
pub keys_order : (a b : Data) → AreOfOneType a b → IsProper a → IsProper b → slice_cmp nat_cmp (key_bytes a) (key_bytes b) ≡ order a b
keys_order blank blank t p q = refl
keys_order blank (number w) t p q = refl
keys_order blank (text ds) t p q = refl
keys_order blank (boolean c) t p q = refl
keys_order blank (date w) t p q = refl
keys_order (number z) blank t p q = refl
keys_order (text cs) blank t p q = refl
keys_order (boolean b) blank t p q = refl
keys_order (date z) blank t p q = refl
keys_order (number z) (number w) t p q = eight_bytes _ _ (number_fits z p) (number_fits w q) ∙ numbers_shifted z w p q
keys_order (text cs) (text ds) t p q = slice_cmp-encodes cs ds p q
keys_order (boolean true) (boolean true) t p q = refl
keys_order (boolean true) (boolean false) t p q = refl
keys_order (boolean false) (boolean true) t p q = refl
keys_order (boolean false) (boolean false) t p q = refl
keys_order (date z) (date w) t p q = four_bytes _ _ (date_fits z p) (date_fits w q) ∙ dates_shifted z w p q
keys_order _ _ t p q = absurd t

-- and they are equal exactly where the order does not tell the scalars apart
pub keys_tell : (a b : Data) → AreOfOneType a b → IsProper a → IsProper b → (key_bytes a ≡ key_bytes b) ↔ (order a b ≡ Equal)
keys_tell a b t p q =
    let as_keys = keys_order a b t p q in
    let P : List ℕ → Type 0 = λ ks. slice_cmp nat_cmp (key_bytes a) ks ≡ Equal in
    (λ e. sym as_keys ∙ subst P e (tied_itself nat_list_cmp_total (key_bytes a)), λ e. exact_bytes (key_bytes a) (key_bytes b) (as_keys ∙ e))
