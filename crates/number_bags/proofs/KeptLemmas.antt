-- What holds of a bag goes on to hold.
use Rattle.std.proofs.Common.{◌≡◌, ◌+◌, ◌<◌, ◌≤◌, ℤ, List, [], ◌∷◌, Bool, true, false, cond, Option, Some, None, refl, sym, ap, subst, ◌∙◌, arith}
use Rattle.std.specs.Prelude.{IfSome, ◌+ℤ◌}
use Rattle.std.specs.Bool.{Decides}
use Rattle.std.specs.Ordering.{int_eq}
use Rattle.std.proofs.lemmas.Bool.Decides.{Decides-int_eq}
use Rattle.fx_number.specs.Decimal.{IsInRange}
use Rattle.number_bags.specs.Bags.{counted}
use Rattle.number_bags.specs.Kept.{AreInRange, IsKept}
use Rattle.number_bags.specs.Rising.{times, with_option, without_number, without_option}
use Rattle.number_bags.specs.Sums.{size_of, value_of}
use Rattle.number_bags.specs.declared.sums.Sums.{Sums}
use Rattle.number_bags.proofs.CountLemmas.{one_number}
use Rattle.number_bags.proofs.RisingLemmas.{there_once, times_with_option}
use Rattle.number_bags.proofs.SumLemmas.{counted_few, summed_after}

no_more : (q z : ℤ) (xs : List ℤ) → times q (without_number z xs) ≤ times q xs
no_more q z [] = omega arith
no_more q z (x ∷ xs) = go (no_more q z xs) (int_eq x z)
  where
    go : times q (without_number z xs) ≤ times q xs → (b : Bool) → times q (cond b xs (x ∷ without_number z xs)) ≤ cond (int_eq x q) 1 0 + times q xs
    go ih true = omega arith
    go ih false = omega (arith, ih)

without_range : (o : Option ℤ) (xs : List ℤ) → AreInRange xs → AreInRange (without_option o xs)
without_range None xs h q l = h q l
without_range (Some z) xs h q l = h q (let m = no_more q z xs in omega (arith, l, m))

with_range : (o : Option ℤ) (xs : List ℤ) → IfSome o IsInRange → AreInRange xs → AreInRange (with_option o xs)
with_range None xs i h q l = h q l
with_range (Some z) xs i h q l = go (int_eq z q) refl (subst (λ n. 0 < n) (times_with_option q (Some z) xs) l)
  where
    go : (b : Bool) → int_eq z q ≡ b → 0 < (cond b 1 0 + 0) + times q xs → IsInRange q
    go true e k = subst IsInRange (one_number z q e) i
    go false e k = h q (omega (arith, k))

pub kept_same : (s t : Sums) (now then now' then' : List ℤ) → now' ≡ now → then' ≡ then → IsKept s t now then → IsKept s t now' then'
kept_same s t now then now' then' e f k = subst (λ zs. IsKept s t zs then') (sym e) (subst (IsKept s t now) (sym f) k)

pub kept_restored : (s t : Sums) (now then now' then' : List ℤ) → now' ≡ then → then' ≡ then → IsKept s t now then → IsKept t t now' then'
kept_restored s t now then now' then' e f k =
    kept_same t t then then now' then' e f (record { now_summed = k.then_summed; then_summed = k.then_summed; now_in_range = k.then_in_range; then_in_range = k.then_in_range })

pub kept_settled : (s t : Sums) (now then now' then' : List ℤ) → now' ≡ now → then' ≡ now → IsKept s t now then → IsKept s s now' then'
kept_settled s t now then now' then' e f k =
    kept_same s s now now now' then' e f (record { now_summed = k.now_summed; then_summed = k.now_summed; now_in_range = k.now_in_range; then_in_range = k.now_in_range })

pub kept_changed : (s t after : Sums) (old new : Option ℤ) (now then now' then' : List ℤ) → IfSome new IsInRange
    → after.count + size_of (counted old now) ≡ s.count + size_of new → after.sum +ℤ value_of (counted old now) ≡ s.sum +ℤ value_of new
    → now' ≡ with_option new (without_option old now) → then' ≡ then → IsKept s t now then → IsKept after t now' then'
kept_changed s t after old new now then now' then' i n v e f k =
    kept_same after t (with_option new (without_option old now)) then now' then' e f (record {
      now_summed = summed_after s after old new now k.now_summed n v;
      then_summed = k.then_summed;
      now_in_range = with_range new (without_option old now) i (without_range old now k.now_in_range);
      then_in_range = k.then_in_range;
    })

pub kept_carried : (s t after : Sums) (late late_then old new went : Option ℤ) (ns ts ns' ts' : List ℤ) → late ≡ None → IfSome new IsInRange → went ≡ counted old ns → after.count + size_of went ≡ s.count + size_of new
    → after.sum +ℤ value_of went ≡ s.sum +ℤ value_of new → ns' ≡ without_option old ns → ts' ≡ ts → IsKept s t (with_option late ns) (with_option late_then ts) → IsKept after t (with_option new ns') (with_option late_then ts')
kept_carried s t after late late_then old new went ns ts ns' ts' free i is n v e f k =
    kept_changed s t after old new ns (with_option late_then ts) (with_option new ns') (with_option late_then ts') i
    (subst (λ g. after.count + size_of g ≡ s.count + size_of new) is n)
    (subst (λ g. after.sum +ℤ value_of g ≡ s.sum +ℤ value_of new) is v)
    (ap (with_option new) e) (ap (with_option late_then) f)
    (subst (λ o. IsKept s t (with_option o ns) (with_option late_then ts)) free k)

-- what goes is no more than there is
pub goes_there : (s t : Sums) (late late_then old went : Option ℤ) (ns ts : List ℤ) → late ≡ None → went ≡ counted old ns → IsKept s t (with_option late ns) (with_option late_then ts) → size_of went ≤ s.count
goes_there s t late late_then old went ns ts free is k =
    subst (λ g. size_of g ≤ s.count) (sym is) (counted_few old ns s.count (subst (λ o. IsKept s t (with_option o ns) (with_option late_then ts)) free k).now_summed.count)

-- ---- the number that came last, and the others
pub late_there : (late : Option ℤ) (z : ℤ) (zs : List ℤ) → late ≡ Some z → 0 < times z (with_option late zs)
late_there late z zs e = subst (λ o. 0 < times z (with_option o zs)) (sym e) (let a = times_with_option z (Some z) zs in let b = there_once z zs in omega (arith, a, b))

pub late_not : (late : Option ℤ) (z : ℤ) (zs : List ℤ) (d : Bool) → (late ≡ Some z → ⊥) → Decides d (0 < times z zs) → Decides d (0 < times z (with_option late zs))
late_not None z zs d n h = h
late_not (Some y) z zs d n h = subst (λ k. Decides d (0 < k)) (sym (times_with_option z (Some y) zs ∙ go (int_eq y z) (Decides-int_eq y z))) h
  where
    go : (b : Bool) → Decides b (y ≡ z) → (cond b 1 0 + 0) + times z zs ≡ times z zs
    go true e = absurd (n (ap (λ x. Some x) (e.0 refl)))
    go false e = omega arith
