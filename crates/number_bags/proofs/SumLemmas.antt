-- How many numbers there are and what they sum up to, where one is taken out and one is put in.
use Rattle.std.proofs.Common.{◌≡◌, ℕ, zero, suc, ◌+◌, ◌<◌, ◌≤◌, ◌==◌, ℤ, pos, ◌+ℤ◌, List, [], ◌∷◌, length, fold, Bool, true, false, cond, Option, Some, None, refl, sym, ap, subst, ◌∙◌, arith}
use Rattle.std.specs.Bool.{Decides}
use Rattle.std.specs.Ordering.{int_eq}
use Rattle.std.proofs.lemmas.Bool.Decides.{Decides-eqb}
use Rattle.std.proofs.lemmas.Int.{ints}
use Rattle.fx_value.specs.Aggregates.{sum_of}
use Rattle.number_bags.specs.Bags.{counted}
use Rattle.number_bags.specs.Rising.{AreSame, times, with_option, without_number, without_option}
use Rattle.number_bags.specs.Sums.{IsSummed, size_of, value_of}
use Rattle.number_bags.specs.declared.sums.Sums.{Sums}
use Rattle.number_bags.proofs.CountLemmas.{one_number}
use Rattle.number_bags.proofs.RisingLemmas.{no_times, out, there_once, times_with, without_none}

abbrev pub total : List ℤ → ℤ
total [] = pos 0
total (x ∷ xs) = x +ℤ total xs

plus_none : (a : ℤ) → a ≡ a +ℤ pos 0
plus_none a = omega (arith, ints)

regroup : (a x t w : ℤ) → w ≡ (a +ℤ x) +ℤ t → w ≡ a +ℤ (x +ℤ t)
regroup a x t w h = omega (arith, ints, h)

none_plus : (t : ℤ) → pos 0 +ℤ t ≡ t
none_plus t = omega (arith, ints)

fold_total : (a : ℤ) (xs : List ℤ) → fold ◌+ℤ◌ a xs ≡ a +ℤ total xs
fold_total a [] = plus_none a
fold_total a (x ∷ xs) = regroup a x (total xs) (fold ◌+ℤ◌ (a +ℤ x) xs) (fold_total (a +ℤ x) xs)

pub sum_total : (xs : List ℤ) → sum_of xs ≡ total xs
sum_total xs = fold_total (pos 0) xs ∙ none_plus (total xs)

swapped : (a b t w v : ℤ) → t ≡ b +ℤ w → v ≡ a +ℤ w → a +ℤ t ≡ b +ℤ v
swapped a b t w v h i = omega (arith, ints, h, i)

without_total : (z : ℤ) (xs : List ℤ) → 0 < times z xs → total xs ≡ z +ℤ total (without_number z xs)
without_total z [] h = absurd (omega (arith, h))
without_total z (x ∷ xs) h = go (without_total z xs) (int_eq x z) refl h
  where
    go : (0 < times z xs → total xs ≡ z +ℤ total (without_number z xs)) → (b : Bool) → int_eq x z ≡ b → 0 < cond b 1 0 + times z xs → x +ℤ total xs ≡ z +ℤ total (cond b xs (x ∷ without_number z xs))
    go rec true e k = ap (λ w. w +ℤ total xs) (one_number x z e)
    go rec false e k = swapped x z (total xs) (total (without_number z xs)) (x +ℤ total (without_number z xs)) (rec (omega (arith, k))) refl

joined : (x a c w : ℤ) → a ≡ w → c ≡ x +ℤ w → x +ℤ a ≡ c
joined x a c w h i = omega (arith, ints, h, i)

-- THE law: lists with the same numbers as often are of one length, and of one sum
pub same_sums : (xs ys : List ℤ) → AreSame xs ys → (length xs ≡ length ys) × (total xs ≡ total ys)
same_sums [] [] h = (refl, refl)
same_sums [] (y ∷ ys) h = absurd (no_times y ys (h y))
same_sums (x ∷ xs) ys h =
    let l = subst (λ n. 0 < n) (h x) (there_once x xs) in
    let o = out x ys l in
    let ih = same_sums xs (without_number x ys) (λ q. let a = h q in let b = o.others q in omega (arith, a, b)) in
    let a = ih.0 in let c = o.longer in
    (omega (arith, a, c), joined x (total xs) (total ys) (total (without_number x ys)) ih.1 (without_total x ys l))

with_sums : (o : Option ℤ) (xs : List ℤ) → (length (with_option o xs) ≡ size_of o + length xs) × (total (with_option o xs) ≡ value_of o +ℤ total xs)
with_sums None xs = (omega arith, sym (none_plus (total xs)))
with_sums (Some z) xs = let both = same_sums (with_option (Some z) xs) (z ∷ xs) (λ q. times_with q z xs) in let a = both.0 in (omega (arith, a), both.1)

without_sums : (o : Option ℤ) (xs : List ℤ) → (size_of (counted o xs) + length (without_option o xs) ≡ length xs) × (value_of (counted o xs) +ℤ total (without_option o xs) ≡ total xs)
without_sums None xs = (omega arith, none_plus (total xs))
without_sums (Some z) xs = go (times z xs == 0) (Decides-eqb (times z xs) 0)
  where
    go : (b : Bool) → Decides b (times z xs ≡ 0) → (size_of (cond b None (Some z)) + length (without_number z xs) ≡ length xs) × (value_of (cond b None (Some z)) +ℤ total (without_number z xs) ≡ total xs)
    go true d = let e = without_none z xs (d.0 refl) in let n = ap length e in (omega (arith, n), none_plus (total (without_number z xs)) ∙ ap total e)
    go false d = let l = more (times z xs) d.1 in let o = (out z xs l).longer in (omega (arith, o), sym (without_total z xs l))
      where
        more : (n : ℕ) → (n ≡ 0 → false ≡ true) → 0 < n
        more zero h = absurd (let e = h refl in cc)
        more (suc n) h = omega arith

pub counted_few : (o : Option ℤ) (xs : List ℤ) (n : ℕ) → n ≡ length xs → size_of (counted o xs) ≤ n
counted_few o xs n e = let h = (without_sums o xs).0 in omega (arith, h, e)

left_over : (r g s p m b t : ℤ) → r +ℤ g ≡ s +ℤ p → g +ℤ m ≡ b → s ≡ b → t ≡ p +ℤ m → r ≡ t
left_over r g s p m b t h i j k = omega (arith, ints, h, i, j, k)

pub summed_after : (s after : Sums) (old new : Option ℤ) (zs : List ℤ) → IsSummed s zs → after.count + size_of (counted old zs) ≡ s.count + size_of new → after.sum +ℤ value_of (counted old zs) ≡ s.sum +ℤ value_of new
    → IsSummed after (with_option new (without_option old zs))
summed_after s after old new zs h n v =
    let ys = without_option old zs in
    let w = with_sums new ys in let o = without_sums old zs in
    let a = w.0 in let b = o.0 in let c = h.count in
    record {
      count = omega (arith, a, b, c, n);
      sum = left_over after.sum (value_of (counted old zs)) s.sum (value_of new) (total ys) (total zs) (total (with_option new ys)) v o.1 (h.sum ∙ sum_total zs) w.1 ∙ sym (sum_total (with_option new ys));
    }
