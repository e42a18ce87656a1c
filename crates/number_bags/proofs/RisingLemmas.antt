-- Lists of numbers that rise: those with the same numbers as often are one list.
use Rattle.std.proofs.Common.{◌≡◌, ℕ, zero, suc, ◌+◌, ◌<◌, ℤ, ◌≤ℤ◌, ◌<ℤ◌, List, [], ◌∷◌, ◌++◌, length, replicate, Bool, true, false, cond, Option, Some, None, refl, sym, ap, ap₂, subst, ◌∙◌, arith}
use Rattle.std.specs.Bool.{Decides}
use Rattle.std.specs.List.{AllByRecursion}
use Rattle.std.specs.List.Sorted.{IsStrictlySortedBy}
use Rattle.std.specs.Map.{lookup, keys_of}
use Rattle.std.specs.BTreeMap.{is_at}
use Rattle.std.specs.Cmp.{int_ranks}
use Rattle.std.specs.Ordering.{MatchOrdering, int_cmp, int_eq, is_eq, is_le}
use Rattle.std.specs.declared.cmp.Ordering.{Ordering}
use Rattle.std.specs.declared.cmp.Ordering.TheVariants.{Less, Equal, Greater}
use Rattle.std.proofs.lemmas.Int.{ints}
use Rattle.std.proofs.lemmas.Map.Keys.{sorted_head, sorted_tail}
use Rattle.number_bags.specs.Rising.{AreFrom, AreSame, IsRising, one_of, times, with_number, with_option, without_number}
use Rattle.number_bags.specs.Entries.{Entries, count_at, number_by, spread_by}
use Rattle.number_bags.specs.declared.counts.Count.{Count}
use Rattle.number_bags.proofs.CountLemmas.{number_itself, one_number}

-- ---- how often
pub times-append : (z : ℤ) (xs ys : List ℤ) → times z (xs ++ ys) ≡ times z xs + times z ys
times-append z [] ys = omega arith
times-append z (x ∷ xs) ys = let ih = times-append z xs ys in omega (arith, ih)

pub times-replicate : (z x : ℤ) (n : ℕ) → times z (replicate n x) ≡ cond (int_eq x z) n 0
times-replicate z x zero = go (int_eq x z)
  where
    go : (b : Bool) → ◌≡◌ {A = ℕ} 0 (cond b 0 0)
    go true = refl
    go false = refl
times-replicate z x (suc n) = ap (λ m. cond (int_eq x z) 1 0 + m) (times-replicate z x n) ∙ go (int_eq x z)
  where
    go : (b : Bool) → cond b 1 0 + cond b n 0 ≡ cond b (suc n) 0
    go true = omega arith
    go false = refl

pub times_with : (q z : ℤ) (xs : List ℤ) → times q (with_number z xs) ≡ times q (z ∷ xs)
times_with q z [] = refl
times_with q z (x ∷ xs) = go (times_with q z xs) (is_le (int_cmp z x))
  where
    go : times q (with_number z xs) ≡ times q (z ∷ xs) → (b : Bool) → times q (cond b (z ∷ x ∷ xs) (x ∷ with_number z xs)) ≡ times q (z ∷ x ∷ xs)
    go ih true = refl
    go ih false = omega (arith, ih)

pub times_with_option : (q : ℤ) (o : Option ℤ) (xs : List ℤ) → times q (with_option o xs) ≡ times q (one_of o) + times q xs
times_with_option q None xs = omega arith
times_with_option q (Some z) xs = let e = times_with q z xs in omega (arith, e)

-- ---- lists that rise
pub upto_itself : (z : ℤ) → z ≤ℤ z
upto_itself z = omega (arith, ints)

pub upto_further : (a b c : ℤ) → a ≤ℤ b → b ≤ℤ c → a ≤ℤ c
upto_further a b c h k = omega (arith, ints, h, k)

meet : (a b : ℤ) → a ≤ℤ b → b ≤ℤ a → a ≡ b
meet a b h k = omega (arith, ints, h, k)

from_further : (a b : ℤ) (xs : List ℤ) → a ≤ℤ b → AreFrom b xs → AreFrom a xs
from_further a b [] h k = tt
from_further a b (x ∷ xs) h k = (upto_further a b x h k.0, from_further a b xs h k.1)

from_append : (z : ℤ) (xs ys : List ℤ) → AreFrom z xs → AreFrom z ys → AreFrom z (xs ++ ys)
from_append z [] ys h k = k
from_append z (x ∷ xs) ys h k = (h.0, from_append z xs ys h.1 k)

from_many : (z x : ℤ) (n : ℕ) → z ≤ℤ x → AreFrom z (replicate n x)
from_many z x zero h = tt
from_many z x (suc n) h = (h, from_many z x n h)

many_rise : (z : ℤ) (n : ℕ) (xs : List ℤ) → AreFrom z xs → IsRising xs → IsRising (replicate n z ++ xs)
many_rise z zero xs h r = r
many_rise z (suc n) xs h r = (from_append z (replicate n z) xs (from_many z z n (upto_itself z)) h, many_rise z n xs h r)

upto_less : (z q : ℤ) → int_cmp z q ≡ Less → z ≤ℤ q
upto_less z q h = let r = subst (λ o. MatchOrdering o (z <ℤ q) (z ≡ q) (q <ℤ z)) h (int_ranks z q) in omega (arith, ints, r)

-- how two numbers go, by whether the one is at most the other
pub by_le : (z x : ℤ) → (b : Bool) → is_le (int_cmp z x) ≡ b → cond b (z ≤ℤ x) (x ≤ℤ z)
by_le z x b e = go (int_cmp z x) (int_ranks z x) b e
  where
    go : (o : Ordering) → MatchOrdering o (z <ℤ x) (z ≡ x) (x <ℤ z) → (b : Bool) → is_le o ≡ b → cond b (z ≤ℤ x) (x ≤ℤ z)
    go Less r true e = omega (arith, ints, r)
    go Equal r true e = omega (arith, ints, r)
    go Greater r false e = omega (arith, ints, r)
    go Less r false e = absurd cc
    go Equal r false e = absurd cc
    go Greater r true e = absurd cc

from_with : (a z : ℤ) (xs : List ℤ) → a ≤ℤ z → AreFrom a xs → AreFrom a (with_number z xs)
from_with a z [] h k = (h, tt)
from_with a z (x ∷ xs) h k = go (from_with a z xs h k.1) (is_le (int_cmp z x))
  where
    go : AreFrom a (with_number z xs) → (b : Bool) → AreFrom a (cond b (z ∷ x ∷ xs) (x ∷ with_number z xs))
    go ih true = (h, k)
    go ih false = (k.0, ih)

pub with_rises : (z : ℤ) (xs : List ℤ) → IsRising xs → IsRising (with_number z xs)
with_rises z [] r = (tt, tt)
with_rises z (x ∷ xs) r = go (with_rises z xs r.1) (is_le (int_cmp z x)) (by_le z x (is_le (int_cmp z x)) refl)
  where
    go : IsRising (with_number z xs) → (b : Bool) → cond b (z ≤ℤ x) (x ≤ℤ z) → IsRising (cond b (z ∷ x ∷ xs) (x ∷ with_number z xs))
    go ih true h = ((h, from_further z x xs h r.0), r)
    go ih false h = (from_with x z xs h r.0, ih)

pub with_option_rises : (o : Option ℤ) (xs : List ℤ) → IsRising xs → IsRising (with_option o xs)
with_option_rises None xs r = r
with_option_rises (Some z) xs r = with_rises z xs r

from_without : (a z : ℤ) (xs : List ℤ) → AreFrom a xs → AreFrom a (without_number z xs)
from_without a z [] k = tt
from_without a z (x ∷ xs) k = go (from_without a z xs k.1) (int_eq x z)
  where
    go : AreFrom a (without_number z xs) → (b : Bool) → AreFrom a (cond b xs (x ∷ without_number z xs))
    go ih true = k.1
    go ih false = (k.0, ih)

pub without_rises : (z : ℤ) (xs : List ℤ) → IsRising xs → IsRising (without_number z xs)
without_rises z [] r = tt
without_rises z (x ∷ xs) r = go (without_rises z xs r.1) (int_eq x z)
  where
    go : IsRising (without_number z xs) → (b : Bool) → IsRising (cond b xs (x ∷ without_number z xs))
    go ih true = r.1
    go ih false = (from_without x z xs r.0, ih)

-- ---- one list
pub no_times : (y : ℤ) (ys : List ℤ) → 0 ≡ times y (y ∷ ys) → ⊥
no_times y ys h = let e : 0 ≡ 1 + times y ys = h ∙ ap (λ b. cond b 1 0 + times y ys) (number_itself y) in omega (arith, e)

pub there_once : (x : ℤ) (xs : List ℤ) → 0 < times x (x ∷ xs)
there_once x xs = subst (λ b. 0 < cond b 1 0 + times x xs) (sym (number_itself x)) (omega arith)

-- what stands in a list is from where all are
from_there : (a z : ℤ) (xs : List ℤ) → AreFrom a xs → 0 < times z xs → a ≤ℤ z
from_there a z [] k h = absurd (omega (arith, h))
from_there a z (x ∷ xs) k h = go (from_there a z xs k.1) (int_eq x z) refl h
  where
    go : (0 < times z xs → a ≤ℤ z) → (b : Bool) → int_eq x z ≡ b → 0 < cond b 1 0 + times z xs → a ≤ℤ z
    go rec true e l = subst (λ w. a ≤ℤ w) (one_number x z e) k.0
    go rec false e l = rec (omega (arith, l))

pub one_list : (xs ys : List ℤ) → IsRising xs → IsRising ys → AreSame xs ys → xs ≡ ys
one_list [] [] r s h = refl
one_list [] (y ∷ ys) r s h = absurd (no_times y ys (h y))
one_list (x ∷ xs) [] r s h = absurd (no_times x xs (sym (h x)))
one_list (x ∷ xs) (y ∷ ys) r s h =
    let a = from_there y x (y ∷ ys) (upto_itself y, s.0) (subst (λ n. 0 < n) (h x) (there_once x xs)) in
    let b = from_there x y (x ∷ xs) (upto_itself x, r.0) (subst (λ n. 0 < n) (sym (h y)) (there_once y ys)) in
    let e : x ≡ y = meet x y b a in
    ap₂ (λ z zs. z ∷ zs) e (one_list xs ys r.1 s.1 (λ q. let k = h q in let m = ap {B = ℕ} (λ w. cond (int_eq w q) 1 0) e in omega (arith, k, m)))

-- ---- what is counted
is_less : (z q : ℤ) → int_cmp z q ≡ Less → int_eq z q ≡ false
is_less z q h = ap is_eq h

flipped : (a b : ℤ) → int_cmp b a ≡ Less → int_eq a b ≡ false
flipped a b l = go (int_eq a b) refl
  where
    go : (t : Bool) → int_eq a b ≡ t → t ≡ false
    go false e = refl
    go true e = absurd (let f : int_eq b a ≡ true = subst (λ w. int_eq w a ≡ true) (one_number a b e) (number_itself a) in let g = sym f ∙ is_less b a l in cc)

-- a number below all keys isn't there
below_none : (f : Count → ℕ) (z : ℤ) (es : Entries) → AllByRecursion (λ y. int_cmp z y ≡ Less) (keys_of es) → times z (spread_by f es) ≡ 0
below_none f z [] h = refl
below_none f z (e ∷ es) h = times-append z (replicate (f e.1) e.0) (spread_by f es)
    ∙ ap₂ (λ a b. a + b) (times-replicate z e.0 (f e.1) ∙ ap (λ b. cond b (f e.1) 0) (flipped e.0 z h.0)) (below_none f z es h.1)

-- each number stands in the list as often as its count says
pub times_by : (f : Count → ℕ) (z : ℤ) (es : Entries) → IsStrictlySortedBy int_cmp (keys_of es) → times z (spread_by f es) ≡ number_by f (count_at es z)
times_by f z [] sorted = refl
times_by f z (e ∷ es) sorted = times-append z (replicate (f e.1) e.0) (spread_by f es) ∙ ap (λ n. n + times z (spread_by f es)) (times-replicate z e.0 (f e.1)) ∙ go (times_by f z es) (int_eq e.0 z) refl (int_eq z e.0) refl
  where
    go : (IsStrictlySortedBy int_cmp (keys_of es) → times z (spread_by f es) ≡ number_by f (count_at es z)) → (b : Bool) → int_eq e.0 z ≡ b → (d : Bool) → int_eq z e.0 ≡ d
        → cond b (f e.1) 0 + times z (spread_by f es) ≡ number_by f (cond d (Some e.1) (lookup (is_at (int_cmp z)) es))
    go rec true i true g = subst (λ w. f e.1 + times w (spread_by f es) ≡ f e.1) (one_number e.0 z i) (let n = below_none f e.0 es (sorted_head int_cmp e.0 (keys_of es) sorted) in omega (arith, n))
    go rec false i false g = let r = rec (sorted_tail int_cmp e.0 (keys_of es) sorted) in omega (arith, r)
    go rec true i false g = absurd (let h : int_eq z e.0 ≡ true = subst (λ w. int_eq w e.0 ≡ true) (one_number e.0 z i) (number_itself e.0) in let k = sym h ∙ g in cc)
    go rec false i true g = absurd (let h : int_eq e.0 z ≡ true = subst (λ w. int_eq w z ≡ true) (one_number z e.0 g) (number_itself z) in let k = sym h ∙ i in cc)

spread_from : (f : Count → ℕ) (z : ℤ) (es : Entries) → AllByRecursion (λ y. int_cmp z y ≡ Less) (keys_of es) → AreFrom z (spread_by f es)
spread_from f z [] h = tt
spread_from f z (e ∷ es) h = from_append z (replicate (f e.1) e.0) (spread_by f es) (from_many z e.0 (f e.1) (upto_less z e.0 h.0)) (spread_from f z es h.1)

pub spread_rises : (f : Count → ℕ) (es : Entries) → IsStrictlySortedBy int_cmp (keys_of es) → IsRising (spread_by f es)
spread_rises f [] sorted = tt
spread_rises f (e ∷ es) sorted = many_rise e.0 (f e.1) (spread_by f es) (spread_from f e.0 es (sorted_head int_cmp e.0 (keys_of es) sorted)) (spread_rises f es (sorted_tail int_cmp e.0 (keys_of es) sorted))

-- ---- entries with such counts are such lists
pub listed : (f g : Count → ℕ) (es fs : Entries) → IsStrictlySortedBy int_cmp (keys_of es) → IsStrictlySortedBy int_cmp (keys_of fs) → ((q : ℤ) → number_by g (count_at fs q) ≡ number_by f (count_at es q))
    → spread_by g fs ≡ spread_by f es
listed f g es fs s t h = one_list (spread_by g fs) (spread_by f es) (spread_rises g fs t) (spread_rises f es s) (λ q. times_by g q fs t ∙ h q ∙ sym (times_by f q es s))

pub listed_with : (f : Count → ℕ) (z : ℤ) (es fs : Entries) → IsStrictlySortedBy int_cmp (keys_of es) → IsStrictlySortedBy int_cmp (keys_of fs)
    → ((q : ℤ) → number_by f (count_at fs q) ≡ cond (int_eq z q) 1 0 + number_by f (count_at es q)) → spread_by f fs ≡ with_number z (spread_by f es)
listed_with f z es fs s t h = one_list (spread_by f fs) (with_number z (spread_by f es)) (spread_rises f fs t) (with_rises z (spread_by f es) (spread_rises f es s))
    (λ q. times_by f q fs t ∙ h q ∙ sym (times_with q z (spread_by f es) ∙ ap (λ n. cond (int_eq z q) 1 0 + n) (times_by f q es s)))

-- ---- a number less
pub record Out (z : ℤ) (xs ys : List ℤ) : Type 0 where
  pub others : (q : ℤ) → times q xs ≡ cond (int_eq z q) 1 0 + times q ys
  pub longer : length xs ≡ suc (length ys)

pub out : (z : ℤ) (xs : List ℤ) → 0 < times z xs → Out z xs (without_number z xs)
out z [] h = absurd (omega (arith, h))
out z (x ∷ xs) h = go (out z xs) (int_eq x z) refl h
  where
    go : (0 < times z xs → Out z xs (without_number z xs)) → (b : Bool) → int_eq x z ≡ b → 0 < cond b 1 0 + times z xs → Out z (x ∷ xs) (cond b xs (x ∷ without_number z xs))
    go rec true e k = subst (λ w. Out w (x ∷ xs) xs) (one_number x z e) (record { others = λ q. refl; longer = refl })
    go rec false e k =
        let ih = rec (omega (arith, k)) in
        record { others = λ q. let i = ih.others q in omega (arith, i); longer = ap suc ih.longer }

pub listed_without : (f : Count → ℕ) (z : ℤ) (es fs : Entries) → IsStrictlySortedBy int_cmp (keys_of es) → IsStrictlySortedBy int_cmp (keys_of fs) → 0 < number_by f (count_at es z)
    → ((q : ℤ) → cond (int_eq z q) 1 0 + number_by f (count_at fs q) ≡ number_by f (count_at es q)) → spread_by f fs ≡ without_number z (spread_by f es)
listed_without f z es fs s t l h =
    let o = out z (spread_by f es) (subst (λ n. 0 < n) (sym (times_by f z es s)) l) in
    one_list (spread_by f fs) (without_number z (spread_by f es)) (spread_rises f fs t) (without_rises z (spread_by f es) (spread_rises f es s))
    (λ q. let a = times_by f q fs t in let b = h q in let c = times_by f q es s in let d = o.others q in omega (arith, a, b, c, d))

-- a number that doesn't stand there can't be taken out
pub without_none : (z : ℤ) (xs : List ℤ) → times z xs ≡ 0 → without_number z xs ≡ xs
without_none z [] h = refl
without_none z (x ∷ xs) h = go (without_none z xs) (int_eq x z) h
  where
    go : (times z xs ≡ 0 → without_number z xs ≡ xs) → (b : Bool) → cond b 1 0 + times z xs ≡ 0 → cond b xs (x ∷ without_number z xs) ≡ x ∷ xs
    go rec true k = absurd (omega (arith, k))
    go rec false k = ap (λ ys. x ∷ ys) (rec (omega (arith, k)))

-- what is decided not to stand in a list doesn't
pub none_there : (b : Bool) (k : ℕ) → b ≡ false → Decides b (0 < k) → k ≡ 0
none_there b zero e d = refl
none_there b (suc k) e d = absurd (let t = d.1 (omega arith) in cc)
