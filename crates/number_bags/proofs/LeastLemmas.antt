-- The least and the greatest of numbers, and what lists come to with the same numbers as often.
use Rattle.std.proofs.Common.{◌≡◌, ◌⊎◌, inl, inr, ℕ, zero, suc, ◌+◌, ◌<◌, ◌≤◌, ℤ, ◌≤ℤ◌, List, [], ◌∷◌, ◌++◌, length, get_or, replicate, Bool, true, false, cond, Option, Some, None, refl, sym, ap, subst, ◌∙◌, arith, append-nil, append_assoc}
use Rattle.std.specs.List.{All, Contains}
use Rattle.std.specs.Ordering.{int_eq}
use Rattle.std.proofs.lemmas.List.Elements.{All-push, All-nil, All-cons, All-weaker, Contains-push, Contains-append_left, Contains-append_right, Contains-get_or, All-contains}
use Rattle.fx_value.specs.Aggregates.{IsGreater, IsGreatest, IsLeast, IsLesser, SumsUp}
use Rattle.fx_types.specs.declared.aggregates.Totals.{Totals}
use Rattle.number_bags.specs.Rising.{AreFrom, AreSame, IsRising, times, with_number}
use Rattle.number_bags.specs.Entries.{Entries, spread_by, spread_now}
use Rattle.number_bags.specs.declared.counts.Count.{Count}
use Rattle.number_bags.proofs.CountLemmas.{number_itself, one_number}
use Rattle.number_bags.proofs.RisingLemmas.{times-append, times_with, upto_itself, upto_further}
use Rattle.number_bags.proofs.SumLemmas.{same_sums, sum_total}

at_equal : (a b : ℤ) → a ≡ b → a ≤ℤ b
at_equal a b e = subst (λ (x : ℤ). a ≤ℤ x) e (upto_itself a)

contains_one : (zs : List ℤ) (m z r : ℤ) → Contains zs m → (r ≡ m) ⊎ (r ≡ z) → Contains (zs ++ z ∷ []) r
contains_one zs m z r c (inl e) = subst (Contains (zs ++ z ∷ [])) (sym e) (Contains-append_left zs (z ∷ []) m c)
contains_one zs m z r c (inr e) = subst (Contains (zs ++ z ∷ [])) (sym e) (Contains-push zs z)

least_more : (zs : List ℤ) (o : Option ℤ) (z r : ℤ) → IsLeast zs o → IsLesser o z r → IsLeast (zs ++ z ∷ []) (Some r)
least_more zs None z r h e =
    let P : List ℤ → Type 0 = λ ws. All (λ w. r ≤ℤ w) ws in
    (subst (Contains (zs ++ z ∷ [])) (sym e) (Contains-push zs z), All-push (λ w. r ≤ℤ w) zs z (subst P (sym h) (All-nil (λ w. r ≤ℤ w))) (at_equal r z e))
least_more zs (Some m) z r h e =
    (contains_one zs m z r h.0 e.0, All-push (λ w. r ≤ℤ w) zs z (All-weaker (λ w. m ≤ℤ w) (λ w. r ≤ℤ w) (λ w k. upto_further r m w e.1 k) zs h.1) e.2)

greatest_more : (zs : List ℤ) (o : Option ℤ) (z r : ℤ) → IsGreatest zs o → IsGreater o z r → IsGreatest (zs ++ z ∷ []) (Some r)
greatest_more zs None z r h e =
    let P : List ℤ → Type 0 = λ ws. All (λ w. w ≤ℤ r) ws in
    (subst (Contains (zs ++ z ∷ [])) (sym e) (Contains-push zs z), All-push (λ w. w ≤ℤ r) zs z (subst P (sym h) (All-nil (λ w. w ≤ℤ r))) (at_equal z r (sym e)))
greatest_more zs (Some m) z r h e =
    (contains_one zs m z r h.0 e.0, All-push (λ w. w ≤ℤ r) zs z (All-weaker (λ w. w ≤ℤ m) (λ w. w ≤ℤ r) (λ w k. upto_further w m r k e.1) zs h.1) e.2)

-- ---- of two lists with the same numbers as often, one comes to what the other does
there_from : (m : ℤ) (zs : List ℤ) → 0 < times m zs → Contains zs m
there_from m [] h = absurd (omega (arith, h))
there_from m (z ∷ zs) h = go (there_from m zs) (int_eq z m) refl h
  where
    go : (0 < times m zs → Contains zs m) → (b : Bool) → int_eq z m ≡ b → 0 < cond b 1 0 + times m zs → Contains (z ∷ zs) m
    go rec true e k = subst (Contains (z ∷ zs)) (one_number z m e) (Contains-append_left (z ∷ []) zs z (Contains-push [] z))
    go rec false e k = Contains-append_right (z ∷ []) zs m (rec (omega (arith, k)))

pub often_from : (m : ℤ) (zs : List ℤ) → Contains zs m → 0 < times m zs
often_from m [] c = absurd (let l = c.1 in omega (arith, l))
often_from m (z ∷ zs) (zero, l, e) = subst (λ b. 0 < cond b 1 0 + times m zs) (sym (ap (λ w. int_eq w m) e ∙ number_itself m)) (omega arith)
often_from m (z ∷ zs) (suc k, l, e) = let h = often_from m zs (k, omega (arith, l), e) in omega (arith, h)

moved : (m : ℤ) (zs ws : List ℤ) → AreSame zs ws → Contains zs m → Contains ws m
moved m zs ws h c = there_from m ws (subst (λ n. 0 < n) (h m) (often_from m zs c))

all_moved : (P : ℤ → Type 0) (zs ws : List ℤ) → AreSame zs ws → All P zs → All P ws
all_moved P zs ws h a k d l = All-contains P zs (get_or ws k d) a (moved (get_or ws k d) ws zs (λ q. sym (h q)) (Contains-get_or ws k d l))

none_moved : (zs ws : List ℤ) → AreSame zs ws → zs ≡ [] → ws ≡ []
none_moved zs [] h e = refl
none_moved zs (w ∷ ws) h e = absurd (let n = (same_sums zs (w ∷ ws) h).0 in let m = ap length e in omega (arith, n, m))

least_moved : (zs ws : List ℤ) (o : Option ℤ) → AreSame zs ws → IsLeast zs o → IsLeast ws o
least_moved zs ws None h e = none_moved zs ws h e
least_moved zs ws (Some m) h e = (moved m zs ws h e.0, all_moved (λ z. m ≤ℤ z) zs ws h e.1)

greatest_moved : (zs ws : List ℤ) (o : Option ℤ) → AreSame zs ws → IsGreatest zs o → IsGreatest ws o
greatest_moved zs ws None h e = none_moved zs ws h e
greatest_moved zs ws (Some m) h e = (moved m zs ws h e.0, all_moved (λ z. z ≤ℤ m) zs ws h e.1)

pub sums_same : (zs ws : List ℤ) (t : Totals) → AreSame zs ws → SumsUp zs t → SumsUp ws t
sums_same zs ws t h s = let both = same_sums zs ws h in record {
  count = s.count ∙ both.0;
  sum = s.sum ∙ sum_total zs ∙ both.1 ∙ sym (sum_total ws);
  has_least = least_moved zs ws t.least h s.has_least;
  has_greatest = greatest_moved zs ws t.greatest h s.has_greatest;
}

-- ---- a number more
last_more : (z : ℤ) (zs : List ℤ) → AreSame (zs ++ z ∷ []) (with_number z zs)
last_more z zs q = times-append q zs (z ∷ []) ∙ let e = times_with q z zs in omega (arith, e)

pub with_least : (zs : List ℤ) (o : Option ℤ) (z r : ℤ) → IsLeast zs o → IsLesser o z r → IsLeast (with_number z zs) (Some r)
with_least zs o z r h e = least_moved (zs ++ z ∷ []) (with_number z zs) (Some r) (last_more z zs) (least_more zs o z r h e)

pub with_greatest : (zs : List ℤ) (o : Option ℤ) (z r : ℤ) → IsGreatest zs o → IsGreater o z r → IsGreatest (with_number z zs) (Some r)
with_greatest zs o z r h e = greatest_moved (zs ++ z ∷ []) (with_number z zs) (Some r) (last_more z zs) (greatest_more zs o z r h e)

-- ---- the first and the last of numbers that rise
all_from : (z : ℤ) (xs : List ℤ) → AreFrom z xs → All (λ w. z ≤ℤ w) xs
all_from z [] h = All-nil (λ w. z ≤ℤ w)
all_from z (x ∷ xs) h = All-cons (λ w. z ≤ℤ w) x xs h.0 (all_from z xs h.1)

first_least : (z : ℤ) (xs : List ℤ) → IsRising (z ∷ xs) → IsLeast (z ∷ xs) (Some z)
first_least z xs r = (Contains-append_left (z ∷ []) xs z (Contains-push [] z), All-cons (λ w. z ≤ℤ w) z xs (upto_itself z) (all_from z xs r.0))

upto_many : (z : ℤ) (n : ℕ) → All (λ w. w ≤ℤ z) (replicate n z)
upto_many z zero = All-nil (λ w. w ≤ℤ z)
upto_many z (suc n) = All-cons (λ w. w ≤ℤ z) z (replicate n z) (upto_itself z) (upto_many z n)

before_last : (x z : ℤ) (n : ℕ) (xs : List ℤ) → AreFrom x (xs ++ replicate (suc n) z) → x ≤ℤ z
before_last x z n [] h = h.0
before_last x z n (y ∷ xs) h = before_last x z n xs h.1

upto_last : (z : ℤ) (n : ℕ) (xs : List ℤ) → IsRising (xs ++ replicate (suc n) z) → All (λ w. w ≤ℤ z) (xs ++ replicate (suc n) z)
upto_last z n [] r = upto_many z (suc n)
upto_last z n (x ∷ xs) r = All-cons (λ w. w ≤ℤ z) x (xs ++ replicate (suc n) z) (before_last x z n xs r.0) (upto_last z n xs r.1)

last_greatest : (z : ℤ) (n : ℕ) (xs : List ℤ) → IsRising (xs ++ replicate (suc n) z) → IsGreatest (xs ++ replicate (suc n) z) (Some z)
last_greatest z n xs r = (Contains-append_right xs (replicate (suc n) z) z (Contains-append_left (z ∷ []) (replicate n z) z (Contains-push [] z)), upto_last z n xs r)

-- ---- entries from the first on, and from the last back
over_none : (z : ℤ) (n : ℕ) (xs : List ℤ) → n ≤ 0 → replicate n z ++ xs ≡ xs
over_none z zero xs h = refl
over_none z (suc n) xs h = absurd (omega (arith, h))

pub passed_first : (it rest all : Entries) (z : ℤ) (c : Count) → c.is ≤ 0 → it ≡ (z, c) ∷ rest → spread_now it ≡ spread_now all → spread_now rest ≡ spread_now all
passed_first it rest all z c none e h = sym (over_none z c.is (spread_now rest) none) ∙ ap spread_now (sym e) ∙ h

pub found_first : (it rest all : Entries) (z : ℤ) (c : Count) → 0 < c.is → it ≡ (z, c) ∷ rest → spread_now it ≡ spread_now all → IsRising (spread_now all) → IsLeast (spread_now all) (Some z)
found_first it rest all z c some e h r = go c.is some (sym h ∙ ap spread_now e)
  where
    go : (n : ℕ) → 0 < n → spread_now all ≡ replicate n z ++ spread_now rest → IsLeast (spread_now all) (Some z)
    go zero l f = absurd (omega (arith, l))
    go (suc n) l f = subst (λ zs. IsLeast zs (Some z)) (sym f) (first_least z (replicate n z ++ spread_now rest) (subst IsRising f r))

spread_append : (f : Count → ℕ) (es fs : Entries) → spread_by f (es ++ fs) ≡ spread_by f es ++ spread_by f fs
spread_append f [] fs = refl
spread_append f (e ∷ es) fs = ap (λ zs. replicate (f e.1) e.0 ++ zs) (spread_append f es fs) ∙ sym (append_assoc (replicate (f e.1) e.0) (spread_by f es) (spread_by f fs))

spread_last : (it rest : Entries) (z : ℤ) (c : Count) → it ≡ rest ++ (z, c) ∷ [] → spread_now it ≡ spread_now rest ++ replicate c.is z
spread_last it rest z c e = ap spread_now e ∙ spread_append (λ (n : Count). n.is) rest ((z, c) ∷ []) ∙ ap (λ zs. spread_now rest ++ zs) (append-nil (replicate c.is z))

pub passed_last : (it rest all : Entries) (z : ℤ) (c : Count) → c.is ≤ 0 → it ≡ rest ++ (z, c) ∷ [] → spread_now it ≡ spread_now all → spread_now rest ≡ spread_now all
passed_last it rest all z c none e h = sym (no_last c.is none) ∙ sym (spread_last it rest z c e) ∙ h
  where
    no_last : (n : ℕ) → n ≤ 0 → spread_now rest ++ replicate n z ≡ spread_now rest
    no_last zero l = append-nil (spread_now rest)
    no_last (suc n) l = absurd (omega (arith, l))

pub found_last : (it rest all : Entries) (z : ℤ) (c : Count) → 0 < c.is → it ≡ rest ++ (z, c) ∷ [] → spread_now it ≡ spread_now all → IsRising (spread_now all) → IsGreatest (spread_now all) (Some z)
found_last it rest all z c some e h r = go c.is some (sym h ∙ spread_last it rest z c e)
  where
    go : (n : ℕ) → 0 < n → spread_now all ≡ spread_now rest ++ replicate n z → IsGreatest (spread_now all) (Some z)
    go zero l f = absurd (omega (arith, l))
    go (suc n) l f = subst (λ zs. IsGreatest zs (Some z)) (sym f) (last_greatest z n (spread_now rest) (subst IsRising f r))
