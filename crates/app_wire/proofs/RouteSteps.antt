-- The router's search over rows, one step at a time.
use Rattle.std.proofs.Common.{◌≡◌, ℕ, zero, suc, ◌-◌, ◌<◌, List, [], ◌∷◌, ◌++◌, length, drop, Option, Some, None, Bool, true, false, cond, ltb, refl, ap, sym, ◌∙◌, arith, nat_eq, ◌==◌, ◌&&◌, ◌||◌, ◌⊎◌, inl, inr}
use Rattle.std.proofs.lemmas.Bool.Decides.{nat_tests}
use Rattle.std.proofs.lemmas.Bool.{and_from, and_parts, or_cases}
use Rattle.std.proofs.lemmas.List.{length-append}
use Rattle.std.proofs.lemmas.Slice.Eq.{bytes_eq-Decides}
use Rattle.std.proofs.Math.Seq.{drop-append_seam, drop-length}
use Rattle.std.specs.Cmp.Lexicographic.{pointwise}
use Rattle.matchit.specs.Rows.{RowsOf}
use Rattle.matchit.specs.Seek.{or_else, own, step, seek, param_step, has_slash, segment, cuts, longest_from, with_suffix}

-- a row is among these
abbrev pub Has : {K : Type 0} → RowsOf K → List ℕ → K → Type 0
Has [] t k = ⊥
Has ((s, l) ∷ rest) t k = ((s ≡ t) × (l ≡ k)) ⊎ Has rest t k

-- a parameter ends its part, and nothing else is a token beside bytes
abbrev pub opens : List ℕ → Bool
opens [] = true
opens (x ∷ t) = x == 47

abbrev pub is_good : List ℕ → Bool
is_good [] = true
is_good (x ∷ t) = (ltb x 256 || ((x == 256) && opens t)) && is_good t

module _ {K : Type 0} where
  abbrev pub all_good : RowsOf K → Bool
  all_good [] = true
  all_good ((t, k) ∷ rest) = is_good t && all_good rest

  abbrev pub all_open : RowsOf K → Bool
  all_open [] = true
  all_open ((t, k) ∷ rest) = opens t && all_open rest

  -- a row goes on
  abbrev pub any_goes_on : RowsOf K → Bool
  any_goes_on [] = false
  any_goes_on (([], k) ∷ rest) = any_goes_on rest
  any_goes_on ((x ∷ t, k) ∷ rest) = true

-- the token of a good pattern
good_parts : (x : ℕ) (t : List ℕ) → is_good (x ∷ t) ≡ true → ((x < 256) ⊎ ((x ≡ 256) × (opens t ≡ true))) × (is_good t ≡ true)
good_parts x t h =
    let two = and_parts (ltb x 256 || ((x == 256) && opens t)) (is_good t) h in
    (by (or_cases (ltb x 256) ((x == 256) && opens t) two.0), two.1)
  where
    by : (ltb x 256 ≡ true) ⊎ (((x == 256) && opens t) ≡ true) → (x < 256) ⊎ ((x ≡ 256) × (opens t ≡ true))
    by (inl e) = let small : x < 256 = grind (arith, nat_tests) in inl small
    by (inr e) =
        let two = and_parts (x == 256) (opens t) e in
        let q = two.0 in
        let same : x ≡ 256 = grind (arith, nat_tests) in
        inr (same, two.1)

not_catch_all : (x : ℕ) (t : List ℕ) → is_good (x ∷ t) ≡ true → (x == 257) ≡ false
not_catch_all x t h = by (good_parts x t h).0
  where
    by : (x < 256) ⊎ ((x ≡ 256) × (opens t ≡ true)) → (x == 257) ≡ false
    by (inl e) = grind (arith, nat_tests)
    by (inr e) = let same = e.0 in grind (arith, nat_tests)

opens_param : (x : ℕ) (t : List ℕ) → is_good (x ∷ t) ≡ true → (x == 256) ≡ true → opens t ≡ true
opens_param x t h q = by (good_parts x t h).0
  where
    by : (x < 256) ⊎ ((x ≡ 256) × (opens t ≡ true)) → opens t ≡ true
    by (inl e) = let same : x ≡ 256 = grind (arith, nat_tests) in absurd (omega (arith, same, e))
    by (inr e) = e.1

module _ {K : Type 0} where
  pub good_step : (b : ℕ) (rs : RowsOf K) → all_good rs ≡ true → all_good (step b rs) ≡ true
  good_step b [] h = refl
  good_step b (([], k) ∷ rs) h = good_step b rs h
  good_step b ((x ∷ t, k) ∷ rs) h =
      let two = and_parts (is_good (x ∷ t)) (all_good rs) h in
      by (x == b) (good_parts x t two.0).1 (good_step b rs two.1)
    where
      by : (v : Bool) → is_good t ≡ true → all_good (step b rs) ≡ true → all_good (cond v ((t, k) ∷ step b rs) (step b rs)) ≡ true
      by true g ih = and_from (is_good t) (all_good (step b rs)) g ih
      by false g ih = ih

  pub open_step : (rs : RowsOf K) → all_good rs ≡ true → all_open (step 256 rs) ≡ true
  open_step [] h = refl
  open_step (([], k) ∷ rs) h = open_step rs h
  open_step ((x ∷ t, k) ∷ rs) h =
      let two = and_parts (is_good (x ∷ t)) (all_good rs) h in
      by (x == 256) refl two.0 (open_step rs two.1)
    where
      by : (v : Bool) → (x == 256) ≡ v → is_good (x ∷ t) ≡ true → all_open (step 256 rs) ≡ true → all_open (cond v ((t, k) ∷ step 256 rs) (step 256 rs)) ≡ true
      by true q g ih = and_from (opens t) (all_open (step 256 rs)) (opens_param x t g q) ih
      by false q g ih = ih

  pub no_catch_all : (rs : RowsOf K) → all_good rs ≡ true → step 257 rs ≡ []
  no_catch_all [] h = refl
  no_catch_all (([], k) ∷ rs) h = no_catch_all rs h
  no_catch_all ((x ∷ t, k) ∷ rs) h =
      let two = and_parts (is_good (x ∷ t)) (all_good rs) h in
      rw (not_catch_all x t two.0) (no_catch_all rs two.1)

  -- rows after a step
  pub step_from : (b : ℕ) (rs : RowsOf K) (t : List ℕ) (k : K) → Has (step b rs) t k → Has rs (b ∷ t) k
  step_from b [] t k h = h
  step_from b (([], l) ∷ rs) t k h = inr (step_from b rs t k h)
  step_from b ((x ∷ s, l) ∷ rs) t k h = by (x == b) refl (step_from b rs t k) h
    where
      by : (v : Bool) → (x == b) ≡ v → (Has (step b rs) t k → Has rs (b ∷ t) k) → Has (cond v ((s, l) ∷ step b rs) (step b rs)) t k → Has ((x ∷ s, l) ∷ rs) (b ∷ t) k
      by true q ih (inl e) =
          let same : x ≡ b = grind (arith, nat_tests) in
          inl (ap (λ z. z ∷ s) same ∙ ap (λ z. b ∷ z) e.0, e.1)
      by true q ih (inr g) = inr (ih g)
      by false q ih g = inr (ih g)

  pub step_to : (b : ℕ) (rs : RowsOf K) (t : List ℕ) (k : K) → Has rs (b ∷ t) k → Has (step b rs) t k
  step_to b [] t k h = h
  step_to b (([], l) ∷ rs) t k (inl e) = let no = e.0 in absurd (cc)
  step_to b (([], l) ∷ rs) t k (inr h) = step_to b rs t k h
  step_to b ((x ∷ s, l) ∷ rs) t k h = by (x == b) refl (step_to b rs t k) h
    where
      by : (v : Bool) → (x == b) ≡ v → (Has rs (b ∷ t) k → Has (step b rs) t k) → Has ((x ∷ s, l) ∷ rs) (b ∷ t) k → Has (cond v ((s, l) ∷ step b rs) (step b rs)) t k
      by true q ih (inl e) = let f = e.0 in inl (cc, e.1)
      by true q ih (inr g) = inr (ih g)
      by false q ih (inl e) =
          let f = e.0 in
          let same : x ≡ b = cc in
          absurd (grind (arith, nat_tests))
      by false q ih (inr g) = ih g

  pub own_from : (rs : RowsOf K) (k : K) → own rs ≡ Some k → Has rs [] k
  own_from [] k e = cc
  own_from (([], l) ∷ rs) k e = inl (refl, cc)
  own_from ((x ∷ t, l) ∷ rs) k e = inr (own_from rs k e)

  pub own_none : (rs : RowsOf K) (k : K) → own rs ≡ None → Has rs [] k → ⊥
  own_none [] k e h = h
  own_none (([], l) ∷ rs) k e h = cc
  own_none ((x ∷ t, l) ∷ rs) k e (inl h) = let no = h.0 in cc
  own_none ((x ∷ t, l) ∷ rs) k e (inr h) = own_none rs k e h

  -- rows of a suffix
  pub suffix_from : (s : List ℕ) (rs : RowsOf K) (t : List ℕ) (k : K) → Has (with_suffix s rs) t k → Has rs t k
  suffix_from s [] t k h = h
  suffix_from s ((u, l) ∷ rs) t k h = by (pointwise nat_eq (segment u) s) (suffix_from s rs t k) h
    where
      by : (v : Bool) → (Has (with_suffix s rs) t k → Has rs t k) → Has (cond v ((u, l) ∷ with_suffix s rs) (with_suffix s rs)) t k → Has ((u, l) ∷ rs) t k
      by true ih (inl e) = inl e
      by true ih (inr g) = inr (ih g)
      by false ih g = inr (ih g)

  pub suffix_to : (s : List ℕ) (rs : RowsOf K) (t : List ℕ) (k : K) → segment t ≡ s → Has rs t k → Has (with_suffix s rs) t k
  suffix_to s [] t k e h = h
  suffix_to s ((u, l) ∷ rs) t k e h = by (pointwise nat_eq (segment u) s) refl (suffix_to s rs t k e) h
    where
      by : (v : Bool) → pointwise nat_eq (segment u) s ≡ v → (Has rs t k → Has (with_suffix s rs) t k) → Has ((u, l) ∷ rs) t k → Has (cond v ((u, l) ∷ with_suffix s rs) (with_suffix s rs)) t k
      by true q ih (inl f) = inl f
      by true q ih (inr g) = inr (ih g)
      by false q ih (inl f) =
          let same : segment u ≡ s = ap segment f.0 ∙ e in
          let yes = (bytes_eq-Decides (segment u) s).1 same in
          absurd (cc)
      by false q ih (inr g) = ih g

  pub good_suffix : (s : List ℕ) (rs : RowsOf K) → all_good rs ≡ true → all_good (with_suffix s rs) ≡ true
  good_suffix s [] h = refl
  good_suffix s ((u, l) ∷ rs) h =
      let two = and_parts (is_good u) (all_good rs) h in
      by (pointwise nat_eq (segment u) s) two.0 (good_suffix s rs two.1)
    where
      by : (v : Bool) → is_good u ≡ true → all_good (with_suffix s rs) ≡ true → all_good (cond v ((u, l) ∷ with_suffix s rs) (with_suffix s rs)) ≡ true
      by true g ih = and_from (is_good u) (all_good (with_suffix s rs)) g ih
      by false g ih = ih

  -- which suffix is the longest
  pub longest_none : (seg : List ℕ) (rs : RowsOf K) → all_open rs ≡ true → cuts seg (47 ∷ []) ≡ false → longest_from seg [] rs ≡ []
  longest_none seg [] h c = refl
  longest_none seg (([], k) ∷ rs) h c = longest_none seg rs h c
  longest_none seg ((x ∷ t, k) ∷ rs) h c =
      let two = and_parts (x == 47) (all_open rs) h in
      let same : x ≡ 47 = (let q = two.0 in grind (arith, nat_tests)) in
      rw same (rw c (longest_none seg rs two.1 c))

  longest_slash_from : (seg : List ℕ) (rs : RowsOf K) → all_open rs ≡ true → longest_from seg (47 ∷ []) rs ≡ 47 ∷ []
  longest_slash_from seg [] h = refl
  longest_slash_from seg (([], k) ∷ rs) h = longest_slash_from seg rs h
  longest_slash_from seg ((x ∷ t, k) ∷ rs) h =
      let two = and_parts (x == 47) (all_open rs) h in
      rw (two.0) (longest_slash_from seg rs two.1)

  pub longest_slash : (seg : List ℕ) (rs : RowsOf K) → all_open rs ≡ true → cuts seg (47 ∷ []) ≡ true → any_goes_on rs ≡ true → longest_from seg [] rs ≡ 47 ∷ []
  longest_slash seg [] h c a = cc
  longest_slash seg (([], k) ∷ rs) h c a = longest_slash seg rs h c a
  longest_slash seg ((x ∷ t, k) ∷ rs) h c a =
      let two = and_parts (x == 47) (all_open rs) h in
      let same : x ≡ 47 = (let q = two.0 in grind (arith, nat_tests)) in
      rw same (rw c (longest_slash_from seg rs two.1))

  pub longest_ended : (seg : List ℕ) (rs : RowsOf K) → any_goes_on rs ≡ false → longest_from seg [] rs ≡ []
  longest_ended seg [] a = refl
  longest_ended seg (([], k) ∷ rs) a = longest_ended seg rs a
  longest_ended seg ((x ∷ t, k) ∷ rs) a = cc

  pub goes_on : (rs : RowsOf K) (x : ℕ) (t : List ℕ) (k : K) → Has rs (x ∷ t) k → any_goes_on rs ≡ true
  goes_on [] x t k h = absurd h
  goes_on (([], l) ∷ rs) x t k (inl e) = let no = e.0 in absurd (cc)
  goes_on (([], l) ∷ rs) x t k (inr h) = goes_on rs x t k h
  goes_on ((y ∷ s, l) ∷ rs) x t k h = refl

  pub open_of : (rs : RowsOf K) (t : List ℕ) (k : K) → all_open rs ≡ true → Has rs t k → opens t ≡ true
  open_of [] t k o h = absurd h
  open_of ((s, l) ∷ rs) t k o (inl e) = let two = and_parts (opens s) (all_open rs) o in ap opens (sym e.0) ∙ two.0
  open_of ((s, l) ∷ rs) t k o (inr h) = let two = and_parts (opens s) (all_open rs) o in open_of rs t k two.1 h

  -- the search
  none_param : (p : List ℕ) → (param_step {K = K} [] p).1 ≡ []
  unfolding param_step
  none_param p = elim (has_slash p) as (λ v. (cond {A = ℕ × RowsOf K} v (0, []) (length p, [])).1 ≡ []) [ true ↦ refl | false ↦ refl ]

  pub seek_none : (n : ℕ) (p : List ℕ) → seek {K = K} n [] p ≡ None
  unfolding seek
  seek_none n [] = refl
  seek_none (suc n) (b ∷ p) = seek_none n p
  seek_none zero (b ∷ p) = simp (seek_none 0 p, none_param (b ∷ p), seek_none (((param_step {K = K} [] (b ∷ p)).0) - 1) p)

  or_none : (a : Option K) → or_else a None ≡ a
  or_none None = refl
  or_none (Some k) = refl

  pub seek_past : (n : ℕ) (r : RowsOf K) (p : List ℕ) → seek n r p ≡ seek 0 r (drop n p)
  unfolding seek
  seek_past zero r p = refl
  seek_past (suc n) r [] = refl
  seek_past (suc n) r (b ∷ p) = seek_past n r p

  -- what is found by a parameter
  pub by_param : RowsOf K → ℕ → List ℕ → Option K
  by_param rs b p = seek ((param_step (step 256 rs) (b ∷ p)).0 - 1) (param_step (step 256 rs) (b ∷ p)).1 p

  pub seek_end : (rs : RowsOf K) → seek 0 rs [] ≡ own rs
  unfolding seek
  seek_end rs = refl

  pub seek_byte : (rs : RowsOf K) (b : ℕ) (p : List ℕ) → all_good rs ≡ true → seek 0 rs (b ∷ p) ≡ or_else (seek 0 (step b rs) p) (by_param rs b p)
  unfolding seek by_param
  seek_byte rs b p h = rw (no_catch_all rs h) (ap (λ o. or_else (seek 0 (step b rs) p) o) (or_none (by_param rs b p)))

pub tail_plain : (x : ℕ) (xs : List ℕ) → has_slash (x ∷ xs) ≡ false → ((x == 47) ≡ false) × (has_slash xs ≡ false)
tail_plain x xs h = by (x == 47) h
  where
    by : (v : Bool) → cond v true (has_slash xs) ≡ false → (v ≡ false) × (has_slash xs ≡ false)
    by true e = cc
    by false e = (refl, e)

segment_plain : (p : List ℕ) → has_slash p ≡ false → segment p ≡ p
segment_plain [] h = refl
segment_plain (x ∷ p) h = let t = tail_plain x p h in rw t.0 (ap (λ z. x ∷ z) (segment_plain p t.1))

segment_cut : (name rest : List ℕ) → has_slash name ≡ false → segment (name ++ 47 ∷ rest) ≡ name ++ 47 ∷ []
segment_cut [] rest h = refl
segment_cut (x ∷ p) rest h = let t = tail_plain x p h in rw t.0 (ap (λ z. x ∷ z) (segment_cut p rest t.1))

pub slash_in : (name rest : List ℕ) → has_slash (name ++ 47 ∷ rest) ≡ true
slash_in [] rest = refl
slash_in (x ∷ p) rest = by (x == 47) (slash_in p rest)
  where
    by : (v : Bool) → has_slash (p ++ 47 ∷ rest) ≡ true → cond v true (has_slash (p ++ 47 ∷ rest)) ≡ true
    by true e = refl
    by false e = e

last_plain : (x : ℕ) (xs : List ℕ) → has_slash (x ∷ xs) ≡ false → pointwise nat_eq (47 ∷ []) (drop (length xs) (x ∷ xs)) ≡ false
last_plain x [] h =
    let t = (tail_plain x [] h).0 in
    let n : (47 == x) ≡ false = grind (arith, nat_tests, t) in
    rw n refl
last_plain x (y ∷ ys) h = last_plain y ys (tail_plain x (y ∷ ys) h).1

no_cut : (x : ℕ) (xs : List ℕ) → has_slash (x ∷ xs) ≡ false → cuts (x ∷ xs) (47 ∷ []) ≡ false
no_cut x xs h =
    let less : suc (length xs) - 1 ≡ length xs = omega arith in
    rw (less, last_plain x xs h) (by (ltb 1 (suc (length xs))))
  where
    by : (v : Bool) → (v && false) ≡ false
    by true = refl
    by false = refl

len_more : (xs : List ℕ) → length (xs ++ 47 ∷ []) ≡ suc (length xs)
len_more xs = length-append xs (47 ∷ []) ∙ omega arith

yes_cut : (x : ℕ) (xs : List ℕ) → cuts (x ∷ (xs ++ 47 ∷ [])) (47 ∷ []) ≡ true
yes_cut x xs =
    let less : suc (suc (length xs)) - 1 ≡ suc (length xs) = omega arith in
    let more : ltb 1 (suc (suc (length xs))) ≡ true = grind (arith, nat_tests) in
    rw (len_more xs) (rw (less, more) (rw (drop-append_seam xs (47 ∷ [])) refl))

one_less : (n : ℕ) → suc n - 1 ≡ n
one_less n = omega arith

module _ {K : Type 0} where
  -- a parameter that ends the path
  param_end : (q : RowsOf K) (x : ℕ) (xs : List ℕ) → all_open q ≡ true → has_slash (x ∷ xs) ≡ false → param_step q (x ∷ xs) ≡ (suc (length xs), q)
  unfolding param_step
  param_end q x xs o h = rw (segment_plain (x ∷ xs) h) (rw (longest_none (x ∷ xs) q o (no_cut x xs h)) (rw h refl))

  -- one with a slash behind it
  param_on : (q : RowsOf K) (x : ℕ) (xs rest : List ℕ) → all_open q ≡ true → any_goes_on q ≡ true → has_slash (x ∷ xs) ≡ false
      → param_step q (x ∷ (xs ++ 47 ∷ rest)) ≡ (suc (length xs), with_suffix (47 ∷ []) q)
  unfolding param_step
  param_on q x xs rest o a h =
      let less : suc (suc (length xs)) - 1 ≡ suc (length xs) = omega arith in
      rw (segment_cut (x ∷ xs) rest h) (rw (longest_slash (x ∷ (xs ++ 47 ∷ [])) q o (yes_cut x xs) a) (rw (len_more xs) (rw less refl)))

  param_off : (q : RowsOf K) (x : ℕ) (xs rest : List ℕ) → any_goes_on q ≡ false → param_step q (x ∷ (xs ++ 47 ∷ rest)) ≡ (0, [])
  unfolding param_step
  param_off q x xs rest a = rw (longest_ended (segment (x ∷ (xs ++ 47 ∷ rest))) q a) (rw (slash_in (x ∷ xs) rest) refl)

  -- none takes no byte
  param_zero : (q : RowsOf K) (rest : List ℕ) → all_open q ≡ true → param_step q (47 ∷ rest) ≡ (0, [])
  unfolding param_step
  param_zero q rest o = rw (longest_none (47 ∷ []) q o refl) refl

  pub found_end : (rs : RowsOf K) (x : ℕ) (xs : List ℕ) → all_good rs ≡ true → has_slash (x ∷ xs) ≡ false → by_param rs x xs ≡ own (step 256 rs)
  unfolding by_param seek
  found_end rs x xs g h =
      rw (param_end (step 256 rs) x xs (open_step rs g) h) (rw (one_less (length xs)) (seek_past (length xs) (step 256 rs) xs ∙ rw (drop-length xs) (seek_end (step 256 rs))))

  pub found_on : (rs : RowsOf K) (x : ℕ) (xs rest : List ℕ) → all_good rs ≡ true → any_goes_on (step 256 rs) ≡ true → has_slash (x ∷ xs) ≡ false
      → by_param rs x (xs ++ 47 ∷ rest) ≡ seek 0 (with_suffix (47 ∷ []) (step 256 rs)) (47 ∷ rest)
  unfolding by_param
  found_on rs x xs rest g a h =
      let q = with_suffix (47 ∷ []) (step 256 rs) in
      rw (param_on (step 256 rs) x xs rest (open_step rs g) a h)
      (rw (one_less (length xs)) (seek_past (length xs) q (xs ++ 47 ∷ rest) ∙ ap (λ p. seek 0 q p) (drop-append_seam xs (47 ∷ rest))))

  pub found_off : (rs : RowsOf K) (x : ℕ) (xs rest : List ℕ) → any_goes_on (step 256 rs) ≡ false → by_param rs x (xs ++ 47 ∷ rest) ≡ None
  unfolding by_param
  found_off rs x xs rest a = rw (param_off (step 256 rs) x xs rest a) (seek_none 0 (xs ++ 47 ∷ rest))

  pub found_zero : (rs : RowsOf K) (rest : List ℕ) → all_good rs ≡ true → by_param rs 47 rest ≡ None
  unfolding by_param
  found_zero rs rest g = rw (param_zero (step 256 rs) rest (open_step rs g)) (seek_none 0 rest)

-- the first slash
pub split : (p : List ℕ) → (has_slash p ≡ false) ⊎ ((name : List ℕ) × (rest : List ℕ) × (p ≡ name ++ 47 ∷ rest) × (has_slash name ≡ false))
split [] = inl refl
split (x ∷ p) = by (x == 47) refl (split p)
  where
    by : (v : Bool) → (x == 47) ≡ v → ((has_slash p ≡ false) ⊎ ((name : List ℕ) × (rest : List ℕ) × (p ≡ name ++ 47 ∷ rest) × (has_slash name ≡ false)))
        → (has_slash (x ∷ p) ≡ false) ⊎ ((name : List ℕ) × (rest : List ℕ) × (x ∷ p ≡ name ++ 47 ∷ rest) × (has_slash name ≡ false))
    by true e ih = let same : x ≡ 47 = grind (arith, nat_tests) in inr ([], p, ap (λ z. z ∷ p) same, refl)
    by false e (inl h) = inl (rw e h)
    by false e (inr h) = inr (x ∷ h.0, h.1, ap (λ z. x ∷ z) h.2, rw e h.3)
