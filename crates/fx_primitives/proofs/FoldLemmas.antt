-- One more number.
use Rattle.std.proofs.Common.{◌≡◌, ℕ, ◌+◌, ◌<◌, zero, suc, ℤ, pos, ◌+ℤ◌, ◌≤ℤ◌, List, [], ◌∷◌, ◌++◌, length, get_or, take, Option, Some, None, option_to_list, ap, sym, refl, subst, ◌∙◌, arith, append-nil, length-append}
use Rattle.std.proofs.lemmas.Int.{ints}
use Rattle.std.proofs.lemmas.List.{take_more}
use Rattle.std.proofs.lemmas.List.Elements.{filter_map-append, All-append, Contains-append_right}
use Rattle.std.proofs.lemmas.List.Sums.{fold-append}
use Rattle.std.specs.Prelude.{Contains}
use Rattle.fx_primitives.specs.Folds.{nonblank, total, AreSummedUp, IsLeast, IsGreatest}

present_one : (x : Option ℤ) → nonblank (x ∷ []) ≡ option_to_list x
present_one None = refl
present_one (Some z) = refl

pub present_more : (xs : List (Option ℤ)) (i : ℕ) (x : Option ℤ) → i < length xs → x ≡ get_or xs i x → nonblank (take (i + 1) xs) ≡ nonblank (take i xs) ++ option_to_list x
present_more xs i x h e =
    ap nonblank (take_more xs i x h ∙ ap (λ y. take i xs ++ y ∷ []) (sym e)) ∙ filter_map-append (λ o. o) (take i xs) (x ∷ [])
    ∙ ap (λ ys. nonblank (take i xs) ++ ys) (present_one x)

total_more : (zs : List ℤ) (x : Option ℤ) → total (zs ++ option_to_list x) ≡ total zs +ℤ total (option_to_list x)
total_more zs None = ap total (append-nil zs) ∙ (omega (arith, ints))
total_more zs (Some z) = fold-append ◌+ℤ◌ (pos 0) zs (z ∷ []) ∙ (omega (arith, ints))

pub counted_more : (zs : List ℤ) (x : Option ℤ) (count more : ℕ) (sum part : ℤ) → AreSummedUp zs count sum → AreSummedUp (option_to_list x) more part
    → AreSummedUp (zs ++ option_to_list x) (count + more) (sum +ℤ part)
counted_more zs x count more sum part h k =
    let a = h.sums in let b = k.sums in let t = total_more zs x in
    let low = h.low in let low' = k.low in let high = h.high in let high' = k.high in
    record {
      counts = omega (arith, length-append zs (option_to_list x), h.counts, k.counts);
      sums = omega (arith, ints);
      low = omega (arith, ints);
      high = omega (arith, ints);
    }

-- the same where the numbers are named
pub counted_step : (zs ys : List ℤ) (x : Option ℤ) (count more next : ℕ) (sum part after : ℤ) → ys ≡ zs ++ option_to_list x → next ≡ count + more → after ≡ sum +ℤ part
    → AreSummedUp zs count sum → AreSummedUp (option_to_list x) more part → AreSummedUp ys next after
counted_step zs ys x count more next sum part after e f g h k =
    rw (e, f, g) (counted_more zs x count more sum part h k)

-- ---- the least and the greatest
single : (y : ℤ) (k : ℕ) (d : ℤ) → k < 1 → get_or (y ∷ []) k d ≡ y
single y zero d h = refl
single y (suc k) d h = absurd (omega arith)

has_last : (zs : List ℤ) (y : ℤ) → Contains (zs ++ y ∷ []) y
has_last zs y = Contains-append_right zs (y ∷ []) y (0, omega arith, refl)

pub least_right : (zs : List ℤ) (a b : Option ℤ) (x y : ℤ) → a ≡ Some x → b ≡ Some y → y ≤ℤ x → IsLeast zs a → IsLeast (zs ++ option_to_list b) (Some y)
least_right zs a b x y e f l h =
    let k = subst (IsLeast zs) e h in
    rw f (has_last zs y, All-append (λ z. y ≤ℤ z) zs (y ∷ []) (λ i d lt. let m = k.1 i d lt in omega (arith, ints)) (λ i d lt. rw (single y i d lt) (omega (arith, ints))))

pub greatest_right : (zs : List ℤ) (a b : Option ℤ) (x y : ℤ) → a ≡ Some x → b ≡ Some y → x ≤ℤ y → IsGreatest zs a → IsGreatest (zs ++ option_to_list b) (Some y)
greatest_right zs a b x y e f l h =
    let k = subst (IsGreatest zs) e h in
    rw f (has_last zs y, All-append (λ z. z ≤ℤ y) zs (y ∷ []) (λ i d lt. let m = k.1 i d lt in omega (arith, ints)) (λ i d lt. rw (single y i d lt) (omega (arith, ints))))
