-- The average of numbers, of which totals tell.
use Rattle.std.proofs.Common.{◌≡◌, ◌≢◌, ◌∙◌, ℕ, suc, ◌+◌, ℤ, pos, ◌+ℤ◌, ◌≤ℤ◌, List, [], ◌∷◌, length, Option, Some, Err, refl, sym, subst, arith}
use Rattle.std.proofs.lemmas.Int.{ints}
use Rattle.std.proofs.lemmas.List.Elements.{recursion_from_All}
use Rattle.std.specs.List.{All, AllByRecursion, Contains, fold}
use Rattle.std.specs.Prelude.{MatchOption}
use Rattle.fx_primitives.specs.Folds.{IsSum}
use Rattle.fx_types.specs.declared.faults.Kind.TheVariants.{Numeric}
use Rattle.fx_types.specs.declared.aggregates.Totals.{Totals}
use Rattle.fx_number.specs.Decimal.{IsInRange}
use Rattle.fx_value.specs.Aggregates.{IsLeast, IsBoundedSum, SumsUp, sum_of}

-- the sum of numbers in range is in that of so many, also behind others
within_from : (zs : List ℤ) (n : ℕ) (a : ℤ) → IsBoundedSum n a → AllByRecursion IsInRange zs → IsBoundedSum (n + length zs) (fold ◌+ℤ◌ a zs)
within_from [] n a w h = let e : n + 0 ≡ n = omega arith in rw e w
within_from (z ∷ zs) n a w h =
    let low = w.low in
    let high = w.high in
    let above = h.0.0 in
    let below = h.0.1 in
    let e : n + length (z ∷ zs) ≡ suc n + length zs = omega arith in
    let next : IsBoundedSum (suc n) (a +ℤ z) = record { low = omega (arith, ints); high = omega (arith, ints) } in
    rw e (within_from zs (suc n) (a +ℤ z) next h.1)

all_within : (zs : List ℤ) → AllByRecursion IsInRange zs → IsBoundedSum (length zs) (sum_of zs)
all_within zs h = let e : length zs ≡ 0 + length zs = omega arith in rw e (within_from zs 0 (pos 0) (record { low = omega (arith, ints); high = omega (arith, ints) }) h)

-- numbers between two that are in range are in range
all_between : (zs : List ℤ) (m n : ℤ) → All (λ z. m ≤ℤ z) zs → All (λ z. z ≤ℤ n) zs → IsInRange m → IsInRange n → AllByRecursion IsInRange zs
all_between zs m n a b h k = recursion_from_All IsInRange zs (λ i d l. let x = a i d l in let y = b i d l in let v = h.0 in let w = k.1 in (omega (arith, ints), omega (arith, ints)))

-- what totals say of the sum of numbers whose least and greatest are these, in range
pub sums_within : (zs : List ℤ) (t : Totals) (m n x y : ℤ) → SumsUp zs t → t.least ≡ Some m → t.greatest ≡ Some n → x ≡ m → y ≡ n → IsInRange x → IsInRange y → IsBoundedSum t.count t.sum
sums_within zs t m n x y s e f i j v w =
    let h : IsInRange m = subst IsInRange i v in
    let k : IsInRange n = subst IsInRange j w in
    let a : MatchOption (Some m) (zs ≡ []) (λ x. Contains zs x × All (λ z. x ≤ℤ z) zs) = subst (λ (o : Option ℤ). MatchOption o (zs ≡ []) (λ x. Contains zs x × All (λ z. x ≤ℤ z) zs)) e s.has_least in
    let b : MatchOption (Some n) (zs ≡ []) (λ x. Contains zs x × All (λ z. z ≤ℤ x) zs) = subst (λ (o : Option ℤ). MatchOption o (zs ≡ []) (λ x. Contains zs x × All (λ z. z ≤ℤ x) zs)) f s.has_greatest in
    rw (s.count, s.sum) (all_within zs (all_between zs m n a.1 b.1 h k))

-- a sum that is out of range
pub sum_out : (zs : List ℤ) (t : Totals) (x : ℤ) (cs : List ℕ) → SumsUp zs t → t.count ≢ 0 → x ≡ t.sum → ¬ IsInRange x → cs ≡ [] → IsSum zs (Err Numeric) × (cs ≡ [])
sum_out [] t x cs s n e out c = absurd (n s.count)
sum_out (z ∷ zs) t x cs s n e out c = ((refl, λ h. out (subst IsInRange (sym (e ∙ s.sum)) h)), c)
