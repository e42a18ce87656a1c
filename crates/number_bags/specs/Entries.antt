-- The numbers that are counted: for each how often it stood there as the transaction began, and how
-- often it does now.
use Rattle.std.specs.Prelude.{◌≡◌, ℕ, ◌==◌, Bool, true, false, cond, List, [], ◌∷◌, ◌++◌, replicate}
use Rattle.std.specs.Prelude.{ℤ, Option, None, Some}
use Rattle.std.specs.List.{list_any}
use Rattle.std.specs.Map.{lookup}
use Rattle.std.specs.BTreeMap.{is_at}
use Rattle.std.specs.Ordering.{int_cmp, int_eq}
use Rattle.std.specs.Option.{is_some}
use Rattle.number_bags.specs.declared.counts.Count.{Count}

abbrev pub Entries : Type 0
Entries = List (ℤ × Count)

abbrev pub count_at : List (ℤ × Count) → ℤ → Option Count
count_at es z = lookup (is_at (int_cmp z)) es

-- one of the two counts, 0 where there is none
abbrev pub number_by : (Count → ℕ) → Option Count → ℕ
number_by f None = 0
number_by f (Some c) = f c

abbrev pub is_now : Option Count → ℕ
is_now = number_by (λ (c : Count). c.is)

abbrev pub was_then : Option Count → ℕ
was_then = number_by (λ (c : Count). c.was)

-- how often a number stands there now, and how often it did as the transaction began
abbrev pub now_at : List (ℤ × Count) → ℤ → ℕ
now_at es z = is_now (count_at es z)

abbrev pub then_at : List (ℤ × Count) → ℤ → ℕ
then_at es z = was_then (count_at es z)

abbrev pub is_one_of : List ℤ → ℤ → Bool
is_one_of zs q = list_any (λ z. int_eq z q) zs

-- a number has an entry and is noted as touched, so that its count can be written without memory
abbrev pub HasRoom : List ℤ → List (ℤ × Count) → ℤ → Type 0
HasRoom touched es z = (is_one_of touched z ≡ true) × (is_some (count_at es z) ≡ true)

-- entries other than these are as they were as the transaction began
abbrev pub OthersStand : List ℤ → List (ℤ × Count) → Type 0
OthersStand touched es = (q : ℤ) → is_one_of touched q ≡ false → now_at es q ≡ then_at es q

-- a count after the end of a transaction, with its change or without
abbrev pub at_end : Bool → Count → Count
at_end with_changes c = cond with_changes (record { was = c.is; is = c.is })
    (record { was = c.was; is = c.was })

-- a count of none
abbrev pub is_gone : Option Count → Bool
is_gone None = false
is_gone (Some c) = c.was == 0

abbrev pub while_counted : Option Count → Option Count
while_counted None = None
while_counted (Some c) = cond (c.was == 0) None (Some c)

-- what stands there after the end of a transaction
abbrev pub ended : Bool → Option Count → Option Count
ended with_changes None = None
ended with_changes (Some c) = while_counted (Some (at_end with_changes c))

-- each number as often as one of its counts says, in the order of the entries
abbrev pub spread_by : (Count → ℕ) → List (ℤ × Count) → List ℤ
spread_by f [] = []
spread_by f (e ∷ es) = replicate (f e.1) e.0 ++ spread_by f es

abbrev pub spread_now : List (ℤ × Count) → List ℤ
spread_now = spread_by (λ (c : Count). c.is)

abbrev pub spread_then : List (ℤ × Count) → List ℤ
spread_then = spread_by (λ (c : Count). c.was)
