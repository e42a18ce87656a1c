-- The last number of each table, as the reading statement shows them.
use Rattle.std.specs.Prelude.{◌≡◌, ◌<◌, ◌==◌, ◌++◌, ⊤, ℕ, pos, Bool, true, if◌then◌else◌, List, []}
use Rattle.std.specs.Prelude.{◌∷◌, length, map, filter, IsPermutation}
use Rattle.std.specs.List.{AllByRecursion}
use Rattle.sqlite.specs.declared.types.Value.TheVariants.{Int}
use Rattle.sqlite.specs.Order.{Row, column}
use Rattle.sqlite.specs.Tree.{Trees, IsAscending}
use Rattle.sqlite.specs.State.{State}
use Rattle.sql_meanings.specs.UnderWay.{IsUnderWay}

-- the number of a table, and the last one that a row of it was given
abbrev pub LastsOf : Type 0
LastsOf = List (ℕ × ℕ)

abbrev pub last_at : ℕ × ℕ → Row
last_at n = Int (pos n.0) ∷ Int (pos n.1) ∷ []

abbrev pub shown_last : Row → Row
shown_last r = column r 0 ∷ column r 2 ∷ []

-- the tables have these last numbers, by rising tables
pub record AreLasts (trees : Trees) (ns : LastsOf) : Type 0 where
  pub lasts : IsPermutation (map last_at ns) (map shown_last (trees 1))
  pub order : IsAscending (λ (a b : ℕ × ℕ). a.0 < b.0) ns

-- ---- what changes them

abbrev pub is_of_table : ℕ → ℕ × ℕ → Bool
is_of_table tab n = n.0 == tab

-- each table comes before this one
abbrev pub AreTablesBelow : ℕ → LastsOf → Type 0
AreTablesBelow tab ns = AllByRecursion (λ (n : ℕ × ℕ). n.0 < tab) ns

abbrev pub with_table : ℕ → ℕ → LastsOf → LastsOf
with_table tab last ns = ns ++ (tab, last) ∷ []

abbrev pub with_last : ℕ → ℕ → LastsOf → LastsOf
with_last tab last ns = map (λ n. if is_of_table tab n then (n.0, last) else n) ns

abbrev pub count_of_table : ℕ → LastsOf → ℕ
count_of_table tab ns = length (filter (is_of_table tab) ns)

-- The last numbers go so, where they fit, and so many are counted. The rows of the other three
-- trees stay.
pub record ChangesLasts (old new : State) (Fits : LastsOf → Type 0) (go : LastsOf → LastsOf)
    (changed : LastsOf → ℕ) (count : ℕ) : Type 0 where
  pub goes_on : IsUnderWay new
  pub here : (ns : LastsOf) → AreLasts old.now.trees ns → Fits ns → AreLasts new.now.trees (go ns)
  pub counted : (ns : LastsOf) → AreLasts old.now.trees ns → count ≡ changed ns
  pub shape : new.now.trees 0 ≡ old.now.trees 0
  pub lines : new.now.trees 2 ≡ old.now.trees 2
  pub marks : new.now.trees 4 ≡ old.now.trees 4

abbrev pub InsertsLast : State → State → ℕ → ℕ → ℕ → Type 0
InsertsLast old new tab last = ChangesLasts old new (AreTablesBelow tab) (with_table tab last)
    (λ _. 1)

abbrev pub ReplacesLast : State → State → ℕ → ℕ → ℕ → Type 0
ReplacesLast old new tab last = ChangesLasts old new (λ _. ⊤) (with_last tab last)
    (count_of_table tab)
