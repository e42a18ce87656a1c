-- The lines of a table: the number and the body of each, as the reading statement shows them.
use Rattle.std.specs.Prelude.{◌≡◌, ◌≢◌, ◌<◌, ◌==◌, ◌&&◌, ◌++◌, ⊤, ℕ, pos, Bool, not, nat_le}
use Rattle.std.specs.Prelude.{if◌then◌else◌, List, [], ◌∷◌, length, map, filter, IsPermutation}
use Rattle.std.specs.List.{AllByRecursion}
use Rattle.sqlite.specs.declared.types.Value.TheVariants.{Int, Blob}
use Rattle.sqlite.specs.Order.{Row, column}
use Rattle.sqlite.specs.Tree.{Trees, IsAscending}
use Rattle.sqlite.specs.State.{State}
use Rattle.sqlite_sql.specs.declared.ops.CompareOp.TheVariants.{Eq}
use Rattle.sql_meanings.specs.Tests.{compares}
use Rattle.sql_meanings.specs.UnderWay.{IsUnderWay}

abbrev pub LinesOf : Type 0
LinesOf = List (ℕ × List ℕ)

abbrev pub line_at : ℕ × List ℕ → Row
line_at x = Int (pos x.0) ∷ Blob x.1 ∷ []

abbrev pub shown_line : Row → Row
shown_line r = column r 2 ∷ column r 3 ∷ []

abbrev pub is_of_tab : ℕ → Row → Bool
is_of_tab tab r = compares Eq (column r 1) (Int (pos tab))

-- in the order of their rowids
abbrev pub stored_lines : Trees → ℕ → List Row
stored_lines trees tab = map shown_line (filter (is_of_tab tab) (trees 2))

-- the table of this number has these lines, by rising numbers
pub record AreLines (trees : Trees) (tab : ℕ) (xs : LinesOf) : Type 0 where
  pub lines : IsPermutation (map line_at xs) (stored_lines trees tab)
  pub order : IsAscending (λ (a b : ℕ × List ℕ). a.0 < b.0) xs

-- ---- what changes them

abbrev pub has_number : ℕ → ℕ × List ℕ → Bool
has_number id x = x.0 == id

-- each line comes before the one of this number
abbrev pub AreBelow : ℕ → LinesOf → Type 0
AreBelow id xs = AllByRecursion (λ (x : ℕ × List ℕ). x.0 < id) xs

abbrev pub with_line : ℕ → List ℕ → LinesOf → LinesOf
with_line id body xs = xs ++ (id, body) ∷ []

abbrev pub with_body : ℕ → List ℕ → LinesOf → LinesOf
with_body id body xs = map (λ x. if has_number id x then (x.0, body) else x) xs

abbrev pub without_line : ℕ → LinesOf → LinesOf
without_line id xs = filter (λ x. not (has_number id x)) xs

abbrev pub count_of_line : ℕ → LinesOf → ℕ
count_of_line id xs = length (filter (has_number id) xs)

-- the number lies between these two, or is one of them
abbrev pub is_within : ℕ → ℕ → ℕ × List ℕ → Bool
is_within low high x = nat_le low x.0 && nat_le x.0 high

-- The lines of one table go so, where they fit, and so many are counted. Those of each other table
-- stay, and so do the rows of the other three trees.
pub record ChangesLines (old new : State) (tab : ℕ) (Fits : LinesOf → Type 0)
    (go : LinesOf → LinesOf) (changed : LinesOf → ℕ) (count : ℕ) : Type 0 where
  pub goes_on : IsUnderWay new
  pub here : (xs : LinesOf) → AreLines old.now.trees tab xs → Fits xs
      → AreLines new.now.trees tab (go xs)
  pub counted : (xs : LinesOf) → AreLines old.now.trees tab xs → count ≡ changed xs
  pub others : (other : ℕ) → other ≢ tab → (xs : LinesOf) → AreLines old.now.trees other xs
      → AreLines new.now.trees other xs
  pub shape : new.now.trees 0 ≡ old.now.trees 0
  pub tabs : new.now.trees 1 ≡ old.now.trees 1
  pub marks : new.now.trees 4 ≡ old.now.trees 4

abbrev pub InsertsLine : State → State → ℕ → ℕ → List ℕ → ℕ → Type 0
InsertsLine old new tab id body = ChangesLines old new tab (AreBelow id) (with_line id body)
    (λ _. 1)

abbrev pub ReplacesLine : State → State → ℕ → ℕ → List ℕ → ℕ → Type 0
ReplacesLine old new tab id body = ChangesLines old new tab (λ _. ⊤) (with_body id body)
    (count_of_line id)

abbrev pub RemovesLine : State → State → ℕ → ℕ → ℕ → Type 0
RemovesLine old new tab id = ChangesLines old new tab (λ _. ⊤) (without_line id) (count_of_line id)
