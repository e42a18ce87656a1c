-- The marks of a column: the key and the number of each, as the reading statement shows them.
use Rattle.std.specs.Prelude.{◌≡◌, ◌≢◌, ◌⊎◌, ◌==◌, ◌&&◌, ⊤, ℕ, pos, Bool, not, List, [], ◌∷◌}
use Rattle.std.specs.Prelude.{length, map, filter, IsPermutation}
use Rattle.std.specs.List.{AllByRecursion}
use Rattle.std.specs.declared.cmp.Ordering.{Ordering}
use Rattle.std.specs.declared.cmp.Ordering.TheVariants.{Less}
use Rattle.std.specs.Ordering.{ordering_then, int_cmp, nat_cmp, is_eq, is_ge, is_lt}
use Rattle.std.specs.Cmp.Lexicographic.{slice_cmp}
use Rattle.sqlite.specs.declared.types.Value.TheVariants.{Int, Blob}
use Rattle.sqlite.specs.Order.{Row, column}
use Rattle.sqlite.specs.Tree.{Trees, IsAscending}
use Rattle.sqlite.specs.State.{State}
use Rattle.sqlite_sql.specs.declared.ops.CompareOp.TheVariants.{Eq}
use Rattle.sqlite_keyed.specs.Lists.{insert_sorted}
use Rattle.sql_meanings.specs.Tests.{compares}
use Rattle.sql_meanings.specs.UnderWay.{IsUnderWay}

abbrev pub MarksOf : Type 0
MarksOf = List (List ℕ × ℕ)

abbrev pub mark_at : List ℕ × ℕ → Row
mark_at m = Blob m.0 ∷ Int (pos m.1) ∷ []

abbrev pub key_cmp : List ℕ → List ℕ → Ordering
key_cmp = slice_cmp nat_cmp

-- by their keys, and then by their numbers
abbrev pub mark_cmp : List ℕ × ℕ → List ℕ × ℕ → Ordering
mark_cmp a b = ordering_then (key_cmp a.0 b.0) (int_cmp (pos a.1) (pos b.1))

abbrev pub shown_mark : Row → Row
shown_mark r = column r 3 ∷ column r 4 ∷ []

abbrev pub is_of_column : ℕ → ℕ → Row → Bool
is_of_column tab col r = compares Eq (column r 1) (Int (pos tab))
    && compares Eq (column r 2) (Int (pos col))

-- in the order of their rowids
abbrev pub stored_marks : Trees → ℕ → ℕ → List Row
stored_marks trees tab col = map shown_mark (filter (is_of_column tab col) (trees 4))

-- the column has these marks, by rising keys and numbers
pub record AreMarks (trees : Trees) (tab col : ℕ) (ms : MarksOf) : Type 0 where
  pub marks : IsPermutation (map mark_at ms) (stored_marks trees tab col)
  pub order : IsAscending (λ a b. mark_cmp a b ≡ Less) ms

-- the key comes from one up to but without another
abbrev pub lies : List ℕ → List ℕ → List ℕ × ℕ → Bool
lies from upto m = is_ge (key_cmp m.0 from) && is_lt (key_cmp m.0 upto)

-- ---- what changes them

-- the number has no mark in the column
abbrev pub IsUnmarked : ℕ → MarksOf → Type 0
IsUnmarked id ms = AllByRecursion (λ (m : List ℕ × ℕ). m.1 ≢ id) ms

abbrev pub with_mark : List ℕ → ℕ → MarksOf → MarksOf
with_mark key id ms = insert_sorted mark_cmp (key, id) ms

abbrev pub is_mark_of : List ℕ → ℕ → List ℕ × ℕ → Bool
is_mark_of key id m = is_eq (key_cmp m.0 key) && (m.1 == id)

abbrev pub without_mark : List ℕ → ℕ → MarksOf → MarksOf
without_mark key id ms = filter (λ m. not (is_mark_of key id m)) ms

abbrev pub count_of_mark : List ℕ → ℕ → MarksOf → ℕ
count_of_mark key id ms = length (filter (is_mark_of key id) ms)

-- The marks of one column go so, where they fit, and so many are counted. Those of each other
-- column stay, and so do the rows of the other three trees.
pub record ChangesMarks (old new : State) (tab col : ℕ) (Fits : MarksOf → Type 0)
    (go : MarksOf → MarksOf) (changed : MarksOf → ℕ) (count : ℕ) : Type 0 where
  pub goes_on : IsUnderWay new
  pub here : (ms : MarksOf) → AreMarks old.now.trees tab col ms → Fits ms
      → AreMarks new.now.trees tab col (go ms)
  pub counted : (ms : MarksOf) → AreMarks old.now.trees tab col ms → count ≡ changed ms
  pub others : (t c : ℕ) → (t ≢ tab) ⊎ (c ≢ col) → (ms : MarksOf) → AreMarks old.now.trees t c ms
      → AreMarks new.now.trees t c ms
  pub shape : new.now.trees 0 ≡ old.now.trees 0
  pub tabs : new.now.trees 1 ≡ old.now.trees 1
  pub lines : new.now.trees 2 ≡ old.now.trees 2

abbrev pub InsertsMark : State → State → ℕ → ℕ → List ℕ → ℕ → ℕ → Type 0
InsertsMark old new tab column key id = ChangesMarks old new tab column (IsUnmarked id)
    (with_mark key id) (λ _. 1)

abbrev pub RemovesMark : State → State → ℕ → ℕ → List ℕ → ℕ → ℕ → Type 0
RemovesMark old new tab column key id = ChangesMarks old new tab column (λ _. ⊤)
    (without_mark key id) (count_of_mark key id)
