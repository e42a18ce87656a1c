-- The lines of a table as they are now: those that are kept, with what a transaction has made of
-- them.
use Rattle.std.specs.Prelude.{◌≡◌, ℕ, suc, ◌+◌, ◌-◌, ◌≤◌, ◌<◌, ◌==◌, nat_le, Bool, true, false}
use Rattle.std.specs.Prelude.{if◌then◌else◌, List, [], ◌∷◌, ◌++◌, filter, flat_map, length, map}
use Rattle.std.specs.Prelude.{Option, None, Some, IfSome, option_map, slice_get, Vec}
use Rattle.std.specs.BTreeMap.{get}
use Rattle.std.specs.Borrow.{Bor}
use Rattle.std.specs.List.{AllByRecursion}
use Rattle.std.specs.Map.{lookup}
use Rattle.std.specs.Ordering.{nat_cmp}
use Rattle.std.specs.declared.alloc.Global.{Global}
use Rattle.sqlite_trees.specs.Tree.{IsAscending}
use Rattle.sql_meanings.specs.Lines.{LinesOf}
use Rattle.row_changes.specs.declared.table.Change.{Change}
use Rattle.row_changes.specs.declared.table.Made.{Made}
use Rattle.row_changes.specs.declared.table.Made.TheVariants.{Same, Gone, Body}
use Rattle.row_changes.specs.declared.table.TableChanges.{TableChanges}

abbrev pub bytes_in : Option (Vec ℕ Global) → Option (List ℕ)
bytes_in body = option_map (λ v. v.items) body

-- a change of a row's line: the body that it had as the transaction began, and the one that it has
-- now, if any
abbrev pub LineChange : Type 0
LineChange = List ℕ × Option (List ℕ)

abbrev pub bodies_of : Change → LineChange
bodies_of c = (c.was.items, bytes_in c.now)

abbrev pub change_at : TableChanges → ℕ → Option LineChange
change_at t id = option_map bodies_of (get nat_cmp t.changed id)

-- what was made of a row: nothing, or the body that its line has now, if it has one
abbrev pub shown : Made → Option (Option (List ℕ))
shown Same = None
shown Gone = Some None
shown (Body b) = Some (Some b.now)

-- of a row that was there as the transaction began
abbrev pub made_of_kept : TableChanges → ℕ → Option (Option (List ℕ))
made_of_kept t id = option_map (λ c. c.1) (change_at t id)

-- of one that was put since; there is none where the number was not given
abbrev pub body_among : Option (Option (Vec ℕ Global)) → Option (List ℕ)
body_among None = None
body_among (Some body) = bytes_in body

abbrev pub body_of_added : TableChanges → ℕ → Option (List ℕ)
body_of_added t place = body_among (slice_get t.added.items place)

-- the rows that were there have the numbers given till then
abbrev pub made_of : TableChanges → ℕ → Option (Option (List ℕ))
made_of t id = if nat_le id t.first then made_of_kept t id else Some
    (body_of_added t (id - t.first - 1))

abbrev pub last_of : TableChanges → ℕ
last_of t = t.first + length t.added.items

-- ---- the lines

-- a line with this body, or none
abbrev pub line_under : ℕ → Option (List ℕ) → LinesOf
line_under id None = []
line_under id (Some body) = (id, body) ∷ []

-- a line that is kept, as it is now
abbrev pub line_now : Option (Option (List ℕ)) → ℕ × List ℕ → LinesOf
line_now None x = x ∷ []
line_now (Some now) x = line_under x.0 now

-- the lines of these bodies, from this number on
abbrev pub lines_from : ℕ → List (Option (Vec ℕ Global)) → LinesOf
lines_from id [] = []
lines_from id (body ∷ bodies) = line_under id (bytes_in body) ++ lines_from (suc id) bodies

-- the lines that changed rows have now
abbrev pub lines_of_changes : List (ℕ × Change) → LinesOf
lines_of_changes es = flat_map (λ e. line_under e.0 (bytes_in e.1.now)) es

-- all lines that a transaction has made
abbrev pub made_lines : TableChanges → LinesOf
made_lines t = lines_of_changes t.changed.entries ++ lines_from (suc t.first) t.added.items

-- lines as they are handed out
abbrev pub shown_line : ℕ × Bor (List ℕ) → ℕ × List ℕ
shown_line x = (x.0, x.1.now)

abbrev pub shown_lines : List (ℕ × Bor (List ℕ)) → LinesOf
shown_lines xs = map shown_line xs

-- each line that is kept as it is now, and then those that were added
abbrev pub overlay : TableChanges → LinesOf → LinesOf
overlay t kept = flat_map (λ x. line_now (made_of_kept t x.0) x) kept
    ++ lines_from (suc t.first) t.added.items

-- the body of the line of a number, if there is one
abbrev pub body_at : ℕ → LinesOf → Option (List ℕ)
body_at id xs = lookup (λ n. n == id) xs

-- The changes are ones of these kept lines: the lines have numbers that were given till the
-- transaction began, and each changed one has the body that it is told to have had.
pub record AreOf (kept : LinesOf) (t : TableChanges) : Type 0 where
  pub rising : IsAscending (λ (a b : ℕ × List ℕ). a.0 < b.0) kept
  pub given : AllByRecursion (λ (x : ℕ × List ℕ). x.0 ≤ t.first) kept
  pub had : (id : ℕ) → IfSome (change_at t id) (λ c. body_at id kept ≡ Some c.0)

-- ---- the lines in two parts, as they are read

-- no change is of the row
abbrev pub is_unchanged : Option LineChange → Bool
is_unchanged None = true
is_unchanged (Some c) = false

-- the kept lines that have not changed
abbrev pub unchanged : TableChanges → LinesOf → LinesOf
unchanged t kept = filter (λ x. is_unchanged (change_at t x.0)) kept
