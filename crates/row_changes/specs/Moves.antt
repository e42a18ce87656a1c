-- How the lines of a table go on in a transaction, and at its end.
use Rattle.std.specs.Prelude.{◌≡◌, ℕ, ◌+◌, ◌++◌, List, [], Option, None, Some, IsPermutation}
use Rattle.std.specs.BTreeMap.{IsOrdered}
use Rattle.std.specs.Ordering.{nat_cmp}
use Rattle.sql_meanings.specs.Lines.{LinesOf, with_body, with_line, without_line}
use Rattle.row_changes.specs.Overlay.{AreOf, LineChange, body_at, last_of, made_lines, made_of}
use Rattle.row_changes.specs.Overlay.{overlay, unchanged}
use Rattle.row_changes.specs.declared.table.TableChanges.{TableChanges}

-- the line of a number gets this body, or is taken out
abbrev pub with_now : ℕ → Option (List ℕ) → LinesOf → LinesOf
with_now id None xs = without_line id xs
with_now id (Some body) xs = with_body id body xs

-- a row that had changed before keeps what it was as the transaction began
abbrev pub changed_to : List ℕ → Option (List ℕ) → Option LineChange → LineChange
changed_to was now None = (was, now)
changed_to was now (Some c) = (c.0, now)

-- the body of a line now, by what was made of its row and the body that is kept of it
abbrev pub body_now : Option (Option (List ℕ)) → Option (List ℕ) → Option (List ℕ)
body_now None kept = kept
body_now (Some now) kept = now

-- the line of a row is what was made of it, or what is kept of it
abbrev pub MadeTells : Type 0
MadeTells = (t : TableChanges) (kept : LinesOf) (id : ℕ) → AreOf kept t
    → body_at id (overlay t kept) ≡ body_now (made_of t id) (body_at id kept)

-- the lines of a table are those that are kept and have not changed, and those that were made, in
-- another order
abbrev pub PartsTell : Type 0
PartsTell = (t : TableChanges) (kept : LinesOf) → IsOrdered nat_cmp t.changed → AreOf kept t
    → IsPermutation (unchanged t kept ++ made_lines t) (overlay t kept)

-- a row is put behind all others, under the next number
pub record Adds (old new : TableChanges) (body : List ℕ) : Type 0 where
  pub lines : (kept : LinesOf) → overlay new kept ≡ with_line (last_of new) body (overlay old kept)
  pub last : last_of new ≡ last_of old + 1
  pub changes : (kept : LinesOf) → AreOf kept old → AreOf kept new

-- a row that has a line with this body gets another one, or is taken out
pub record Puts (old new : TableChanges) (id : ℕ) (was : List ℕ) (now : Option (List ℕ))
    : Type 0 where
  pub lines : (kept : LinesOf) → AreOf kept old → body_at id (overlay old kept) ≡ Some was
      → overlay new kept ≡ with_now id now (overlay old kept)
  pub changes : (kept : LinesOf) → AreOf kept old → body_at id (overlay old kept) ≡ Some was
      → AreOf kept new
  pub last : last_of new ≡ last_of old

-- nothing has changed
pub record IsSame (old new : TableChanges) : Type 0 where
  pub first : new.first ≡ old.first
  pub changed : new.changed.entries ≡ old.changed.entries
  pub added : new.added.items ≡ old.added.items

-- no change of a table that has given this number last
pub record HasNone (t : TableChanges) (last : ℕ) : Type 0 where
  pub first : t.first ≡ last
  pub changed : t.changed.entries ≡ []
  pub added : t.added.items ≡ []
