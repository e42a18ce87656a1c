-- The marks that the lines of a table have.
use Rattle.std.specs.Prelude.{ℕ, zero, suc, ◌-◌, ◌||◌, Bool, false, IsPermutation, List, [], ◌∷◌}
use Rattle.std.specs.Prelude.{map}
use Rattle.fx_core.specs.declared.schema.Column.{Column}
use Rattle.sql_meanings.specs.Lines.{LinesOf}
use Rattle.sql_meanings.specs.Marks.{MarksOf}
use Rattle.row_lines.specs.FromBytes.{piece_in}

-- a column is marked where it is indexed or unique
abbrev pub is_marked : Column → Bool
is_marked c = c.indexed || c.unique

-- the key in the column of a number, of a row's line with this body; columns are numbered from 1,
-- since 0 is the row's number
abbrev pub key_in : ℕ → List ℕ → List ℕ
key_in column body = piece_in (column - 1) body

abbrev pub mark_of : ℕ → ℕ × List ℕ → List ℕ × ℕ
mark_of column x = (key_in column x.1, x.0)

-- each line has its mark, and there are no others
abbrev pub AreMarked : ℕ → LinesOf → MarksOf → Type 0
AreMarked column xs ms = IsPermutation (map (mark_of column) xs) ms

-- the column at a place is marked
abbrev pub marked_at : List Column → ℕ → Bool
marked_at [] place = false
marked_at (c ∷ cs) zero = is_marked c
marked_at (c ∷ cs) (suc place) = marked_at cs place

-- the column of a number is; column 0, the row's number, isn't
abbrev pub marked_in : List Column → ℕ → Bool
marked_in cs zero = false
marked_in cs (suc place) = marked_at cs place
