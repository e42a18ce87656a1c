-- What the four tables hold, as lists. Any rows are read, those too that no statement of the
-- product has written.
use Rattle.std.specs.Prelude.{◌≡◌, ℕ, pos, List, [], ◌∷◌, filter, map, Option, None, Some}
use Rattle.std.specs.Ordering.{nat_cmp}
use Rattle.std.specs.declared.cmp.Ordering.{Ordering}
use Rattle.sqlite.specs.declared.types.Value.{Value}
use Rattle.sqlite.specs.declared.types.Value.TheVariants.{Int, Blob}
use Rattle.sqlite.specs.Order.{Row, column}
use Rattle.sqlite.specs.Tree.{Trees}
use Rattle.sqlite_keyed.specs.Lists.{sort_by}
use Rattle.sql_meanings.specs.Body.{HasBody, is_one, shown_body}
use Rattle.sql_meanings.specs.Lasts.{AreLasts, LastsOf, shown_last}
use Rattle.sql_meanings.specs.Lines.{AreLines, LinesOf, stored_lines}
use Rattle.sql_meanings.specs.Marks.{AreMarks, MarksOf, mark_cmp, stored_marks}

-- the body of the schema, the last number of each table, the lines of each table, and the marks of
-- each column
pub record Contents : Type 0 where
  pub body : Option (List ℕ)
  pub lasts : LastsOf
  pub lines : ℕ → LinesOf
  pub marks : ℕ → ℕ → MarksOf

-- the trees of a database hold this
pub record Holds (trees : Trees) (k : Contents) : Type 0 where
  pub body : HasBody trees k.body
  pub lasts : AreLasts trees k.lasts
  pub lines : (tab : ℕ) → AreLines trees tab (k.lines tab)
  pub marks : (tab col : ℕ) → AreMarks trees tab col (k.marks tab col)

-- ---- values as they are read

abbrev pub number_in : Value → ℕ
number_in (Int (pos n)) = n
number_in v = 0

abbrev pub bytes_in : Value → List ℕ
bytes_in (Blob bytes) = bytes
bytes_in v = []

abbrev pub line_in : Row → ℕ × List ℕ
line_in r = (number_in (column r 0), bytes_in (column r 1))

abbrev pub mark_in : Row → List ℕ × ℕ
mark_in r = (bytes_in (column r 0), number_in (column r 1))

abbrev pub last_in : Row → ℕ × ℕ
last_in r = (number_in (column r 0), number_in (column r 1))

-- by their numbers
abbrev pub number_cmp : {A : Type 0} → ℕ × A → ℕ × A → Ordering
number_cmp a b = nat_cmp a.0 b.0

-- ---- the lists

abbrev pub lines_in : Trees → ℕ → LinesOf
lines_in trees tab = sort_by number_cmp (map line_in (stored_lines trees tab))

abbrev pub marks_in : Trees → ℕ → ℕ → MarksOf
marks_in trees tab col = sort_by mark_cmp (map mark_in (stored_marks trees tab col))

abbrev pub lasts_in : Trees → LastsOf
lasts_in trees = sort_by number_cmp (map last_in (map shown_last (trees 1)))

abbrev pub first_body : List Row → Option (List ℕ)
first_body [] = None
first_body (r ∷ rs) = Some (bytes_in (column r 0))

abbrev pub body_in : Trees → Option (List ℕ)
body_in trees = first_body (map shown_body (filter is_one (trees 0)))

abbrev pub contents_of : Trees → Contents
contents_of trees = record {
  body = body_in trees;
  lasts = lasts_in trees;
  lines = lines_in trees;
  marks = marks_in trees;
}
