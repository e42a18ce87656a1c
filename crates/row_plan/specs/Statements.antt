-- Statements that write, and what they make of the contents of a database.
use Rattle.std.specs.Prelude.{ℕ, ⊤, ◌==◌, ◌&&◌, if◌then◌else◌, List, [], ◌∷◌}
use Rattle.sql_meanings.specs.Lasts.{LastsOf, with_last}
use Rattle.sql_meanings.specs.Lines.{AreBelow, LinesOf, with_body, with_line, without_line}
use Rattle.sql_meanings.specs.Marks.{IsUnmarked, MarksOf, with_mark, without_mark}
use Rattle.sql_contents.specs.Contents.{Contents}

-- one statement: of a line of a table, of a mark of a column, or of a table's last number
pub data Statement : Type 0 where
  insert_line : ℕ → ℕ → List ℕ → Statement
  replace_line : ℕ → ℕ → List ℕ → Statement
  remove_line : ℕ → ℕ → Statement
  insert_mark : ℕ → ℕ → List ℕ → ℕ → Statement
  remove_mark : ℕ → ℕ → List ℕ → ℕ → Statement
  replace_last : ℕ → ℕ → Statement

-- the lines of a table after it
abbrev pub lines_after : Statement → ℕ → LinesOf → LinesOf
lines_after (insert_line tab id body) t xs = if t == tab then with_line id body xs else xs
lines_after (replace_line tab id body) t xs = if t == tab then with_body id body xs else xs
lines_after (remove_line tab id) t xs = if t == tab then without_line id xs else xs
lines_after (insert_mark tab column key id) t xs = xs
lines_after (remove_mark tab column key id) t xs = xs
lines_after (replace_last tab last) t xs = xs

-- the marks of a column after it
abbrev pub marks_after : Statement → ℕ → ℕ → MarksOf → MarksOf
marks_after (insert_mark tab column key id) t c ms
    = if (t == tab) && (c == column) then with_mark key id ms else ms
marks_after (remove_mark tab column key id) t c ms
    = if (t == tab) && (c == column) then without_mark key id ms else ms
marks_after (insert_line tab id body) t c ms = ms
marks_after (replace_line tab id body) t c ms = ms
marks_after (remove_line tab id) t c ms = ms
marks_after (replace_last tab last) t c ms = ms

-- the last numbers after it
abbrev pub lasts_after : Statement → LastsOf → LastsOf
lasts_after (replace_last tab last) ns = with_last tab last ns
lasts_after (insert_line tab id body) ns = ns
lasts_after (replace_line tab id body) ns = ns
lasts_after (remove_line tab id) ns = ns
lasts_after (insert_mark tab column key id) ns = ns
lasts_after (remove_mark tab column key id) ns = ns

abbrev pub contents_after : Statement → Contents → Contents
contents_after s k = record {
  body = k.body;
  lasts = lasts_after s k.lasts;
  lines = λ t. lines_after s t (k.lines t);
  marks = λ t c. marks_after s t c (k.marks t c);
}

-- where its meaning is known: a new line comes behind those of its table, and a row gets a mark
-- where it has none
abbrev pub CanRun : Statement → Contents → Type 0
CanRun (insert_line tab id body) k = AreBelow id (k.lines tab)
CanRun (insert_mark tab column key id) k = IsUnmarked id (k.marks tab column)
CanRun (replace_line tab id body) k = ⊤
CanRun (remove_line tab id) k = ⊤
CanRun (remove_mark tab column key id) k = ⊤
CanRun (replace_last tab last) k = ⊤

-- one after another
abbrev pub after : List Statement → Contents → Contents
after [] k = k
after (s ∷ ss) k = after ss (contents_after s k)

abbrev pub CanRunAll : List Statement → Contents → Type 0
CanRunAll [] k = ⊤
CanRunAll (s ∷ ss) k = CanRun s k × CanRunAll ss (contents_after s k)
