-- The statements that write what a transaction has made of a table.
use Rattle.std.specs.Prelude.{ℕ, suc, ◌==◌, bytes_eq, if◌then◌else◌, List, [], ◌∷◌, ◌++◌, flat_map}
use Rattle.std.specs.Prelude.{length, Option, None, Some, option_map, Vec}
use Rattle.std.specs.declared.alloc.Global.{Global}
use Rattle.fx_core.specs.declared.schema.Column.{Column}
use Rattle.row_changes.specs.Overlay.{bytes_in, last_of}
use Rattle.row_changes.specs.declared.table.Change.{Change}
use Rattle.row_changes.specs.declared.table.TableChanges.{TableChanges}
use Rattle.row_plan.specs.Marked.{is_marked, key_in}
use Rattle.row_plan.specs.Statements.{Statement, insert_line, replace_line, remove_line}
use Rattle.row_plan.specs.Statements.{insert_mark, remove_mark, replace_last}

-- of the line of a row that had one body, or none, and has another now, or none
abbrev pub line_statements : ℕ → ℕ → Option (List ℕ) → Option (List ℕ) → List Statement
line_statements tab id None None = []
line_statements tab id None (Some body) = insert_line tab id body ∷ []
line_statements tab id (Some was) (Some body) = replace_line tab id body ∷ []
line_statements tab id (Some was) None = remove_line tab id ∷ []

-- of its mark in a column, by its keys
abbrev pub mark_statements : ℕ → ℕ → ℕ → Option (List ℕ) → Option (List ℕ) → List Statement
mark_statements tab column id None None = []
mark_statements tab column id None (Some key) = insert_mark tab column key id ∷ []
mark_statements tab column id (Some was) None = remove_mark tab column was id ∷ []
mark_statements tab column id (Some was) (Some key)
    = if bytes_eq was key then [] else remove_mark tab column was id ∷ insert_mark tab column key id
    ∷ []

-- of its marks in the columns from this number on
abbrev pub marks_statements : ℕ → ℕ → List Column → ℕ → Option (List ℕ) → Option (List ℕ)
    → List Statement
marks_statements tab column [] id was now = []
marks_statements tab column (c ∷ cs) id was now =
    (if is_marked c then mark_statements tab column id (option_map (key_in column) was)
    (option_map (key_in column) now) else []) ++ marks_statements tab (suc column) cs id was now

abbrev pub row_statements : ℕ → List Column → ℕ → Option (List ℕ) → Option (List ℕ) → List Statement
row_statements tab columns id was now = line_statements tab id was now
    ++ marks_statements tab 1 columns id was now

abbrev pub change_statements : ℕ → List Column → ℕ × Change → List Statement
change_statements tab columns e = row_statements tab columns e.0 (Some e.1.was.items)
    (bytes_in e.1.now)

-- of rows that were put, from this number on
abbrev pub added_statements : ℕ → List Column → ℕ → List (Option (Vec ℕ Global)) → List Statement
added_statements tab columns id [] = []
added_statements tab columns id (body ∷ bodies)
    = row_statements tab columns id None (bytes_in body)
    ++ added_statements tab columns (suc id) bodies

abbrev pub last_statements : ℕ → TableChanges → List Statement
last_statements tab t = if length t.added.items == 0 then [] else replace_last tab (last_of t) ∷ []

abbrev pub table_statements : ℕ → List Column → TableChanges → List Statement
table_statements tab columns t =
    flat_map (change_statements tab columns) t.changed.entries
    ++ (added_statements tab columns (suc t.first) t.added.items ++ last_statements tab t)
