-- Each text is its command, under the schema of the four tables.
use Rattle.std.proofs.Common.{◌≡◌, ℕ, pos, List, [], ◌∷◌, codes, length, false, Ok, Err, Result, refl}
use Rattle.sqlite_resolve.specs.declared.compiled.Compiled.{Compiled}
use Rattle.sqlite_resolve.specs.declared.error.CompileError.{CompileError}
use Rattle.sqlite.specs.Source.TheVariants.{Values}
use Rattle.sqlite.specs.Command.TheVariants.{Insert, Select, Update, Delete}
use Rattle.sqlite.specs.Query.{Query}
use Rattle.sqlite.specs.Term.{Term, col}
use Rattle.sqlite.specs.Listing.{understood, reads_listing}
use Rattle.sqlite.proofs.Callers.{IsPlain, command_of}
use Rattle.sqlite_tied.specs.Compute.{everything}
use Rattle.sql_meanings.specs.Schema.{kept_schema}
use Rattle.sql_meanings.specs.Texts.{read_body, insert_body, clear_shape, read_lasts, insert_last, update_last, clear_tabs, read_lines, insert_line, update_line, delete_line, clear_lines, read_marks, insert_mark, delete_mark, clear_marks}
use Rattle.sql_meanings.specs.Queries.{plainly, body_query, lasts_query, lines_query, marks_query, is_last, is_set_line, is_line, is_mark, set_last, set_line, new_body, new_last, new_line, new_mark}

-- the text has this command alone, shows no row beside it and reads no clock
abbrev Reads : List ℕ → Query → List (List ℕ) → Type 0
Reads text query names = (command_of (understood kept_schema text) ≡ Select (record { lets = []; body = query }) names) × (reads_listing kept_schema text ≡ false) × IsPlain (understood kept_schema text)

abbrev Inserts : List ℕ → ℕ → List Term → ℕ → Type 0
Inserts text at terms width = (command_of (understood kept_schema text) ≡ Insert at (Values terms width)) × IsPlain (understood kept_schema text)

abbrev Updates : List ℕ → ℕ → ℕ → List Term → List Term → Type 0
Updates text at tree tests sets = (command_of (understood kept_schema text) ≡ Update at (record { lets = []; body = plainly tree tests (col 1 0 ∷ sets) })) × IsPlain (understood kept_schema text)

abbrev Deletes : List ℕ → ℕ → ℕ → List Term → Type 0
Deletes text at tree tests = (command_of (understood kept_schema text) ≡ Delete at (record { lets = []; body = plainly tree tests (col 1 0 ∷ []) })) × IsPlain (understood kept_schema text)

pub read_body_is : Reads read_body body_query (codes "body" ∷ [])
unfolding understood everything
read_body_is = (refl, refl, (refl, refl))

-- the text is one statement and no more, without parameters
abbrev pub IsWhole : List ℕ → Result Compiled CompileError → Type 0
IsWhole text (Ok c) = (c.tail ≡ length text) × (c.names ≡ []) × (c.formats ≡ [])
IsWhole text (Err e) = ⊥

pub read_body_whole : IsWhole read_body (understood kept_schema read_body)
unfolding understood everything
read_body_whole = (refl, refl, refl)

pub read_lasts_is : Reads read_lasts lasts_query (codes "tab" ∷ codes "last" ∷ [])
unfolding understood everything
read_lasts_is = (refl, refl, (refl, refl))

pub read_lines_is : Reads read_lines lines_query (codes "id" ∷ codes "body" ∷ [])
unfolding understood everything
read_lines_is = (refl, refl, (refl, refl))

pub read_marks_is : Reads read_marks marks_query (codes "k" ∷ codes "id" ∷ [])
unfolding understood everything
read_marks_is = (refl, refl, (refl, refl))

pub insert_body_is : Inserts insert_body 0 new_body 3
unfolding understood everything
insert_body_is = (refl, (refl, refl))

pub insert_last_is : Inserts insert_last 1 new_last 3
unfolding understood everything
insert_last_is = (refl, (refl, refl))

pub insert_line_is : Inserts insert_line 2 new_line 4
unfolding understood everything
insert_line_is = (refl, (refl, refl))

pub insert_mark_is : Inserts insert_mark 3 new_mark 5
unfolding understood everything
insert_mark_is = (refl, (refl, refl))

pub update_last_is : Updates update_last 1 1 is_last set_last
unfolding understood everything
update_last_is = (refl, (refl, refl))

pub update_line_is : Updates update_line 2 2 is_set_line set_line
unfolding understood everything
update_line_is = (refl, (refl, refl))

pub delete_line_is : Deletes delete_line 2 2 is_line
unfolding understood everything
delete_line_is = (refl, (refl, refl))

pub delete_mark_is : Deletes delete_mark 3 4 is_mark
unfolding understood everything
delete_mark_is = (refl, (refl, refl))

pub clear_shape_is : Deletes clear_shape 0 0 []
unfolding understood everything
clear_shape_is = (refl, (refl, refl))

pub clear_tabs_is : Deletes clear_tabs 1 1 []
unfolding understood everything
clear_tabs_is = (refl, (refl, refl))

pub clear_lines_is : Deletes clear_lines 2 2 []
unfolding understood everything
clear_lines_is = (refl, (refl, refl))

pub clear_marks_is : Deletes clear_marks 3 4 []
unfolding understood everything
clear_marks_is = (refl, (refl, refl))
