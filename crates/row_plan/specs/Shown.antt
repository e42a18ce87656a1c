-- Statements with what they are given.
use Rattle.std.specs.Prelude.{ℕ, List, map, Option, option_map}
use Rattle.std.specs.Borrow.{Bor}
use Rattle.row_plan.specs.Statements.{Statement, insert_line, replace_line, remove_line}
use Rattle.row_plan.specs.Statements.{insert_mark, remove_mark, replace_last}
use Rattle.row_plan.specs.declared.steps.Step.{Step}
use Rattle.row_plan.specs.declared.steps.Step.TheVariants.{InsertLine, ReplaceLine, RemoveLine}
use Rattle.row_plan.specs.declared.steps.Step.TheVariants.{InsertMark, RemoveMark, ReplaceLast}

abbrev pub shown : Step → Statement
shown (InsertLine tab id body) = insert_line tab id body.now
shown (ReplaceLine tab id body) = replace_line tab id body.now
shown (RemoveLine tab id) = remove_line tab id
shown (InsertMark tab column key id) = insert_mark tab column key.now id
shown (RemoveMark tab column key id) = remove_mark tab column key.now id
shown (ReplaceLast tab last) = replace_last tab last

abbrev pub all_shown : List Step → List Statement
all_shown steps = map shown steps

-- the bytes of a body or key that is handed on, if there is one
abbrev pub seen : Option (Bor (List ℕ)) → Option (List ℕ)
seen bytes = option_map (λ b. b.now) bytes
