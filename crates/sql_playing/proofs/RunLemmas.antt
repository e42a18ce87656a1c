-- What the tables hold after a statement was run.
use Rattle.std.proofs.Common.{ℕ, List, Ok, Err, Result, IfOk, OnOk}
use Rattle.std.specs.Prelude.{⊤}
use Rattle.sqlite.specs.declared.error.Error.{Error}
use Rattle.sqlite.specs.State.{State}
use Rattle.sql_meanings.specs.Lasts.{ReplacesLast, count_of_table, with_last}
use Rattle.sql_meanings.specs.Lines.{AreBelow, InsertsLine, RemovesLine, ReplacesLine, count_of_line, with_body, with_line, without_line}
use Rattle.sql_meanings.specs.Marks.{InsertsMark, IsUnmarked, RemovesMark, count_of_mark, with_mark, without_mark}
use Rattle.sql_meanings.specs.UnderWay.{IsUnderWay}
use Rattle.sql_contents.specs.Contents.{Contents}
use Rattle.row_plan.specs.Statements.{CanRun, contents_after, insert_line, insert_mark, remove_line, remove_mark, replace_last, replace_line}
use Rattle.row_plan.specs.Shown.{shown}
use Rattle.row_plan.specs.declared.steps.Step.{Step}
use Rattle.sql_playing.specs.Played.{IsAt}
use Rattle.sql_playing.proofs.HoldLemmas.{after_lasts, after_lines, after_marks}

-- where the statement of a step has its meaning, the tables hold what it makes of them
abbrev pub Runs : State → State → Result ℕ Error → Step → Type 0
Runs old new r s = (k : Contents) → IsAt old k → CanRun (shown s) k → OnOk r (IsAt new (contents_after (shown s) k))

module _ (old new : State) (k : Contents) (here : IsAt old k) where
  pub line_inserted : (r : Result ℕ Error) (tab id : ℕ) (body : List ℕ) → AreBelow id (k.lines tab) → (IsUnderWay old → IfOk r (InsertsLine old new tab id body)) → OnOk r (IsAt new (contents_after (insert_line tab id body) k))
  line_inserted r tab id body fits does = go r (does here.goes_on)
    where
      go : (r : Result ℕ Error) → IfOk r (InsertsLine old new tab id body) → OnOk r (IsAt new (contents_after (insert_line tab id body) k))
      go (Ok count) h = after_lines old new k here.holds tab (AreBelow id) (with_line id body) (λ _. 1) count h fits
      go (Err e) h = tt

  pub line_replaced : (r : Result ℕ Error) (tab id : ℕ) (body : List ℕ) → (IsUnderWay old → IfOk r (ReplacesLine old new tab id body)) → OnOk r (IsAt new (contents_after (replace_line tab id body) k))
  line_replaced r tab id body does = go r (does here.goes_on)
    where
      go : (r : Result ℕ Error) → IfOk r (ReplacesLine old new tab id body) → OnOk r (IsAt new (contents_after (replace_line tab id body) k))
      go (Ok count) h = after_lines old new k here.holds tab (λ _. ⊤) (with_body id body) (count_of_line id) count h tt
      go (Err e) h = tt

  pub line_removed : (r : Result ℕ Error) (tab id : ℕ) → (IsUnderWay old → IfOk r (RemovesLine old new tab id)) → OnOk r (IsAt new (contents_after (remove_line tab id) k))
  line_removed r tab id does = go r (does here.goes_on)
    where
      go : (r : Result ℕ Error) → IfOk r (RemovesLine old new tab id) → OnOk r (IsAt new (contents_after (remove_line tab id) k))
      go (Ok count) h = after_lines old new k here.holds tab (λ _. ⊤) (without_line id) (count_of_line id) count h tt
      go (Err e) h = tt

  pub mark_inserted : (r : Result ℕ Error) (tab column : ℕ) (key : List ℕ) (id : ℕ) → IsUnmarked id (k.marks tab column) → (IsUnderWay old → IfOk r (InsertsMark old new tab column key id)) → OnOk r (IsAt new (contents_after (insert_mark tab column key id) k))
  mark_inserted r tab column key id fits does = go r (does here.goes_on)
    where
      go : (r : Result ℕ Error) → IfOk r (InsertsMark old new tab column key id) → OnOk r (IsAt new (contents_after (insert_mark tab column key id) k))
      go (Ok count) h = after_marks old new k here.holds tab column (IsUnmarked id) (with_mark key id) (λ _. 1) count h fits
      go (Err e) h = tt

  pub mark_removed : (r : Result ℕ Error) (tab column : ℕ) (key : List ℕ) (id : ℕ) → (IsUnderWay old → IfOk r (RemovesMark old new tab column key id)) → OnOk r (IsAt new (contents_after (remove_mark tab column key id) k))
  mark_removed r tab column key id does = go r (does here.goes_on)
    where
      go : (r : Result ℕ Error) → IfOk r (RemovesMark old new tab column key id) → OnOk r (IsAt new (contents_after (remove_mark tab column key id) k))
      go (Ok count) h = after_marks old new k here.holds tab column (λ _. ⊤) (without_mark key id) (count_of_mark key id) count h tt
      go (Err e) h = tt

  pub last_replaced : (r : Result ℕ Error) (tab last : ℕ) → (IsUnderWay old → IfOk r (ReplacesLast old new tab last)) → OnOk r (IsAt new (contents_after (replace_last tab last) k))
  last_replaced r tab last does = go r (does here.goes_on)
    where
      go : (r : Result ℕ Error) → IfOk r (ReplacesLast old new tab last) → OnOk r (IsAt new (contents_after (replace_last tab last) k))
      go (Ok count) h = after_lasts old new k here.holds (λ _. ⊤) (with_last tab last) (count_of_table tab) count h tt
      go (Err e) h = tt
