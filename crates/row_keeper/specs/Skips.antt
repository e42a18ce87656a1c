-- Numbers that are passed over.
use Rattle.std.specs.Prelude.{ℕ, max}
use Rattle.row_keeper.specs.OneTable.{with_now}
use Rattle.row_keeper.specs.TableView.{TableView}
use Rattle.row_keeper.specs.Tables.{TableState}

-- no number up to this one is given any more
abbrev pub numbers_passed : ℕ → TableState → TableState
numbers_passed number s = record { rows = s.rows; last = max s.last number }

abbrev pub passed_now : ℕ → TableView → TableView
passed_now number t = with_now t (numbers_passed number t.now)
