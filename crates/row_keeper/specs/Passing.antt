-- What a call in a transaction leaves of a keeper, apart from its tables and its shape.
use Rattle.std.specs.Prelude.{◌≡◌, ℕ, ◌≤◌, List, Bool, Option}
use Rattle.fx_base.specs.Silence.{MayFallSilent, SilenceCause, Marks}
use Rattle.fx_base.specs.Telling.{Stays}
use Rattle.row_keeper.specs.Crashes.{LeavesNoMore}
use Rattle.row_keeper.specs.Tables.{Tables}

-- a keeper beside its tables: as the transaction began, the name that is attached, what a crash may
-- leave, whether a transaction is begun, its marks, how many rows were visited, and its loan
pub record Around : Type 0 where
  pub began : Option Tables
  pub attached : Option (Option (List ℕ))
  pub leaves : Option (List Tables)
  pub in_transaction : Bool
  pub marks : Marks
  pub visited : ℕ
  pub loan : Option ℕ

abbrev pub around : Option Tables → Option (Option (List ℕ)) → Option (List Tables) → Bool → Marks
    → ℕ → Option ℕ → Around
around began attached leaves in_transaction marks visited loan = record {
  began = began;
  attached = attached;
  leaves = leaves;
  in_transaction = in_transaction;
  marks = marks;
  visited = visited;
  loan = loan;
}

-- all of it stays, but that rows may be visited, and that a crash may leave less
pub record Passes (a b : Around) : Type 0 where
  pub began : MayFallSilent (SilenceCause a.marks b.marks) Stays a.began b.began
  pub attached : MayFallSilent (SilenceCause a.marks b.marks) Stays a.attached b.attached
  pub crash : LeavesNoMore (SilenceCause a.marks b.marks) a.leaves b.leaves
  pub mode : b.in_transaction ≡ a.in_transaction
  pub visited : a.visited ≤ b.visited
  pub loan : b.loan ≡ a.loan
