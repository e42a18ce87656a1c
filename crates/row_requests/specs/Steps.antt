-- What the parts of the program do to the tables.
use Rattle.std.specs.Prelude.{◌≡◌, ℕ, List, Result, Ok, Err}
use Rattle.fx_core.specs.declared.schema.Column.{Column}
use Rattle.fx_core.specs.declared.schema.TableShape.{TableShape}
use Rattle.row_keeper.specs.declared.rows.Put.{Put}
use Rattle.row_keeper.specs.declared.rows.Put.TheVariants as put
use Rattle.row_keeper.specs.Tables.{Tables}
use Rattle.view_text.specs.RefusalText.{Fits}
use Rattle.view_text.specs.declared.refused.Refusal.{Refusal}
use Rattle.row_requests.specs.Changes.{change_one, kept_refusal, perform}
use Rattle.numbered_requests.specs.Replies.{plain}
use Rattle.row_requests.specs.DeskRows.{ChangesOutcome}
use Rattle.row_requests.specs.declared.bodies.Change.{Change}
use Rattle.row_requests.specs.declared.changes.Changed.{Changed}
use Rattle.row_requests.specs.declared.changes.Changed.TheVariants.{Id, Refused}

-- a change acts, or is refused and leaves the tables
abbrev pub ChangeComesTo : Result (ℕ × Tables) Refusal → Changed → Tables → Tables → Type 0
ChangeComesTo r (Id id) a b = r ≡ Ok (id, b)
ChangeComesTo r (Refused refusal) a b = (r ≡ Err refusal) × (b ≡ a)

abbrev pub ChangesOne : List TableShape → ℕ → Change → Changed → Tables → Tables → Type 0
ChangesOne shapes at c changed a b = ChangeComesTo (change_one shapes at c a) changed a b

-- inside the transaction: changes that are refused may have acted in part
abbrev pub AppliesChanges : List TableShape → List Change → ChangesOutcome → Tables → Tables
    → Type 0
AppliesChanges shapes changes (Ok ids) a b = perform shapes 0 changes a ≡ Ok (ids, b)
AppliesChanges shapes changes (Err r) a b = perform shapes 0 changes a ≡ Err r

-- what is said of a change
abbrev pub said_of : Changed → Result ℕ Refusal
said_of (Id id) = Ok id
said_of (Refused r) = Err r

-- a refusal has the detail of its code
abbrev pub HasItsDetail : Refusal → Type 0
HasItsDetail r = Fits r.code r.detail

abbrev pub HaveDetail : ChangesOutcome → Type 0
HaveDetail (Ok ids) = Unit {0}
HaveDetail (Err r) = HasItsDetail r

-- what becomes of a change, by what the keeper answers
abbrev pub came : ℕ → List Column → Put → Changed
came at columns (put.Id id) = Id id
came at columns put.NoRow = Refused (plain 22)
came at columns (put.Refused r) = Refused (kept_refusal at columns r)
