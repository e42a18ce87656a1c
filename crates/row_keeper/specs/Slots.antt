-- Rows by their numbers, now and as the transaction began.
use Rattle.std.specs.Prelude.{◌≡◌, ℕ, ◌==◌, Bool, true, false, cond, is_none, List, [], ◌∷◌, Option}
use Rattle.std.specs.Prelude.{None, Some}
use Rattle.std.specs.List.{list_any}
use Rattle.std.specs.Map.{lookup}
use Rattle.std.specs.Option.{is_some}
use Rattle.std.specs.BTreeMap.{is_at}
use Rattle.std.specs.Ordering.{nat_cmp}
use Rattle.fx_types.specs.Values.{Data}
use Rattle.row_queries.specs.declared.rows.Row.{Row}
use Rattle.row_keeper.specs.declared.row_slots.Made.{Made}
use Rattle.row_keeper.specs.declared.row_slots.Made.TheVariants.{Same, Gone, New}
use Rattle.row_keeper.specs.declared.row_slots.Slot.{Slot}

abbrev pub now_of : Option (List Data) → Made → Option (List Data)
now_of was Same = was
now_of was Gone = None
now_of was (New cells) = Some cells

-- what a slot has: the cells of its row now, and as the transaction began
abbrev pub cells_now : Slot → Option (List Data)
cells_now s = now_of s.was s.made

abbrev pub cells_then : Slot → Option (List Data)
cells_then s = s.was

abbrev pub settled : Slot → Slot
settled s = record { was = now_of s.was s.made; made = Same }

abbrev pub restored : Slot → Slot
restored s = record { was = s.was; made = Same }

abbrev pub in_slot : (Slot → Option (List Data)) → Option Slot → Option (List Data)
in_slot f None = None
in_slot f (Some s) = f s

abbrev pub now_in_slot : Option Slot → Option (List Data)
now_in_slot o = in_slot cells_now o

abbrev pub then_in_slot : Option Slot → Option (List Data)
then_in_slot o = in_slot cells_then o

-- the cells of the row of a number, now and as the transaction began
abbrev pub cells_at : (Slot → Option (List Data)) → List (ℕ × Slot) → ℕ → Option (List Data)
cells_at f rows i = in_slot f (lookup (is_at (nat_cmp i)) rows)

abbrev pub now_at : List (ℕ × Slot) → ℕ → Option (List Data)
now_at rows i = cells_at cells_now rows i

abbrev pub then_at : List (ℕ × Slot) → ℕ → Option (List Data)
then_at rows i = cells_at cells_then rows i

abbrev pub row_before : ℕ → Option (List Data) → List Row → List Row
row_before i None rows = rows
row_before i (Some cells) rows = record { id = i; cells = cells } ∷ rows

-- the rows by rising numbers, now and as the transaction began
abbrev pub rows_by : (Slot → Option (List Data)) → List (ℕ × Slot) → List Row
rows_by f [] = []
rows_by f (e ∷ es) = row_before e.0 (f e.1) (rows_by f es)

abbrev pub rows_now : List (ℕ × Slot) → List Row
rows_now es = rows_by cells_now es

abbrev pub rows_then : List (ℕ × Slot) → List Row
rows_then es = rows_by cells_then es

-- ---- what a transaction touched

abbrev pub slot_at : List (ℕ × Slot) → ℕ → Option Slot
slot_at rows i = lookup (is_at (nat_cmp i)) rows

-- a number is among others
abbrev pub has_number : List ℕ → ℕ → Bool
has_number ids i = list_any (λ n. n == i) ids

-- a transaction has made nothing of a row
abbrev pub is_unmade : Made → Bool
is_unmade Same = true
is_unmade m = false

abbrev pub is_unchanged : Option Slot → Bool
is_unchanged None = true
is_unchanged (Some s) = is_unmade s.made

-- slots of other numbers than these are as they were
abbrev pub OtherSlotsStand : List ℕ → List (ℕ × Slot) → Type 0
OtherSlotsStand touched rows = (i : ℕ) → has_number touched i ≡ false
    → is_unchanged (slot_at rows i) ≡ true

-- a slot after the end of a transaction, with its change or without
abbrev pub slot_at_end : Bool → Slot → Slot
slot_at_end with_changes s = cond with_changes (settled s) (restored s)

-- a slot of no row
abbrev pub is_no_row : Option Slot → Bool
is_no_row None = false
is_no_row (Some s) = is_none s.was

-- a slot that still is one of a row
abbrev pub while_row : Option Slot → Option Slot
while_row None = None
while_row (Some s) = cond (is_some s.was) (Some s) None

-- what stands there after the end of a transaction
abbrev pub slot_ended : Bool → Option Slot → Option Slot
slot_ended with_changes None = None
slot_ended with_changes (Some s) = while_row (Some (slot_at_end with_changes s))
