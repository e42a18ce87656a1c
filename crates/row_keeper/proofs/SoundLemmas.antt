-- The rows of a whole table are sound.
use Rattle.std.proofs.Common.{◌≡◌, ◌⊎◌, inl, inr, ℕ, zero, suc, ◌<◌, ◌≤◌, ◌^◌, List, [], ◌∷◌, filter, length, refl, sym, ap, ap₂, ◌∙◌, arith, true, false, cond, Option, None, Some, subst}
use Rattle.std.specs.List.{AllByRecursion, list_any}
use Rattle.std.specs.List.Sorted.{IsStrictlySortedBy}
use Rattle.std.specs.Map.{keys_of, lookup}
use Rattle.std.specs.Option.{is_some}
use Rattle.std.specs.BTreeMap.{is_at}
use Rattle.std.specs.Ordering.{nat_cmp}
use Rattle.fx_types.specs.Values.{Data}
use Rattle.fx_core.specs.declared.schema.Column.{Column}
use Rattle.fx_value.specs.Order.{IsScalar}
use Rattle.row_queries.specs.Ranges.{HoldEveryKey}
use Rattle.row_queries.specs.TableRows.{value_at, values_of}
use Rattle.row_queries.specs.declared.ranges.KeyRange.{KeyRange}
use Rattle.row_queries.specs.declared.rows.Row.{Row}
use Rattle.row_keeper.specs.Covered.{NoneAbove, covered_of, covers, lie_in}
use Rattle.row_keeper.specs.Entries.{Entries, entry_cmp, hits_in}
use Rattle.row_keeper.specs.Found.{rows_of_ids}
use Rattle.row_keeper.specs.Slots.{cells_at, cells_now, cells_then, in_slot, row_before, rows_by, rows_now, rows_then}
use Rattle.row_keeper.specs.Sound.{IsSoundTable, IsSoundRow, IsSoundState, lies_among}
use Rattle.row_keeper.specs.Whole.{IsGood, IsWholeIndex}
use Rattle.row_keeper.specs.declared.row_slots.Slot.{Slot}
use Rattle.row_keeper.proofs.FoundLemmas.{hits_are, owns_all, rows_found}
use Rattle.row_keeper.proofs.RowLists.{all_below, in_order, row_is}
use Rattle.row_keeper.proofs.WholeLemmas.{scalar_at}

sound_of : (columns : List Column) (r : Row) → IsGood columns r.id (Some r.cells) → IsSoundRow columns r
sound_of columns r g = record { id = g.0; fit = g.1; proper = g.2 }

-- each row of a list is what stands under its number
sound_rows : (columns : List Column) (at : ℕ → Option (List Data)) → ((i : ℕ) → IsGood columns i (at i)) → (rows : List Row) → AllByRecursion (λ (r : Row). at r.id ≡ Some r.cells) rows → AllByRecursion (IsSoundRow columns) rows
sound_rows columns at good [] h = tt
sound_rows columns at good (r ∷ rs) h = (sound_of columns r (subst (IsGood columns r.id) h.0 (good r.id)), sound_rows columns at good rs h.1)

own_later : (at : ℕ → Option (List Data)) (f : Slot → Option (List Data)) (es part : List (ℕ × Slot)) → AllByRecursion (λ x. lookup (is_at (nat_cmp x.0)) es ≡ Some x.1) part → AllByRecursion (λ (r : Row). cells_at f es r.id ≡ Some r.cells) (rows_by f part)
own_later at f es [] owns = tt
own_later at f es (e ∷ part) owns = by (f e.1) (ap (λ o. in_slot_of o) owns.0) (own_later at f es part owns.1)
  where
    in_slot_of : Option Slot → Option (List Data)
    in_slot_of None = None
    in_slot_of (Some s) = f s

    same : (o : Option Slot) → in_slot_of o ≡ in_slot f o
    same None = refl
    same (Some s) = refl

    by : (o : Option (List Data)) → in_slot_of (lookup (is_at (nat_cmp e.0)) es) ≡ f e.1 → AllByRecursion (λ (r : Row). cells_at f es r.id ≡ Some r.cells) (rows_by f part) → AllByRecursion (λ (r : Row). cells_at f es r.id ≡ Some r.cells) (row_before e.0 (f e.1) (rows_by f part))
    by o h rest = go (f e.1) (sym (same (lookup (is_at (nat_cmp e.0)) es)) ∙ h)
      where
        go : (p : Option (List Data)) → cells_at f es e.0 ≡ p → AllByRecursion (λ (r : Row). cells_at f es r.id ≡ Some r.cells) (row_before e.0 p (rows_by f part))
        go None k = rest
        go (Some cells) k = (k, rest)

rows_sound : (columns : List Column) (f : Slot → Option (List Data)) (es : List (ℕ × Slot)) → IsStrictlySortedBy nat_cmp (keys_of es) → ((i : ℕ) → IsGood columns i (cells_at f es i)) → AllByRecursion (IsSoundRow columns) (rows_by f es)
rows_sound columns f es sorted good = sound_rows columns (cells_at f es) good (rows_by f es) (own_later (cells_at f es) f es es (owns_all es sorted))

state_sound : (columns : List Column) (f : Slot → Option (List Data)) (es : List (ℕ × Slot)) (last : ℕ) → IsStrictlySortedBy nat_cmp (keys_of es) → ((i : ℕ) → IsGood columns i (cells_at f es i)) → NoneAbove last (cells_at f es) → length (rows_by f es) ≤ 200000 → last < 2 ^ 32
    → IsSoundState columns (record { rows = rows_by f es; last = last })
state_sound columns f es last sorted good above few bounded = record {
  rows = rows_sound columns f es sorted good;
  rising = in_order f es sorted;
  given = all_below last (rows_by f es) (λ i l. ap is_some (row_is f es sorted i) ∙ above i l) (in_order f es sorted);
  bounded = bounded;
  few = few;
}

pub sound : (columns : List Column) (covered : List ℕ) (rows : List (ℕ × Slot)) (es : Entries) (last count first first_count : ℕ) → IsWholeIndex columns covered rows es last count first first_count → IsStrictlySortedBy nat_cmp (keys_of rows) → last < 2 ^ 32 → first < 2 ^ 32
    → IsSoundTable (record { columns = columns; now = record { rows = rows_now rows; last = last }; then = record { rows = rows_then rows; last = first } })
sound columns covered rows es last count first first_count w sorted most most_then = record {
  narrow = w.narrow;
  now = state_sound columns cells_now rows last sorted w.good w.tallied.above (let c : count ≡ length (rows_now rows) = w.tallied.counted in let f : count ≤ 200000 = w.tallied.few in omega (arith, c, f)) most;
  then = state_sound columns cells_then rows first sorted w.good_then w.tallied.before (let c : first_count ≡ length (rows_then rows) = w.tallied.counted_then in let f : first_count ≤ 200000 = w.tallied.few_then in omega (arith, c, f)) most_then;
}

-- the rows that the index finds
pub found : (columns : List Column) (covered : List ℕ) (column : ℕ) (rs : List KeyRange) (rows : List (ℕ × Slot)) (es : Entries) (last count first first_count : ℕ) (ids : List ℕ)
    → IsWholeIndex columns covered rows es last count first first_count → covers covered column ≡ true → IsStrictlySortedBy nat_cmp (keys_of rows) → IsStrictlySortedBy entry_cmp (keys_of es) → IsStrictlySortedBy nat_cmp ids
    → ((i : ℕ) → list_any (is_at (nat_cmp i)) ids ≡ hits_in column rs es i) → rows_of_ids rows ids ≡ filter (lies_among column rs) (rows_now rows)
found columns covered column rs rows es last count first first_count ids w has sorted ordered rising hit =
    rows_found (lie_in column rs) (lies_among column rs) (λ i. refl) (λ i cells. refl) rows ids sorted rising (λ i. hit i ∙ hits_are covered column rows es has w.agrees ordered rs i)

-- ranges that hold every key keep every row
pub all_lie : (columns : List Column) (column : ℕ) (rs : List KeyRange) → HoldEveryKey rs → (rows : List Row) → AllByRecursion (IsSoundRow columns) rows → filter (lies_among column rs) rows ≡ rows
all_lie columns column rs every [] h = refl
all_lie columns column rs every (r ∷ rows) h = ap₂ (λ b l. cond b (r ∷ l) l) (every (value_at (values_of r) column) (scalar column)) (all_lie columns column rs every rows h.1)
  where
    scalar : (k : ℕ) → IsScalar (value_at (values_of r) k)
    scalar zero = tt
    scalar (suc k) = scalar_at columns r.cells h.0.fit k

-- a column that the index doesn't cover is asked for all rows alone
pub unfound : (columns : List Column) (covered : List ℕ) (column : ℕ) (rs : List KeyRange) (rows : List (ℕ × Slot)) (es : Entries) (last count first first_count : ℕ) → IsWholeIndex columns covered rows es last count first first_count
    → IsStrictlySortedBy nat_cmp (keys_of rows) → covers covered column ≡ false → ((covers (covered_of columns) column ≡ true) ⊎ HoldEveryKey rs) → filter (lies_among column rs) (rows_now rows) ≡ rows_now rows
unfound columns covered column rs rows es last count first first_count w sorted hidden (inl h) = absurd (let e : covers covered column ≡ true = ap (λ v. covers v column) w.covered_is ∙ h in cc)
unfound columns covered column rs rows es last count first first_count w sorted hidden (inr every) = all_lie columns column rs every (rows_now rows) (rows_sound columns cells_now rows sorted w.good)
