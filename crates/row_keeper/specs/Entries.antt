-- What an index tells: for the keys of a column, the numbers of the rows that have them.
use Rattle.std.specs.Prelude.{◌≡◌, ℕ, ◌+◌, ◌==◌, ◌&&◌, Bool, true, false, bytes_eq, cond, not, List}
use Rattle.std.specs.Prelude.{[], ◌∷◌, ◌++◌, filter, map, Option, None, Some}
use Rattle.std.specs.List.{list_any}
use Rattle.std.specs.Map.{lookup}
use Rattle.std.specs.BTreeMap.{is_at}
use Rattle.std.specs.Ordering.{nat_cmp, ordering_then}
use Rattle.std.specs.Cmp.Lexicographic.{slice_cmp}
use Rattle.std.specs.Option.{is_some}
use Rattle.std.specs.declared.cmp.Ordering.{Ordering}
use Rattle.row_queries.specs.Ranges.{in_range}
use Rattle.row_queries.specs.declared.ranges.KeyRange.{KeyRange}
use Rattle.row_keeper.specs.declared.index.Mark.{Mark}

-- an entry: a column's number and a key, and the number of a row
abbrev pub IndexEntry : Type 0
IndexEntry = (ℕ × List ℕ) × ℕ

abbrev pub Entries : Type 0
Entries = List (((ℕ × List ℕ) × ℕ) × Mark)

-- entries go by their columns, their keys, and then by the rows
abbrev pub entry_cmp : (ℕ × List ℕ) × ℕ → (ℕ × List ℕ) × ℕ → Ordering
entry_cmp a b = ordering_then (ordering_then (nat_cmp a.0.0 b.0.0) (slice_cmp nat_cmp a.0.1 b.0.1))
    (nat_cmp a.1 b.1)

-- two entries are the same
abbrev pub is_entry : (ℕ × List ℕ) × ℕ → (ℕ × List ℕ) × ℕ → Bool
is_entry q e = ((q.0.0 == e.0.0) && bytes_eq q.0.1 e.0.1) && (q.1 == e.1)

abbrev pub is_entry_among : List ((ℕ × List ℕ) × ℕ) → (ℕ × List ℕ) × ℕ → Bool
is_entry_among es q = list_any (λ e. is_entry e q) es

abbrev pub is_now : Option Mark → Bool
is_now None = false
is_now (Some m) = m.is

abbrev pub was_then : Option Mark → Bool
was_then None = false
was_then (Some m) = m.was

-- whether an entry is there for a row now, and whether it was as the transaction began
abbrev pub now_in : List (((ℕ × List ℕ) × ℕ) × Mark) → (ℕ × List ℕ) × ℕ → Bool
now_in es q = is_now (lookup (is_at (entry_cmp q)) es)

abbrev pub then_in : List (((ℕ × List ℕ) × ℕ) × Mark) → (ℕ × List ℕ) × ℕ → Bool
then_in es q = was_then (lookup (is_at (entry_cmp q)) es)

abbrev pub mark_at : List (((ℕ × List ℕ) × ℕ) × Mark) → (ℕ × List ℕ) × ℕ → Option Mark
mark_at es q = lookup (is_at (entry_cmp q)) es

-- an entry has a mark and is noted as touched, so that it can be marked without memory
abbrev pub HasEntryRoom : List ((ℕ × List ℕ) × ℕ) → List (((ℕ × List ℕ) × ℕ) × Mark)
    → (ℕ × List ℕ) × ℕ → Type 0
HasEntryRoom touched es q = (is_entry_among touched q ≡ true) × (is_some (mark_at es q) ≡ true)

-- entries other than these are as they were as the transaction began
abbrev pub OtherEntriesStand : List ((ℕ × List ℕ) × ℕ) → List (((ℕ × List ℕ) × ℕ) × Mark) → Type 0
OtherEntriesStand touched es = (q : (ℕ × List ℕ) × ℕ) → is_entry_among touched q ≡ false
    → now_in es q ≡ then_in es q

-- a mark after the end of a transaction, with its change or without
abbrev pub mark_at_end : Bool → Mark → Mark
mark_at_end with_changes m = cond with_changes (record { was = m.is; is = m.is })
    (record { was = m.was; is = m.was })

-- a mark of no entry
abbrev pub is_no_entry : Option Mark → Bool
is_no_entry None = false
is_no_entry (Some m) = not m.was

-- a mark that still is one of an entry
abbrev pub while_entry : Option Mark → Option Mark
while_entry None = None
while_entry (Some m) = cond m.was (Some m) None

-- what stands there after the end of a transaction
abbrev pub entry_ended : Bool → Option Mark → Option Mark
entry_ended with_changes None = None
entry_ended with_changes (Some m) = while_entry (Some (mark_at_end with_changes m))

-- whether one of the entries is that of a row of this number
abbrev pub among : List (((ℕ × List ℕ) × ℕ) × Mark) → ℕ → Bool
among es i = list_any (λ e. e.1.is && (e.0.1 == i)) es

-- an entry of this column, in the range
abbrev pub lies_at : ℕ → KeyRange → ((ℕ × List ℕ) × ℕ) × Mark → Bool
lies_at column r e = (e.0.0.0 == column) && in_range e.0.0.1 r

-- whether a row of this number has an entry in the range, or in one of the ranges
abbrev pub hits : ℕ → KeyRange → List (((ℕ × List ℕ) × ℕ) × Mark) → ℕ → Bool
hits column r es i = among (filter (lies_at column r) es) i

abbrev pub hits_in : ℕ → List KeyRange → List (((ℕ × List ℕ) × ℕ) × Mark) → ℕ → Bool
hits_in column rs es i = list_any (λ r. hits column r es i) rs

-- what a range of a column ends before: the key that ends it, or the next column
abbrev pub end_key : ℕ → Option (List ℕ) → ℕ × List ℕ
end_key column None = (column + 1, [])
end_key column (Some upto) = (column, upto)

-- the numbers of the rows that entries are of now, in the order of the entries
abbrev pub ids_of : List (((ℕ × List ℕ) × ℕ) × Mark) → List ℕ
ids_of es = map (λ e. e.0.1) (filter (λ e. e.1.is) es)

-- the numbers of the rows with an entry of a column in ranges, range by range
abbrev pub ids_in : ℕ → List KeyRange → List (((ℕ × List ℕ) × ℕ) × Mark) → List ℕ
ids_in column [] es = []
ids_in column (r ∷ rs) es = ids_of (filter (lies_at column r) es) ++ ids_in column rs es
