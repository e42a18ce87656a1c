-- The first rule that a row breaks.
use Rattle.std.proofs.Common.{◌≡◌, ◌∙◌, ℕ, zero, suc, ◌+◌, ◌≤◌, arith, ◌==◌, ◌&&◌, ◌||◌, Bool, true, false, cond, not, List, [], ◌∷◌, length, Option, None, Some, add-one, ap, ap₂, refl, sym}
use Rattle.std.specs.Prelude.{is_none, nat_le, nat_lt, slice_get, unwrap_or}
use Rattle.std.specs.List.{list_any}
use Rattle.std.proofs.lemmas.List.{length-map}
use Rattle.fx_types.specs.Values.{Data, blank}
use Rattle.fx_core.specs.declared.schema.Column.{Column}
use Rattle.sql_meanings.specs.Lines.{LinesOf}
use Rattle.row_queries.specs.TableRows.{value_at, values_of}
use Rattle.row_queries.specs.declared.rows.Row.{Row}
use Rattle.row_keeper.specs.RowRules.{cells_weight, first_broken, first_of_two, in_column, lacks, others, repeats, rule_in, where_broken}
use Rattle.row_keeper.specs.Rules.{is_other_row}
use Rattle.row_keeper.specs.Tables.{TableState, has_id}
use Rattle.row_keeper.specs.declared.rows.RowRefusal.{RowRefusal}
use Rattle.row_keeper.specs.declared.rows.RowRule.TheVariants.{Required, Unique, Size, Full}
use Rattle.row_changes.specs.Overlay.{last_of, overlay}
use Rattle.row_changes.specs.declared.table.TableChanges.{TableChanges}
use Rattle.store_model.specs.Decoded.{row_in}
use Rattle.store_model.specs.declared.counts.RowCount.{RowCount}
use Rattle.store_rows.specs.Puts.{IsInOrder, state_over}
use Rattle.store_rows.specs.Rooms.{IsRoomOf, is_full_room}
use Rattle.store_rows.specs.declared.rules.Room.{Room}

-- ---- the rows but the one of a number

pub any_other : (p : Row → Bool) (id : Option ℕ) (rows : List Row) → list_any (λ r. is_other_row id r && p r) rows ≡ list_any p (others id rows)
any_other p None rows = refl
any_other p (Some id) [] = refl
any_other p (Some id) (r ∷ rows) = go (has_id id r) (any_other p (Some id) rows)
  where
    go : (b : Bool) → list_any (λ x. is_other_row (Some id) x && p x) rows ≡ list_any p (others (Some id) rows)
        → ((not b && p r) || list_any (λ x. is_other_row (Some id) x && p x) rows) ≡ list_any p (cond (not b) (r ∷ others (Some id) rows) (others (Some id) rows))
    go true ih = ih
    go false ih = ap (λ x. p r || x) ih

-- ---- a cell, under the number of its column

pub cell_there : (r : Row) (place : ℕ) (v : Data) → slice_get r.cells place ≡ Some v → v ≡ value_at (values_of r) (place + 1)
cell_there r place v is = sym (ap (λ k. value_at (values_of r) k) (add-one place) ∙ ap (λ o. unwrap_or o blank) is)

none_behind : {A : Type 0} (xs : List A) (i : ℕ) → length xs ≤ i → slice_get xs i ≡ None
none_behind [] i high = refl
none_behind (x ∷ xs) zero high = absurd (omega (arith, high))
none_behind (x ∷ xs) (suc i) high = none_behind xs i (omega (arith, high))

pub cell_missing : (r : Row) (place : ℕ) → length r.cells ≤ place → blank ≡ value_at (values_of r) (place + 1)
cell_missing r place high = sym (ap (λ k. value_at (values_of r) k) (add-one place) ∙ ap (λ o. unwrap_or o blank) (none_behind r.cells place high))

-- ---- the rule

skipped : {A : Type 0} (b x : Bool) (y z : A) → b ≡ false → cond (b && x) y z ≡ z
skipped true x y z e = absurd cc
skipped false x y z e = refl

pub none_unique : (rows : List Row) (k : ℕ) (columns : List Column) (cells : List Data) → list_any (λ (c : Column). c.unique) columns ≡ false → None ≡ first_broken (repeats rows) k columns cells
none_unique rows k [] cells e = refl
none_unique rows k (c ∷ cs) [] e = refl
none_unique rows k (c ∷ cs) (d ∷ ds) e = go c.unique refl e (none_unique rows (k + 1) cs ds)
  where
    go : (b : Bool) → c.unique ≡ b → (b || list_any (λ (x : Column). x.unique) cs) ≡ false → (list_any (λ (x : Column). x.unique) cs ≡ false → None ≡ first_broken (repeats rows) (k + 1) cs ds) → None ≡ first_broken (repeats rows) k (c ∷ cs) (d ∷ ds)
    go true is f rest = absurd cc
    go false is f rest = rest f ∙ sym (skipped c.unique _ (Some k) (first_broken (repeats rows) (k + 1) cs ds) is)

module _ (columns : List Column) (s : TableState) (room : Room) (id : Option ℕ) (cells : List Data) where
  pub required_first : (k : ℕ) → Some k ≡ first_broken lacks 1 columns cells → Some (let r : RowRefusal = record { column = Some k; rule = Required } in r) ≡ rule_in columns s room.all id cells
  required_first k is = ap (λ o. first_of_two (in_column Required o) (first_of_two (in_column Unique (first_broken (repeats (others id s.rows)) 1 columns cells))
      (first_of_two (where_broken Size (nat_lt 2048 (cells_weight cells))) (where_broken Full (is_none id && (nat_le 200000 (length s.rows) || (nat_le 500000 room.all || (s.last == 4294967295)))))))) is

  pub rule_behind : (repeated : Option ℕ) (r : Option RowRefusal) → None ≡ first_broken lacks 1 columns cells → repeated ≡ first_broken (repeats (others id s.rows)) 1 columns cells → IsRoomOf room s
      → r ≡ first_of_two (in_column Unique repeated) (first_of_two (where_broken Size (nat_lt 2048 (cells_weight cells))) (where_broken Full (is_none id && is_full_room room))) → r ≡ rule_in columns s room.all id cells
  rule_behind repeated r lacking is of told =
      told ∙ ap₂ (λ o b. first_of_two (in_column Unique o) (first_of_two (where_broken Size (nat_lt 2048 (cells_weight cells))) (where_broken Full (is_none id && b)))) is
      (ap₂ (λ n l. nat_le 200000 n || (nat_le 500000 room.all || (l == 4294967295))) of.rows of.last)
      ∙ ap (λ o. first_of_two (in_column Required o) (first_of_two (in_column Unique (first_broken (repeats (others id s.rows)) 1 columns cells))
      (first_of_two (where_broken Size (nat_lt 2048 (cells_weight cells))) (where_broken Full (is_none id && (nat_le 200000 (length s.rows) || (nat_le 500000 room.all || (s.last == 4294967295)))))))) lacking

pub room_is : (kept : LinesOf) (columns : List Column) (c : TableChanges) (n : RowCount) (room : Room) → IsInOrder kept columns c n → room.rows ≡ n.now → room.last ≡ last_of c → IsRoomOf room (state_over kept columns c)
room_is kept columns c n room h rows last = record { rows = rows ∙ h.counted.now ∙ sym (length-map (overlay c kept) (row_in columns)); last = last }
