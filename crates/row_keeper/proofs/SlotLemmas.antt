-- Slots by their numbers, as they change and at the end of a transaction.
use Rattle.std.proofs.Common.{◌≡◌, ℕ, ◌==◌, List, refl, sym, ap, ◌∙◌, Bool, true, false, cond, Option, None, Some}
use Rattle.std.specs.Prelude.{is_none}
use Rattle.std.specs.Cmp.{unsigned_ties}
use Rattle.std.specs.Option.{option_map, is_some}
use Rattle.std.specs.BTreeMap.{is_at}
use Rattle.std.specs.Ordering.{nat_cmp}
use Rattle.std.proofs.lemmas.Bool.{eqb-true}
use Rattle.fx_types.specs.Values.{Data}
use Rattle.row_keeper.specs.declared.row_slots.Made.{Made}
use Rattle.row_keeper.specs.declared.row_slots.Made.TheVariants.{Same, Gone, New}
use Rattle.row_keeper.specs.declared.row_slots.Slot.{Slot}
use Rattle.row_keeper.specs.Slots.{OtherSlotsStand, slot_at_end, slot_ended, is_no_row, has_number, is_unchanged, now_of, now_at, now_in_slot, slot_at, then_at, then_in_slot, while_row}

pub same_number : (id i : ℕ) → is_at (nat_cmp id) i ≡ (id == i)
same_number id i = sym (unsigned_ties id i)

pub is_number : (id q : ℕ) → (id == q) ≡ true → id ≡ q
is_number id q h = eqb-true id q h

-- a change at a number, told by the test of numbers
pub told_at : (id i : ℕ) (w old new : Option Slot) → new ≡ cond (is_at (nat_cmp id) i) w old → new ≡ cond (id == i) w old
told_at id i w old new e = e ∙ ap (λ b. cond b w old) (same_number id i)

-- ---- a slot of no row is taken out
pub void_out : (o : Option Slot) → is_no_row o ≡ true → None ≡ while_row o
void_out None h = refl
void_out (Some s) h = go s.was h
  where
    go : (w : Option (List Data)) → is_none w ≡ true → None ≡ cond (is_some w) (Some s) None
    go None k = refl
    go (Some cs) k = absurd cc

pub row_stays : (o : Option Slot) → is_no_row o ≡ false → o ≡ while_row o
row_stays None h = refl
row_stays (Some s) h = go s.was h
  where
    go : (w : Option (List Data)) → is_none w ≡ false → Some s ≡ cond (is_some w) (Some s) None
    go None k = absurd cc
    go (Some cs) k = refl

pub two_steps : (b : Bool) (o : Option Slot) → while_row (option_map (slot_at_end b) o) ≡ slot_ended b o
two_steps b None = refl
two_steps b (Some s) = refl

-- ---- a second end changes nothing
pub end_twice : (b : Bool) (o : Option Slot) → slot_ended b (slot_ended b o) ≡ slot_ended b o
end_twice b None = refl
end_twice true (Some s) = go (now_of s.was s.made)
  where
    go : (w : Option (List Data)) → slot_ended true (while_row (Some (record { was = w; made = Same }))) ≡ while_row (Some (record { was = w; made = Same }))
    go None = refl
    go (Some cs) = refl
end_twice false (Some s) = go s.was
  where
    go : (w : Option (List Data)) → slot_ended false (while_row (Some (record { was = w; made = Same }))) ≡ while_row (Some (record { was = w; made = Same }))
    go None = refl
    go (Some cs) = refl

-- ---- what a slot tells after the end
still : (w : Option (List Data)) → (now_in_slot (while_row (Some (record { was = w; made = Same }))) ≡ w) × (then_in_slot (while_row (Some (record { was = w; made = Same }))) ≡ w) × (is_unchanged (while_row (Some (record { was = w; made = Same }))) ≡ true)
still None = (refl, refl, refl)
still (Some cs) = (refl, refl, refl)

settled_is : (o : Option Slot) → (now_in_slot (slot_ended true o) ≡ now_in_slot o) × (then_in_slot (slot_ended true o) ≡ now_in_slot o) × (is_unchanged (slot_ended true o) ≡ true)
settled_is None = (refl, refl, refl)
settled_is (Some s) = still (now_of s.was s.made)

restored_is : (o : Option Slot) → (now_in_slot (slot_ended false o) ≡ then_in_slot o) × (then_in_slot (slot_ended false o) ≡ then_in_slot o) × (is_unchanged (slot_ended false o) ≡ true)
restored_is None = (refl, refl, refl)
restored_is (Some s) = still s.was

-- an unchanged slot has now what it had then
unchanged : (o : Option Slot) → is_unchanged o ≡ true → then_in_slot o ≡ now_in_slot o
unchanged None h = refl
unchanged (Some s) h = go s.made h
  where
    go : (m : Made) → is_unchanged (Some (record { was = s.was; made = m })) ≡ true → s.was ≡ now_of s.was m
    go Same k = refl
    go Gone k = absurd cc
    go (New cs) k = absurd cc

abbrev Ends : Bool → List ℕ → List (ℕ × Slot) → List (ℕ × Slot) → Type 0
Ends b touched rows rows' = (i : ℕ) → slot_at rows' i ≡ cond (has_number touched i) (slot_ended b (slot_at rows i)) (slot_at rows i)

-- the end with the changes, at all numbers
pub done : (touched : List ℕ) (rows rows' : List (ℕ × Slot)) → OtherSlotsStand touched rows → Ends true touched rows rows'
    → (i : ℕ) → (now_at rows' i ≡ now_at rows i) × (then_at rows' i ≡ now_at rows i) × (is_unchanged (slot_at rows' i) ≡ true)
done touched rows rows' others e i = by (has_number touched i) refl (e i)
  where
    by : (b : Bool) → has_number touched i ≡ b → slot_at rows' i ≡ cond b (slot_ended true (slot_at rows i)) (slot_at rows i) → (now_at rows' i ≡ now_at rows i) × (then_at rows' i ≡ now_at rows i) × (is_unchanged (slot_at rows' i) ≡ true)
    by true h f = let s = settled_is (slot_at rows i) in (ap now_in_slot f ∙ s.0, ap then_in_slot f ∙ s.1, ap is_unchanged f ∙ s.2)
    by false h f = (ap now_in_slot f, ap then_in_slot f ∙ unchanged (slot_at rows i) (others i h), ap is_unchanged f ∙ others i h)

-- the end without them
pub back : (touched : List ℕ) (rows rows' : List (ℕ × Slot)) → OtherSlotsStand touched rows → Ends false touched rows rows'
    → (i : ℕ) → (now_at rows' i ≡ then_at rows i) × (then_at rows' i ≡ then_at rows i) × (is_unchanged (slot_at rows' i) ≡ true)
back touched rows rows' others e i = by (has_number touched i) refl (e i)
  where
    by : (b : Bool) → has_number touched i ≡ b → slot_at rows' i ≡ cond b (slot_ended false (slot_at rows i)) (slot_at rows i) → (now_at rows' i ≡ then_at rows i) × (then_at rows' i ≡ then_at rows i) × (is_unchanged (slot_at rows' i) ≡ true)
    by true h f = let s = restored_is (slot_at rows i) in (ap now_in_slot f ∙ s.0, ap then_in_slot f ∙ s.1, ap is_unchanged f ∙ s.2)
    by false h f = (ap now_in_slot f ∙ sym (unchanged (slot_at rows i) (others i h)), ap then_in_slot f, ap is_unchanged f ∙ others i h)
