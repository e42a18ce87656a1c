-- Calls that read rows, one after another, and what is heard of the rows.
use Rattle.std.proofs.Common.{◌≡◌, ℕ, List, true, false, Option, Some, None, inl, inr, refl, sym, subst, ◌∙◌, slice_get, arith}
use Rattle.app_semantics.specs.app_cells.declared.app.App.{App}
use Rattle.app_semantics.specs.app_cells.declared.app.CellInfo.{CellInfo}
use Rattle.app_semantics.specs.Fresh.{reads_table}
use Rattle.fx_base.proofs.Silences.{goes_two, later_then}
use Rattle.fx_base.specs.Silence.{MayFallSilent, SilenceCause}
use Rattle.fx_base.specs.Telling.{Stays}
use Rattle.fx_env.specs.Telling.{IsHeard}
use Rattle.recalc.specs.Asking.{CanAsk, HasRead, IsHeardOf, Keeping}
use Rattle.row_keeper.specs.Shaped.{Shaped, by}
use Rattle.row_keeper.specs.Tables.{Tables, rows_told}
use Rattle.row_queries.specs.declared.rows.Row.{Row}

pub stays : (lost : Type 0) (x : Option Tables) → MayFallSilent lost Stays x x
stays lost None = refl
stays lost (Some t) = refl

-- no call
pub read_none : (a : Keeping) → HasRead a a
read_none a = record { told = stays (SilenceCause a.marks a.marks) a.told; began = stays (SilenceCause a.marks a.marks) a.began; shaped = refl; mode = refl; later = record { faults = omega arith; doubt = omega arith }; visited = omega arith; loan = refl }

-- one after another
pub read_on : (a b c : Keeping) → HasRead a b → HasRead b c → HasRead a c
read_on a b c p q = record {
  told = goes_two Stays Stays Stays (λ x y z e f. f ∙ e) a.marks b.marks c.marks p.later q.later a.told b.told c.told p.told q.told;
  began = goes_two Stays Stays Stays (λ x y z e f. f ∙ e) a.marks b.marks c.marks p.later q.later a.began b.began c.began p.began q.began;
  shaped = q.shaped ∙ p.shaped;
  mode = q.mode ∙ p.mode;
  later = later_then a.marks b.marks c.marks p.later q.later;
  visited = omega arith;
  loan = q.loan ∙ p.loan;
}

heard_back : (lost : Type 0) (x y : Option Tables) (f : Option (List (List Row))) → MayFallSilent lost Stays x y → IsHeard (rows_told y) f → IsHeard (rows_told x) f
heard_back lost x y None k h = tt
heard_back lost None y (Some g) k h = subst (λ z. rows_told z ≡ Some g) k h
heard_back lost (Some a) None (Some g) k h = absurd cc
heard_back lost (Some a) (Some b) (Some g) k h = subst (λ z. rows_told (Some z) ≡ Some g) k h

-- what is heard later was heard before
pub heard_before : (a b : Keeping) → HasRead a b → (f : Option (List (List Row))) → IsHeardOf b.told f → IsHeardOf a.told f
heard_before a b p f h = heard_back (SilenceCause a.marks b.marks) a.told b.told f p.told h

-- what is told is heard
pub heard_told : (told : Option Tables) → IsHeardOf told (rows_told told)
heard_told None = tt
heard_told (Some t) = refl

-- what could be asked can still be
pub still_asks : (a : App) (x y : Shaped) → y ≡ x → CanAsk a x → CanAsk a y
still_asks a x y e (inl h) = inl (e ∙ h)
still_asks a x y e (inr h) = inr h

-- the keeper of a formula that reads a table is shaped
pub asks_for : (a : App) (x : Shaped) (k : ℕ) (c : CellInfo) → CanAsk a x → slice_get a.cells k ≡ Some c → reads_table c.reads ≡ true → x ≡ by a.names.schema
asks_for a x k c (inl h) there reads = h
asks_for a x k c (inr none) there reads = let both : false ≡ true = sym (none k c there) ∙ reads in absurd cc
