-- A test whose constants are no errors is no error on any row.
use Rattle.std.proofs.Common.{◌≡◌, ℕ, zero, suc, List, [], ◌∷◌, Bool, true, false, None, refl, sym, ap, subst}
use Rattle.std.specs.Prelude.{◌||◌}
use Rattle.std.specs.List.{AllByRecursion, list_any}
use Rattle.fx_types.specs.Values.{Data, blank, number, text, boolean, date, rec, tab, fault}
use Rattle.fx_plan.specs.Outlines.{Outline, OutlineList, all_filled, filled, constant_at, always, flag, constant, compares, is_blank, starts, contains, all_of, any_of, opposite, no_outlines, with}
use Rattle.fx_plan.specs.Plans.{is_fault}
use Rattle.fx_tables.specs.RowCalls.{holds}
use Rattle.fx_tables.specs.Unions.{is_fault as is_error}
use Rattle.fx_core.specs.declared.schema.TableShape.{TableShape}
use Rattle.fx_value.specs.Order.{IsScalar}
use Rattle.fx_plan.proofs.Testing.{value_scalar}
use Rattle.row_queries.specs.declared.rows.Row.{Row}
use Rattle.row_queries.specs.Queries.{first_outcome_fault}
use Rattle.row_queries.specs.RowTests.{Outcome, met, unmet, failed, all_outcome, and_outcome, any_outcome, decided, decided_by, is_met, or_outcome, outcome, reversed, unless_fault}
use Rattle.row_queries.specs.TableRows.{IsRowOf, values_of}

-- an outcome that is no error
abbrev pub IsSound : Outcome → Type 0
IsSound (failed k cs) = ⊥
IsSound o = Unit {0}

sound_decided : (b : Bool) → IsSound (decided b)
sound_decided true = tt
sound_decided false = tt

sound_reversed : (o : Outcome) → IsSound o → IsSound (reversed o)
sound_reversed met s = tt
sound_reversed unmet s = tt
sound_reversed (failed k cs) s = s

sound_and : (o p : Outcome) → IsSound o → IsSound p → IsSound (and_outcome o p)
sound_and met p s u = u
sound_and unmet p s u = tt
sound_and (failed k cs) p s u = s

sound_or : (o p : Outcome) → IsSound o → IsSound p → IsSound (or_outcome o p)
sound_or met p s u = tt
sound_or unmet p s u = u
sound_or (failed k cs) p s u = s

scalar_decides : (d : Data) → IsScalar d → IsSound (decided_by d)
scalar_decides blank s = tt
scalar_decides (number z) s = tt
scalar_decides (text cs) s = tt
scalar_decides (boolean b) s = sound_decided b
scalar_decides (date z) s = tt
scalar_decides d s = absurd s

faultless_decides : (d : Data) → is_fault d ≡ false → IsSound (decided_by d)
faultless_decides blank e = tt
faultless_decides (number z) e = tt
faultless_decides (text cs) e = tt
faultless_decides (boolean b) e = sound_decided b
faultless_decides (date z) e = tt
faultless_decides (rec fs) e = tt
faultless_decides (tab rs) e = tt
faultless_decides (fault k cs) e = absurd cc

faultless_passes : (d : Data) (o : Outcome) → is_fault d ≡ false → IsSound o → IsSound (unless_fault d o)
faultless_passes blank o e s = s
faultless_passes (number z) o e s = s
faultless_passes (text cs) o e s = s
faultless_passes (boolean b) o e s = s
faultless_passes (date z) o e s = s
faultless_passes (rec fs) o e s = s
faultless_passes (tab rs) o e s = s
faultless_passes (fault k cs) o e s = absurd cc

first_false : (a b : Bool) → (a || b) ≡ false → a ≡ false
first_false true b e = absurd cc
first_false false b e = refl

second_false : (a b : Bool) → (a || b) ≡ false → b ≡ false
second_false true b e = absurd cc
second_false false b e = e

pub no_fault_at : (ds : List Data) (i : ℕ) → list_any is_fault ds ≡ false → is_fault (constant_at ds i) ≡ false
no_fault_at [] i e = refl
no_fault_at (d ∷ ds) zero e = first_false (is_fault d) (list_any is_fault ds) e
no_fault_at (d ∷ ds) (suc i) e = no_fault_at ds i (second_false (is_fault d) (list_any is_fault ds) e)

mutual
  pub filled_sound : (t : TableShape) (ds : List Data) (r : Row) → list_any is_fault ds ≡ false → IsRowOf t r → (o : Outline) → IsSound (outcome (values_of r) (filled ds o))
  filled_sound t ds r e h always = tt
  filled_sound t ds r e h (flag k) = scalar_decides _ (value_scalar t r k h)
  filled_sound t ds r e h (constant i) = faultless_decides (constant_at ds i) (no_fault_at ds i e)
  filled_sound t ds r e h (compares op k i) = faultless_passes (constant_at ds i) _ (no_fault_at ds i e) (sound_decided _)
  filled_sound t ds r e h (is_blank k) = sound_decided _
  filled_sound t ds r e h (starts k i) = faultless_passes (constant_at ds i) _ (no_fault_at ds i e) (sound_decided _)
  filled_sound t ds r e h (contains k i) = faultless_passes (constant_at ds i) _ (no_fault_at ds i e) (sound_decided _)
  filled_sound t ds r e h (all_of os) = all_sound t ds r e h os
  filled_sound t ds r e h (any_of os) = any_sound t ds r e h os
  filled_sound t ds r e h (opposite o) = sound_reversed (outcome (values_of r) (filled ds o)) (filled_sound t ds r e h o)

  pub all_sound : (t : TableShape) (ds : List Data) (r : Row) → list_any is_fault ds ≡ false → IsRowOf t r → (os : OutlineList) → IsSound (all_outcome (values_of r) (all_filled ds os))
  all_sound t ds r e h no_outlines = tt
  all_sound t ds r e h (with o os) = sound_and (outcome (values_of r) (filled ds o)) (all_outcome (values_of r) (all_filled ds os)) (filled_sound t ds r e h o) (all_sound t ds r e h os)

  any_sound : (t : TableShape) (ds : List Data) (r : Row) → list_any is_fault ds ≡ false → IsRowOf t r → (os : OutlineList) → IsSound (any_outcome (values_of r) (all_filled ds os))
  any_sound t ds r e h no_outlines = tt
  any_sound t ds r e h (with o os) = sound_or (outcome (values_of r) (filled ds o)) (any_outcome (values_of r) (all_filled ds os)) (filled_sound t ds r e h o) (any_sound t ds r e h os)

-- no first error among sound outcomes
pub none_failed : (os : List Outcome) → AllByRecursion IsSound os → first_outcome_fault os ≡ None
none_failed [] h = refl
none_failed (met ∷ os) h = none_failed os h.1
none_failed (unmet ∷ os) h = none_failed os h.1
none_failed (failed k cs ∷ os) h = absurd h.0

-- a value by which a sound outcome is decided is no error, and holds where the outcome is met
pub sound_holds : (v : Data) (o : Outcome) → IsSound o → o ≡ decided_by v → (is_error v ≡ false) × (holds v ≡ is_met o)
sound_holds (boolean true) o s e = (refl, sym (ap is_met e))
sound_holds (boolean false) o s e = (refl, sym (ap is_met e))
sound_holds blank o s e = (refl, sym (ap is_met e))
sound_holds (number z) o s e = (refl, sym (ap is_met e))
sound_holds (text cs) o s e = (refl, sym (ap is_met e))
sound_holds (date z) o s e = (refl, sym (ap is_met e))
sound_holds (rec fs) o s e = (refl, sym (ap is_met e))
sound_holds (tab rs) o s e = (refl, sym (ap is_met e))
sound_holds (fault k cs) o s e = absurd (subst IsSound e s)
