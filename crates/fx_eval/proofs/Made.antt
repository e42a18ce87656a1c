-- What a function makes of what its parts give is what the call is worth.
use Rattle.std.proofs.Common.{◌≡◌, ℕ, List, [], ◌∷◌, length, false, Option, refl, subst}
use Rattle.fx_types.specs.Values.{Data, blank, number, text, boolean, date, rec, tab, fault}
use Rattle.fx_types.specs.declared.faults.Kind.{Kind}
use Rattle.fx_semantics.specs.Around.{Around, Meaning}
use Rattle.fx_semantics.specs.Rows.{IsConcat, IsLookedUp, IsMade, IsTableCall, TakesRows, OfEach, AreNew, rows_in}
use Rattle.fx_semantics.specs.Rows as made
use Rattle.fx_core.specs.declared.functions.Fun.{Fun}
use Rattle.fx_core.specs.declared.functions.Fun.TheVariants as fun
use Rattle.fx_tables.specs.AggregateCalls.{concatenated_by}
use Rattle.fx_tables.specs.Ends.{first_rows, last_rows}
use Rattle.fx_scalar.specs.LazyForms.{ErrorOr}
use Rattle.fx_eval.specs.Given.{ArgumentValues, once, each, AreGiven, new_columns, count_argument, column_names_in, pairs_in, separator_in, values_in}
use Rattle.fx_eval.specs.TableCalls.{AreNewColumns, AreColumnNames, AreNamePairs, CanMake, IsOneOrNone, IsOneFormula, IsJoining, IsMadeOf, IsConditionAndFormula, look_up_answer, verdicts}
use Rattle.fx_eval.proofs.Found.{found_is}
use Rattle.fx_eval.proofs.Parts.{AreOf, are_of}
use Rattle.fx_eval.proofs.Verdicts.{verdicts_are}
use Rattle.fx_value.specs.Columns.{Row}
use Rattle.fx_tables.specs.Unions.{is_fault}
use Rattle.fx_core.specs.Term.{Top}

-- ---- one formula, and one value
of_one : (Ps : List Meaning) (a : Around) (rows : List Row) (gs : List ArgumentValues) (R : List Data → Type 0) → AreOf Ps a rows gs → IsOneFormula gs → R (values_in gs) → OfEach rows Ps a R
of_one (F ∷ []) a rows (each ds ∷ []) R k f r = (ds, k.0, r)
of_one [] a rows [] R k f r = absurd f
of_one [] a rows (g ∷ gs) R k f r = absurd k
of_one (F ∷ Ps) a rows [] R k f r = absurd f
of_one (F ∷ Ps) a rows (once d ∷ gs) R k f r = absurd f
of_one (F ∷ Ps) a rows (each ds ∷ g ∷ gs) R k f r = absurd f
of_one (F ∷ P ∷ Ps) a rows (each ds ∷ []) R k f r = absurd k.1

taken_is : (taken : Option Data → Data) (Ps : List Meaning) (a : Around) (rows : List Row) (gs : List ArgumentValues) (v : Data) → AreOf Ps a rows gs → IsOneOrNone gs → v ≡ taken (count_argument gs) → TakesRows taken Ps a v
taken_is taken [] a rows [] v k f e = e
taken_is taken (N ∷ []) a rows (once d ∷ []) v k f e = (d, k.0, e)
taken_is taken [] a rows (g ∷ gs) v k f e = absurd k
taken_is taken (N ∷ Ps) a rows [] v k f e = absurd k
taken_is taken (N ∷ Ps) a rows (each ds ∷ gs) v k f e = absurd f
taken_is taken (N ∷ Ps) a rows (once d ∷ g ∷ gs) v k f e = absurd f
taken_is taken (N ∷ P ∷ Ps) a rows (once d ∷ []) v k f e = absurd k.1

joined_is : (Ps : List Meaning) (a : Around) (rows : List Row) (gs : List ArgumentValues) (v : Data) → AreOf Ps a rows gs → IsJoining gs → v ≡ concatenated_by (separator_in gs) (values_in gs) → IsConcat rows Ps a v
joined_is (F ∷ []) a rows (each ds ∷ []) v k f e = (ds, k.0, e)
joined_is (F ∷ S ∷ []) a rows (each ds ∷ once d ∷ []) v k f e = (ds, d, k.0, k.1.0, e)
joined_is [] a rows [] v k f e = absurd f
joined_is [] a rows (g ∷ gs) v k f e = absurd k
joined_is (F ∷ Ps) a rows [] v k f e = absurd f
joined_is (F ∷ Ps) a rows (once d ∷ gs) v k f e = absurd f
joined_is (F ∷ S ∷ Ps) a rows (each ds ∷ []) v k f e = absurd k.1
joined_is (F ∷ Ps) a rows (each ds ∷ each es ∷ gs) v k f e = absurd f
joined_is (F ∷ Ps) a rows (each ds ∷ once d ∷ g ∷ gs) v k f e = absurd f
joined_is (F ∷ []) a rows (each ds ∷ once d ∷ []) v k f e = absurd k.1
joined_is (F ∷ S ∷ P ∷ Ps) a rows (each ds ∷ once d ∷ []) v k f e = absurd k.1.1

looked_is : (n : ℕ) (Ps : List Meaning) (a : Around) (rows : List Row) (gs : List ArgumentValues) (v : Data) → AreOf Ps a rows gs → IsConditionAndFormula n gs → v ≡ look_up_answer rows gs → IsLookedUp rows Ps a v
looked_is n (C ∷ []) a rows (each cs ∷ []) v k f e = (cs, k.0, e)
looked_is n (C ∷ F ∷ []) a rows (each cs ∷ each ds ∷ []) v k f e = (cs, k.0, found_is C F a rows cs ds v k.0 k.1.0 e)
looked_is n [] a rows [] v k f e = absurd f
looked_is n [] a rows (g ∷ gs) v k f e = absurd k
looked_is n (C ∷ Ps) a rows [] v k f e = absurd f
looked_is n (C ∷ Ps) a rows (once d ∷ []) v k f e = absurd f
looked_is n (C ∷ Ps) a rows (once d ∷ g ∷ []) v k f e = absurd f.0
looked_is n (C ∷ Ps) a rows (once d ∷ g ∷ h ∷ gs) v k f e = absurd f
looked_is n (C ∷ F ∷ Ps) a rows (each cs ∷ []) v k f e = absurd k.1
looked_is n (C ∷ Ps) a rows (each cs ∷ once d ∷ []) v k f e = absurd f.1
looked_is n (C ∷ Ps) a rows (each cs ∷ g ∷ h ∷ gs) v k f e = absurd f
looked_is n (C ∷ []) a rows (each cs ∷ each ds ∷ []) v k f e = absurd k.1
looked_is n (C ∷ F ∷ P ∷ Ps) a rows (each cs ∷ each ds ∷ []) v k f e = absurd k.1.1

-- ---- columns
pub no_pair : (g : ArgumentValues) → AreNamePairs (g ∷ []) → ⊥
no_pair (each ds) f = f
no_pair (once (text n)) f = f
no_pair (once d) f = f

pub no_column : (g : ArgumentValues) → AreNewColumns (g ∷ []) → ⊥
no_column (each ds) f = f
no_column (once (text n)) f = f
no_column (once d) f = f

names_are : (Ps : List Meaning) (a : Around) (rows : List Row) (gs : List ArgumentValues) → AreOf Ps a rows gs → AreColumnNames gs → made.AreNames Ps a (column_names_in gs)
names_are [] a rows [] k f = tt
names_are (P ∷ Ps) a rows (once (text n) ∷ gs) k f = (k.0, names_are Ps a rows gs k.1 f)
names_are [] a rows (g ∷ gs) k f = absurd k
names_are (P ∷ Ps) a rows [] k f = absurd k
names_are (P ∷ Ps) a rows (each ds ∷ gs) k f = absurd f
names_are (P ∷ Ps) a rows (once d ∷ gs) k f = absurd f

pairs_are : (Ps : List Meaning) (a : Around) (rows : List Row) (gs : List ArgumentValues) → AreOf Ps a rows gs → AreNamePairs gs → made.AreRenamings Ps a (pairs_in gs)
pairs_are [] a rows [] k f = tt
pairs_are (P ∷ Q ∷ Ps) a rows (once (text n) ∷ once (text m) ∷ gs) k f = (k.0, k.1.0, pairs_are Ps a rows gs k.1.1 f)
pairs_are [] a rows (g ∷ gs) k f = absurd k
pairs_are (P ∷ Ps) a rows [] k f = absurd k
pairs_are (P ∷ []) a rows (g ∷ h ∷ gs) k f = absurd k.1
pairs_are (P ∷ []) a rows (g ∷ []) k f = absurd (no_pair g f)
pairs_are (P ∷ Ps) a rows (g ∷ gs) k f = absurd f

new_are : (Ps : List Meaning) (a : Around) (rows : List Row) (gs : List ArgumentValues) → AreOf Ps a rows gs → AreNewColumns gs → AreNew rows Ps a (new_columns gs)
new_are [] a rows [] k f = tt
new_are (P ∷ Q ∷ Ps) a rows (once (text n) ∷ each ds ∷ gs) k f = (k.0, k.1.0, new_are Ps a rows gs k.1.1 f)
new_are [] a rows (g ∷ gs) k f = absurd k
new_are (P ∷ Ps) a rows [] k f = absurd k
new_are (P ∷ []) a rows (g ∷ h ∷ gs) k f = absurd k.1
new_are (P ∷ []) a rows (g ∷ []) k f = absurd (no_column g f)
new_are (P ∷ Ps) a rows (g ∷ gs) k f = absurd f

-- ---- the table
pub made_is : (f : Fun) (Ps : List Meaning) (a : Around) (rows : List Row) (gs : List ArgumentValues) (v : Data) → AreOf Ps a rows gs → CanMake f rows gs → IsMadeOf f rows gs v → IsMade f rows Ps a v
made_is fun.Filter Ps a rows gs v k c m = (verdicts rows gs, verdicts_are (length rows) Ps a rows gs k c, m)
made_is fun.LookUp Ps a rows gs v k c m = looked_is (length rows) Ps a rows gs v k c m
made_is (fun.Sort o) Ps a rows gs v k c m = of_one Ps a rows gs _ k c.0 m
made_is fun.First Ps a rows gs v k c m = m
made_is fun.Last Ps a rows gs v k c m = m
made_is fun.FirstN Ps a rows gs v k c m = taken_is (first_rows rows) Ps a rows gs v k c m
made_is fun.LastN Ps a rows gs v k c m = taken_is (last_rows rows) Ps a rows gs v k c m
made_is fun.CountRows Ps a rows gs v k c m = m
made_is fun.CountIf Ps a rows gs v k c m = (verdicts rows gs, verdicts_are (length rows) Ps a rows gs k c, m)
made_is fun.IsEmpty Ps a rows gs v k c m = m
made_is fun.SumRows Ps a rows gs v k c m = of_one Ps a rows gs _ k c m
made_is fun.MinRows Ps a rows gs v k c m = of_one Ps a rows gs _ k c m
made_is fun.MaxRows Ps a rows gs v k c m = of_one Ps a rows gs _ k c m
made_is fun.AverageRows Ps a rows gs v k c m = of_one Ps a rows gs _ k c m
made_is fun.AddColumns Ps a rows gs v k c m = (new_columns gs, new_are Ps a rows gs k c.0, m)
made_is fun.DropColumns Ps a rows gs v k c m = (column_names_in gs, names_are Ps a rows gs k c, m)
made_is fun.ShowColumns Ps a rows gs v k c m = (column_names_in gs, names_are Ps a rows gs k c, m)
made_is fun.GroupBy Ps a rows gs v k c m = (column_names_in gs, names_are Ps a rows gs k c.0, m)
made_is fun.Ungroup Ps a rows gs v k c m = (column_names_in gs, names_are Ps a rows gs k c.0, m)
made_is fun.RenameColumns Ps a rows gs v k c m = (pairs_in gs, pairs_are Ps a rows gs k c.0, m)
made_is fun.Distinct Ps a rows gs v k c m = of_one Ps a rows gs _ k c.0 m
made_is fun.ForAll Ps a rows gs v k c m = of_one Ps a rows gs _ k c m
made_is fun.Concat Ps a rows gs v k c m = joined_is Ps a rows gs v k c m
made_is f Ps a rows gs v k c m = absurd c

unless_error : (w : Data) (P : Type 0) (v : Data) → is_fault w ≡ false → P → ErrorOr w P v
unless_error (fault x m) P v e p = absurd cc
unless_error (boolean b) P v e p = p
unless_error blank P v e p = p
unless_error (number z) P v e p = p
unless_error (text cs) P v e p = p
unless_error (date z) P v e p = p
unless_error (rec fs) P v e p = p
unless_error (tab rs) P v e p = p

-- a call over a table that is no error
pub over_made : (f : Fun) (h : Top) (n i : ℕ) (P : Meaning) (Ps : List Meaning) (a : Around) (w : Data) (rows : List Row) (gs : List ArgumentValues) (v : Data) →
    P a w → is_fault w ≡ false → rows ≡ rows_in w → AreGiven h n i Ps a rows gs → CanMake f rows gs → IsMadeOf f rows gs v → IsTableCall f (P ∷ Ps) a v
over_made f h n i P Ps a w rows gs v p e q k c m =
    let made : IsMade f rows Ps a v = made_is f Ps a rows gs v (are_of h n i Ps a rows gs k) c m in
    (w, p, unless_error w (IsMade f (rows_in w) Ps a v) v e (subst (λ (rs : List Row). IsMade f rs Ps a v) q made))

-- and over an error
pub over_error : (f : Fun) (P : Meaning) (Ps : List Meaning) (a : Around) (k : Kind) (cs : List ℕ) → P a (fault k cs) → IsTableCall f (P ∷ Ps) a (fault k cs)
over_error f P Ps a k cs p = (fault k cs, p, refl)
