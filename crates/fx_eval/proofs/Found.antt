-- What is found by conditions.
use Rattle.std.proofs.Common.{◌≡◌, List, [], ◌∷◌, map, Bool, true, false, Option, Some, None, refl, sym, subst}
use Rattle.std.specs.Prelude.{unwrap_or, cond, if◌then◌else◌}
use Rattle.std.specs.List.{filter, find, zip}
use Rattle.fx_types.specs.Values.{Data, blank, number, text, boolean, date, rec, tab, fault}
use Rattle.fx_semantics.specs.Around.{Around, Meaning, AreEach, inside, record_of}
use Rattle.fx_semantics.specs.Rows.{IsOfFound}
use Rattle.fx_tables.specs.RowCalls.{first_row_record, holds, kept_rows, looked_up}
use Rattle.fx_tables.proofs.FirstErrors.{found_passes}
use Rattle.fx_eval.specs.TableCalls.{value_found}
use Rattle.fx_value.specs.Columns.{Row}
use Rattle.fx_tables.specs.Unions.{fault_or, is_fault}

-- the row where the first condition holds, and the formula's value for it
first_found : (C F : Meaning) (a : Around) (rows : List Row) (cs ds : List Data) (v : Data) → AreEach C a rows cs → AreEach F a rows ds → v ≡ value_found cs ds → IsOfFound (first_row_record (kept_rows rows cs)) F a v
first_found C F a [] [] [] v h k e = e
first_found C F a (r ∷ rows) (c ∷ cs) (d ∷ ds) v h k e = by (holds c) (first_found C F a rows cs ds v h.1 k.1) e
  where
    by : (b : Bool) → (v ≡ value_found cs ds → IsOfFound (first_row_record (kept_rows rows cs)) F a v) → v ≡ (if b then d else value_found cs ds) →
        IsOfFound (first_row_record (map (λ (p : Row × Data). p.0) (cond b ((r, c) ∷ filter (λ (p : Row × Data). holds p.1) (zip rows cs)) (filter (λ (p : Row × Data). holds p.1) (zip rows cs))))) F a v
    by true go q = let P : Data → Type 0 = λ z. F (inside a (record_of r)) z in subst P (sym q) k.0
    by false go q = go q
first_found C F a [] (c ∷ cs) ds v h k e = absurd h
first_found C F a [] [] (d ∷ ds) v h k e = absurd k
first_found C F a (r ∷ rows) [] ds v h k e = absurd h
first_found C F a (r ∷ rows) (c ∷ cs) [] v h k e = absurd k

of_error : (w : Data) (F : Meaning) (a : Around) (v : Data) → is_fault w ≡ true → v ≡ w → IsOfFound w F a v
of_error (fault x m) F a v h e = e
of_error blank F a v h e = absurd cc
of_error (number z) F a v h e = absurd cc
of_error (text cs) F a v h e = absurd cc
of_error (boolean b) F a v h e = absurd cc
of_error (date z) F a v h e = absurd cc
of_error (rec fs) F a v h e = absurd cc
of_error (tab rs) F a v h e = absurd cc

-- an error of a condition comes first
pub found_is : (C F : Meaning) (a : Around) (rows : List Row) (cs ds : List Data) (v : Data) → AreEach C a rows cs → AreEach F a rows ds → v ≡ fault_or cs (value_found cs ds) → IsOfFound (looked_up rows cs) F a v
found_is C F a rows cs ds v h k e = by (find is_fault cs) (λ w q. found_passes cs w q) e
  where
    by : (o : Option Data) → ((w : Data) → o ≡ Some w → is_fault w ≡ true) → v ≡ unwrap_or o (value_found cs ds) → IsOfFound (unwrap_or o (first_row_record (kept_rows rows cs))) F a v
    by (Some w) q e = of_error w F a v (q w refl) e
    by None q e = first_found C F a rows cs ds v h k e
