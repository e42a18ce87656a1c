-- The functions of tables have one value at most.
use Rattle.std.proofs.Common.{◌≡◌, ◌∙◌, ℕ, List, [], ◌∷◌, ◌++◌, length, map, Option, Some, None, ap, sym}
use Rattle.fx_types.specs.declared.faults.Fault.{Fault}
use Rattle.fx_types.specs.Values.{Data, text, rec}
use Rattle.fx_core.specs.declared.functions.Fun.{Fun}
use Rattle.fx_core.specs.declared.functions.Fun.TheVariants as fun
use Rattle.fx_tables.specs.AggregateCalls.{IsGreatestOf, IsLeastOf, IsSumOf, averaged, characters_in, concatenated, concatenated_by}
use Rattle.fx_tables.specs.ColumnCalls.{renamed_columns, with_columns, without_columns}
use Rattle.fx_tables.specs.Ends.{emptiness_of, first_rows, last_of, last_rows}
use Rattle.fx_tables.specs.Laws.{CountIfOnce, CountOnce, GreatestOnce, LeastOnce, SortOnce, SumOnce}
use Rattle.fx_tables.specs.RowCalls.{IsCountIfOf, IsSortOf, distinct_or, filtered, first_row_record, for_all_of, looked_up, verdict_of}
use Rattle.fx_scalar.specs.LazyForms.{ErrorOr}
use Rattle.fx_scalar.proofs.Single.{AtMostOne}
use Rattle.fx_tables.specs.Groups.{grouped_by, ungrouped_by}
use Rattle.fx_value.specs.Columns.{Row, fields_only}
use Rattle.fx_semantics.specs.Around.{Around, Meaning, AreEach, AreValues}
use Rattle.fx_semantics.specs.Rows.{AreNames, AreNew, AreRenamings, IsConcat, IsLookedUp, IsMade, MakesByNames, IsOfFound, IsTableCall, TakesRows, IsConjunction, OfEach, OfVerdicts, is_falling, rows_in, table_of}
use Rattle.fx_semantics.proofs.Parts.{Giving, stands}
use Rattle.fx_semantics.proofs.Single.{AllSingle, Single, cons_same, each_one, equal_one, error_or_one, then_one, values_one}

-- the laws of the calls on rows
pub record Once : Type 0 where
  pub sums : SumOnce
  pub least : LeastOnce
  pub greatest : GreatestOnce
  pub counts : CountOnce
  pub counted : CountIfOnce
  pub sorted : SortOnce

verdict_single : (g : Giving) (Cs : List Meaning) → AllSingle g Cs → Single g (IsConjunction Cs)
verdict_single g Cs s rows item caught =
    then_one (AreValues Cs (stands g rows item caught)) (λ ds v. v ≡ verdict_of ds) (values_one g Cs s rows item caught) (λ ds. equal_one (verdict_of ds))

module _ (g : Giving) (rows : List Data) (item : Option Data) (caught : Option Fault) where
  abbrev here : Around
  here = stands g rows item caught

  each_here : (P : Meaning) → Single g P → (rs : List Row) → AtMostOne (AreEach P here rs)
  each_here P s rs = each_one g P s rs rows item caught

  of_each_one : (rs : List Row) (Ps : List Meaning) → AllSingle g Ps → (R : List Data → Data → Type 0) → ((ds : List Data) → AtMostOne (R ds)) → AtMostOne (λ v. OfEach rs Ps here (λ ds. R ds v))
  of_each_one rs [] s R r = λ v w h k. absurd h
  of_each_one rs (F ∷ []) s R r = then_one (AreEach F here rs) R (each_here F s.0 rs) r
  of_each_one rs (F ∷ P ∷ Ps) s R r = λ v w h k. absurd h

  of_verdicts_one : (rs : List Row) (Cs : List Meaning) → AllSingle g Cs → (R : List Data → Data → Type 0) → ((ds : List Data) → AtMostOne (R ds)) → AtMostOne (λ v. OfVerdicts rs Cs here (λ ds. R ds v))
  of_verdicts_one rs Cs s R r = then_one (AreEach (IsConjunction Cs) here rs) R (each_here (IsConjunction Cs) (verdict_single g Cs s) rs) r

  found_one : (d : Data) (F : Meaning) → Single g F → AtMostOne (IsOfFound d F here)
  found_one (rec fs) F s = s (rows ++ rec fs ∷ []) item caught
  found_one d F s = λ v w h k. h ∙ sym k

  looked_up_one : (rs : List Row) (Ps : List Meaning) → AllSingle g Ps → AtMostOne (IsLookedUp rs Ps here)
  looked_up_one rs [] s = λ v w h k. absurd h
  looked_up_one rs (C ∷ []) s = then_one (AreEach C here rs) (λ ds v. v ≡ looked_up rs ds) (each_here C s.0 rs) (λ ds. equal_one (looked_up rs ds))
  looked_up_one rs (C ∷ F ∷ []) s =
      then_one (AreEach C here rs) (λ ds v. IsOfFound (looked_up rs ds) F here v) (each_here C s.0 rs) (λ ds. found_one (looked_up rs ds) F s.1.0)
  looked_up_one rs (C ∷ F ∷ P ∷ Ps) s = λ v w h k. absurd h

  taken_one : (taken : Option Data → Data) (Ps : List Meaning) → AllSingle g Ps → AtMostOne (TakesRows taken Ps here)
  taken_one taken [] s = equal_one (taken None)
  taken_one taken (N ∷ []) s = then_one (N here) (λ n v. v ≡ taken (Some n)) (s.0 rows item caught) (λ n. equal_one (taken (Some n)))
  taken_one taken (N ∷ P ∷ Ps) s = λ v w h k. absurd h

  concat_one : (rs : List Row) (Ps : List Meaning) → AllSingle g Ps → AtMostOne (IsConcat rs Ps here)
  concat_one rs [] s = λ v w h k. absurd h
  concat_one rs (F ∷ []) s = then_one (AreEach F here rs) (λ ds v. v ≡ concatenated [] ds) (each_here F s.0 rs) (λ ds. equal_one (concatenated [] ds))
  concat_one rs (F ∷ S ∷ []) s = λ v w h k.
      h.4 ∙ ap (concatenated_by h.1) (each_here F s.0 rs h.0 k.0 h.2 k.2)
      ∙ ap (λ x. concatenated_by x k.0) (s.1.0 rows item caught h.1 k.1 h.3 k.3) ∙ sym k.4
  concat_one rs (F ∷ S ∷ P ∷ Ps) s = λ v w h k. absurd h

  -- names of columns
  name_one : (P : Meaning) → Single g P → AtMostOne (λ n. P here (text n))
  name_one P s m n h k = ap characters_in (s rows item caught (text m) (text n) h k)

  names_one : (Ps : List Meaning) → AllSingle g Ps → AtMostOne (AreNames Ps here)
  names_one [] s [] [] h k = λ i. []
  names_one [] s [] (n ∷ ns) h k = absurd k
  names_one [] s (m ∷ ms) ns h k = absurd h
  names_one (P ∷ Ps) s [] ns h k = absurd h
  names_one (P ∷ Ps) s (m ∷ ms) [] h k = absurd k
  names_one (P ∷ Ps) s (m ∷ ms) (n ∷ ns) h k = cons_same m n ms ns (name_one P s.0 m n h.0 k.0) (names_one Ps s.1 ms ns h.1 k.1)

  named_one : (made : List (List ℕ) → Data) (Ps : List Meaning) → AllSingle g Ps → AtMostOne (MakesByNames made Ps here)
  named_one made Ps s = then_one (AreNames Ps here) (λ ns v. v ≡ made ns) (names_one Ps s) (λ ns. equal_one (made ns))

  new_one : (rs : List Row) (Ps : List Meaning) → AllSingle g Ps → AtMostOne (AreNew rs Ps here)
  new_one rs [] s [] [] h k = λ i. []
  new_one rs [] s [] (d ∷ ds) h k = absurd k
  new_one rs [] s (c ∷ cs) ds h k = absurd h
  new_one rs (N ∷ []) s cs ds h k = absurd h
  new_one rs (N ∷ F ∷ Ps) s [] ds h k = absurd h
  new_one rs (N ∷ F ∷ Ps) s (c ∷ cs) [] h k = absurd k
  new_one rs (N ∷ F ∷ Ps) s (c ∷ cs) (d ∷ ds) h k =
      let name = name_one N s.0 c.0 d.0 h.0 k.0 in
      let values = each_here F s.1.0 rs c.1 d.1 h.1 k.1 in
      cons_same c d cs ds (λ i. (name i, values i)) (new_one rs Ps s.1.1 cs ds h.2 k.2)

  pairs_one : (Ps : List Meaning) → AllSingle g Ps → AtMostOne (AreRenamings Ps here)
  pairs_one [] s [] [] h k = λ i. []
  pairs_one [] s [] (d ∷ ds) h k = absurd k
  pairs_one [] s (c ∷ cs) ds h k = absurd h
  pairs_one (N ∷ []) s cs ds h k = absurd h
  pairs_one (N ∷ M ∷ Ps) s [] ds h k = absurd h
  pairs_one (N ∷ M ∷ Ps) s (c ∷ cs) [] h k = absurd k
  pairs_one (N ∷ M ∷ Ps) s (c ∷ cs) (d ∷ ds) h k =
      let old = name_one N s.0 c.0 d.0 h.0 k.0 in
      let new = name_one M s.1.0 c.1 d.1 h.1 k.1 in
      cons_same c d cs ds (λ i. (old i, new i)) (pairs_one Ps s.1.1 cs ds h.2 k.2)

  made_one : Once → (f : Fun) (rs : List Row) (Ps : List Meaning) → AllSingle g Ps → AtMostOne (IsMade f rs Ps here)
  made_one o fun.Filter rs Ps s = of_verdicts_one rs Ps s (λ ds v. v ≡ filtered rs ds) (λ ds. equal_one (filtered rs ds))
  made_one o fun.LookUp rs Ps s = looked_up_one rs Ps s
  made_one o (fun.Sort x) rs Ps s = of_each_one rs Ps s (λ ds v. IsSortOf (is_falling x) rs ds v) (λ ds. o.sorted (is_falling x) rs ds)
  made_one o fun.First rs Ps s = equal_one (first_row_record rs)
  made_one o fun.Last rs Ps s = equal_one (last_of rs)
  made_one o fun.FirstN rs Ps s = taken_one (first_rows rs) Ps s
  made_one o fun.LastN rs Ps s = taken_one (last_rows rs) Ps s
  made_one o fun.CountRows rs Ps s = o.counts (length rs)
  made_one o fun.CountIf rs Ps s = of_verdicts_one rs Ps s (λ ds v. IsCountIfOf ds v) (λ ds. o.counted ds)
  made_one o fun.IsEmpty rs Ps s = equal_one (emptiness_of rs)
  made_one o fun.SumRows rs Ps s = of_each_one rs Ps s (λ ds v. IsSumOf ds v) (λ ds. o.sums ds)
  made_one o fun.MinRows rs Ps s = of_each_one rs Ps s (λ ds v. IsLeastOf ds v) (λ ds. o.least ds)
  made_one o fun.MaxRows rs Ps s = of_each_one rs Ps s (λ ds v. IsGreatestOf ds v) (λ ds. o.greatest ds)
  made_one o fun.AverageRows rs Ps s = of_each_one rs Ps s (λ ds v. v ≡ averaged ds) (λ ds. equal_one (averaged ds))
  made_one o fun.AddColumns rs Ps s = then_one (AreNew rs Ps here) (λ cs v. v ≡ table_of (with_columns cs rs)) (new_one rs Ps s) (λ cs. equal_one (table_of (with_columns cs rs)))
  made_one o fun.DropColumns rs Ps s = named_one (λ ns. table_of (without_columns ns rs)) Ps s
  made_one o fun.ShowColumns rs Ps s = named_one (λ ns. table_of (map (fields_only ns) rs)) Ps s
  made_one o fun.RenameColumns rs Ps s = then_one (AreRenamings Ps here) (λ ps v. v ≡ table_of (renamed_columns ps rs)) (pairs_one Ps s) (λ ps. equal_one (table_of (renamed_columns ps rs)))
  made_one o fun.GroupBy rs Ps s = named_one (λ ns. grouped_by ns rs) Ps s
  made_one o fun.Ungroup rs Ps s = named_one (λ ns. ungrouped_by ns rs) Ps s
  made_one o fun.Distinct rs Ps s = of_each_one rs Ps s (λ ds v. v ≡ distinct_or ds) (λ ds. equal_one (distinct_or ds))
  made_one o fun.ForAll rs Ps s = of_each_one rs Ps s (λ ds v. v ≡ for_all_of ds) (λ ds. equal_one (for_all_of ds))
  made_one o fun.Concat rs Ps s = concat_one rs Ps s
  made_one o f rs Ps s = λ v w h k. absurd h

  pub over_one : Once → (f : Fun) (Ps : List Meaning) → AllSingle g Ps → AtMostOne (IsTableCall f Ps here)
  over_one o f [] s = λ v w h k. absurd h
  over_one o f (P ∷ Ps) s =
      then_one (P here) (λ x v. ErrorOr x (IsMade f (rows_in x) Ps here v) v) (s.0 rows item caught)
      (λ x. error_or_one x (IsMade f (rows_in x) Ps here) (made_one o f (rows_in x) Ps s.1))
