-- What a formula is worth is carried from where it stands to where else it may stand, if what its leaves give is.
use Rattle.std.proofs.Common.{◌≡◌, ℕ, List, [], ◌∷◌, true, false, Option, Some}
use Rattle.std.specs.Prelude.{slice_get}
use Rattle.fx_types.specs.declared.faults.Kind.{Kind}
use Rattle.fx_types.specs.Values.{Data, blank, number, text, boolean, date, rec, tab, fault}
use Rattle.fx_semantics.specs.Around.{Around, Meaning, AreValues, AreEach, catching, inside, record_of}
use Rattle.fx_semantics.specs.Errors.{IsCaught}
use Rattle.fx_semantics.specs.Forms.{IsAll, IsAny, IsIf, IsSwitchMatch, IsSwitch, IsRecovered, IsCaughtBy, IsCoalesced, IsFormed}
use Rattle.fx_semantics.specs.Fresh.{IsCalled, IsNode, IsWithin, OfAll, OfOne}
use Rattle.fx_semantics.specs.Rows.{AreNames, AreNew, AreRenamings, IsConcat, IsLookedUp, IsMade, MakesByNames, IsOfFound, IsTableCall, TakesRows, IsConjunction, OfEach, OfVerdicts, rows_in}
use Rattle.fx_core.specs.declared.functions.Form.{Form}
use Rattle.fx_core.specs.declared.functions.Form.TheVariants as form
use Rattle.fx_core.specs.declared.functions.Fun.{Fun}
use Rattle.fx_core.specs.declared.functions.Fun.TheVariants as fun
use Rattle.fx_tables.specs.Ends.{first_rows, last_rows}
use Rattle.fx_tables.specs.RowCalls.{looked_up}
use Rattle.fx_scalar.specs.LazyForms.{decision_of, equality}
use Rattle.fx_scalar.specs.ScalarFunctions.{is_blank_or_empty}
use Rattle.fx_value.specs.Columns.{Row}
use Rattle.fx_core.specs.Term.{Top}
use Rattle.fx_core.specs.Term as top
use Rattle.fx_semantics.proofs.Wider.{by_decision, error_or, passed_or}

-- where else a formula may stand, also in one more scope and where an error is caught
module _ (R : Around → Around → Type 0)
    (under : (a b : Around) (d : Data) → R a b → R (inside a d) (inside b d))
    (caught : (a b : Around) (k : Kind) (cs : List ℕ) → R a b → R (catching a k cs) (catching b k cs)) where
  abbrev pub Carries : Meaning → Type 1
  Carries P = (a b : Around) (v : Data) → R a b → P a v → P b v

  abbrev pub AllCarry : List Meaning → Type 1
  AllCarry [] = Unit {1}
  AllCarry (P ∷ Ps) = Carries P × AllCarry Ps

  -- what a leaf gives is carried
  abbrev pub Bears : Top → Type 1
  Bears (top.read s) = (a b : Around) (v : Data) → R a b → a.gives s v → b.gives s v
  Bears (top.row k) = (a b : Around) (v : Data) → R a b → slice_get a.rows k ≡ Some v → slice_get b.rows k ≡ Some v
  Bears top.item = (a b : Around) (v : Data) → R a b → a.item ≡ Some v → b.item ≡ Some v
  Bears top.caught = (a b : Around) (v : Data) → R a b → IsCaught a.caught v → IsCaught b.caught v
  Bears h = Unit {1}

  -- ---- values

  values : (Ps : List Meaning) → AllCarry Ps → (a b : Around) → R a b → (ds : List Data) → AreValues Ps a ds → AreValues Ps b ds
  values [] k a b m [] h = tt
  values (P ∷ Ps) k a b m (d ∷ ds) h = (k.0 a b d m h.0, values Ps k.1 a b m ds h.1)
  values [] k a b m (d ∷ ds) h = absurd h
  values (P ∷ Ps) k a b m [] h = absurd h

  each : (P : Meaning) → Carries P → (a b : Around) → R a b → (rows : List Row) (ds : List Data) → AreEach P a rows ds → AreEach P b rows ds
  each P k a b m [] [] h = tt
  each P k a b m (r ∷ rs) (d ∷ ds) h = (k (inside a (record_of r)) (inside b (record_of r)) d (under a b (record_of r) m) h.0, each P k a b m rs ds h.1)
  each P k a b m [] (d ∷ ds) h = absurd h
  each P k a b m (r ∷ rs) [] h = absurd h

  of_one : (Ps : List Meaning) → AllCarry Ps → (a b : Around) → R a b → (S : Data → Type 0) → OfOne Ps a S → OfOne Ps b S
  of_one [] k a b m S h = absurd h
  of_one (P ∷ []) k a b m S h = (h.0, k.0 a b h.0 m h.1, h.2)
  of_one (P ∷ Q ∷ Ps) k a b m S h = absurd h

  of_all : (Ps : List Meaning) → AllCarry Ps → (a b : Around) → R a b → (S : List Data → Type 0) → OfAll Ps a S → OfAll Ps b S
  of_all Ps k a b m S h = (h.0, values Ps k a b m h.0 h.1, h.2)

  -- ---- where an error is the answer, and where a condition decides

  caught_by : (w : Data) (F : Meaning) → Carries F → (a b : Around) → R a b → (P Q : Type 0) (v : Data) → (P → Q) →
      IsCaughtBy w F a P v → IsCaughtBy w F b Q v
  caught_by (fault k cs) F s a b m P Q v f h = s (catching a k cs) (catching b k cs) v (caught a b k cs m) h
  caught_by blank F s a b m P Q v f h = f h
  caught_by (number z) F s a b m P Q v f h = f h
  caught_by (text cs) F s a b m P Q v f h = f h
  caught_by (boolean x) F s a b m P Q v f h = f h
  caught_by (date z) F s a b m P Q v f h = f h
  caught_by (rec fs) F s a b m P Q v f h = f h
  caught_by (tab rs) F s a b m P Q v f h = f h

  -- ---- forms

  all_carries : (Ps : List Meaning) → AllCarry Ps → Carries (IsAll Ps)
  all_carries [] k a b v m h = h
  all_carries (P ∷ Ps) k a b v m h =
      (h.0, k.0 a b h.0 m h.1, by_decision (decision_of h.0) (IsAll Ps a v) (IsAll Ps b v) (v ≡ boolean false) (v ≡ boolean false) v (all_carries Ps k.1 a b v m) (λ e. e) h.2)

  any_carries : (Ps : List Meaning) → AllCarry Ps → Carries (IsAny Ps)
  any_carries [] k a b v m h = h
  any_carries (P ∷ Ps) k a b v m h =
      (h.0, k.0 a b h.0 m h.1, by_decision (decision_of h.0) (v ≡ boolean true) (v ≡ boolean true) (IsAny Ps a v) (IsAny Ps b v) v (λ e. e) (any_carries Ps k.1 a b v m) h.2)

  if_carries : (Ps : List Meaning) → AllCarry Ps → Carries (IsIf Ps)
  if_carries [] k a b v m h = h
  if_carries (P ∷ []) k a b v m h = k.0 a b v m h
  if_carries (C ∷ P ∷ Ps) k a b v m h =
      (h.0, k.0 a b h.0 m h.1, by_decision (decision_of h.0) (P a v) (P b v) (IsIf Ps a v) (IsIf Ps b v) v (k.1.0 a b v m) (if_carries Ps k.1.1 a b v m) h.2)

  matched_carries : (w : Data) (Ps : List Meaning) → AllCarry Ps → Carries (IsSwitchMatch w Ps)
  matched_carries w [] k a b v m h = h
  matched_carries w (P ∷ []) k a b v m h = k.0 a b v m h
  matched_carries w (M ∷ P ∷ Ps) k a b v m h = (
    h.0,
    k.0 a b h.0 m h.1,
    by_decision (decision_of (equality w h.0)) (P a v) (P b v) (IsSwitchMatch w Ps a v) (IsSwitchMatch w Ps b v) v (k.1.0 a b v m) (matched_carries w Ps k.1.1 a b v m) h.2,
  )

  switch_carries : (Ps : List Meaning) → AllCarry Ps → Carries (IsSwitch Ps)
  switch_carries [] k a b v m h = absurd h
  switch_carries (P ∷ Ps) k a b v m h =
      (h.0, k.0 a b h.0 m h.1, error_or h.0 (IsSwitchMatch h.0 Ps a v) (IsSwitchMatch h.0 Ps b v) v (matched_carries h.0 Ps k.1 a b v m) h.2)

  recovered_carries : (d : Data) (Ps : List Meaning) → AllCarry Ps → Carries (IsRecovered d Ps)
  recovered_carries d [] k a b v m h = h
  recovered_carries d (P ∷ []) k a b v m h = k.0 a b v m h
  recovered_carries d (P ∷ F ∷ Ps) k a b v m h =
      (h.0, k.0 a b h.0 m h.1, caught_by h.0 F k.1.0 a b m (IsRecovered h.0 Ps a v) (IsRecovered h.0 Ps b v) v (recovered_carries h.0 Ps k.1.1 a b v m) h.2)

  coalesced_carries : (Ps : List Meaning) → AllCarry Ps → Carries (IsCoalesced Ps)
  coalesced_carries [] k a b v m h = h
  coalesced_carries (P ∷ Ps) k a b v m h =
      (h.0, k.0 a b h.0 m h.1, passed_or (is_blank_or_empty h.0) (IsCoalesced Ps a v) (IsCoalesced Ps b v) (v ≡ h.0) (coalesced_carries Ps k.1 a b v m) h.2)

  formed_carries : (f : Form) (Ps : List Meaning) → AllCarry Ps → Carries (IsFormed f Ps)
  formed_carries form.All Ps k = all_carries Ps k
  formed_carries form.Any Ps k = any_carries Ps k
  formed_carries form.If Ps k = if_carries Ps k
  formed_carries form.Switch Ps k = switch_carries Ps k
  formed_carries form.IfError Ps k = recovered_carries blank Ps k

  -- ---- calls over tables

  of_each : (rows : List Row) (Ps : List Meaning) → AllCarry Ps → (a b : Around) → R a b → (S : List Data → Type 0) →
      OfEach rows Ps a S → OfEach rows Ps b S
  of_each rows [] k a b m S h = absurd h
  of_each rows (F ∷ []) k a b m S h = (h.0, each F k.0 a b m rows h.0 h.1, h.2)
  of_each rows (F ∷ G ∷ Ps) k a b m S h = absurd h

  verdict_carries : (Ps : List Meaning) → AllCarry Ps → Carries (IsConjunction Ps)
  verdict_carries Ps k a b v m h = (h.0, values Ps k a b m h.0 h.1, h.2)

  of_verdicts : (rows : List Row) (Ps : List Meaning) → AllCarry Ps → (a b : Around) → R a b → (S : List Data → Type 0) →
      OfVerdicts rows Ps a S → OfVerdicts rows Ps b S
  of_verdicts rows Ps k a b m S h = (h.0, each (IsConjunction Ps) (verdict_carries Ps k) a b m rows h.0 h.1, h.2)

  found_carries : (d : Data) (F : Meaning) → Carries F → Carries (IsOfFound d F)
  found_carries (rec fs) F k a b v m h = k (inside a (rec fs)) (inside b (rec fs)) v (under a b (rec fs) m) h
  found_carries blank F k a b v m h = h
  found_carries (number z) F k a b v m h = h
  found_carries (text cs) F k a b v m h = h
  found_carries (boolean x) F k a b v m h = h
  found_carries (date z) F k a b v m h = h
  found_carries (tab rs) F k a b v m h = h
  found_carries (fault j cs) F k a b v m h = h

  looked_up_carries : (rows : List Row) (Ps : List Meaning) → AllCarry Ps → Carries (IsLookedUp rows Ps)
  looked_up_carries rows [] k a b v m h = absurd h
  looked_up_carries rows (C ∷ []) k a b v m h = (h.0, each C k.0 a b m rows h.0 h.1, h.2)
  looked_up_carries rows (C ∷ F ∷ []) k a b v m h = (h.0, each C k.0 a b m rows h.0 h.1, found_carries (looked_up rows h.0) F k.1.0 a b v m h.2)
  looked_up_carries rows (C ∷ F ∷ G ∷ Ps) k a b v m h = absurd h

  taken_carries : (taken : Option Data → Data) (Ps : List Meaning) → AllCarry Ps → Carries (TakesRows taken Ps)
  taken_carries taken [] k a b v m h = h
  taken_carries taken (N ∷ []) k a b v m h = (h.0, k.0 a b h.0 m h.1, h.2)
  taken_carries taken (N ∷ M ∷ Ps) k a b v m h = absurd h

  concat_carries : (rows : List Row) (Ps : List Meaning) → AllCarry Ps → Carries (IsConcat rows Ps)
  concat_carries rows [] k a b v m h = absurd h
  concat_carries rows (F ∷ []) k a b v m h = (h.0, each F k.0 a b m rows h.0 h.1, h.2)
  concat_carries rows (F ∷ S ∷ []) k a b v m h = (h.0, h.1, each F k.0 a b m rows h.0 h.2, k.1.0 a b h.1 m h.3, h.4)
  concat_carries rows (F ∷ S ∷ P ∷ Ps) k a b v m h = absurd h

  names_carry : (Ps : List Meaning) → AllCarry Ps → (a b : Around) → R a b → (ns : List (List ℕ)) → AreNames Ps a ns → AreNames Ps b ns
  names_carry [] k a b m [] h = tt
  names_carry (P ∷ Ps) k a b m (n ∷ ns) h = (k.0 a b (text n) m h.0, names_carry Ps k.1 a b m ns h.1)
  names_carry [] k a b m (n ∷ ns) h = absurd h
  names_carry (P ∷ Ps) k a b m [] h = absurd h

  named_carries : (made : List (List ℕ) → Data) (Ps : List Meaning) → AllCarry Ps → Carries (MakesByNames made Ps)
  named_carries made Ps k a b v m h = (h.0, names_carry Ps k a b m h.0 h.1, h.2)

  new_carry : (rows : List Row) (Ps : List Meaning) → AllCarry Ps → (a b : Around) → R a b → (cs : List (List ℕ × List Data)) →
      AreNew rows Ps a cs → AreNew rows Ps b cs
  new_carry rows [] k a b m [] h = tt
  new_carry rows (N ∷ F ∷ Ps) k a b m (c ∷ cs) h = (k.0 a b (text c.0) m h.0, each F k.1.0 a b m rows c.1 h.1, new_carry rows Ps k.1.1 a b m cs h.2)
  new_carry rows [] k a b m (c ∷ cs) h = absurd h
  new_carry rows (N ∷ []) k a b m cs h = absurd h
  new_carry rows (N ∷ F ∷ Ps) k a b m [] h = absurd h

  pairs_carry : (Ps : List Meaning) → AllCarry Ps → (a b : Around) → R a b → (ps : List (List ℕ × List ℕ)) → AreRenamings Ps a ps → AreRenamings Ps b ps
  pairs_carry [] k a b m [] h = tt
  pairs_carry (N ∷ M ∷ Ps) k a b m (p ∷ ps) h = (k.0 a b (text p.0) m h.0, k.1.0 a b (text p.1) m h.1, pairs_carry Ps k.1.1 a b m ps h.2)
  pairs_carry [] k a b m (p ∷ ps) h = absurd h
  pairs_carry (N ∷ []) k a b m ps h = absurd h
  pairs_carry (N ∷ M ∷ Ps) k a b m [] h = absurd h

  made_carries : (f : Fun) (rows : List Row) (Ps : List Meaning) → AllCarry Ps → Carries (IsMade f rows Ps)
  made_carries fun.Filter rows Ps k a b v m h = of_verdicts rows Ps k a b m _ h
  made_carries fun.LookUp rows Ps k a b v m h = looked_up_carries rows Ps k a b v m h
  made_carries (fun.Sort o) rows Ps k a b v m h = of_each rows Ps k a b m _ h
  made_carries fun.First rows Ps k a b v m h = h
  made_carries fun.Last rows Ps k a b v m h = h
  made_carries fun.FirstN rows Ps k a b v m h = taken_carries (first_rows rows) Ps k a b v m h
  made_carries fun.LastN rows Ps k a b v m h = taken_carries (last_rows rows) Ps k a b v m h
  made_carries fun.CountRows rows Ps k a b v m h = h
  made_carries fun.CountIf rows Ps k a b v m h = of_verdicts rows Ps k a b m _ h
  made_carries fun.IsEmpty rows Ps k a b v m h = h
  made_carries fun.SumRows rows Ps k a b v m h = of_each rows Ps k a b m _ h
  made_carries fun.MinRows rows Ps k a b v m h = of_each rows Ps k a b m _ h
  made_carries fun.MaxRows rows Ps k a b v m h = of_each rows Ps k a b m _ h
  made_carries fun.AverageRows rows Ps k a b v m h = of_each rows Ps k a b m _ h
  made_carries fun.AddColumns rows Ps k a b v m h = (h.0, new_carry rows Ps k a b m h.0 h.1, h.2)
  made_carries fun.DropColumns rows Ps k a b v m h = named_carries _ Ps k a b v m h
  made_carries fun.ShowColumns rows Ps k a b v m h = named_carries _ Ps k a b v m h
  made_carries fun.GroupBy rows Ps k a b v m h = named_carries _ Ps k a b v m h
  made_carries fun.Ungroup rows Ps k a b v m h = named_carries _ Ps k a b v m h
  made_carries fun.RenameColumns rows Ps k a b v m h = (h.0, pairs_carry Ps k a b m h.0 h.1, h.2)
  made_carries fun.Distinct rows Ps k a b v m h = of_each rows Ps k a b m _ h
  made_carries fun.ForAll rows Ps k a b v m h = of_each rows Ps k a b m _ h
  made_carries fun.Concat rows Ps k a b v m h = concat_carries rows Ps k a b v m h
  made_carries f rows Ps k a b v m h = absurd h

  over_carries : (f : Fun) (Ps : List Meaning) → AllCarry Ps → Carries (IsTableCall f Ps)
  over_carries f [] k a b v m h = absurd h
  over_carries f (P ∷ Ps) k a b v m h =
      (h.0, k.0 a b h.0 m h.1, error_or h.0 (IsMade f (rows_in h.0) Ps a v) (IsMade f (rows_in h.0) Ps b v) v (made_carries f (rows_in h.0) Ps k.1 a b v m) h.2)

  -- ---- nodes

  called_carries : (f : Fun) (Ps : List Meaning) → AllCarry Ps → Carries (IsCalled f Ps)
  called_carries fun.Coalesce Ps k a b v m h = coalesced_carries Ps k a b v m h
  called_carries f Ps k a b v m h = of_all Ps k a b m _ h

  within_carries : (Ps : List Meaning) → AllCarry Ps → Carries (IsWithin Ps)
  within_carries [] k a b v m h = absurd h
  within_carries (P ∷ []) k a b v m h = absurd h
  within_carries (P ∷ F ∷ []) k a b v m h =
      (h.0, k.0 a b h.0 m h.1, error_or h.0 (F (inside a h.0) v) (F (inside b h.0) v) v (k.1.0 (inside a h.0) (inside b h.0) v (under a b h.0 m)) h.2)
  within_carries (P ∷ F ∷ Q ∷ Ps) k a b v m h = absurd h

  pub node_carries : (h : Top) (Ps : List Meaning) → Bears h → AllCarry Ps → Carries (IsNode h Ps)
  node_carries (top.const d) Ps l k a b v m h = h
  node_carries (top.read s) Ps l k a b v m h = l a b v m h
  node_carries (top.row n) Ps l k a b v m h = l a b v m h
  node_carries top.item Ps l k a b v m h = l a b v m h
  node_carries top.caught Ps l k a b v m h = l a b v m h
  node_carries (top.dot n) Ps l k a b v m h = of_one Ps k a b m _ h
  node_carries (top.call f) Ps l k a b v m h = called_carries f Ps k a b v m h
  node_carries (top.over f) Ps l k a b v m h = over_carries f Ps k a b v m h
  node_carries (top.user f) Ps l k a b v m h = absurd h
  node_carries (top.form f) Ps l k a b v m h = formed_carries f Ps k a b v m h
  node_carries top.within Ps l k a b v m h = within_carries Ps k a b v m h
  node_carries (top.rec ns) Ps l k a b v m h = of_all Ps k a b m _ h
  node_carries (top.list t) Ps l k a b v m h = of_all Ps k a b m _ h
  node_carries (top.coerce t) Ps l k a b v m h = of_one Ps k a b m _ h
  node_carries top.chain Ps l k a b v m h = absurd h
  node_carries (top.act d) Ps l k a b v m h = absurd h
