-- What parts are worth is carried from where a tree stands to where another one stands, and so is what a node of them is worth.
use Rattle.std.proofs.Common.{◌≡◌, ℕ, suc, ◌+◌, List, [], ◌∷◌, Bool, true, false, Option, refl, subst, ap, sym, ◌∙◌, arith}
use Rattle.std.specs.Prelude.{◌%◌}
use Rattle.fx_types.specs.declared.faults.Kind.{Kind}
use Rattle.fx_types.specs.Values.{Data, blank, number, text, boolean, date, rec, tab, fault}
use Rattle.fx_core.specs.declared.functions.Form.{Form}
use Rattle.fx_core.specs.declared.functions.Form.TheVariants as form
use Rattle.fx_core.specs.declared.functions.Fun.{Fun}
use Rattle.fx_core.specs.declared.functions.Fun.TheVariants as fun
use Rattle.fx_core.specs.Term.{Top}
use Rattle.fx_core.specs.Term as top
use Rattle.fx_typing.specs.WellTyped.{PartScope, bound, catching, head_of, inside as in_row, plain, standing_at}
use Rattle.fx_value.specs.Columns.{Row}
use Rattle.fx_tables.specs.Ends.{first_rows, last_rows}
use Rattle.fx_tables.specs.RowCalls.{looked_up}
use Rattle.fx_scalar.specs.LazyForms.{decision_of, equality}
use Rattle.fx_scalar.specs.ScalarFunctions.{is_blank_or_empty}
use Rattle.fx_semantics.specs.Around.{Around, Meaning, AreValues, AreEach, catching as catching_in, inside, record_of}
use Rattle.fx_semantics.specs.Forms.{IsAll, IsAny, IsIf, IsSwitchMatch, IsSwitch, IsRecovered, IsCaughtBy, IsCoalesced, IsFormed}
use Rattle.fx_semantics.specs.Fresh.{IsCalled, IsNode, IsWithin, OfAll, OfOne}
use Rattle.fx_semantics.specs.Rows.{AreNames, AreNew, AreRenamings, IsConcat, IsLookedUp, IsMade, MakesByNames, IsOfFound, IsTableCall, TakesRows, IsConjunction, OfEach, OfVerdicts, rows_in}
use Rattle.fx_semantics.proofs.Wider.{by_decision, error_or, passed_or}
use Rattle.user_calls.proofs.Places.{all_plain, any_plain, call_plain, count_inside, dropped_plain, fallback_catches, filter_inside, first_plain, formula_inside, grouped_plain, if_plain, name_plain, renamed_plain, shown_plain, switch_plain, ungrouped_plain, value_plain}

-- the meanings of parts here, each with that of its part there
abbrev pub Pairs : Type 1
Pairs = List (Meaning × Meaning)

abbrev pub here : Pairs → List Meaning
here [] = []
here (p ∷ ps) = p.0 ∷ here ps

abbrev pub there : Pairs → List Meaning
there [] = []
there (p ∷ ps) = p.1 ∷ there ps

-- a head that sees nothing around it, and is no call of a function of the app's own
abbrev pub IsInner : Top → Type 0
IsInner (top.read s) = ⊥
IsInner (top.row k) = ⊥
IsInner top.item = ⊥
IsInner top.caught = ⊥
IsInner (top.user f) = ⊥
IsInner (top.call f) = head_of f ≡ top.call f
IsInner h = Unit {0}

-- places of trees, those in one more scope and those where an error is caught, and what is around them here and there
module _ (K : Type 0) (deeper caught : K → K) (R : K → Around → Around → Type 0)
    (under : (k : K) (a b : Around) (d : Data) → R k a b → R (deeper k) (inside a d) (inside b d))
    (catches : (k : K) (a b : Around) (e : Kind) (cs : List ℕ) → R k a b → R (caught k) (catching_in a e cs) (catching_in b e cs)) where
  abbrev pub Carries : K → Meaning → Meaning → Type 1
  Carries k P Q = (a b : Around) (v : Data) → R k a b → P a v → Q b v

  abbrev pub placed : PartScope → K → K
  placed plain k = k
  placed in_row k = deeper k
  placed bound k = deeper k
  placed catching k = caught k

  abbrev pub AllCarry : K → Top → ℕ → ℕ → Pairs → Type 1
  AllCarry k h n i [] = Unit {1}
  AllCarry k h n i (p ∷ ps) = Carries (placed (standing_at h n i) k) p.0 p.1 × AllCarry k h n (suc i) ps

  abbrev pub EachCarries : K → Pairs → Type 1
  EachCarries k [] = Unit {1}
  EachCarries k (p ∷ ps) = Carries k p.0 p.1 × EachCarries k ps

  carried : (k l : K) (P Q : Meaning) → k ≡ l → Carries k P Q → Carries l P Q
  carried k l P Q e c a b v r h = c a b v (subst (λ (z : K). R z a b) (sym e) r) h

  each_from : (k l : K) (h : Top) (n i : ℕ) (ps : Pairs) → ((j : ℕ) → placed (standing_at h n j) k ≡ l) → AllCarry k h n i ps → EachCarries l ps
  each_from k l h n i [] e c = tt
  each_from k l h n i (p ∷ ps) e c = (carried (placed (standing_at h n i) k) l p.0 p.1 (e i) c.0, each_from k l h n (suc i) ps e c.1)

  each_behind : (k l : K) (h : Top) (n i : ℕ) (ps : Pairs) → ((j : ℕ) → placed (standing_at h n (suc j)) k ≡ l) → AllCarry k h n (suc i) ps → EachCarries l ps
  each_behind k l h n i [] e c = tt
  each_behind k l h n i (p ∷ ps) e c = (carried (placed (standing_at h n (suc i)) k) l p.0 p.1 (e i) c.0, each_behind k l h n (suc i) ps e c.1)

  pub plainly : (k : K) (h : Top) (n i : ℕ) (ps : Pairs) → ((j : ℕ) → standing_at h n j ≡ plain) → AllCarry k h n i ps → EachCarries k ps
  plainly k h n i ps e c = each_from k k h n i ps (λ j. ap (λ s. placed s k) (e j)) c

  -- ---- values

  pub values : (k : K) (ps : Pairs) → EachCarries k ps → (a b : Around) → R k a b → (ds : List Data) → AreValues (here ps) a ds → AreValues (there ps) b ds
  values k [] c a b r [] h = tt
  values k (p ∷ ps) c a b r (d ∷ ds) h = (c.0 a b d r h.0, values k ps c.1 a b r ds h.1)
  values k [] c a b r (d ∷ ds) h = absurd h
  values k (p ∷ ps) c a b r [] h = absurd h

  each : (k : K) (P Q : Meaning) → Carries (deeper k) P Q → (a b : Around) → R k a b → (rows : List Row) (ds : List Data) → AreEach P a rows ds → AreEach Q b rows ds
  each k P Q c a b r [] [] h = tt
  each k P Q c a b r (x ∷ xs) (d ∷ ds) h = (c (inside a (record_of x)) (inside b (record_of x)) d (under k a b (record_of x) r) h.0, each k P Q c a b r xs ds h.1)
  each k P Q c a b r [] (d ∷ ds) h = absurd h
  each k P Q c a b r (x ∷ xs) [] h = absurd h

  of_one : (k : K) (ps : Pairs) → EachCarries k ps → (a b : Around) → R k a b → (S : Data → Type 0) → OfOne (here ps) a S → OfOne (there ps) b S
  of_one k [] c a b r S h = absurd h
  of_one k (p ∷ []) c a b r S h = (h.0, c.0 a b h.0 r h.1, h.2)
  of_one k (p ∷ q ∷ ps) c a b r S h = absurd h

  of_all : (k : K) (ps : Pairs) → EachCarries k ps → (a b : Around) → R k a b → (S : List Data → Type 0) → OfAll (here ps) a S → OfAll (there ps) b S
  of_all k ps c a b r S h = (h.0, values k ps c a b r h.0 h.1, h.2)

  -- ---- forms

  caught_by : (k : K) (w : Data) (F G : Meaning) → Carries (caught k) F G → (a b : Around) → R k a b → (P Q : Type 0) (v : Data) → (P → Q) →
      IsCaughtBy w F a P v → IsCaughtBy w G b Q v
  caught_by k (fault e cs) F G c a b r P Q v f h = c (catching_in a e cs) (catching_in b e cs) v (catches k a b e cs r) h
  caught_by k blank F G c a b r P Q v f h = f h
  caught_by k (number z) F G c a b r P Q v f h = f h
  caught_by k (text cs) F G c a b r P Q v f h = f h
  caught_by k (boolean x) F G c a b r P Q v f h = f h
  caught_by k (date z) F G c a b r P Q v f h = f h
  caught_by k (rec fs) F G c a b r P Q v f h = f h
  caught_by k (tab rs) F G c a b r P Q v f h = f h

  all_carries : (k : K) (ps : Pairs) → EachCarries k ps → Carries k (IsAll (here ps)) (IsAll (there ps))
  all_carries k [] c a b v r h = h
  all_carries k (p ∷ ps) c a b v r h =
      (h.0, c.0 a b h.0 r h.1, by_decision (decision_of h.0) (IsAll (here ps) a v) (IsAll (there ps) b v) (v ≡ boolean false) (v ≡ boolean false) v (all_carries k ps c.1 a b v r) (λ e. e) h.2)

  any_carries : (k : K) (ps : Pairs) → EachCarries k ps → Carries k (IsAny (here ps)) (IsAny (there ps))
  any_carries k [] c a b v r h = h
  any_carries k (p ∷ ps) c a b v r h =
      (h.0, c.0 a b h.0 r h.1, by_decision (decision_of h.0) (v ≡ boolean true) (v ≡ boolean true) (IsAny (here ps) a v) (IsAny (there ps) b v) v (λ e. e) (any_carries k ps c.1 a b v r) h.2)

  if_carries : (k : K) (ps : Pairs) → EachCarries k ps → Carries k (IsIf (here ps)) (IsIf (there ps))
  if_carries k [] c a b v r h = h
  if_carries k (p ∷ []) c a b v r h = c.0 a b v r h
  if_carries k (p ∷ q ∷ ps) c a b v r h =
      (h.0, c.0 a b h.0 r h.1, by_decision (decision_of h.0) (q.0 a v) (q.1 b v) (IsIf (here ps) a v) (IsIf (there ps) b v) v (c.1.0 a b v r) (if_carries k ps c.1.1 a b v r) h.2)

  matched_carries : (k : K) (w : Data) (ps : Pairs) → EachCarries k ps → Carries k (IsSwitchMatch w (here ps)) (IsSwitchMatch w (there ps))
  matched_carries k w [] c a b v r h = h
  matched_carries k w (p ∷ []) c a b v r h = c.0 a b v r h
  matched_carries k w (p ∷ q ∷ ps) c a b v r h = (
    h.0,
    c.0 a b h.0 r h.1,
    by_decision (decision_of (equality w h.0)) (q.0 a v) (q.1 b v) (IsSwitchMatch w (here ps) a v) (IsSwitchMatch w (there ps) b v) v (c.1.0 a b v r) (matched_carries k w ps c.1.1 a b v r) h.2,
  )

  switch_carries : (k : K) (ps : Pairs) → EachCarries k ps → Carries k (IsSwitch (here ps)) (IsSwitch (there ps))
  switch_carries k [] c a b v r h = absurd h
  switch_carries k (p ∷ ps) c a b v r h =
      (h.0, c.0 a b h.0 r h.1, error_or h.0 (IsSwitchMatch h.0 (here ps) a v) (IsSwitchMatch h.0 (there ps) b v) v (matched_carries k h.0 ps c.1 a b v r) h.2)

  recovered_carries : (k : K) (n i : ℕ) (d : Data) (ps : Pairs) → i % 2 ≡ 0 → AllCarry k (top.form form.IfError) n i ps → Carries k (IsRecovered d (here ps)) (IsRecovered d (there ps))
  recovered_carries k n i d [] e c a b v r h = h
  recovered_carries k n i d (p ∷ []) e c a b v r h = carried (placed (standing_at (top.form form.IfError) n i) k) k p.0 p.1 (ap (λ s. placed s k) (value_plain n i e)) c.0 a b v r h
  recovered_carries k n i d (p ∷ q ∷ ps) e c a b v r h = (
    h.0,
    carried (placed (standing_at (top.form form.IfError) n i) k) k p.0 p.1 (ap (λ s. placed s k) (value_plain n i e)) c.0 a b h.0 r h.1,
    caught_by k h.0 q.0 q.1 (carried (placed (standing_at (top.form form.IfError) n (suc i)) k) (caught k) q.0 q.1 (ap (λ s. placed s k) (fallback_catches n (suc i) (omega (arith, e)))) c.1.0) a b r
        (IsRecovered h.0 (here ps) a v) (IsRecovered h.0 (there ps) b v) v (recovered_carries k n (suc (suc i)) h.0 ps (omega (arith, e)) c.1.1 a b v r) h.2,
  )

  coalesced_carries : (k : K) (ps : Pairs) → EachCarries k ps → Carries k (IsCoalesced (here ps)) (IsCoalesced (there ps))
  coalesced_carries k [] c a b v r h = h
  coalesced_carries k (p ∷ ps) c a b v r h =
      (h.0, c.0 a b h.0 r h.1, passed_or (is_blank_or_empty h.0) (IsCoalesced (here ps) a v) (IsCoalesced (there ps) b v) (v ≡ h.0) (coalesced_carries k ps c.1 a b v r) h.2)

  formed_carries : (f : Form) (k : K) (n : ℕ) (ps : Pairs) → AllCarry k (top.form f) n 0 ps → Carries k (IsFormed f (here ps)) (IsFormed f (there ps))
  formed_carries form.All k n ps c = all_carries k ps (plainly k (top.form form.All) n 0 ps (all_plain n) c)
  formed_carries form.Any k n ps c = any_carries k ps (plainly k (top.form form.Any) n 0 ps (any_plain n) c)
  formed_carries form.If k n ps c = if_carries k ps (plainly k (top.form form.If) n 0 ps (if_plain n) c)
  formed_carries form.Switch k n ps c = switch_carries k ps (plainly k (top.form form.Switch) n 0 ps (switch_plain n) c)
  formed_carries form.IfError k n ps c = recovered_carries k n 0 blank ps refl c

  -- ---- calls over tables

  of_each : (k : K) (rows : List Row) (ps : Pairs) → EachCarries (deeper k) ps → (a b : Around) → R k a b → (S : List Data → Type 0) → OfEach rows (here ps) a S → OfEach rows (there ps) b S
  of_each k rows [] c a b r S h = absurd h
  of_each k rows (p ∷ []) c a b r S h = (h.0, each k p.0 p.1 c.0 a b r rows h.0 h.1, h.2)
  of_each k rows (p ∷ q ∷ ps) c a b r S h = absurd h

  -- one formula, at the place behind the table
  of_formula : (k : K) (h : Top) (n : ℕ) (rows : List Row) (ps : Pairs) → placed (standing_at h n 1) k ≡ deeper k → AllCarry k h n 1 ps → (a b : Around) → R k a b → (S : List Data → Type 0) → OfEach rows (here ps) a S → OfEach rows (there ps) b S
  of_formula k h n rows [] e c a b r S x = absurd x
  of_formula k h n rows (p ∷ []) e c a b r S x = (x.0, each k p.0 p.1 (carried (placed (standing_at h n 1) k) (deeper k) p.0 p.1 e c.0) a b r rows x.0 x.1, x.2)
  of_formula k h n rows (p ∷ q ∷ ps) e c a b r S x = absurd x

  verdict_carries : (k : K) (ps : Pairs) → EachCarries k ps → Carries k (IsConjunction (here ps)) (IsConjunction (there ps))
  verdict_carries k ps c a b v r h = (h.0, values k ps c a b r h.0 h.1, h.2)

  of_verdicts : (k : K) (rows : List Row) (ps : Pairs) → EachCarries (deeper k) ps → (a b : Around) → R k a b → (S : List Data → Type 0) → OfVerdicts rows (here ps) a S → OfVerdicts rows (there ps) b S
  of_verdicts k rows ps c a b r S h = (h.0, each k (IsConjunction (here ps)) (IsConjunction (there ps)) (verdict_carries (deeper k) ps c) a b r rows h.0 h.1, h.2)

  found_carries : (k : K) (d : Data) (F G : Meaning) → Carries (deeper k) F G → Carries k (IsOfFound d F) (IsOfFound d G)
  found_carries k (rec fs) F G c a b v r h = c (inside a (rec fs)) (inside b (rec fs)) v (under k a b (rec fs) r) h
  found_carries k blank F G c a b v r h = h
  found_carries k (number z) F G c a b v r h = h
  found_carries k (text cs) F G c a b v r h = h
  found_carries k (boolean x) F G c a b v r h = h
  found_carries k (date z) F G c a b v r h = h
  found_carries k (tab rs) F G c a b v r h = h
  found_carries k (fault j cs) F G c a b v r h = h

  looked_up_carries : (k : K) (n : ℕ) (rows : List Row) (ps : Pairs) → AllCarry k (top.over fun.LookUp) n 1 ps → Carries k (IsLookedUp rows (here ps)) (IsLookedUp rows (there ps))
  looked_up_carries k n rows [] c a b v r h = absurd h
  looked_up_carries k n rows (p ∷ []) c a b v r h = (h.0, each k p.0 p.1 c.0 a b r rows h.0 h.1, h.2)
  looked_up_carries k n rows (p ∷ q ∷ []) c a b v r h = (h.0, each k p.0 p.1 c.0 a b r rows h.0 h.1, found_carries k (looked_up rows h.0) q.0 q.1 c.1.0 a b v r h.2)
  looked_up_carries k n rows (p ∷ q ∷ s ∷ ps) c a b v r h = absurd h

  taken_carries : (k : K) (taken : Option Data → Data) (ps : Pairs) → EachCarries k ps → Carries k (TakesRows taken (here ps)) (TakesRows taken (there ps))
  taken_carries k taken [] c a b v r h = h
  taken_carries k taken (p ∷ []) c a b v r h = (h.0, c.0 a b h.0 r h.1, h.2)
  taken_carries k taken (p ∷ q ∷ ps) c a b v r h = absurd h

  number_carries : (k : K) (h : Top) (n : ℕ) (ps : Pairs) → placed (standing_at h n 1) k ≡ k → AllCarry k h n 1 ps → (taken : Option Data → Data) → Carries k (TakesRows taken (here ps)) (TakesRows taken (there ps))
  number_carries k h n [] e c taken a b v r x = x
  number_carries k h n (p ∷ []) e c taken a b v r x = (x.0, carried (placed (standing_at h n 1) k) k p.0 p.1 e c.0 a b x.0 r x.1, x.2)
  number_carries k h n (p ∷ q ∷ ps) e c taken a b v r x = absurd x

  concat_carries : (k : K) (n : ℕ) (rows : List Row) (ps : Pairs) → AllCarry k (top.over fun.Concat) n 1 ps → Carries k (IsConcat rows (here ps)) (IsConcat rows (there ps))
  concat_carries k n rows [] c a b v r h = absurd h
  concat_carries k n rows (p ∷ []) c a b v r h = (h.0, each k p.0 p.1 c.0 a b r rows h.0 h.1, h.2)
  concat_carries k n rows (p ∷ q ∷ []) c a b v r h = (h.0, h.1, each k p.0 p.1 c.0 a b r rows h.0 h.2, c.1.0 a b h.1 r h.3, h.4)
  concat_carries k n rows (p ∷ q ∷ s ∷ ps) c a b v r h = absurd h

  names_carry : (k : K) (ps : Pairs) → EachCarries k ps → (a b : Around) → R k a b → (ns : List (List ℕ)) → AreNames (here ps) a ns → AreNames (there ps) b ns
  names_carry k [] c a b r [] h = tt
  names_carry k (p ∷ ps) c a b r (n ∷ ns) h = (c.0 a b (text n) r h.0, names_carry k ps c.1 a b r ns h.1)
  names_carry k [] c a b r (n ∷ ns) h = absurd h
  names_carry k (p ∷ ps) c a b r [] h = absurd h

  named_carries : (k : K) (made : List (List ℕ) → Data) (ps : Pairs) → EachCarries k ps → Carries k (MakesByNames made (here ps)) (MakesByNames made (there ps))
  named_carries k made ps c a b v r h = (h.0, names_carry k ps c a b r h.0 h.1, h.2)

  new_carry : (k : K) (n i : ℕ) (rows : List Row) (ps : Pairs) → i % 2 ≡ 1 → AllCarry k (top.over fun.AddColumns) n i ps → (a b : Around) → R k a b → (cs : List (List ℕ × List Data)) →
      AreNew rows (here ps) a cs → AreNew rows (there ps) b cs
  new_carry k n i rows [] e c a b r [] h = tt
  new_carry k n i rows (p ∷ q ∷ ps) e c a b r (x ∷ xs) h = (
    carried (placed (standing_at (top.over fun.AddColumns) n i) k) k p.0 p.1 (ap (λ s. placed s k) (name_plain n i e)) c.0 a b (text x.0) r h.0,
    each k q.0 q.1 (carried (placed (standing_at (top.over fun.AddColumns) n (suc i)) k) (deeper k) q.0 q.1 (ap (λ s. placed s k) (formula_inside n i e)) c.1.0) a b r rows x.1 h.1,
    new_carry k n (suc (suc i)) rows ps (omega (arith, e)) c.1.1 a b r xs h.2,
  )
  new_carry k n i rows [] e c a b r (x ∷ xs) h = absurd h
  new_carry k n i rows (p ∷ []) e c a b r cs h = absurd h
  new_carry k n i rows (p ∷ q ∷ ps) e c a b r [] h = absurd h

  pairs_carry : (k : K) (ps : Pairs) → EachCarries k ps → (a b : Around) → R k a b → (xs : List (List ℕ × List ℕ)) → AreRenamings (here ps) a xs → AreRenamings (there ps) b xs
  pairs_carry k [] c a b r [] h = tt
  pairs_carry k (p ∷ q ∷ ps) c a b r (x ∷ xs) h = (c.0 a b (text x.0) r h.0, c.1.0 a b (text x.1) r h.1, pairs_carry k ps c.1.1 a b r xs h.2)
  pairs_carry k [] c a b r (x ∷ xs) h = absurd h
  pairs_carry k (p ∷ []) c a b r xs h = absurd h
  pairs_carry k (p ∷ q ∷ ps) c a b r [] h = absurd h

  conditions : (k : K) (h : Top) (n : ℕ) (ps : Pairs) → ((i : ℕ) → standing_at h n (suc i) ≡ in_row) → AllCarry k h n 1 ps → EachCarries (deeper k) ps
  conditions k h n ps e c = each_behind k (deeper k) h n 0 ps (λ i. ap (λ s. placed s k) (e i)) c

  made_carries : (f : Fun) (k : K) (n : ℕ) (rows : List Row) (ps : Pairs) → AllCarry k (top.over f) n 1 ps → Carries k (IsMade f rows (here ps)) (IsMade f rows (there ps))
  made_carries fun.Filter k n rows ps c a b v r h = of_verdicts k rows ps (conditions k (top.over fun.Filter) n ps (filter_inside n) c) a b r _ h
  made_carries fun.LookUp k n rows ps c a b v r h = looked_up_carries k n rows ps c a b v r h
  made_carries (fun.Sort o) k n rows ps c a b v r h = of_formula k (top.over (fun.Sort o)) n rows ps refl c a b r _ h
  made_carries fun.First k n rows ps c a b v r h = h
  made_carries fun.Last k n rows ps c a b v r h = h
  made_carries fun.FirstN k n rows ps c a b v r h = number_carries k (top.over fun.FirstN) n ps refl c (first_rows rows) a b v r h
  made_carries fun.LastN k n rows ps c a b v r h = number_carries k (top.over fun.LastN) n ps refl c (last_rows rows) a b v r h
  made_carries fun.CountRows k n rows ps c a b v r h = h
  made_carries fun.CountIf k n rows ps c a b v r h = of_verdicts k rows ps (conditions k (top.over fun.CountIf) n ps (count_inside n) c) a b r _ h
  made_carries fun.IsEmpty k n rows ps c a b v r h = h
  made_carries fun.SumRows k n rows ps c a b v r h = of_formula k (top.over fun.SumRows) n rows ps refl c a b r _ h
  made_carries fun.MinRows k n rows ps c a b v r h = of_formula k (top.over fun.MinRows) n rows ps refl c a b r _ h
  made_carries fun.MaxRows k n rows ps c a b v r h = of_formula k (top.over fun.MaxRows) n rows ps refl c a b r _ h
  made_carries fun.AverageRows k n rows ps c a b v r h = of_formula k (top.over fun.AverageRows) n rows ps refl c a b r _ h
  made_carries fun.AddColumns k n rows ps c a b v r h = (h.0, new_carry k n 1 rows ps refl c a b r h.0 h.1, h.2)
  made_carries fun.DropColumns k n rows ps c a b v r h = named_carries k _ ps (plainly k (top.over fun.DropColumns) n 1 ps (dropped_plain n) c) a b v r h
  made_carries fun.ShowColumns k n rows ps c a b v r h = named_carries k _ ps (plainly k (top.over fun.ShowColumns) n 1 ps (shown_plain n) c) a b v r h
  made_carries fun.GroupBy k n rows ps c a b v r h = named_carries k _ ps (plainly k (top.over fun.GroupBy) n 1 ps (grouped_plain n) c) a b v r h
  made_carries fun.Ungroup k n rows ps c a b v r h = named_carries k _ ps (plainly k (top.over fun.Ungroup) n 1 ps (ungrouped_plain n) c) a b v r h
  made_carries fun.RenameColumns k n rows ps c a b v r h = (h.0, pairs_carry k ps (plainly k (top.over fun.RenameColumns) n 1 ps (renamed_plain n) c) a b r h.0 h.1, h.2)
  made_carries fun.Distinct k n rows ps c a b v r h = of_formula k (top.over fun.Distinct) n rows ps refl c a b r _ h
  made_carries fun.ForAll k n rows ps c a b v r h = of_formula k (top.over fun.ForAll) n rows ps refl c a b r _ h
  made_carries fun.Concat k n rows ps c a b v r h = concat_carries k n rows ps c a b v r h
  made_carries f k n rows ps c a b v r h = absurd h

  -- a function that makes nothing of rows is no matter
  table_carries : (f : Fun) (k : K) (n : ℕ) (p : Meaning × Meaning) (ps : Pairs) → Carries k p.0 p.1 → AllCarry k (top.over f) n 1 ps → Carries k (IsTableCall f (here (p ∷ ps))) (IsTableCall f (there (p ∷ ps)))
  table_carries f k n p ps c d a b v r h =
      (h.0, c a b h.0 r h.1, error_or h.0 (IsMade f (rows_in h.0) (here ps) a v) (IsMade f (rows_in h.0) (there ps) b v) v (made_carries f k n (rows_in h.0) ps d a b v r) h.2)

  over_carries : (f : Fun) → ((n : ℕ) → standing_at (top.over f) n 0 ≡ plain) → (k : K) (n : ℕ) (ps : Pairs) → AllCarry k (top.over f) n 0 ps → Carries k (IsTableCall f (here ps)) (IsTableCall f (there ps))
  over_carries f e k n [] c a b v r h = absurd h
  over_carries f e k n (p ∷ ps) c a b v r h = table_carries f k n p ps (carried (placed (standing_at (top.over f) n 0) k) k p.0 p.1 (ap (λ s. placed s k) (e n)) c.0) c.1 a b v r h

  -- ---- nodes

  called_carries : (f : Fun) (k : K) (ps : Pairs) → EachCarries k ps → Carries k (IsCalled f (here ps)) (IsCalled f (there ps))
  called_carries fun.Coalesce k ps c a b v r h = coalesced_carries k ps c a b v r h
  called_carries f k ps c a b v r h = of_all k ps c a b r _ h

  within_carries : (k : K) (n : ℕ) (ps : Pairs) → AllCarry k top.within n 0 ps → Carries k (IsWithin (here ps)) (IsWithin (there ps))
  within_carries k n [] c a b v r h = absurd h
  within_carries k n (p ∷ []) c a b v r h = absurd h
  within_carries k n (p ∷ q ∷ []) c a b v r h =
      (h.0, c.0 a b h.0 r h.1, error_or h.0 (q.0 (inside a h.0) v) (q.1 (inside b h.0) v) v (c.1.0 (inside a h.0) (inside b h.0) v (under k a b h.0 r)) h.2)
  within_carries k n (p ∷ q ∷ s ∷ ps) c a b v r h = absurd h

  -- THE law of nodes
  pub node_carries : (h : Top) (k : K) (n : ℕ) (ps : Pairs) → IsInner h → AllCarry k h n 0 ps → Carries k (IsNode h (here ps)) (IsNode h (there ps))
  node_carries (top.const d) k n ps i c a b v r h = h
  node_carries (top.read s) k n ps i c a b v r h = absurd i
  node_carries (top.row j) k n ps i c a b v r h = absurd i
  node_carries top.item k n ps i c a b v r h = absurd i
  node_carries top.caught k n ps i c a b v r h = absurd i
  node_carries (top.dot x) k n ps i c a b v r h = of_one k ps (plainly k (top.dot x) n 0 ps (λ j. refl) c) a b r _ h
  node_carries (top.call f) k n ps i c a b v r h = called_carries f k ps (plainly k (top.call f) n 0 ps (call_plain f i n) c) a b v r h
  node_carries (top.over f) k n ps i c a b v r h = over_carries f (first_plain f) k n ps c a b v r h
  node_carries (top.user f) k n ps i c a b v r h = absurd i
  node_carries (top.form f) k n ps i c a b v r h = formed_carries f k n ps c a b v r h
  node_carries top.within k n ps i c a b v r h = within_carries k n ps c a b v r h
  node_carries (top.rec ns) k n ps i c a b v r h = of_all k ps (plainly k (top.rec ns) n 0 ps (λ j. refl) c) a b r _ h
  node_carries (top.list t) k n ps i c a b v r h = of_all k ps (plainly k (top.list t) n 0 ps (λ j. refl) c) a b r _ h
  node_carries (top.coerce t) k n ps i c a b v r h = of_one k ps (plainly k (top.coerce t) n 0 ps (λ j. refl) c) a b r _ h
  node_carries top.chain k n ps i c a b v r h = absurd h
  node_carries (top.act d) k n ps i c a b v r h = absurd h
