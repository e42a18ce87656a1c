-- A value of a tree is one of the old tree, where what it reads gives no less than what was read there.
use Rattle.std.proofs.Common.{◌≡◌, ℕ, List, [], ◌∷◌, true, false, Option, refl, sym, subst, ap}
use Rattle.fx_types.specs.Values.{Data, blank, number, text, boolean, date, rec, tab, fault}
use Rattle.fx_semantics.specs.Around.{Around, Meaning, AreValues, AreEach, catching, inside, record_of}
use Rattle.fx_semantics.specs.Forms.{IsAll, IsAny, IsIf, IsSwitchMatch, IsSwitch, IsRecovered, IsCaughtBy, IsCoalesced, IsFormed}
use Rattle.fx_semantics.specs.Fresh.{IsCalled, IsNode, IsWithin, OfAll, OfOne, meaning, meanings}
use Rattle.fx_semantics.specs.Rows.{AreNames, AreNew, AreRenamings, IsConcat, IsLookedUp, IsMade, MakesByNames, IsOfFound, IsTableCall, TakesRows, IsConjunction, OfEach, OfVerdicts, rows_in}
use Rattle.fx_semantics.proofs.Wider.{by_decision, error_or, giving, passed_or}
use Rattle.fx_core.specs.declared.functions.Form.{Form}
use Rattle.fx_core.specs.declared.functions.Form.TheVariants as form
use Rattle.fx_core.specs.declared.functions.Fun.{Fun}
use Rattle.fx_core.specs.declared.functions.Fun.TheVariants as fun
use Rattle.fx_core.specs.declared.sources.Source.{Source}
use Rattle.fx_tables.specs.Ends.{first_rows, last_rows}
use Rattle.fx_tables.specs.RowCalls.{looked_up}
use Rattle.fx_scalar.specs.LazyForms.{decision_of, equality}
use Rattle.fx_scalar.specs.ScalarFunctions.{is_blank_or_empty}
use Rattle.fx_value.specs.Columns.{Row}
use Rattle.fx_core.specs.Term.{Term, Terms, of, nil, cons, Top}
use Rattle.fx_core.specs.Term as top
use Rattle.recalc.specs.Carrying.{AreOldTrees, IsOldTop, IsOldTree}

abbrev Giving : Type 1
Giving = Source → Data → Type 0

-- which source was which
abbrev Was : Type 1
Was = Source → Source → Type 0

-- what a source gave there, the one that was it gives
abbrev GivesMoreOf : Was → Giving → Around → Type 0
GivesMoreOf W g a = (s r : Source) (v : Data) → W s r → a.gives r v → g s v

-- an old meaning, and a new one
abbrev Two : Type 1
Two = Meaning × Meaning

abbrev olds : List Two → List Meaning
olds [] = []
olds (P ∷ Ps) = P.0 ∷ olds Ps

abbrev news : List Two → List Meaning
news [] = []
news (P ∷ Ps) = P.1 ∷ news Ps

abbrev Stays : Was → Giving → Two → Type 1
Stays W g P = (a : Around) (v : Data) → GivesMoreOf W g a → P.0 a v → P.1 (giving g a) v

abbrev AllStay : Was → Giving → List Two → Type 1
AllStay W g [] = Unit {1}
AllStay W g (P ∷ Ps) = Stays W g P × AllStay W g Ps

-- ---- values

values : (W : Was) (g : Giving) (Ps : List Two) → AllStay W g Ps → (a : Around) → GivesMoreOf W g a → (ds : List Data) → AreValues (olds Ps) a ds → AreValues (news Ps) (giving g a) ds
values W g [] k a m [] h = tt
values W g (P ∷ Ps) k a m (d ∷ ds) h = (k.0 a d m h.0, values W g Ps k.1 a m ds h.1)
values W g [] k a m (d ∷ ds) h = absurd h
values W g (P ∷ Ps) k a m [] h = absurd h

each : (W : Was) (g : Giving) (P : Two) → Stays W g P → (a : Around) → GivesMoreOf W g a → (rows : List Row) (ds : List Data) → AreEach P.0 a rows ds → AreEach P.1 (giving g a) rows ds
each W g P k a m [] [] h = tt
each W g P k a m (r ∷ rs) (d ∷ ds) h = (k (inside a (record_of r)) d m h.0, each W g P k a m rs ds h.1)
each W g P k a m [] (d ∷ ds) h = absurd h
each W g P k a m (r ∷ rs) [] h = absurd h

of_one : (W : Was) (g : Giving) (Ps : List Two) → AllStay W g Ps → (a : Around) → GivesMoreOf W g a → (R : Data → Type 0) → OfOne (olds Ps) a R → OfOne (news Ps) (giving g a) R
of_one W g [] k a m R h = absurd h
of_one W g (P ∷ []) k a m R h = (h.0, k.0 a h.0 m h.1, h.2)
of_one W g (P ∷ Q ∷ Ps) k a m R h = absurd h

of_all : (W : Was) (g : Giving) (Ps : List Two) → AllStay W g Ps → (a : Around) → GivesMoreOf W g a → (R : List Data → Type 0) → OfAll (olds Ps) a R → OfAll (news Ps) (giving g a) R
of_all W g Ps k a m R h = (h.0, values W g Ps k a m h.0 h.1, h.2)

-- ---- where an error is the answer, and where a condition decides

caught_by : (W : Was) (g : Giving) (w : Data) (F : Two) → Stays W g F → (a : Around) → GivesMoreOf W g a → (P Q : Type 0) (v : Data) → (P → Q) →
    IsCaughtBy w F.0 a P v → IsCaughtBy w F.1 (giving g a) Q v
caught_by W g (fault k cs) F s a m P Q v f h = s (catching a k cs) v m h
caught_by W g blank F s a m P Q v f h = f h
caught_by W g (number z) F s a m P Q v f h = f h
caught_by W g (text cs) F s a m P Q v f h = f h
caught_by W g (boolean b) F s a m P Q v f h = f h
caught_by W g (date z) F s a m P Q v f h = f h
caught_by W g (rec fs) F s a m P Q v f h = f h
caught_by W g (tab rs) F s a m P Q v f h = f h

-- ---- forms

all_stays : (W : Was) (g : Giving) (Ps : List Two) → AllStay W g Ps → Stays W g (IsAll (olds Ps), IsAll (news Ps))
all_stays W g [] k a v m h = h
all_stays W g (P ∷ Ps) k a v m h =
    (h.0, k.0 a h.0 m h.1, by_decision (decision_of h.0) (IsAll (olds Ps) a v) (IsAll (news Ps) (giving g a) v) (v ≡ boolean false) (v ≡ boolean false) v (all_stays W g Ps k.1 a v m) (λ e. e) h.2)

any_stays : (W : Was) (g : Giving) (Ps : List Two) → AllStay W g Ps → Stays W g (IsAny (olds Ps), IsAny (news Ps))
any_stays W g [] k a v m h = h
any_stays W g (P ∷ Ps) k a v m h =
    (h.0, k.0 a h.0 m h.1, by_decision (decision_of h.0) (v ≡ boolean true) (v ≡ boolean true) (IsAny (olds Ps) a v) (IsAny (news Ps) (giving g a) v) v (λ e. e) (any_stays W g Ps k.1 a v m) h.2)

if_stays : (W : Was) (g : Giving) (Ps : List Two) → AllStay W g Ps → Stays W g (IsIf (olds Ps), IsIf (news Ps))
if_stays W g [] k a v m h = h
if_stays W g (P ∷ []) k a v m h = k.0 a v m h
if_stays W g (C ∷ P ∷ Ps) k a v m h =
    (h.0, k.0 a h.0 m h.1, by_decision (decision_of h.0) (P.0 a v) (P.1 (giving g a) v) (IsIf (olds Ps) a v) (IsIf (news Ps) (giving g a) v) v (k.1.0 a v m) (if_stays W g Ps k.1.1 a v m) h.2)

matched_stays : (W : Was) (g : Giving) (w : Data) (Ps : List Two) → AllStay W g Ps → Stays W g (IsSwitchMatch w (olds Ps), IsSwitchMatch w (news Ps))
matched_stays W g w [] k a v m h = h
matched_stays W g w (P ∷ []) k a v m h = k.0 a v m h
matched_stays W g w (M ∷ P ∷ Ps) k a v m h = (
  h.0,
  k.0 a h.0 m h.1,
  by_decision (decision_of (equality w h.0)) (P.0 a v) (P.1 (giving g a) v) (IsSwitchMatch w (olds Ps) a v) (IsSwitchMatch w (news Ps) (giving g a) v) v (k.1.0 a v m) (matched_stays W g w Ps k.1.1 a v m) h.2,
)

switch_stays : (W : Was) (g : Giving) (Ps : List Two) → AllStay W g Ps → Stays W g (IsSwitch (olds Ps), IsSwitch (news Ps))
switch_stays W g [] k a v m h = absurd h
switch_stays W g (P ∷ Ps) k a v m h =
    (h.0, k.0 a h.0 m h.1, error_or h.0 (IsSwitchMatch h.0 (olds Ps) a v) (IsSwitchMatch h.0 (news Ps) (giving g a) v) v (matched_stays W g h.0 Ps k.1 a v m) h.2)

recovered_stays : (W : Was) (g : Giving) (d : Data) (Ps : List Two) → AllStay W g Ps → Stays W g (IsRecovered d (olds Ps), IsRecovered d (news Ps))
recovered_stays W g d [] k a v m h = h
recovered_stays W g d (P ∷ []) k a v m h = k.0 a v m h
recovered_stays W g d (P ∷ F ∷ Ps) k a v m h =
    (h.0, k.0 a h.0 m h.1, caught_by W g h.0 F k.1.0 a m (IsRecovered h.0 (olds Ps) a v) (IsRecovered h.0 (news Ps) (giving g a) v) v (recovered_stays W g h.0 Ps k.1.1 a v m) h.2)

coalesced_stays : (W : Was) (g : Giving) (Ps : List Two) → AllStay W g Ps → Stays W g (IsCoalesced (olds Ps), IsCoalesced (news Ps))
coalesced_stays W g [] k a v m h = h
coalesced_stays W g (P ∷ Ps) k a v m h =
    (h.0, k.0 a h.0 m h.1, passed_or (is_blank_or_empty h.0) (IsCoalesced (olds Ps) a v) (IsCoalesced (news Ps) (giving g a) v) (v ≡ h.0) (coalesced_stays W g Ps k.1 a v m) h.2)

formed_stays : (W : Was) (g : Giving) (f : Form) (Ps : List Two) → AllStay W g Ps → Stays W g (IsFormed f (olds Ps), IsFormed f (news Ps))
formed_stays W g form.All Ps k = all_stays W g Ps k
formed_stays W g form.Any Ps k = any_stays W g Ps k
formed_stays W g form.If Ps k = if_stays W g Ps k
formed_stays W g form.Switch Ps k = switch_stays W g Ps k
formed_stays W g form.IfError Ps k = recovered_stays W g blank Ps k

-- ---- calls over tables

of_each : (W : Was) (g : Giving) (rows : List Row) (Ps : List Two) → AllStay W g Ps → (a : Around) → GivesMoreOf W g a → (R : List Data → Type 0) →
    OfEach rows (olds Ps) a R → OfEach rows (news Ps) (giving g a) R
of_each W g rows [] k a m R h = absurd h
of_each W g rows (F ∷ []) k a m R h = (h.0, each W g F k.0 a m rows h.0 h.1, h.2)
of_each W g rows (F ∷ G ∷ Ps) k a m R h = absurd h

verdict_stays : (W : Was) (g : Giving) (Ps : List Two) → AllStay W g Ps → Stays W g (IsConjunction (olds Ps), IsConjunction (news Ps))
verdict_stays W g Ps k a v m h = (h.0, values W g Ps k a m h.0 h.1, h.2)

of_verdicts : (W : Was) (g : Giving) (rows : List Row) (Ps : List Two) → AllStay W g Ps → (a : Around) → GivesMoreOf W g a → (R : List Data → Type 0) →
    OfVerdicts rows (olds Ps) a R → OfVerdicts rows (news Ps) (giving g a) R
of_verdicts W g rows Ps k a m R h = (h.0, each W g (IsConjunction (olds Ps), IsConjunction (news Ps)) (verdict_stays W g Ps k) a m rows h.0 h.1, h.2)

found_stays : (W : Was) (g : Giving) (d : Data) (F : Two) → Stays W g F → Stays W g (IsOfFound d F.0, IsOfFound d F.1)
found_stays W g (rec fs) F k a v m h = k (inside a (rec fs)) v m h
found_stays W g blank F k a v m h = h
found_stays W g (number z) F k a v m h = h
found_stays W g (text cs) F k a v m h = h
found_stays W g (boolean b) F k a v m h = h
found_stays W g (date z) F k a v m h = h
found_stays W g (tab rs) F k a v m h = h
found_stays W g (fault j cs) F k a v m h = h

looked_up_stays : (W : Was) (g : Giving) (rows : List Row) (Ps : List Two) → AllStay W g Ps → Stays W g (IsLookedUp rows (olds Ps), IsLookedUp rows (news Ps))
looked_up_stays W g rows [] k a v m h = absurd h
looked_up_stays W g rows (C ∷ []) k a v m h = (h.0, each W g C k.0 a m rows h.0 h.1, h.2)
looked_up_stays W g rows (C ∷ F ∷ []) k a v m h = (h.0, each W g C k.0 a m rows h.0 h.1, found_stays W g (looked_up rows h.0) F k.1.0 a v m h.2)
looked_up_stays W g rows (C ∷ F ∷ G ∷ Ps) k a v m h = absurd h

taken_stays : (W : Was) (g : Giving) (taken : Option Data → Data) (Ps : List Two) → AllStay W g Ps → Stays W g (TakesRows taken (olds Ps), TakesRows taken (news Ps))
taken_stays W g taken [] k a v m h = h
taken_stays W g taken (N ∷ []) k a v m h = (h.0, k.0 a h.0 m h.1, h.2)
taken_stays W g taken (N ∷ M ∷ Ps) k a v m h = absurd h

concat_stays : (W : Was) (g : Giving) (rows : List Row) (Ps : List Two) → AllStay W g Ps → Stays W g (IsConcat rows (olds Ps), IsConcat rows (news Ps))
concat_stays W g rows [] k a v m h = absurd h
concat_stays W g rows (F ∷ []) k a v m h = (h.0, each W g F k.0 a m rows h.0 h.1, h.2)
concat_stays W g rows (F ∷ S ∷ []) k a v m h = (h.0, h.1, each W g F k.0 a m rows h.0 h.2, k.1.0 a h.1 m h.3, h.4)
concat_stays W g rows (F ∷ S ∷ P ∷ Ps) k a v m h = absurd h

names_stay : (W : Was) (g : Giving) (Ps : List Two) → AllStay W g Ps → (a : Around) → GivesMoreOf W g a → (ns : List (List ℕ)) → AreNames (olds Ps) a ns → AreNames (news Ps) (giving g a) ns
names_stay W g [] k a m [] h = tt
names_stay W g (P ∷ Ps) k a m (n ∷ ns) h = (k.0 a (text n) m h.0, names_stay W g Ps k.1 a m ns h.1)
names_stay W g [] k a m (n ∷ ns) h = absurd h
names_stay W g (P ∷ Ps) k a m [] h = absurd h

named_stays : (W : Was) (g : Giving) (made : List (List ℕ) → Data) (Ps : List Two) → AllStay W g Ps → Stays W g (MakesByNames made (olds Ps), MakesByNames made (news Ps))
named_stays W g made Ps k a v m h = (h.0, names_stay W g Ps k a m h.0 h.1, h.2)

new_stay : (W : Was) (g : Giving) (rows : List Row) (Ps : List Two) → AllStay W g Ps → (a : Around) → GivesMoreOf W g a → (cs : List (List ℕ × List Data)) →
    AreNew rows (olds Ps) a cs → AreNew rows (news Ps) (giving g a) cs
new_stay W g rows [] k a m [] h = tt
new_stay W g rows (N ∷ F ∷ Ps) k a m (c ∷ cs) h = (k.0 a (text c.0) m h.0, each W g F k.1.0 a m rows c.1 h.1, new_stay W g rows Ps k.1.1 a m cs h.2)
new_stay W g rows [] k a m (c ∷ cs) h = absurd h
new_stay W g rows (N ∷ []) k a m cs h = absurd h
new_stay W g rows (N ∷ F ∷ Ps) k a m [] h = absurd h

pairs_stay : (W : Was) (g : Giving) (Ps : List Two) → AllStay W g Ps → (a : Around) → GivesMoreOf W g a → (ps : List (List ℕ × List ℕ)) → AreRenamings (olds Ps) a ps → AreRenamings (news Ps) (giving g a) ps
pairs_stay W g [] k a m [] h = tt
pairs_stay W g (N ∷ M ∷ Ps) k a m (p ∷ ps) h = (k.0 a (text p.0) m h.0, k.1.0 a (text p.1) m h.1, pairs_stay W g Ps k.1.1 a m ps h.2)
pairs_stay W g [] k a m (p ∷ ps) h = absurd h
pairs_stay W g (N ∷ []) k a m ps h = absurd h
pairs_stay W g (N ∷ M ∷ Ps) k a m [] h = absurd h

made_stays : (W : Was) (g : Giving) (f : Fun) (rows : List Row) (Ps : List Two) → AllStay W g Ps → Stays W g (IsMade f rows (olds Ps), IsMade f rows (news Ps))
made_stays W g fun.Filter rows Ps k a v m h = of_verdicts W g rows Ps k a m _ h
made_stays W g fun.LookUp rows Ps k a v m h = looked_up_stays W g rows Ps k a v m h
made_stays W g (fun.Sort o) rows Ps k a v m h = of_each W g rows Ps k a m _ h
made_stays W g fun.First rows Ps k a v m h = h
made_stays W g fun.Last rows Ps k a v m h = h
made_stays W g fun.FirstN rows Ps k a v m h = taken_stays W g (first_rows rows) Ps k a v m h
made_stays W g fun.LastN rows Ps k a v m h = taken_stays W g (last_rows rows) Ps k a v m h
made_stays W g fun.CountRows rows Ps k a v m h = h
made_stays W g fun.CountIf rows Ps k a v m h = of_verdicts W g rows Ps k a m _ h
made_stays W g fun.IsEmpty rows Ps k a v m h = h
made_stays W g fun.SumRows rows Ps k a v m h = of_each W g rows Ps k a m _ h
made_stays W g fun.MinRows rows Ps k a v m h = of_each W g rows Ps k a m _ h
made_stays W g fun.MaxRows rows Ps k a v m h = of_each W g rows Ps k a m _ h
made_stays W g fun.AverageRows rows Ps k a v m h = of_each W g rows Ps k a m _ h
made_stays W g fun.AddColumns rows Ps k a v m h = (h.0, new_stay W g rows Ps k a m h.0 h.1, h.2)
made_stays W g fun.DropColumns rows Ps k a v m h = named_stays W g _ Ps k a v m h
made_stays W g fun.ShowColumns rows Ps k a v m h = named_stays W g _ Ps k a v m h
made_stays W g fun.GroupBy rows Ps k a v m h = named_stays W g _ Ps k a v m h
made_stays W g fun.Ungroup rows Ps k a v m h = named_stays W g _ Ps k a v m h
made_stays W g fun.RenameColumns rows Ps k a v m h = (h.0, pairs_stay W g Ps k a m h.0 h.1, h.2)
made_stays W g fun.Distinct rows Ps k a v m h = of_each W g rows Ps k a m _ h
made_stays W g fun.ForAll rows Ps k a v m h = of_each W g rows Ps k a m _ h
made_stays W g fun.Concat rows Ps k a v m h = concat_stays W g rows Ps k a v m h
made_stays W g f rows Ps k a v m h = absurd h

over_stays : (W : Was) (g : Giving) (f : Fun) (Ps : List Two) → AllStay W g Ps → Stays W g (IsTableCall f (olds Ps), IsTableCall f (news Ps))
over_stays W g f [] k a v m h = absurd h
over_stays W g f (P ∷ Ps) k a v m h =
    (h.0, k.0 a h.0 m h.1, error_or h.0 (IsMade f (rows_in h.0) (olds Ps) a v) (IsMade f (rows_in h.0) (news Ps) (giving g a) v) v (made_stays W g f (rows_in h.0) Ps k.1 a v m) h.2)

-- ---- nodes

called_stays : (W : Was) (g : Giving) (f : Fun) (Ps : List Two) → AllStay W g Ps → Stays W g (IsCalled f (olds Ps), IsCalled f (news Ps))
called_stays W g fun.Coalesce Ps k a v m h = coalesced_stays W g Ps k a v m h
called_stays W g f Ps k a v m h = of_all W g Ps k a m _ h

within_stays : (W : Was) (g : Giving) (Ps : List Two) → AllStay W g Ps → Stays W g (IsWithin (olds Ps), IsWithin (news Ps))
within_stays W g [] k a v m h = absurd h
within_stays W g (P ∷ []) k a v m h = absurd h
within_stays W g (P ∷ F ∷ []) k a v m h =
    (h.0, k.0 a h.0 m h.1, error_or h.0 (F.0 (inside a h.0) v) (F.1 (inside (giving g a) h.0) v) v (k.1.0 (inside a h.0) v m) h.2)
within_stays W g (P ∷ F ∷ Q ∷ Ps) k a v m h = absurd h

-- a node that reads nothing
abbrev IsPlain : Top → Type 0
IsPlain (top.read s) = ⊥
IsPlain h = Unit {0}

node_stays : (W : Was) (g : Giving) (h : Top) (Ps : List Two) → IsPlain h → AllStay W g Ps → Stays W g (IsNode h (olds Ps), IsNode h (news Ps))
node_stays W g (top.const d) Ps r k a v m h = h
node_stays W g (top.read s) Ps r k a v m h = absurd r
node_stays W g (top.row n) Ps r k a v m h = h
node_stays W g top.item Ps r k a v m h = h
node_stays W g top.caught Ps r k a v m h = h
node_stays W g (top.dot n) Ps r k a v m h = of_one W g Ps k a m _ h
node_stays W g (top.call f) Ps r k a v m h = called_stays W g f Ps k a v m h
node_stays W g (top.over f) Ps r k a v m h = over_stays W g f Ps k a v m h
node_stays W g (top.user f) Ps r k a v m h = absurd h
node_stays W g (top.form f) Ps r k a v m h = formed_stays W g f Ps k a v m h
node_stays W g top.within Ps r k a v m h = within_stays W g Ps k a v m h
node_stays W g (top.rec ns) Ps r k a v m h = of_all W g Ps k a m _ h
node_stays W g (top.list t) Ps r k a v m h = of_all W g Ps k a m _ h
node_stays W g (top.coerce t) Ps r k a v m h = of_one W g Ps k a m _ h
node_stays W g top.chain Ps r k a v m h = absurd h
node_stays W g (top.act d) Ps r k a v m h = absurd h

same_node : (W : Was) (g : Giving) (h u : Top) (Ps : List Two) → IsPlain h → AllStay W g Ps → h ≡ u → Stays W g (IsNode u (olds Ps), IsNode h (news Ps))
same_node W g h u Ps r k e a v m x = node_stays W g h Ps r k a v m (subst (λ t. IsNode t (olds Ps) a v) (sym e) x)

old_node : (W : Was) (g : Giving) (h u : Top) (Ps : List Two) → IsOldTop W h u → AllStay W g Ps → Stays W g (IsNode u (olds Ps), IsNode h (news Ps))
old_node W g (top.read s) u Ps o k a v m x = m s o.0 v o.1 (subst (λ t. IsNode t (olds Ps) a v) o.2 x)
old_node W g (top.act d) u Ps o k a v m x = absurd o
old_node W g (top.const d) u Ps o k a v m x = same_node W g (top.const d) u Ps tt k o a v m x
old_node W g (top.row n) u Ps o k a v m x = same_node W g (top.row n) u Ps tt k o a v m x
old_node W g top.item u Ps o k a v m x = same_node W g top.item u Ps tt k o a v m x
old_node W g top.caught u Ps o k a v m x = same_node W g top.caught u Ps tt k o a v m x
old_node W g (top.dot n) u Ps o k a v m x = same_node W g (top.dot n) u Ps tt k o a v m x
old_node W g (top.call f) u Ps o k a v m x = same_node W g (top.call f) u Ps tt k o a v m x
old_node W g (top.over f) u Ps o k a v m x = same_node W g (top.over f) u Ps tt k o a v m x
old_node W g (top.user f) u Ps o k a v m x = same_node W g (top.user f) u Ps tt k o a v m x
old_node W g (top.form f) u Ps o k a v m x = same_node W g (top.form f) u Ps tt k o a v m x
old_node W g top.within u Ps o k a v m x = same_node W g top.within u Ps tt k o a v m x
old_node W g (top.rec ns) u Ps o k a v m x = same_node W g (top.rec ns) u Ps tt k o a v m x
old_node W g (top.list t) u Ps o k a v m x = same_node W g (top.list t) u Ps tt k o a v m x
old_node W g (top.coerce t) u Ps o k a v m x = same_node W g (top.coerce t) u Ps tt k o a v m x
old_node W g top.chain u Ps o k a v m x = same_node W g top.chain u Ps tt k o a v m x

-- the meanings of trees, and of the old ones
abbrev twos : Terms → Terms → List Two
twos (cons t ts) (cons u us) = (meaning u, meaning t) ∷ twos ts us
twos ts us = []

olds_of : (W : Was) (ts us : Terms) → AreOldTrees W ts us → olds (twos ts us) ≡ meanings us
olds_of W nil nil h = refl
olds_of W (cons t ts) (cons u us) h = ap (λ Ps. meaning u ∷ Ps) (olds_of W ts us h.1)
olds_of W nil (cons u us) h = absurd h
olds_of W (cons t ts) nil h = absurd h

news_of : (W : Was) (ts us : Terms) → AreOldTrees W ts us → news (twos ts us) ≡ meanings ts
news_of W nil nil h = refl
news_of W (cons t ts) (cons u us) h = ap (λ Ps. meaning t ∷ Ps) (news_of W ts us h.1)
news_of W nil (cons u us) h = absurd h
news_of W (cons t ts) nil h = absurd h

mutual
  old_of : (W : Was) (g : Giving) (t u : Term) → IsOldTree W t u → Stays W g (meaning u, meaning t)
  old_of W g (of h ts) (of k us) o a v m x =
      subst (λ Ps. IsNode h Ps (giving g a) v) (news_of W ts us o.1)
      (old_node W g h k (twos ts us) o.0 (all_old W g ts us o.1) a v m (subst (λ Ps. IsNode k Ps a v) (sym (olds_of W ts us o.1)) x))

  all_old : (W : Was) (g : Giving) (ts us : Terms) → AreOldTrees W ts us → AllStay W g (twos ts us)
  all_old W g nil nil o = tt
  all_old W g (cons t ts) (cons u us) o = (old_of W g t u o.0, all_old W g ts us o.1)
  all_old W g nil (cons u us) o = absurd o
  all_old W g (cons t ts) nil o = absurd o

-- a value of a tree over sources, where those of the new tree give no less than those that they were
pub same_value : (W : Source → Source → Type 0) (g : Source → Data → Type 0) (t u : Term) (a : Around) (v : Data) → IsOldTree W t u → ((s r : Source) (d : Data) → W s r → a.gives r d → g s d) →
    meaning u a v → meaning t (giving g a) v
same_value W g t u a v o m h = old_of W g t u o a v m h
