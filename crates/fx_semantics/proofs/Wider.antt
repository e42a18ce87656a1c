-- A value over sources is a value over sources that may give more.
use Rattle.std.proofs.Common.{◌≡◌, ℕ, List, [], ◌∷◌, ◌++◌, Bool, true, false, Option, refl, inl, inr}
use Rattle.fx_types.specs.Values.{Data, blank, number, text, boolean, date, rec, tab, fault}
use Rattle.fx_semantics.specs.Around.{Around, Meaning, AreValues, AreEach, catching, inside, record_of}
use Rattle.fx_semantics.specs.Forms.{IsAll, IsAny, IsIf, IsSwitchMatch, IsSwitch, IsRecovered, IsCaughtBy, IsCoalesced, IsFormed}
use Rattle.fx_semantics.specs.Fresh.{IsCalled, IsNode, IsWithin, OfAll, OfOne, meaning, meanings}
use Rattle.fx_semantics.specs.Rows.{AreNames, AreNew, AreRenamings, IsConcat, IsLookedUp, IsMade, MakesByNames, IsOfFound, IsTableCall, TakesRows, IsConjunction, OfEach, OfVerdicts, rows_in}
use Rattle.fx_core.specs.Reads.{IsAmong, read_by, sources_among, sources_in}
use Rattle.fx_core.specs.declared.functions.Form.{Form}
use Rattle.fx_core.specs.declared.functions.Form.TheVariants as form
use Rattle.fx_core.specs.declared.functions.Fun.{Fun}
use Rattle.fx_core.specs.declared.functions.Fun.TheVariants as fun
use Rattle.fx_core.specs.declared.sources.Source.{Source}
use Rattle.fx_tables.specs.Ends.{first_rows, last_rows}
use Rattle.fx_tables.specs.RowCalls.{looked_up}
use Rattle.fx_scalar.specs.declared.lazy_forms.Decision.{Decision}
use Rattle.fx_scalar.specs.declared.lazy_forms.Decision.TheVariants.{Met, Unmet, Error}
use Rattle.fx_scalar.specs.LazyForms.{ByDecision, ErrorOr, PassedOr, decision_of, equality}
use Rattle.fx_scalar.specs.ScalarFunctions.{is_blank_or_empty}
use Rattle.fx_value.specs.Columns.{Row}
use Rattle.fx_core.specs.Term.{Term, Terms, of, nil, cons, Top}
use Rattle.fx_core.specs.Term as top

abbrev Giving : Type 1
Giving = Source → Data → Type 0

-- the same where sources give this
abbrev pub giving : Giving → Around → Around
giving g a = record a { gives = g }

-- some sources
abbrev Sources : Type 1
Sources = Source → Type 0

-- what these sources give there, these give
abbrev GivesMoreOf : Sources → Giving → Around → Type 0
GivesMoreOf K g a = (s : Source) (v : Data) → K s → a.gives s v → g s v

abbrev pub GivesMore : Giving → Around → Type 0
GivesMore g a = (s : Source) (v : Data) → a.gives s v → g s v

abbrev Stays : Sources → Giving → Meaning → Type 1
Stays K g P = (a : Around) (v : Data) → GivesMoreOf K g a → P a v → P (giving g a) v

abbrev AllStay : Sources → Giving → List Meaning → Type 1
AllStay K g [] = Unit {1}
AllStay K g (P ∷ Ps) = Stays K g P × AllStay K g Ps

-- each source of a list is one of these
abbrev AreOf : Sources → List Source → Type 0
AreOf K xs = (s : Source) → IsAmong s xs → K s

pub among_left : (s : Source) (xs ys : List Source) → IsAmong s xs → IsAmong s (xs ++ ys)
among_left s [] ys h = absurd h
among_left s (x ∷ xs) ys (inl e) = inl e
among_left s (x ∷ xs) ys (inr h) = inr (among_left s xs ys h)

pub among_right : (s : Source) (xs ys : List Source) → IsAmong s ys → IsAmong s (xs ++ ys)
among_right s [] ys h = h
among_right s (x ∷ xs) ys h = inr (among_right s xs ys h)

-- ---- values

values : (K : Sources) (g : Giving) (Ps : List Meaning) → AllStay K g Ps → (a : Around) → GivesMoreOf K g a → (ds : List Data) → AreValues Ps a ds → AreValues Ps (giving g a) ds
values K g [] k a m [] h = tt
values K g (P ∷ Ps) k a m (d ∷ ds) h = (k.0 a d m h.0, values K g Ps k.1 a m ds h.1)
values K g [] k a m (d ∷ ds) h = absurd h
values K g (P ∷ Ps) k a m [] h = absurd h

each : (K : Sources) (g : Giving) (P : Meaning) → Stays K g P → (a : Around) → GivesMoreOf K g a → (rows : List Row) (ds : List Data) → AreEach P a rows ds → AreEach P (giving g a) rows ds
each K g P k a m [] [] h = tt
each K g P k a m (r ∷ rs) (d ∷ ds) h = (k (inside a (record_of r)) d m h.0, each K g P k a m rs ds h.1)
each K g P k a m [] (d ∷ ds) h = absurd h
each K g P k a m (r ∷ rs) [] h = absurd h

of_one : (K : Sources) (g : Giving) (Ps : List Meaning) → AllStay K g Ps → (a : Around) → GivesMoreOf K g a → (R : Data → Type 0) → OfOne Ps a R → OfOne Ps (giving g a) R
of_one K g [] k a m R h = absurd h
of_one K g (P ∷ []) k a m R h = (h.0, k.0 a h.0 m h.1, h.2)
of_one K g (P ∷ Q ∷ Ps) k a m R h = absurd h

of_all : (K : Sources) (g : Giving) (Ps : List Meaning) → AllStay K g Ps → (a : Around) → GivesMoreOf K g a → (R : List Data → Type 0) → OfAll Ps a R → OfAll Ps (giving g a) R
of_all K g Ps k a m R h = (h.0, values K g Ps k a m h.0 h.1, h.2)

-- ---- where an error is the answer, and where a condition decides

pub error_or : (w : Data) (P Q : Type 0) (v : Data) → (P → Q) → ErrorOr w P v → ErrorOr w Q v
error_or (fault k cs) P Q v f h = h
error_or blank P Q v f h = f h
error_or (number z) P Q v f h = f h
error_or (text cs) P Q v f h = f h
error_or (boolean b) P Q v f h = f h
error_or (date z) P Q v f h = f h
error_or (rec fs) P Q v f h = f h
error_or (tab rs) P Q v f h = f h

pub by_decision : (d : Decision) (P P' Q Q' : Type 0) (v : Data) → (P → P') → (Q → Q') → ByDecision d P Q v → ByDecision d P' Q' v
by_decision Met P P' Q Q' v f g h = f h
by_decision Unmet P P' Q Q' v f g h = g h
by_decision (Error x) P P' Q Q' v f g h = h

pub passed_or : (b : Bool) (P P' Q : Type 0) → (P → P') → PassedOr b P Q → PassedOr b P' Q
passed_or true P P' Q f h = f h
passed_or false P P' Q f h = h

caught_by : (K : Sources) (g : Giving) (w : Data) (F : Meaning) → Stays K g F → (a : Around) → GivesMoreOf K g a → (P Q : Type 0) (v : Data) → (P → Q) →
    IsCaughtBy w F a P v → IsCaughtBy w F (giving g a) Q v
caught_by K g (fault k cs) F s a m P Q v f h = s (catching a k cs) v m h
caught_by K g blank F s a m P Q v f h = f h
caught_by K g (number z) F s a m P Q v f h = f h
caught_by K g (text cs) F s a m P Q v f h = f h
caught_by K g (boolean b) F s a m P Q v f h = f h
caught_by K g (date z) F s a m P Q v f h = f h
caught_by K g (rec fs) F s a m P Q v f h = f h
caught_by K g (tab rs) F s a m P Q v f h = f h

-- ---- forms

all_stays : (K : Sources) (g : Giving) (Ps : List Meaning) → AllStay K g Ps → Stays K g (IsAll Ps)
all_stays K g [] k a v m h = h
all_stays K g (P ∷ Ps) k a v m h =
    (h.0, k.0 a h.0 m h.1, by_decision (decision_of h.0) (IsAll Ps a v) (IsAll Ps (giving g a) v) (v ≡ boolean false) (v ≡ boolean false) v (all_stays K g Ps k.1 a v m) (λ e. e) h.2)

any_stays : (K : Sources) (g : Giving) (Ps : List Meaning) → AllStay K g Ps → Stays K g (IsAny Ps)
any_stays K g [] k a v m h = h
any_stays K g (P ∷ Ps) k a v m h =
    (h.0, k.0 a h.0 m h.1, by_decision (decision_of h.0) (v ≡ boolean true) (v ≡ boolean true) (IsAny Ps a v) (IsAny Ps (giving g a) v) v (λ e. e) (any_stays K g Ps k.1 a v m) h.2)

if_stays : (K : Sources) (g : Giving) (Ps : List Meaning) → AllStay K g Ps → Stays K g (IsIf Ps)
if_stays K g [] k a v m h = h
if_stays K g (P ∷ []) k a v m h = k.0 a v m h
if_stays K g (C ∷ P ∷ Ps) k a v m h =
    (h.0, k.0 a h.0 m h.1, by_decision (decision_of h.0) (P a v) (P (giving g a) v) (IsIf Ps a v) (IsIf Ps (giving g a) v) v (k.1.0 a v m) (if_stays K g Ps k.1.1 a v m) h.2)

matched_stays : (K : Sources) (g : Giving) (w : Data) (Ps : List Meaning) → AllStay K g Ps → Stays K g (IsSwitchMatch w Ps)
matched_stays K g w [] k a v m h = h
matched_stays K g w (P ∷ []) k a v m h = k.0 a v m h
matched_stays K g w (M ∷ P ∷ Ps) k a v m h = (
  h.0,
  k.0 a h.0 m h.1,
  by_decision (decision_of (equality w h.0)) (P a v) (P (giving g a) v) (IsSwitchMatch w Ps a v) (IsSwitchMatch w Ps (giving g a) v) v (k.1.0 a v m) (matched_stays K g w Ps k.1.1 a v m) h.2,
)

switch_stays : (K : Sources) (g : Giving) (Ps : List Meaning) → AllStay K g Ps → Stays K g (IsSwitch Ps)
switch_stays K g [] k a v m h = absurd h
switch_stays K g (P ∷ Ps) k a v m h =
    (h.0, k.0 a h.0 m h.1, error_or h.0 (IsSwitchMatch h.0 Ps a v) (IsSwitchMatch h.0 Ps (giving g a) v) v (matched_stays K g h.0 Ps k.1 a v m) h.2)

recovered_stays : (K : Sources) (g : Giving) (d : Data) (Ps : List Meaning) → AllStay K g Ps → Stays K g (IsRecovered d Ps)
recovered_stays K g d [] k a v m h = h
recovered_stays K g d (P ∷ []) k a v m h = k.0 a v m h
recovered_stays K g d (P ∷ F ∷ Ps) k a v m h =
    (h.0, k.0 a h.0 m h.1, caught_by K g h.0 F k.1.0 a m (IsRecovered h.0 Ps a v) (IsRecovered h.0 Ps (giving g a) v) v (recovered_stays K g h.0 Ps k.1.1 a v m) h.2)

coalesced_stays : (K : Sources) (g : Giving) (Ps : List Meaning) → AllStay K g Ps → Stays K g (IsCoalesced Ps)
coalesced_stays K g [] k a v m h = h
coalesced_stays K g (P ∷ Ps) k a v m h =
    (h.0, k.0 a h.0 m h.1, passed_or (is_blank_or_empty h.0) (IsCoalesced Ps a v) (IsCoalesced Ps (giving g a) v) (v ≡ h.0) (coalesced_stays K g Ps k.1 a v m) h.2)

formed_stays : (K : Sources) (g : Giving) (f : Form) (Ps : List Meaning) → AllStay K g Ps → Stays K g (IsFormed f Ps)
formed_stays K g form.All Ps k = all_stays K g Ps k
formed_stays K g form.Any Ps k = any_stays K g Ps k
formed_stays K g form.If Ps k = if_stays K g Ps k
formed_stays K g form.Switch Ps k = switch_stays K g Ps k
formed_stays K g form.IfError Ps k = recovered_stays K g blank Ps k

-- ---- calls over tables

of_each : (K : Sources) (g : Giving) (rows : List Row) (Ps : List Meaning) → AllStay K g Ps → (a : Around) → GivesMoreOf K g a → (R : List Data → Type 0) →
    OfEach rows Ps a R → OfEach rows Ps (giving g a) R
of_each K g rows [] k a m R h = absurd h
of_each K g rows (F ∷ []) k a m R h = (h.0, each K g F k.0 a m rows h.0 h.1, h.2)
of_each K g rows (F ∷ G ∷ Ps) k a m R h = absurd h

verdict_stays : (K : Sources) (g : Giving) (Ps : List Meaning) → AllStay K g Ps → Stays K g (IsConjunction Ps)
verdict_stays K g Ps k a v m h = (h.0, values K g Ps k a m h.0 h.1, h.2)

of_verdicts : (K : Sources) (g : Giving) (rows : List Row) (Ps : List Meaning) → AllStay K g Ps → (a : Around) → GivesMoreOf K g a → (R : List Data → Type 0) →
    OfVerdicts rows Ps a R → OfVerdicts rows Ps (giving g a) R
of_verdicts K g rows Ps k a m R h = (h.0, each K g (IsConjunction Ps) (verdict_stays K g Ps k) a m rows h.0 h.1, h.2)

found_stays : (K : Sources) (g : Giving) (d : Data) (F : Meaning) → Stays K g F → Stays K g (IsOfFound d F)
found_stays K g (rec fs) F k a v m h = k (inside a (rec fs)) v m h
found_stays K g blank F k a v m h = h
found_stays K g (number z) F k a v m h = h
found_stays K g (text cs) F k a v m h = h
found_stays K g (boolean b) F k a v m h = h
found_stays K g (date z) F k a v m h = h
found_stays K g (tab rs) F k a v m h = h
found_stays K g (fault j cs) F k a v m h = h

looked_up_stays : (K : Sources) (g : Giving) (rows : List Row) (Ps : List Meaning) → AllStay K g Ps → Stays K g (IsLookedUp rows Ps)
looked_up_stays K g rows [] k a v m h = absurd h
looked_up_stays K g rows (C ∷ []) k a v m h = (h.0, each K g C k.0 a m rows h.0 h.1, h.2)
looked_up_stays K g rows (C ∷ F ∷ []) k a v m h = (h.0, each K g C k.0 a m rows h.0 h.1, found_stays K g (looked_up rows h.0) F k.1.0 a v m h.2)
looked_up_stays K g rows (C ∷ F ∷ G ∷ Ps) k a v m h = absurd h

taken_stays : (K : Sources) (g : Giving) (taken : Option Data → Data) (Ps : List Meaning) → AllStay K g Ps → Stays K g (TakesRows taken Ps)
taken_stays K g taken [] k a v m h = h
taken_stays K g taken (N ∷ []) k a v m h = (h.0, k.0 a h.0 m h.1, h.2)
taken_stays K g taken (N ∷ M ∷ Ps) k a v m h = absurd h

concat_stays : (K : Sources) (g : Giving) (rows : List Row) (Ps : List Meaning) → AllStay K g Ps → Stays K g (IsConcat rows Ps)
concat_stays K g rows [] k a v m h = absurd h
concat_stays K g rows (F ∷ []) k a v m h = (h.0, each K g F k.0 a m rows h.0 h.1, h.2)
concat_stays K g rows (F ∷ S ∷ []) k a v m h = (h.0, h.1, each K g F k.0 a m rows h.0 h.2, k.1.0 a h.1 m h.3, h.4)
concat_stays K g rows (F ∷ S ∷ P ∷ Ps) k a v m h = absurd h

names_stay : (K : Sources) (g : Giving) (Ps : List Meaning) → AllStay K g Ps → (a : Around) → GivesMoreOf K g a → (ns : List (List ℕ)) → AreNames Ps a ns → AreNames Ps (giving g a) ns
names_stay K g [] k a m [] h = tt
names_stay K g (P ∷ Ps) k a m (n ∷ ns) h = (k.0 a (text n) m h.0, names_stay K g Ps k.1 a m ns h.1)
names_stay K g [] k a m (n ∷ ns) h = absurd h
names_stay K g (P ∷ Ps) k a m [] h = absurd h

named_stays : (K : Sources) (g : Giving) (made : List (List ℕ) → Data) (Ps : List Meaning) → AllStay K g Ps → Stays K g (MakesByNames made Ps)
named_stays K g made Ps k a v m h = (h.0, names_stay K g Ps k a m h.0 h.1, h.2)

new_stay : (K : Sources) (g : Giving) (rows : List Row) (Ps : List Meaning) → AllStay K g Ps → (a : Around) → GivesMoreOf K g a → (cs : List (List ℕ × List Data)) →
    AreNew rows Ps a cs → AreNew rows Ps (giving g a) cs
new_stay K g rows [] k a m [] h = tt
new_stay K g rows (N ∷ F ∷ Ps) k a m (c ∷ cs) h = (k.0 a (text c.0) m h.0, each K g F k.1.0 a m rows c.1 h.1, new_stay K g rows Ps k.1.1 a m cs h.2)
new_stay K g rows [] k a m (c ∷ cs) h = absurd h
new_stay K g rows (N ∷ []) k a m cs h = absurd h
new_stay K g rows (N ∷ F ∷ Ps) k a m [] h = absurd h

pairs_stay : (K : Sources) (g : Giving) (Ps : List Meaning) → AllStay K g Ps → (a : Around) → GivesMoreOf K g a → (ps : List (List ℕ × List ℕ)) → AreRenamings Ps a ps → AreRenamings Ps (giving g a) ps
pairs_stay K g [] k a m [] h = tt
pairs_stay K g (N ∷ M ∷ Ps) k a m (p ∷ ps) h = (k.0 a (text p.0) m h.0, k.1.0 a (text p.1) m h.1, pairs_stay K g Ps k.1.1 a m ps h.2)
pairs_stay K g [] k a m (p ∷ ps) h = absurd h
pairs_stay K g (N ∷ []) k a m ps h = absurd h
pairs_stay K g (N ∷ M ∷ Ps) k a m [] h = absurd h

made_stays : (K : Sources) (g : Giving) (f : Fun) (rows : List Row) (Ps : List Meaning) → AllStay K g Ps → Stays K g (IsMade f rows Ps)
made_stays K g fun.Filter rows Ps k a v m h = of_verdicts K g rows Ps k a m _ h
made_stays K g fun.LookUp rows Ps k a v m h = looked_up_stays K g rows Ps k a v m h
made_stays K g (fun.Sort o) rows Ps k a v m h = of_each K g rows Ps k a m _ h
made_stays K g fun.First rows Ps k a v m h = h
made_stays K g fun.Last rows Ps k a v m h = h
made_stays K g fun.FirstN rows Ps k a v m h = taken_stays K g (first_rows rows) Ps k a v m h
made_stays K g fun.LastN rows Ps k a v m h = taken_stays K g (last_rows rows) Ps k a v m h
made_stays K g fun.CountRows rows Ps k a v m h = h
made_stays K g fun.CountIf rows Ps k a v m h = of_verdicts K g rows Ps k a m _ h
made_stays K g fun.IsEmpty rows Ps k a v m h = h
made_stays K g fun.SumRows rows Ps k a v m h = of_each K g rows Ps k a m _ h
made_stays K g fun.MinRows rows Ps k a v m h = of_each K g rows Ps k a m _ h
made_stays K g fun.MaxRows rows Ps k a v m h = of_each K g rows Ps k a m _ h
made_stays K g fun.AverageRows rows Ps k a v m h = of_each K g rows Ps k a m _ h
made_stays K g fun.AddColumns rows Ps k a v m h = (h.0, new_stay K g rows Ps k a m h.0 h.1, h.2)
made_stays K g fun.DropColumns rows Ps k a v m h = named_stays K g _ Ps k a v m h
made_stays K g fun.ShowColumns rows Ps k a v m h = named_stays K g _ Ps k a v m h
made_stays K g fun.GroupBy rows Ps k a v m h = named_stays K g _ Ps k a v m h
made_stays K g fun.Ungroup rows Ps k a v m h = named_stays K g _ Ps k a v m h
made_stays K g fun.RenameColumns rows Ps k a v m h = (h.0, pairs_stay K g Ps k a m h.0 h.1, h.2)
made_stays K g fun.Distinct rows Ps k a v m h = of_each K g rows Ps k a m _ h
made_stays K g fun.ForAll rows Ps k a v m h = of_each K g rows Ps k a m _ h
made_stays K g fun.Concat rows Ps k a v m h = concat_stays K g rows Ps k a v m h
made_stays K g f rows Ps k a v m h = absurd h

over_stays : (K : Sources) (g : Giving) (f : Fun) (Ps : List Meaning) → AllStay K g Ps → Stays K g (IsTableCall f Ps)
over_stays K g f [] k a v m h = absurd h
over_stays K g f (P ∷ Ps) k a v m h =
    (h.0, k.0 a h.0 m h.1, error_or h.0 (IsMade f (rows_in h.0) Ps a v) (IsMade f (rows_in h.0) Ps (giving g a) v) v (made_stays K g f (rows_in h.0) Ps k.1 a v m) h.2)

-- ---- nodes

called_stays : (K : Sources) (g : Giving) (f : Fun) (Ps : List Meaning) → AllStay K g Ps → Stays K g (IsCalled f Ps)
called_stays K g fun.Coalesce Ps k a v m h = coalesced_stays K g Ps k a v m h
called_stays K g f Ps k a v m h = of_all K g Ps k a m _ h

within_stays : (K : Sources) (g : Giving) (Ps : List Meaning) → AllStay K g Ps → Stays K g (IsWithin Ps)
within_stays K g [] k a v m h = absurd h
within_stays K g (P ∷ []) k a v m h = absurd h
within_stays K g (P ∷ F ∷ []) k a v m h =
    (h.0, k.0 a h.0 m h.1, error_or h.0 (F (inside a h.0) v) (F (inside (giving g a) h.0) v) v (k.1.0 (inside a h.0) v m) h.2)
within_stays K g (P ∷ F ∷ Q ∷ Ps) k a v m h = absurd h

node_stays : (K : Sources) (g : Giving) (h : Top) (Ps : List Meaning) → AreOf K (read_by h) → AllStay K g Ps → Stays K g (IsNode h Ps)
node_stays K g (top.const d) Ps r k a v m h = h
node_stays K g (top.read s) Ps r k a v m h = m s v (r s (inl refl)) h
node_stays K g (top.row n) Ps r k a v m h = h
node_stays K g top.item Ps r k a v m h = h
node_stays K g top.caught Ps r k a v m h = h
node_stays K g (top.dot n) Ps r k a v m h = of_one K g Ps k a m _ h
node_stays K g (top.call f) Ps r k a v m h = called_stays K g f Ps k a v m h
node_stays K g (top.over f) Ps r k a v m h = over_stays K g f Ps k a v m h
node_stays K g (top.user f) Ps r k a v m h = absurd h
node_stays K g (top.form f) Ps r k a v m h = formed_stays K g f Ps k a v m h
node_stays K g top.within Ps r k a v m h = within_stays K g Ps k a v m h
node_stays K g (top.rec ns) Ps r k a v m h = of_all K g Ps k a m _ h
node_stays K g (top.list t) Ps r k a v m h = of_all K g Ps k a m _ h
node_stays K g (top.coerce t) Ps r k a v m h = of_one K g Ps k a m _ h
node_stays K g top.chain Ps r k a v m h = absurd h
node_stays K g (top.act d) Ps r k a v m h = absurd h

mutual
  stays_of : (K : Sources) (g : Giving) (t : Term) → AreOf K (sources_in t) → Stays K g (meaning t)
  stays_of K g (of h ts) r =
      node_stays K g h (meanings ts) (λ s a. r s (among_left s (read_by h) (sources_among ts) a))
      (all_stay K g ts (λ s a. r s (among_right s (read_by h) (sources_among ts) a)))

  all_stay : (K : Sources) (g : Giving) (ts : Terms) → AreOf K (sources_among ts) → AllStay K g (meanings ts)
  all_stay K g nil r = tt
  all_stay K g (cons t ts) r = (
    stays_of K g t (λ s a. r s (among_left s (sources_in t) (sources_among ts) a)),
    all_stay K g ts (λ s a. r s (among_right s (sources_in t) (sources_among ts) a)),
  )

-- a value over sources, where all give no less
pub stays : (g : Giving) (t : Term) (a : Around) (v : Data) → GivesMore g a → meaning t a v → meaning t (giving g a) v
stays g t a v m h = stays_of (λ s. Unit {0}) g t (λ s r. tt) a v (λ s d u k. m s d k) h

-- where those give no less that the tree reads
pub stays_read : (g : Giving) (t : Term) (a : Around) (v : Data) → ((s : Source) (d : Data) → IsAmong s (sources_in t) → a.gives s d → g s d) →
    meaning t a v → meaning t (giving g a) v
stays_read g t a v m h = stays_of (λ s. IsAmong s (sources_in t)) g t (λ s r. r) a v m h
