-- What has one value at most: what follows by a value, and the forms of parts that have one value at most.
use Rattle.std.proofs.Common.{◌≡◌, ◌∙◌, ℕ, List, [], ◌∷◌, ◌++◌, true, false, Option, Some, ap, sym, subst}
use Rattle.std.specs.Prelude.{unwrap_or}
use Rattle.fx_types.specs.declared.faults.Fault.{Fault}
use Rattle.fx_types.specs.declared.faults.Kind.{Kind}
use Rattle.fx_types.specs.Values.{Data, blank, number, text, boolean, date, rec, tab, fault}
use Rattle.fx_core.specs.declared.functions.Form.{Form}
use Rattle.fx_core.specs.declared.functions.Form.TheVariants as form
use Rattle.fx_scalar.specs.LazyForms.{AtAll, AtAny, ByCondition, CaughtOr, ErrorOr, UnlessBlank, equality}
use Rattle.fx_scalar.proofs.Single.{AtMostOne}
use Rattle.fx_value.specs.Columns.{Row}
use Rattle.fx_semantics.specs.Around.{Around, Meaning, AreEach, AreValues, catching, record_of}
use Rattle.fx_semantics.specs.Forms.{IsAll, IsAny, IsCaughtBy, IsCoalesced, IsFormed, IsIf, IsSwitchMatch, IsRecovered, IsSwitch}
use Rattle.fx_semantics.proofs.Parts.{Giving, stands}

-- a formula has one value at most, wherever it stands
abbrev pub Single : Giving → Meaning → Type 0
Single g P = (rows : List Data) (item : Option Data) (caught : Option Fault) → AtMostOne (P (stands g rows item caught))

abbrev pub AllSingle : Giving → List Meaning → Type 0
AllSingle g [] = Unit {0}
AllSingle g (P ∷ Ps) = Single g P × AllSingle g Ps

-- ---- what follows by a value
pub equal_one : {X : Type 0} (x : X) → AtMostOne (λ v. v ≡ x)
equal_one x v w h k = h ∙ sym k

pub some_one : {X : Type 0} (o : Option X) → AtMostOne (λ v. o ≡ Some v)
some_one o v w h k = ap (λ x. unwrap_or x v) (sym h ∙ k)

pub then_one : {X : Type 0} (P : X → Type 0) (R : X → Data → Type 0) → AtMostOne P → ((x : X) → AtMostOne (R x)) → AtMostOne (λ v. (x : X) × P x × R x v)
then_one P R p r v w h k = r k.0 v w (subst (λ x. R x v) (p h.0 k.0 h.1 k.1) h.2) k.2

pub by_condition_one : (d : Data) (P Q : Data → Type 0) → AtMostOne P → AtMostOne Q → AtMostOne (λ v. ByCondition d (P v) (Q v) v)
by_condition_one (fault x cs) P Q p q v w h k = h ∙ sym k
by_condition_one (boolean true) P Q p q v w h k = p v w h k
by_condition_one (boolean false) P Q p q v w h k = q v w h k
by_condition_one blank P Q p q v w h k = q v w h k
by_condition_one (number z) P Q p q v w h k = q v w h k
by_condition_one (text cs) P Q p q v w h k = q v w h k
by_condition_one (date z) P Q p q v w h k = q v w h k
by_condition_one (rec fs) P Q p q v w h k = q v w h k
by_condition_one (tab rs) P Q p q v w h k = q v w h k

pub error_or_one : (d : Data) (P : Data → Type 0) → AtMostOne P → AtMostOne (λ v. ErrorOr d (P v) v)
error_or_one (fault x cs) P p v w h k = h ∙ sym k
error_or_one d P p v w h k = p v w h k

caught_or_one : (d : Data) (C : Kind → List ℕ → Data → Type 0) (P : Data → Type 0) → ((x : Kind) (cs : List ℕ) → AtMostOne (C x cs)) → AtMostOne P → AtMostOne (λ v. CaughtOr d (λ x cs. C x cs v) (P v))
caught_or_one (fault x cs) C P c p v w h k = c x cs v w h k
caught_or_one d C P c p v w h k = p v w h k

unless_blank_one : (d : Data) (P : Data → Type 0) → AtMostOne P → AtMostOne (λ v. UnlessBlank d (P v) v)
unless_blank_one blank P p v w h k = p v w h k
unless_blank_one (text []) P p v w h k = p v w h k
unless_blank_one (text (c ∷ cs)) P p v w h k = h ∙ sym k
unless_blank_one d P p v w h k = h ∙ sym k

-- ---- values of several parts, and of one part for each row
pub cons_same : {X : Type 0} (x y : X) (xs ys : List X) → x ≡ y → xs ≡ ys → (x ∷ xs) ≡ (y ∷ ys)
cons_same x y xs ys p q = λ i. p i ∷ q i

pub values_one : (g : Giving) (Ps : List Meaning) → AllSingle g Ps → (rows : List Data) (item : Option Data) (caught : Option Fault) → AtMostOne (AreValues Ps (stands g rows item caught))
values_one g [] s rows item caught [] [] h k = λ i. []
values_one g [] s rows item caught [] (e ∷ es) h k = absurd k
values_one g [] s rows item caught (d ∷ ds) es h k = absurd h
values_one g (P ∷ Ps) s rows item caught [] es h k = absurd h
values_one g (P ∷ Ps) s rows item caught (d ∷ ds) [] h k = absurd k
values_one g (P ∷ Ps) s rows item caught (d ∷ ds) (e ∷ es) h k =
    cons_same d e ds es (s.0 rows item caught d e h.0 k.0) (values_one g Ps s.1 rows item caught ds es h.1 k.1)

pub each_one : (g : Giving) (P : Meaning) → Single g P → (rs : List Row) (rows : List Data) (item : Option Data) (caught : Option Fault) → AtMostOne (AreEach P (stands g rows item caught) rs)
each_one g P s [] rows item caught [] [] h k = λ i. []
each_one g P s [] rows item caught [] (e ∷ es) h k = absurd k
each_one g P s [] rows item caught (d ∷ ds) es h k = absurd h
each_one g P s (r ∷ rs) rows item caught [] es h k = absurd h
each_one g P s (r ∷ rs) rows item caught (d ∷ ds) [] h k = absurd k
each_one g P s (r ∷ rs) rows item caught (d ∷ ds) (e ∷ es) h k =
    cons_same d e ds es (s (rows ++ record_of r ∷ []) item caught d e h.0 k.0) (each_one g P s rs rows item caught ds es h.1 k.1)

-- ---- forms
module _ (g : Giving) (rows : List Data) (item : Option Data) (caught : Option Fault) where
  abbrev here : Around
  here = stands g rows item caught

  all_one : (Ps : List Meaning) → AllSingle g Ps → AtMostOne (IsAll Ps here)
  all_one [] s = equal_one (boolean true)
  all_one (P ∷ Ps) s =
      then_one (P here) (λ x v. AtAll x (IsAll Ps here v) v) (s.0 rows item caught)
      (λ x. by_condition_one x (IsAll Ps here) (λ v. v ≡ boolean false) (all_one Ps s.1) (equal_one (boolean false)))

  any_one : (Ps : List Meaning) → AllSingle g Ps → AtMostOne (IsAny Ps here)
  any_one [] s = equal_one (boolean false)
  any_one (P ∷ Ps) s =
      then_one (P here) (λ x v. AtAny x (IsAny Ps here v) v) (s.0 rows item caught)
      (λ x. by_condition_one x (λ v. v ≡ boolean true) (IsAny Ps here) (equal_one (boolean true)) (any_one Ps s.1))

  if_one : (Ps : List Meaning) → AllSingle g Ps → AtMostOne (IsIf Ps here)
  if_one [] s = equal_one blank
  if_one (P ∷ []) s = s.0 rows item caught
  if_one (C ∷ P ∷ Ps) s =
      then_one (C here) (λ x v. ByCondition x (P here v) (IsIf Ps here v) v) (s.0 rows item caught)
      (λ x. by_condition_one x (P here) (IsIf Ps here) (s.1.0 rows item caught) (if_one Ps s.1.1))

  matched_one : (d : Data) (Ps : List Meaning) → AllSingle g Ps → AtMostOne (IsSwitchMatch d Ps here)
  matched_one d [] s = equal_one blank
  matched_one d (P ∷ []) s = s.0 rows item caught
  matched_one d (M ∷ P ∷ Ps) s =
      then_one (M here) (λ x v. ByCondition (equality d x) (P here v) (IsSwitchMatch d Ps here v) v) (s.0 rows item caught)
      (λ x. by_condition_one (equality d x) (P here) (IsSwitchMatch d Ps here) (s.1.0 rows item caught) (matched_one d Ps s.1.1))

  switch_one : (Ps : List Meaning) → AllSingle g Ps → AtMostOne (IsSwitch Ps here)
  switch_one [] s = λ v w h k. absurd h
  switch_one (P ∷ Ps) s =
      then_one (P here) (λ x v. ErrorOr x (IsSwitchMatch x Ps here v) v) (s.0 rows item caught)
      (λ x. error_or_one x (IsSwitchMatch x Ps here) (matched_one x Ps s.1))

  recovered_one : (d : Data) (Ps : List Meaning) → AllSingle g Ps → AtMostOne (IsRecovered d Ps here)
  recovered_one d [] s = equal_one d
  recovered_one d (P ∷ []) s = s.0 rows item caught
  recovered_one d (P ∷ F ∷ Ps) s =
      then_one (P here) (λ x v. IsCaughtBy x F here (IsRecovered x Ps here v) v) (s.0 rows item caught)
      (λ x. caught_or_one x (λ kind cs v. F (catching here kind cs) v) (IsRecovered x Ps here)
      (λ kind cs. s.1.0 rows item (Some (record { kind = kind; message = cs }))) (recovered_one x Ps s.1.1))

  pub coalesced_one : (Ps : List Meaning) → AllSingle g Ps → AtMostOne (IsCoalesced Ps here)
  coalesced_one [] s = equal_one blank
  coalesced_one (P ∷ Ps) s =
      then_one (P here) (λ x v. UnlessBlank x (IsCoalesced Ps here v) v) (s.0 rows item caught)
      (λ x. unless_blank_one x (IsCoalesced Ps here) (coalesced_one Ps s.1))

  pub formed_one : (f : Form) (Ps : List Meaning) → AllSingle g Ps → AtMostOne (IsFormed f Ps here)
  formed_one form.All Ps s = all_one Ps s
  formed_one form.Any Ps s = any_one Ps s
  formed_one form.If Ps s = if_one Ps s
  formed_one form.Switch Ps s = switch_one Ps s
  formed_one form.IfError Ps s = recovered_one blank Ps s
