-- The forms give values that fit.
use Rattle.std.proofs.Common.{◌≡◌, ℕ, suc, List, [], ◌∷◌, ◌++◌, length, Bool, true, false, Option, refl, sym, subst}
use Rattle.fx_types.specs.declared.faults.Fault.{Fault}
use Rattle.fx_types.specs.Types.{Shape, booleans}
use Rattle.fx_types.specs.Values.{Data, blank, number, text, boolean, date, rec, tab, fault}
use Rattle.fx_core.specs.Rows.{form_row, takes_at, inner_at, ended_at}
use Rattle.fx_core.specs.declared.functions.Form.{Form}
use Rattle.fx_core.specs.declared.functions.Form.TheVariants as form
use Rattle.fx_core.specs.declared.rows.Ending.{Ending}
use Rattle.fx_core.specs.declared.rows.Ending.TheVariants as ending
use Rattle.fx_core.specs.declared.rows.Row.{Row}
use Rattle.fx_core.specs.declared.rows.Takes.{Takes}
use Rattle.fx_core.specs.declared.rows.Takes.TheVariants as takes
use Rattle.fx_core.specs.Term.{Top, form}
use Rattle.fx_typing.specs.WellTyped.{Context, PartScope, plain, catching, inside, bound, standing_at, standing_of, context_for, AreAllOfShape}
use Rattle.std.specs.Prelude.{nat_eq, ◌%◌, if◌then◌else◌}
use Rattle.fx_value.specs.Fits.{fits_in}
use Rattle.fx_scalar.specs.LazyForms.{ByCondition, ErrorOr, UnlessBlank}
use Rattle.fx_semantics.specs.Around.{Around, Meaning}
use Rattle.fx_semantics.specs.Forms.{IsAll, IsAny, IsCoalesced}
use Rattle.fx_semantics.proofs.Parts.{Giving, stands, Suits, Holds, AllHold, AllPlain, catching_suits}

-- a value that is a given one
pub given_fits : (v w : Data) (t : Shape) → fits_in w t ≡ true → v ≡ w → fits_in v t ≡ true
given_fits v w t f e = let P : Data → Type 0 = λ z. fits_in z t ≡ true in subst P (sym e) f

-- what follows by a condition
pub by_condition : (w : Data) (P Q : Type 0) (v : Data) (t : Shape) → (P → fits_in v t ≡ true) → (Q → fits_in v t ≡ true) → ByCondition w P Q v → fits_in v t ≡ true
by_condition (fault k cs) P Q v t p q h = given_fits v (fault k cs) t refl h
by_condition (boolean true) P Q v t p q h = p h
by_condition (boolean false) P Q v t p q h = q h
by_condition blank P Q v t p q h = q h
by_condition (number z) P Q v t p q h = q h
by_condition (text cs) P Q v t p q h = q h
by_condition (date z) P Q v t p q h = q h
by_condition (rec fs) P Q v t p q h = q h
by_condition (tab rs) P Q v t p q h = q h

pub error_or : (w : Data) (P : Type 0) (v : Data) (t : Shape) → (P → fits_in v t ≡ true) → ErrorOr w P v → fits_in v t ≡ true
error_or (fault k cs) P v t p h = given_fits v (fault k cs) t refl h
error_or (boolean b) P v t p h = p h
error_or blank P v t p h = p h
error_or (number z) P v t p h = p h
error_or (text cs) P v t p h = p h
error_or (date z) P v t p h = p h
error_or (rec fs) P v t p h = p h
error_or (tab rs) P v t p h = p h

-- And, Or
pub all_fits : (Ps : List Meaning) (a : Around) (v : Data) → IsAll Ps a v → fits_in v booleans ≡ true
all_fits [] a v h = given_fits v (boolean true) booleans refl h
all_fits (P ∷ Ps) a v h =
    by_condition h.0 (IsAll Ps a v) (v ≡ boolean false) v booleans (all_fits Ps a v) (given_fits v (boolean false) booleans refl) h.2

pub any_fits : (Ps : List Meaning) (a : Around) (v : Data) → IsAny Ps a v → fits_in v booleans ≡ true
any_fits [] a v h = given_fits v (boolean false) booleans refl h
any_fits (P ∷ Ps) a v h =
    by_condition h.0 (v ≡ boolean true) (IsAny Ps a v) v booleans (given_fits v (boolean true) booleans refl) (any_fits Ps a v) h.2

-- Coalesce
pub unless_blank : (w : Data) (P : Type 0) (v : Data) (t : Shape) → fits_in w t ≡ true → (P → fits_in v t ≡ true) → UnlessBlank w P v → fits_in v t ≡ true
unless_blank blank P v t f p h = p h
unless_blank (text []) P v t f p h = p h
unless_blank (text (c ∷ cs)) P v t f p h = given_fits v (text (c ∷ cs)) t f h
unless_blank (fault k cs) P v t f p h = given_fits v (fault k cs) t f h
unless_blank (boolean b) P v t f p h = given_fits v (boolean b) t f h
unless_blank (number z) P v t f p h = given_fits v (number z) t f h
unless_blank (date z) P v t f p h = given_fits v (date z) t f h
unless_blank (rec fs) P v t f p h = given_fits v (rec fs) t f h
unless_blank (tab rs) P v t f p h = given_fits v (tab rs) t f h

pub coalesced_fits : (g : Giving) (c : Context) (rows : List Data) (item : Option Data) (caught : Option Fault) → Suits g c rows item →
    (Ps : List Meaning) (us : List Shape) (t : Shape) → AllPlain g c Ps us → AreAllOfShape t us →
    (v : Data) → IsCoalesced Ps (stands g rows item caught) v → fits_in v t ≡ true
coalesced_fits g c rows item caught s [] us t k e v h = given_fits v blank t refl h
coalesced_fits g c rows item caught s (P ∷ Ps) [] t k e v h = absurd k
coalesced_fits g c rows item caught s (P ∷ Ps) (u ∷ us) t k e v h =
    let R : Shape → Type 0 = λ z. fits_in h.0 z ≡ true in
    unless_blank h.0 (IsCoalesced Ps (stands g rows item caught) v) v t (subst R e.0 (k.0 rows item caught h.0 s h.1))
    (coalesced_fits g c rows item caught s Ps us t k.1 e.1 v) h.2

-- ---- places

-- what holds of whatever may stand at a place holds of what stands there
pub chosen_take : (Q : Takes → Type 0) (b : Bool) (x y : Takes) → Q x → Q y → Q (if b then x else y)
chosen_take Q true x y p q = p
chosen_take Q false x y p q = q

pub inner_take : (Q : Takes → Type 0) (r : Row) (i : ℕ) → Q r.first → Q r.second → Q r.third → Q r.fourth → Q (inner_at r i)
inner_take Q r i a b c d =
    chosen_take Q (nat_eq i 0) r.first (if nat_eq i 1 then r.second else (if nat_eq (i % 2) 0 then r.third else r.fourth)) a
    (chosen_take Q (nat_eq i 1) r.second (if nat_eq (i % 2) 0 then r.third else r.fourth) b
    (chosen_take Q (nat_eq (i % 2) 0) r.third r.fourth c d))

pub each_take : (Q : Takes → Type 0) (r : Row) (n i : ℕ) → Q takes.Branch → Q r.first → Q r.second → Q r.third → Q r.fourth → Q (takes_at r n i)
each_take Q r n i e a b c d = by r.ending
  where
    by : (x : Ending) → Q (ended_at x r n i)
    by ending.Branch = chosen_take Q (nat_eq (suc i) n) takes.Branch (inner_at r i) e (inner_take Q r i a b c d)
    by ending.Open = inner_take Q r i a b c d
    by ending.Whole = inner_take Q r i a b c d

-- a part that stands where the whole stands, also where an error is caught
abbrev pub IsQuiet : PartScope → Type 0
IsQuiet plain = Unit {0}
IsQuiet catching = Unit {0}
IsQuiet s = ⊥

quiet_holds : (g : Giving) (c : Context) (s : PartScope) (done : List Shape) (P : Meaning) (u : Shape) → IsQuiet s → Holds g (context_for s c done) P u → Holds g c P u
quiet_holds g c plain done P u q h = h
quiet_holds g c catching done P u q h = λ rows item caught v s p. h rows item caught v (catching_suits g c rows item s) p
quiet_holds g c inside done P u q h = absurd q
quiet_holds g c bound done P u q h = absurd q

pub all_quiet : (g : Giving) (c : Context) (h : Top) (n : ℕ) → ((i : ℕ) → IsQuiet (standing_at h n i)) →
    (done : List Shape) (Ps : List Meaning) (us : List Shape) → AllHold g c h n done Ps us → AllPlain g c Ps us
all_quiet g c h n p done [] [] k = tt
all_quiet g c h n p done (P ∷ Ps) (u ∷ us) k =
    (quiet_holds g c (standing_at h n (length done)) done P u (p (length done)) k.0, all_quiet g c h n p (done ++ u ∷ []) Ps us k.1)
all_quiet g c h n p done [] (u ∷ us) k = absurd k
all_quiet g c h n p done (P ∷ Ps) [] k = absurd k

abbrev pub IsQuietTake : Takes → Type 0
IsQuietTake k = IsQuiet (standing_of k)

pub form_quiet : (f : Form) (n i : ℕ) → IsQuiet (standing_at (form f) n i)
form_quiet form.All n i = each_take IsQuietTake (form_row form.All) n i tt tt tt tt tt
form_quiet form.Any n i = each_take IsQuietTake (form_row form.Any) n i tt tt tt tt tt
form_quiet form.If n i = each_take IsQuietTake (form_row form.If) n i tt tt tt tt tt
form_quiet form.Switch n i = each_take IsQuietTake (form_row form.Switch) n i tt tt tt tt tt
form_quiet form.IfError n i = each_take IsQuietTake (form_row form.IfError) n i tt tt tt tt tt
