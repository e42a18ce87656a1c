-- Branches give values of their common type.
use Rattle.std.proofs.Common.{◌≡◌, ℕ, suc, ◌+◌, List, [], ◌∷◌, length, Bool, true, false, Option, refl, subst, arith}
use Rattle.std.specs.Prelude.{nat_eq, ◌%◌, if◌then◌else◌}
use Rattle.std.proofs.lemmas.Bool.{eq-eqb, eqb-true}
use Rattle.fx_types.specs.declared.faults.Fault.{Fault}
use Rattle.fx_types.specs.Types.{Shape}
use Rattle.fx_types.specs.Values.{Data, blank, number, text, boolean, date, rec, tab, fault}
use Rattle.fx_core.specs.Rows.{form_row, takes_at}
use Rattle.fx_core.specs.declared.functions.Form.TheVariants as form
use Rattle.fx_core.specs.declared.rows.Row.{Row}
use Rattle.fx_core.specs.declared.rows.Takes.{Takes}
use Rattle.fx_core.specs.declared.rows.Takes.TheVariants as takes
use Rattle.fx_typing.specs.WellTyped.{Context, Stands, AllStand, AreAllOfShape}
use Rattle.fx_value.specs.Fits.{fits_in}
use Rattle.fx_semantics.specs.Around.{Meaning}
use Rattle.fx_scalar.specs.LazyForms.{equality}
use Rattle.fx_semantics.specs.Forms.{IsIf, IsSwitchMatch, IsSwitch, IsRecovered, IsCaughtBy}
use Rattle.fx_semantics.proofs.Forms.{given_fits, by_condition, error_or, each_take}
use Rattle.fx_semantics.proofs.Parts.{Giving, stands, Suits, Holds, AllPlain}

pub differs : (a b : ℕ) → (a ≡ b → ⊥) → nat_eq a b ≡ false
differs a b n = by (nat_eq a b) refl
  where
    by : (x : Bool) → nat_eq a b ≡ x → x ≡ false
    by true e = absurd (n (eqb-true a b e))
    by false e = refl

abbrev if_row : Row
if_row = form_row form.If

abbrev switch_row : Row
switch_row = form_row form.Switch

-- the last place of an `If` or a `Switch` is a branch
if_last : (n i : ℕ) → suc i ≡ n → takes_at if_row n i ≡ takes.Branch
if_last n i e = rw (eq-eqb (suc i) n e) refl

switch_last : (n i : ℕ) → suc i ≡ n → takes_at switch_row n i ≡ takes.Branch
switch_last n i e = rw (eq-eqb (suc i) n e) refl

abbrev pick : Bool → Takes → Takes → Takes
pick b x y = if b then x else y

-- a branch stands behind each condition of an `If`
pick_same : (b : Bool) (x : Takes) → pick b x x ≡ x
pick_same true x = refl
pick_same false x = refl

pub if_branch : (n i : ℕ) → i % 2 ≡ 0 → takes_at if_row n (suc i) ≡ takes.Branch
if_branch n i e =
    let odd : nat_eq (suc i % 2) 0 ≡ false = differs (suc i % 2) 0 (λ q. omega (arith, e, q)) in
    let first : nat_eq (suc i) 0 ≡ false = differs (suc i) 0 (λ q. omega (arith, q)) in
    rw (odd, first, pick_same (nat_eq (suc i) 1) takes.Branch, pick_same (nat_eq (suc (suc i)) n) takes.Branch) refl

-- and behind each match of a `Switch`
pub switch_branch : (n i : ℕ) → i % 2 ≡ 1 → takes_at switch_row n (suc i) ≡ takes.Branch
switch_branch n i e =
    let even : nat_eq (suc i % 2) 0 ≡ true = eq-eqb (suc i % 2) 0 (omega (arith, e)) in
    let first : nat_eq (suc i) 0 ≡ false = differs (suc i) 0 (λ q. omega (arith, q)) in
    let second : nat_eq (suc i) 1 ≡ false = differs (suc i) 1 (λ q. let z : i ≡ 0 = omega (arith, q) in let w : 0 % 2 ≡ 1 = subst (λ k. k % 2 ≡ 1) z e in omega (arith, w)) in
    rw (even, first, second, pick_same (nat_eq (suc (suc i)) n) takes.Branch) refl

-- a branch has the common type
of_branch : (k : Takes) (first common u : Shape) → k ≡ takes.Branch → Stands k first common u → u ≡ common
of_branch k first common u e h = let P : Takes → Type 0 = λ z. Stands z first common u in subst P e h

held : (g : Giving) (c : Context) (rows : List Data) (item : Option Data) (caught : Option Fault) (P : Meaning) (u t : Shape) (v : Data) →
    Suits g c rows item → Holds g c P u → u ≡ t → P (stands g rows item caught) v → fits_in v t ≡ true
held g c rows item caught P u t v s k e h = let R : Shape → Type 0 = λ z. fits_in v z ≡ true in subst R e (k rows item caught v s h)

pub if_fits : (g : Giving) (c : Context) (rows : List Data) (item : Option Data) (caught : Option Fault) → Suits g c rows item →
    (n : ℕ) (first t : Shape) (Ps : List Meaning) (us : List Shape) (i : ℕ) → AllPlain g c Ps us → i % 2 ≡ 0 → i + length us ≡ n → AllStand if_row n i first t us →
    (v : Data) → IsIf Ps (stands g rows item caught) v → fits_in v t ≡ true
if_fits g c rows item caught s n first t [] us i k e q w v h = given_fits v blank t refl h
if_fits g c rows item caught s n first t (P ∷ []) (u ∷ []) i k e q w v h =
    held g c rows item caught P u t v s k.0 (of_branch (takes_at if_row n i) first t u (if_last n i (omega (arith, q))) w.0) h
if_fits g c rows item caught s n first t (C ∷ P ∷ Ps) (x ∷ u ∷ us) i k e q w v h =
    by_condition h.0 (P (stands g rows item caught) v) (IsIf Ps (stands g rows item caught) v) v t
    (held g c rows item caught P u t v s k.1.0 (of_branch (takes_at if_row n (suc i)) first t u (if_branch n i e) w.1.0))
    (if_fits g c rows item caught s n first t Ps us (suc (suc i)) k.1.1 (omega (arith, e)) (omega (arith, q)) w.1.1 v)
    h.2
if_fits g c rows item caught s n first t (P ∷ Ps) [] i k e q w v h = absurd k
if_fits g c rows item caught s n first t (P ∷ []) (u ∷ x ∷ us) i k e q w v h = absurd k.1
if_fits g c rows item caught s n first t (C ∷ P ∷ Ps) (x ∷ []) i k e q w v h = absurd k.1

pub matched_fits : (g : Giving) (c : Context) (rows : List Data) (item : Option Data) (caught : Option Fault) → Suits g c rows item →
    (n : ℕ) (first t : Shape) (d : Data) (Ps : List Meaning) (us : List Shape) (i : ℕ) → AllPlain g c Ps us → i % 2 ≡ 1 → i + length us ≡ n → AllStand switch_row n i first t us →
    (v : Data) → IsSwitchMatch d Ps (stands g rows item caught) v → fits_in v t ≡ true
matched_fits g c rows item caught s n first t d [] us i k e q w v h = given_fits v blank t refl h
matched_fits g c rows item caught s n first t d (P ∷ []) (u ∷ []) i k e q w v h =
    held g c rows item caught P u t v s k.0 (of_branch (takes_at switch_row n i) first t u (switch_last n i (omega (arith, q))) w.0) h
matched_fits g c rows item caught s n first t d (M ∷ P ∷ Ps) (x ∷ u ∷ us) i k e q w v h =
    by_condition (equality d h.0) (P (stands g rows item caught) v) (IsSwitchMatch d Ps (stands g rows item caught) v) v t
    (held g c rows item caught P u t v s k.1.0 (of_branch (takes_at switch_row n (suc i)) first t u (switch_branch n i e) w.1.0))
    (matched_fits g c rows item caught s n first t d Ps us (suc (suc i)) k.1.1 (omega (arith, e)) (omega (arith, q)) w.1.1 v)
    h.2
matched_fits g c rows item caught s n first t d (P ∷ Ps) [] i k e q w v h = absurd k
matched_fits g c rows item caught s n first t d (P ∷ []) (u ∷ x ∷ us) i k e q w v h = absurd k.1
matched_fits g c rows item caught s n first t d (M ∷ P ∷ Ps) (x ∷ []) i k e q w v h = absurd k.1

pub switch_fits : (g : Giving) (c : Context) (rows : List Data) (item : Option Data) (caught : Option Fault) → Suits g c rows item →
    (n : ℕ) (first t : Shape) (Ps : List Meaning) (us : List Shape) → AllPlain g c Ps us → length us ≡ n → AllStand switch_row n 0 first t us →
    (v : Data) → IsSwitch Ps (stands g rows item caught) v → fits_in v t ≡ true
switch_fits g c rows item caught s n first t [] us k q w v h = absurd h
switch_fits g c rows item caught s n first t (P ∷ Ps) [] k q w v h = absurd k
switch_fits g c rows item caught s n first t (P ∷ Ps) (u ∷ us) k q w v h =
    error_or h.0 (IsSwitchMatch h.0 Ps (stands g rows item caught) v) v t
    (matched_fits g c rows item caught s n first t h.0 Ps us 1 k.1 refl (omega (arith, q)) w.1 v) h.2

-- all parts of an `IfError` have the common type
common_take : (first common u : Shape) (n i : ℕ) → Stands (takes_at (form_row form.IfError) n i) first common u → u ≡ common
common_take first common u n i =
    each_take (λ k. Stands k first common u → u ≡ common) (form_row form.IfError) n i (λ h. h) (λ h. h) (λ h. h) (λ h. h) (λ h. h)

pub error_types : (first common : Shape) (n i : ℕ) (us : List Shape) → AllStand (form_row form.IfError) n i first common us → AreAllOfShape common us
error_types first common n i [] h = tt
error_types first common n i (u ∷ us) h = (common_take first common u n i h.0, error_types first common n (suc i) us h.1)

caught_by : (w : Data) (F : Meaning) (g : Giving) (c : Context) (rows : List Data) (item : Option Data) (caught : Option Fault) (P : Type 0) (v : Data) (t : Shape) →
    Suits g c rows item → Holds g c F t → (P → fits_in v t ≡ true) → IsCaughtBy w F (stands g rows item caught) P v → fits_in v t ≡ true
caught_by (fault x cs) F g c rows item caught P v t s k p h = k rows item _ v s h
caught_by (boolean b) F g c rows item caught P v t s k p h = p h
caught_by blank F g c rows item caught P v t s k p h = p h
caught_by (number z) F g c rows item caught P v t s k p h = p h
caught_by (text cs) F g c rows item caught P v t s k p h = p h
caught_by (date z) F g c rows item caught P v t s k p h = p h
caught_by (rec fs) F g c rows item caught P v t s k p h = p h
caught_by (tab rs) F g c rows item caught P v t s k p h = p h

pub recovered_fits : (g : Giving) (c : Context) (rows : List Data) (item : Option Data) (caught : Option Fault) → Suits g c rows item →
    (t : Shape) (d : Data) (Ps : List Meaning) (us : List Shape) → fits_in d t ≡ true → AllPlain g c Ps us → AreAllOfShape t us →
    (v : Data) → IsRecovered d Ps (stands g rows item caught) v → fits_in v t ≡ true
recovered_fits g c rows item caught s t d [] us f k e v h = given_fits v d t f h
recovered_fits g c rows item caught s t d (P ∷ []) (u ∷ us) f k e v h = held g c rows item caught P u t v s k.0 e.0 h
recovered_fits g c rows item caught s t d (P ∷ F ∷ Ps) (u ∷ w ∷ us) f k e v h =
    let R : Shape → Type 0 = λ z. Holds g c F z in
    caught_by h.0 F g c rows item caught (IsRecovered h.0 Ps (stands g rows item caught) v) v t s (subst R e.1.0 k.1.0)
    (recovered_fits g c rows item caught s t h.0 Ps us (held g c rows item caught P u t h.0 s k.0 e.0 h.1) k.1.1 e.1.1 v)
    h.2
recovered_fits g c rows item caught s t d (P ∷ Ps) [] f k e v h = absurd k
recovered_fits g c rows item caught s t d (P ∷ F ∷ Ps) (u ∷ []) f k e v h = absurd k.1
