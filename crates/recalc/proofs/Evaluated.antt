-- What is known of a keeper after an evaluation over it, by what its environment told.
use Rattle.std.proofs.Common.{◌≡◌, ℕ, Bool, List, Option, None, Some, refl, sym, ap, ◌∙◌, subst}
use Rattle.std.specs.Prelude.{◌≤◌, option_map}
use Rattle.app_semantics.specs.Telling.{told_on}
use Rattle.fx_base.specs.Silence.{MayFallSilent, IsLater, SilenceCause, Marks}
use Rattle.fx_base.specs.Telling.{Stays}
use Rattle.fx_types.specs.Values.{Data}
use Rattle.fx_env.specs.Scopes.{Fixed}
use Rattle.fx_env.specs.Telling.{EnvState, values_told}
use Rattle.fx_core.specs.declared.names.Names.{Names}
use Rattle.fx_core.specs.declared.sources.Source.{Source}
use Rattle.recalc.specs.Asking.{HasRead, keeping}
use Rattle.recalc.specs.Reading.{KeeperState, cell_value, fixed_over, loans_of, told_by, told_over}
use Rattle.row_keeper.specs.Shaped.{Shaped, by}
use Rattle.row_keeper.specs.Tables.{Tables, rows_told}
use Rattle.row_queries.specs.declared.rows.Row.{Row}
use Rattle.session_state.specs.Sessions.{SessionState}
use Rattle.recalc.proofs.Asked.{stays}

-- what an environment of a keeper tells, by the keeper's tables
abbrev Tells : Type 0
Tells = Tables → EnvState KeeperState

-- with all that the keeper tells
abbrev IsWhole : Tells → Type 0
IsWhole f = (t : Tables) → (f t).beside.0 ≡ t

-- and with these as the tables that its transaction began with
abbrev IsBegun : Tells → Option Tables → Type 0
IsBegun f b = (t : Tables) → (f t).beside.1 ≡ b

pub whole : (day : Data) (n : Names) (s : SessionState) (values : List Data) (b : Option Tables) → IsWhole (told_over day n s values b)
whole day n s values b = λ t. refl

-- so what the keeper tells goes as what its environment tells
pub stays_told : (lost : Type 0) (f g : Tells) → IsWhole f → IsWhole g → (x y : Option Tables) → MayFallSilent lost Stays (option_map f x) (option_map g y) → MayFallSilent lost Stays x y
stays_told lost f g p q None None h = refl
stays_told lost f g p q None (Some b) h = absurd cc
stays_told lost f g p q (Some a) None h = h
stays_told lost f g p q (Some a) (Some b) h = sym (q b) ∙ ap (λ (t : EnvState KeeperState). t.beside.0) h ∙ p a

pub falls : (lost : Type 0) (b d : Option Tables) → d ≡ None → lost → MayFallSilent lost Stays b d
falls lost None d e h = e
falls lost (Some p) d e h = subst (λ (z : Option Tables). MayFallSilent lost Stays (Some p) z) (sym e) h

began_stays : (lost : Type 0) (f g : Tells) (b d : Option Tables) → IsBegun f b → IsBegun g d → (x y : Option Tables) → (x ≡ None → b ≡ None) → (y ≡ None → d ≡ None) →
    MayFallSilent lost Stays (option_map f x) (option_map g y) → MayFallSilent lost Stays b d
began_stays lost f g b d p q None None before after h = subst (λ (z : Option Tables). MayFallSilent lost Stays z d) (sym (before refl)) (after refl)
began_stays lost f g b d p q None (Some c) before after h = absurd cc
began_stays lost f g b d p q (Some a) None before after h = falls lost b d (after refl) h
began_stays lost f g b d p q (Some a) (Some c) before after h =
    subst (λ (z : Option Tables). MayFallSilent lost Stays b z) (sym (sym (q c) ∙ ap (λ (t : EnvState KeeperState). t.beside.1) h ∙ p a)) (stays lost b)

-- and the values are those of before
pub same_values : (lost : Type 0) (f g : Tells) → IsWhole f → IsWhole g → (x y : Option Tables) → MayFallSilent lost Stays (option_map f x) (option_map g y) →
    values_told (option_map g y) ≡ values_told (option_map f y)
same_values lost f g p q x None h = refl
same_values lost f g p q None (Some b) h = absurd cc
same_values lost f g p q (Some a) (Some b) h =
    let same : b ≡ a = sym (q b) ∙ ap (λ (t : EnvState KeeperState). t.beside.0) h ∙ p a in
    ap (λ (t : EnvState KeeperState). Some t.values) h ∙ ap (λ (t : Tables). Some (f t).values) (sym same)

-- over the rows of tables
pub values_over : (day : Data) (n : Names) (s : SessionState) (values : List Data) (b y : Option Tables) →
    values_told (option_map (told_over day n s values b) y) ≡ option_map (λ (rows : List (List Row)). told_on day n s (Some rows) (cell_value values)) (rows_told y)
values_over day n s values b None = refl
values_over day n s values b (Some t) = refl

-- the loans that are fixed
same_loan : (a b : ℕ) (x y : Option ℕ) → loans_of a x ≡ loans_of b y → x ≡ y
same_loan a b x y e = cc

-- the keeper is as it was, but that it may have fallen silent
pub has_read : (n m : Names) (reads rs : List Source) (day d : Data) (s u : SessionState) (values vs : List Data) (limit l : ℕ) (name new : ℕ) (x y b then : Option Tables) (shaped was : Shaped) (mode other : Bool)
    (before now : Marks) (met seen : ℕ) (loan lent : Option ℕ) → shaped ≡ by n.schema → was ≡ by m.schema →
    fixed_over m rs (told_by d m u vs) l (loans_of new lent) other ≡ fixed_over n reads (told_by day n s values) limit (loans_of name loan) mode →
    MayFallSilent (SilenceCause before now) Stays (option_map (told_over day n s values b) x) (option_map (told_over d m u vs then) y) → IsLater before now → met ≤ seen → (x ≡ None → b ≡ None) → (y ≡ None → then ≡ None) →
    HasRead (keeping x b shaped mode before met loan) (keeping y then was other now seen lent)
has_read n m reads rs day d s u values vs limit l name new x y b then shaped was mode other before now met seen loan lent h k fixed told later more before_is after_is = record {
  told = stays_told (SilenceCause before now) (told_over day n s values b) (told_over d m u vs then) (whole day n s values b) (whole d m u vs then) x y told;
  began = began_stays (SilenceCause before now) (told_over day n s values b) (told_over d m u vs then) b then (λ t. refl) (λ t. refl) x y before_is after_is told;
  shaped = k ∙ ap (λ (f : Fixed). by f.schema) fixed ∙ sym h;
  mode = ap (λ (f : Fixed). f.in_transaction) fixed;
  later = later;
  visited = more;
  loan = same_loan new name lent loan (ap (λ (f : Fixed). f.loans) fixed);
}

-- what holds of a keeper at the end of a loan holds of it afterwards
pub carried : {A : Type 0} (P : A → Type 0) (now last : A) → last ≡ now → P now → P last
carried P now last e h = subst P (sym e) h
