-- The law of acting calls: what is admitted of well typed parts is well typed.
use Rattle.std.proofs.Common.{◌≡◌, ℕ, zero, suc, ◌++◌, List, [], ◌∷◌, Bool, true, false, ◌&&◌, not, nat_eq, length, Option, Some, Result, Ok, Err, refl, ap, subst, ◌∙◌, if◌then◌else◌}
use Rattle.std.specs.Prelude.{is_some}
use Rattle.std.proofs.Math.Bool.{or-false}
use Rattle.std.proofs.lemmas.List.{map_push}
use Rattle.fx_types.specs.Types.{Shape}
use Rattle.fx_core.specs.declared.deeds.Deed.TheVariants as deed
use Rattle.fx_core.specs.declared.functions.Acting.{Acting}
use Rattle.fx_core.specs.declared.functions.Acting.TheVariants as acts
use Rattle.fx_core.specs.declared.signatures.SigShape.TheVariants as sig
use Rattle.fx_core.specs.Tree as tree
use Rattle.fx_core.specs.Term.{Term}
use Rattle.fx_typing.specs.Meaning.{Place, Scope}
use Rattle.fx_typing.specs.WellTyped.{Context, plain, inside}
use Rattle.fx_typing.proofs.Rules.{Typed}
use Rattle.fx_typing.specs.Breaks.{could_act, gives_variables, large_given}
use Rattle.fx_typing.specs.Calls.{called_by, acted_by, acted_on_screen}
use Rattle.fx_typing.specs.Deeds.{by_first_name, set_of, collect_of, clear_of, patch_of, remove_of, remove_if, update_if, navigate_of, notify_of, reset_of, acted, nothing_done, until_settled}
use Rattle.fx_typing.specs.Parts.{Grant, nothing, a_target, on_screen, JudgedPart, target, Setting, may_act, values, unless_rule}
use Rattle.fx_typing.specs.Plans.{ArgumentRule, if_acting, first_then, plan_act, plan_call, called_as, plan_at, first_row, setting_by}
use Rattle.fx_typing.specs.Targets.{target_columns}
use Rattle.fx_typing.specs.Typing.{context_of}
use Rattle.fx_typing.proofs.Changes.{patch_typed, remove_typed, remove_if_typed, update_if_typed, navigate_typed, notify_typed, reset_typed}
use Rattle.fx_typing.proofs.Deeds.{Of, nothing_typed, by_name_ok, set_typed, update_typed, collects, clears_and_collects, collect_typed, clear_typed}
use Rattle.fx_typing.proofs.Filters.{in_row}
use Rattle.fx_typing.proofs.Frame.{PartTyped, PartsTypedAt}
use Rattle.fx_typing.proofs.Built.{within_limit}
use Rattle.fx_typing.proofs.Operators.{then_ok}
use Rattle.fx_typing.proofs.Steps.{place_at, EachTyped, each_plain, values_typed}
use Rattle.fx_typing.proofs.RelatedSteps.{ok_is}

-- where the parts of an acting call stand
abbrev PlainlyPlaced : Acting → Type 0
PlainlyPlaced a = (b : Bool) (i : ℕ) → (plan_act b a i).standing ≡ plain

first_plain : (g h : Grant) (i : ℕ) → (first_then g plain h i).standing ≡ plain
first_plain g h zero = refl
first_plain g h (suc i) = refl

placed_by : (p : Place) (s : Setting) (x : List ℕ) (a : Acting) (n : ℕ) (d : List JudgedPart) → called_as p.names x ≡ Some (sig.Act a) →
    plan_at p.names s.grant (tree.call x) n d ≡ plan_act (may_act s.grant) a (length d)
placed_by p s x a n d e = ap (λ o. plan_call (may_act s.grant) o n d) e

each_in_place : (p : Place) (s : Setting) (x : List ℕ) (a : Acting) (n : ℕ) (qs : List JudgedPart) → PlainlyPlaced a → called_as p.names x ≡ Some (sig.Act a) →
    PartsTypedAt p s (tree.call x) n [] qs → EachTyped (context_of p s) qs
each_in_place p s x a n qs placed e t =
    each_plain p s (tree.call x) n [] qs (λ d. ap (λ (l : ArgumentRule). l.standing) (placed_by p s x a n d e) ∙ placed (may_act s.grant) (length d)) t

-- the conditions and changes of `RemoveIf` and `UpdateIf`
abbrev InsidePlaced : Acting → Type 0
InsidePlaced a = (b : Bool) (i : ℕ) → (plan_act b a (suc i)).standing ≡ inside

inside_place : (p : Place) (s : Setting) (l : ArgumentRule) (a : Option (List ℕ)) (y : List ℕ) (done : List JudgedPart) → l.standing ≡ inside →
    context_of p (setting_by p.names s l (target a y ∷ done)) ≡ in_row (context_of p s) (target_columns p.names y)
inside_place p s l a y done e =
    let first : place_at p s l.standing (target a y ∷ done) ≡ place_at p s inside (target a y ∷ done) = ap (λ st. place_at p s st (target a y ∷ done)) e in
    let rows = map_push (λ (r : Scope). r.row_type) s.scopes (first_row p.names (target a y)) in
    first ∙ (λ i. record (context_of p s) { rows = rows i; caught = or-false s.catches i })

each_inside : (p : Place) (s : Setting) (x : List ℕ) (k : Acting) (n : ℕ) (a : Option (List ℕ)) (y : List ℕ) (done qs : List JudgedPart) → InsidePlaced k →
    called_as p.names x ≡ Some (sig.Act k) → PartsTypedAt p s (tree.call x) n (target a y ∷ done) qs → EachTyped (in_row (context_of p s) (target_columns p.names y)) qs
each_inside p s x k n a y done [] placed e t = tt
each_inside p s x k n a y done (q ∷ qs) placed e t = (
  subst (λ c. PartTyped c q) (
      inside_place p s (plan_at p.names s.grant (tree.call x) n (target a y ∷ done)) a y done
      (ap (λ (l : ArgumentRule). l.standing) (placed_by p s x k n (target a y ∷ done) e) ∙ placed (may_act s.grant) (length done))
      ) t.0,
  each_inside p s x k n a y (done ++ q ∷ []) qs placed e t.1,
)

-- a call with the name of what changes at its first place
by_name_typed : (c : Context) (qs : List JudgedPart) (go : List ℕ → List JudgedPart → Result (Term × Shape) ℕ) (y : Term × Shape) → EachTyped c qs →
    ((x : List ℕ) (more : List JudgedPart) → EachTyped c more → go x more ≡ Ok y → Typed c y) → by_first_name qs go ≡ Ok y → Typed c y
by_name_typed c qs go y h typed e =
    let b = by_name_ok qs go y e in
    typed b.0 b.1 (subst (EachTyped c) b.2 h).1 b.3

-- what is done with parts that are well typed where they stand
module _ (p : Place) (s : Setting) (x : List ℕ) (qs : List JudgedPart) (y : Term × Shape) where
  known : Of p.names (context_of p s)
  known r = refl

  abbrev Acts : Acting → Type 0
  Acts a = called_as p.names x ≡ Some (sig.Act a) → PartsTypedAt p s (tree.call x) (length qs) [] qs → acted p.names p.screen a qs ≡ Ok y → Typed (context_of p s) y

  plainly_acts : (a : Acting) → PlainlyPlaced a → (EachTyped (context_of p s) qs → acted p.names p.screen a qs ≡ Ok y → Typed (context_of p s) y) → Acts a
  plainly_acts a placed typed e t m = typed (each_in_place p s x a (length qs) qs placed e t) m

  remove_if_acts : (rs : List JudgedPart) → called_as p.names x ≡ Some (sig.Act acts.RemoveIf) → PartsTypedAt p s (tree.call x) (length qs) [] rs →
      remove_if p.names rs ≡ Ok y → Typed (context_of p s) y
  remove_if_acts (target a l ∷ rs) e t m =
      remove_if_typed p.names (context_of p s) a l rs y known (each_inside p s x acts.RemoveIf (length qs) a l [] rs (λ b i. refl) e t.1) m
  remove_if_acts rs e t m = absurd cc

  update_if_acts : (rs : List JudgedPart) → called_as p.names x ≡ Some (sig.Act acts.UpdateIf) → PartsTypedAt p s (tree.call x) (length qs) [] rs →
      update_if p.names rs ≡ Ok y → Typed (context_of p s) y
  update_if_acts (target a l ∷ q ∷ rs) e t m =
      update_if_typed p.names (context_of p s) a l q rs y known (each_inside p s x acts.UpdateIf (length qs) a l [] (q ∷ rs) (λ b i. refl) e t.1) m
  update_if_acts rs e t m = absurd cc

  acts_typed : (a : Acting) → Acts a
  acts_typed acts.Set =
      plainly_acts acts.Set (λ b i. first_plain a_target (if_acting b) i)
      (λ h m. by_name_typed (context_of p s) qs (set_of p.names) y h (λ l rs k i. set_typed p.names (context_of p s) l rs y known k i) m)
  acts_typed acts.UpdateContext =
      plainly_acts acts.UpdateContext (λ b i. first_plain (on_screen b) nothing i) (λ h m. update_typed p.names (context_of p s) p.screen qs y known h m)
  acts_typed acts.Collect =
      plainly_acts acts.Collect (λ b i. first_plain a_target (if_acting b) i)
      (λ h m. by_name_typed (context_of p s) qs (collect_of deed.Collect p.names) y h (λ l rs k i. collect_typed deed.Collect collects p.names (context_of p s) l rs y known k i) m)
  acts_typed acts.Clear =
      plainly_acts acts.Clear (λ b i. first_plain a_target nothing i)
      (λ h m. by_name_typed (context_of p s) qs (clear_of p.names) y h (λ l rs k i. clear_typed p.names (context_of p s) l rs y known i) m)
  acts_typed acts.ClearCollect =
      plainly_acts acts.ClearCollect (λ b i. first_plain a_target nothing i)
      (λ h m. by_name_typed (context_of p s) qs (collect_of deed.ClearCollect p.names) y h
      (λ l rs k i. collect_typed deed.ClearCollect clears_and_collects p.names (context_of p s) l rs y known k i) m)
  acts_typed acts.Patch =
      plainly_acts acts.Patch (λ b i. first_plain a_target nothing i)
      (λ h m. by_name_typed (context_of p s) qs (patch_of p.names) y h (λ l rs k i. patch_typed p.names (context_of p s) l rs y known k i) m)
  acts_typed acts.Remove =
      plainly_acts acts.Remove (λ b i. first_plain a_target nothing i)
      (λ h m. by_name_typed (context_of p s) qs (remove_of p.names) y h (λ l rs k i. remove_typed p.names (context_of p s) l rs y known k i) m)
  acts_typed acts.RemoveIf = remove_if_acts qs
  acts_typed acts.UpdateIf = update_if_acts qs
  acts_typed acts.Navigate =
      plainly_acts acts.Navigate (λ b i. first_plain a_target nothing i)
      (λ h m. by_name_typed (context_of p s) qs (navigate_of p.names) y h (λ l rs k i. navigate_typed p.names (context_of p s) l rs y refl i) m)
  acts_typed acts.Notify =
      plainly_acts acts.Notify (λ b i. refl)
      (λ h m. (let a = then_ok (values qs) notify_of y m in notify_typed (context_of p s) a.0 y (values_typed (context_of p s) qs a.0 a.1 h) a.2))
  acts_typed acts.Reset =
      plainly_acts acts.Reset (λ b i. first_plain a_target nothing i)
      (λ h m. by_name_typed (context_of p s) qs (reset_of p.names) y h (λ l rs k i. reset_typed p.names (context_of p s) l rs y known i) m)

-- what stands for a value of a wrong type until the types are settled
settled_typed : (c : Context) (b : Bool) (r : Result (Term × Shape) ℕ) (y : Term × Shape) → (r ≡ Ok y → Typed c y) → until_settled b r ≡ Ok y → Typed c y
settled_typed c b (Ok x) y typed e = typed e
settled_typed c b (Err n) y typed e = by_rule (not b && nat_eq n 11) e
  where
    by_rule : (t : Bool) → (if t then Ok nothing_done else Err n) ≡ Ok y → Typed c y
    by_rule true i = subst (Typed c) (ok_is _ y i) (nothing_typed c)
    by_rule false i = absurd cc

-- THE law of acting calls
pub acting_typed : (p : Place) (s : Setting) (x : List ℕ) (qs : List JudgedPart) (a : Acting) (y : Term × Shape) → PartsTypedAt p s (tree.call x) (length qs) [] qs →
    called_as p.names x ≡ Some (sig.Act a) → called_by p s (sig.Act a) qs ≡ Ok y → Typed (context_of p s) y
acting_typed p s x qs a y t e m =
    let r = acted_by p a qs in
    let able = within_limit (not (may_act s.grant)) 9 (unless_rule (not (could_act a qs)) 6 r) y m in
    let known = within_limit (not (could_act a qs)) 6 r y able in
    let small = within_limit (is_some (large_given p.names p.screen a qs) && p.settled) 13 (acted_on_screen p a qs) y known in
    let done = within_limit (not (gives_variables p.names p.screen a qs)) 15 (until_settled p.settled (acted p.names p.screen a qs)) y small in
    settled_typed (context_of p s) p.settled (acted p.names p.screen a qs) y (acts_typed p s x qs y a e t) done
