-- A formula without a call that gives types to names gives none.
use Rattle.std.proofs.Common.{◌≡◌, ◌||◌, ◌++◌, ◌≤◌, ℕ, zero, suc, Bool, true, false, List, [], ◌∷◌, length, nat_lt, Option, Some, refl, ap, sym, ◌∙◌, arith, if◌then◌else◌}
use Rattle.std.proofs.lemmas.Bool.{or_from, or_parts}
use Rattle.fx_core.specs.Rows.{row_of, form_row, takes_at}
use Rattle.fx_core.specs.Tree.{Tree, node, Forest, none, more, Head}
use Rattle.fx_core.specs.Tree as tree
use Rattle.fx_core.specs.declared.functions.Acting.{Acting}
use Rattle.fx_core.specs.declared.functions.Acting.TheVariants as acts
use Rattle.fx_core.specs.declared.names.Names.{Names}
use Rattle.fx_core.specs.declared.rows.Takes.{Takes}
use Rattle.fx_core.specs.declared.rows.Takes.TheVariants as takes
use Rattle.fx_core.specs.declared.signatures.SigShape.{SigShape}
use Rattle.fx_core.specs.declared.signatures.SigShape.TheVariants as sig
use Rattle.fx_typing.specs.Meaning.{Place}
use Rattle.fx_typing.specs.Parts.{Grant, nothing, a_target, aliased_target, on_screen, JudgedPart, Setting, may_act, part_count}
use Rattle.fx_typing.specs.Plans.{ArgumentRule, argument_rule, alias_grant, called_as, field_grant, first_then, grant_of, if_acting, pick, plan_act, plan_at, plan_by_row, plan_call, plan_with, setting_at}
use Rattle.fx_typing.specs.Rounds.{GivenType, given_in, given_in_parts, node_gives, call_gives, record_gives, or_unknown, seen_parts}
use Rattle.fx_typing.specs.Typing.{judge}
use Rattle.fx_typing.specs.WellTyped.{PartScope, plain, inside, bound}
use Rattle.fx_resolve.specs.PlanView.{tree_head}
use Rattle.fx_infer.specs.Below.{forest_from, forest_of}
use Rattle.fx_infer.proofs.Places.{none_from}
use Rattle.fx_infer.specs.Assigning.{is_giving, is_giving_call, has_giving_call, have_giving_call, is_for_variables, may_give}

-- ---- the parts of a node that doesn't give are no records of variables

acting_apart : (b : Bool) → is_for_variables (if_acting b) ≡ false
acting_apart true = refl
acting_apart false = refl

place_apart : (b : Bool) (k : Takes) → is_for_variables (grant_of b k) ≡ false
place_apart b takes.RowFormula = acting_apart b
place_apart b takes.Branch = acting_apart b
place_apart b takes.Fallback = acting_apart b
place_apart b k = refl

first_apart : (g : Grant) (s : PartScope) (h : Grant) (i : ℕ) → is_for_variables g ≡ false → is_for_variables h ≡ false → is_for_variables (first_then g s h i).grant ≡ false
first_apart g s h zero a b = a
first_apart g s h (suc i) a b = b

act_apart : (b : Bool) (a : Acting) (i : ℕ) → is_giving (Some (sig.Act a)) ≡ false → is_for_variables (plan_act b a i).grant ≡ false
act_apart b acts.Set i h = absurd cc
act_apart b acts.UpdateContext i h = absurd cc
act_apart b acts.Collect i h = absurd cc
act_apart b acts.ClearCollect i h = absurd cc
act_apart b acts.RemoveIf i h = first_apart aliased_target inside nothing i refl refl
act_apart b acts.UpdateIf i h = first_apart aliased_target inside nothing i refl refl
act_apart b acts.Notify i h = refl
act_apart b a i h = first_apart a_target plain nothing i refl refl

either_apart : (c : Bool) (x y : ArgumentRule) → is_for_variables x.grant ≡ false → is_for_variables y.grant ≡ false → is_for_variables (if c then x else y).grant ≡ false
either_apart true x y a b = a
either_apart false x y a b = b

with_apart : (b : Bool) (i : ℕ) → is_for_variables (plan_with b i).grant ≡ false
with_apart b zero = refl
with_apart b (suc i) = acting_apart b

call_apart : (b : Bool) (s : Option SigShape) (n : ℕ) (done : List JudgedPart) → is_giving s ≡ false → is_for_variables (plan_call b s n done).grant ≡ false
call_apart b (Some (sig.One f)) n done h = place_apart b (takes_at (row_of f) n (length done))
call_apart b (Some (sig.Either f g)) n [] h = refl
call_apart b (Some (sig.Either f g)) n (q ∷ qs) h = place_apart b (takes_at (row_of (pick f g (q ∷ qs))) n (length (q ∷ qs)))
call_apart b (Some (sig.Literal f)) n done h =
    either_apart (nat_lt (length done) (row_of f).most) (plan_by_row b (row_of f) n (length done)) (argument_rule plain nothing) (place_apart b (takes_at (row_of f) n (length done))) refl
call_apart b (Some (sig.Form f)) n done h = place_apart b (takes_at (form_row f) n (length done))
call_apart b (Some sig.With) n done h = with_apart b (length done)
call_apart b (Some sig.Defaults) n done h = first_apart a_target plain nothing (length done) refl refl
call_apart b (Some (sig.Act a)) n done h = act_apart b a (length done) h
call_apart b s n done h = refl

alias_apart : (g : Grant) → is_for_variables (alias_grant g) ≡ false
alias_apart aliased_target = refl
alias_apart g = refl

field_apart : (g : Grant) → is_for_variables (field_grant g) ≡ false
field_apart (on_screen b) = acting_apart b
field_apart g = refl

part_apart : (m : Names) (g : Grant) (e : Head) (n : ℕ) (done : List JudgedPart) → is_giving_call m e ≡ false → is_for_variables (plan_at m g e n done).grant ≡ false
part_apart m g (tree.call x) n done h = call_apart (may_act g) (called_as m x) n done h
part_apart m g tree.chain n done h = acting_apart (may_act g)
part_apart m g (tree.alias x) n done h = alias_apart g
part_apart m g (tree.rec ns ps) n done h = field_apart g
part_apart m g e n done h = refl

-- ---- such a node gives nothing itself

call_gives_none : (s : Option SigShape) (qs : List JudgedPart) → is_giving s ≡ false → call_gives s qs ≡ []
call_gives_none (Some (sig.Act acts.Set)) qs h = absurd cc
call_gives_none (Some (sig.Act acts.Collect)) qs h = absurd cc
call_gives_none (Some (sig.Act acts.ClearCollect)) qs h = absurd cc
call_gives_none s qs h = refl

record_gives_none : (s : Option ℕ) (g : Grant) (ns : List (List ℕ)) (qs : List JudgedPart) → is_for_variables g ≡ false → record_gives s g ns qs ≡ []
record_gives_none s (on_screen b) ns qs h = absurd cc
record_gives_none s g ns qs h = refl

node_gives_none : (p : Place) (s : Setting) (e : Head) (qs : List JudgedPart) → is_giving_call p.names e ≡ false → is_for_variables s.grant ≡ false → node_gives p s e qs ≡ []
node_gives_none p s (tree.call x) qs a b = call_gives_none (called_as p.names x) qs a
node_gives_none p s (tree.rec ns ps) qs a b = record_gives_none p.screen s.grant ns qs b
node_gives_none p s e qs a b = refl

two_empty : (xs ys : List GivenType) → xs ≡ [] → ys ≡ [] → xs ++ ys ≡ []
two_empty xs ys a b = ap (λ zs. zs ++ ys) a ∙ b

-- ---- nor does one of its parts

mutual
  pub gives_none : (p : Place) (s : Setting) (e : Tree) → may_give p.names s.grant e ≡ false → given_in p s e ≡ []
  gives_none p s (node at e ts) h =
      let whole = or_parts (is_for_variables s.grant) (is_giving_call p.names e || have_giving_call p.names ts) h in
      let node_and_parts = or_parts (is_giving_call p.names e) (have_giving_call p.names ts) whole.1 in
      two_empty (node_gives p s e (seen_parts p s e (part_count ts) [] ts)) (given_in_parts p s e (part_count ts) [] ts)
      (node_gives_none p s e (seen_parts p s e (part_count ts) [] ts) node_and_parts.0 whole.0)
      (parts_give_none p s e (part_count ts) [] ts node_and_parts.0 node_and_parts.1)

  parts_give_none : (p : Place) (s : Setting) (e : Head) (n : ℕ) (done : List JudgedPart) (ts : Forest) → is_giving_call p.names e ≡ false → have_giving_call p.names ts ≡ false →
      given_in_parts p s e n done ts ≡ []
  parts_give_none p s e n done none a b = refl
  parts_give_none p s e n done (more k ks) a b =
      let parts = or_parts (has_giving_call p.names k) (have_giving_call p.names ks) b in
      let t = setting_at p.names s e n done in
      let known = done ++ or_unknown (judge p t k) ∷ [] in
      two_empty (given_in p t k) (given_in_parts p s e n known ks)
      (gives_none p t k (ap (λ c. c || has_giving_call p.names k) (part_apart p.names s.grant e n done a) ∙ parts.0))
      (parts_give_none p s e n known ks a parts.1)

-- ---- a tree none of whose nodes is such a call

none_behind : (ts : Forest) (i : ℕ) → part_count ts ≤ i → forest_from i ts ≡ none
none_behind none i h = none_from i
none_behind (more k ks) zero h = absurd (omega arith)
none_behind (more k ks) (suc i) h = none_behind ks i (omega arith)

pub has_none : (n : Names) (e : Tree) (i : ℕ) → part_count (forest_of e) ≤ i → is_giving_call n (tree_head e) ≡ false → have_giving_call n (forest_from i (forest_of e)) ≡ have_giving_call n (forest_of e) → has_giving_call n e ≡ false
has_none n (node at h ts) i enough own rest = or_from (is_giving_call n h) (have_giving_call n ts) own (sym rest ∙ ap (have_giving_call n) (none_behind ts i enough))
