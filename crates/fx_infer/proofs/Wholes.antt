-- Whole formulas: what is told of them is what the judgement says.
use Rattle.std.proofs.Common.{◌≡◌, ℕ, suc, List, [], ◌∷◌, length, nat_eq, arith, Bool, false, Option, Result, Ok, Err, IfOk, refl, ap, sym, subst, ◌∙◌, inl, inr}
use Rattle.std.proofs.lemmas.Bool.Decides.{nat_tests}
use Rattle.fx_types.specs.Types.{Shape, tables, column_list}
use Rattle.fx_types.specs.TypeView.{shape}
use Rattle.fx_typing.specs.Details.{IsToldBrokenWhole}
use Rattle.fx_typing.specs.Typing.{judge_whole, onward, at_node, outermost_setting, whole_argument, position, context_of}
use Rattle.fx_typing.specs.declared.typed.Typed.{Typed}
use Rattle.fx_typing.specs.TypedView.{typed}
use Rattle.fx_core.specs.declared.broken.Broken.{Broken}
use Rattle.fx_core.specs.Rules.{rule_number}
use Rattle.fx_core.specs.Tree.{Tree}
use Rattle.fx_core.specs.Term.{Term}
use Rattle.fx_typing.specs.Meaning.{Place}
use Rattle.fx_typing.specs.WellTyped.{IsTyped}
use Rattle.fx_infer.specs.declared.ends.InferEnd.{InferEnd}
use Rattle.fx_infer.specs.declared.ends.InferEnd.TheVariants as end
use Rattle.fx_infer.specs.Ends.{InfersTo}
use Rattle.fx_infer.specs.Written.{is_any_table}
use Rattle.fx_infer.proofs.Breaks.{told_broken}

-- a formula that is told broken is judged so
pub whole_broken : (p : Place) (b : Bool) (w : Option Shape) (e : Tree) (at rule : ℕ) (said : List ℕ) →
    IsToldBrokenWhole p b w e at rule said → judge_whole p b w e ≡ Err (at, rule)
whole_broken p b w e at rule said x =
    elim x [
      | inl a ↦ ap (λ r. onward r (λ q. at_node (position e) (whole_argument w q))) (told_broken p (outermost_setting b) e at rule said a)
      | inr c ↦ ap (λ r. onward r (λ q. at_node (position e) (whole_argument w q))) c.2 ∙ ap (at_node (position e)) c.3 ∙ ap (λ v. Err (v, rule)) (sym c.0)
    ]

-- the clauses of the whole
pub ends_admitted : (p : Place) (b : Bool) (w : Option Shape) (e : Tree) (cell : List ℕ) (r : Result Typed InferEnd) →
    InfersTo p b w e cell r → IfOk r (λ t. judge_whole p b w e ≡ Ok (typed t))
ends_admitted p b w e cell (Ok t) h = h
ends_admitted p b w e cell (Err x) h = tt

pub ends_typed : (p : Place) (b : Bool) (w : Option Shape) (e : Tree) (cell : List ℕ) (r : Result Typed InferEnd) →
    ((x : Term × Shape) → judge_whole p b w e ≡ Ok x → IsTyped (context_of p (outermost_setting b)) x.0 x.1) →
    InfersTo p b w e cell r → IfOk r (λ t. IsTyped (context_of p (outermost_setting b)) t.core (shape t.ty))
ends_typed p b w e cell (Ok t) law h = law (typed t) h
ends_typed p b w e cell (Err x) law h = tt

pub ends_told : (p : Place) (b : Bool) (w : Option Shape) (e : Tree) (cell : List ℕ) (r : Result Typed InferEnd) (x : Broken) →
    InfersTo p b w e cell r → r ≡ Err (end.Broken x) → IsToldBrokenWhole p b w e x.at (rule_number x.rule) x.detail × (x.cell ≡ cell)
ends_told p b w e cell r x h k = subst (InfersTo p b w e cell) k h

-- a table type without columns is one of no columns
pub any_is : (cs : List (List ℕ × Shape)) → nat_eq (length cs) 0 ≡ is_any_table (tables (column_list cs))
any_is [] = refl
any_is (c ∷ cs) = let e : nat_eq (suc (length cs)) 0 ≡ false = grind (arith, nat_tests) in e
