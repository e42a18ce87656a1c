-- Nodes are judged by their parts, from the left.
use Rattle.std.proofs.Common.{◌≡◌, ℕ, suc, List, [], ◌∷◌, ◌++◌, length, Ok, refl, ap, sym, subst, ◌∙◌, arith, length-append, inr}
use Rattle.fx_core.specs.Tree.{Tree, node, Forest, none, more, Head}
use Rattle.fx_core.specs.TreeView.{branch}
use Rattle.fx_core.specs.declared.expr.Node.{Node}
use Rattle.fx_core.specs.declared.expr.Node.TheVariants as kind
use Rattle.fx_typing.specs.Meaning.{Place}
use Rattle.fx_typing.specs.Details.{HasToldBroken}
use Rattle.fx_typing.specs.Parts.{JudgedPart, Setting}
use Rattle.fx_typing.specs.Plans.{setting_at}
use Rattle.fx_typing.specs.Typing.{judge, judge_parts, onward, position}
use Rattle.fx_resolve.specs.PlanView.{tree_head}
use Rattle.fx_infer.specs.Below.{forest_from}

-- parts are judged from the left: what is left, behind what is done, is the whole
pub record GoesOn (p : Place) (s : Setting) (h : Head) (n : ℕ) (ts : Forest) (done : List JudgedPart) : Type 0 where
  pub judged : judge_parts p s h n done (forest_from (length done) ts) ≡ judge_parts p s h n [] ts
  pub told : (w rule : ℕ) (said : List ℕ) → HasToldBroken p s h n done (forest_from (length done) ts) w rule said
      → HasToldBroken p s h n [] ts w rule said

pub goes_on : (p : Place) (s : Setting) (h : Head) (n : ℕ) (ts : Forest) (done : List JudgedPart) (k : Tree) (q : JudgedPart) →
    GoesOn p s h n ts done → forest_from (length done) ts ≡ more k (forest_from (suc (length done)) ts) →
    judge p (setting_at p.names s h n done) k ≡ Ok q → GoesOn p s h n ts (done ++ q ∷ [])
goes_on p s h n ts done k q g e j =
    let len : length (done ++ q ∷ []) ≡ suc (length done) = length-append done (q ∷ []) ∙ omega arith in
    let one : judge_parts p s h n done (forest_from (length done) ts) ≡ judge_parts p s h n (done ++ q ∷ []) (forest_from (suc (length done)) ts) =
    ap (judge_parts p s h n done) e ∙ ap (λ r. onward r (λ a. judge_parts p s h n (done ++ a ∷ []) (forest_from (suc (length done)) ts))) j in
    record {
      judged = ap (λ i. judge_parts p s h n (done ++ q ∷ []) (forest_from i ts)) len ∙ sym one ∙ g.judged;
      told = λ w rule said x. g.told w rule said
          (subst (λ f. HasToldBroken p s h n done f w rule said) (sym e)
          (inr (q, j, subst (λ i. HasToldBroken p s h n (done ++ q ∷ []) (forest_from i ts) w rule said) len x)));
    }

-- at the end all are judged
pub ends : (p : Place) (s : Setting) (h : Head) (n : ℕ) (ts : Forest) (done : List JudgedPart) →
    GoesOn p s h n ts done → forest_from (length done) ts ≡ none → judge_parts p s h n [] ts ≡ Ok done
ends p s h n ts done g e = sym g.judged ∙ ap (judge_parts p s h n done) e

-- a node begins at its position
pub begins_at : (at : ℕ) (x : Node) → position (branch at x) ≡ at
begins_at at (kind.Num z) = refl
begins_at at (kind.Text cs) = refl
begins_at at (kind.Truth b) = refl
begins_at at (kind.Name x) = refl
begins_at at (kind.Global x) = refl
begins_at at (kind.Dot e x) = refl
begins_at at (kind.Call x es) = refl
begins_at at (kind.Neg e) = refl
begins_at at (kind.Not e) = refl
begins_at at (kind.Percent e) = refl
begins_at at (kind.Pair o a b) = refl
begins_at at (kind.Joined es) = refl
begins_at at (kind.And es) = refl
begins_at at (kind.Or es) = refl
begins_at at (kind.Chain es) = refl
begins_at at (kind.Alias e x) = refl
begins_at at (kind.Rec fs) = refl
begins_at at (kind.List es) = refl
begins_at at (kind.Woven es) = refl

-- the head of a node that is seen whole
pub headed : (w : Tree) (at : ℕ) (n m : Node) → branch at n ≡ w → n ≡ m → tree_head w ≡ tree_head (branch at m)
headed w at n m e k = ap tree_head (sym e) ∙ ap (λ x. tree_head (branch at x)) k
