-- A node of which it is told is the one that is broken.
use Rattle.std.proofs.Common.{◌≡◌, ℕ, ◌++◌, List, [], ◌∷◌, Err, ap, sym, ◌∙◌, inl, inr}
use Rattle.fx_core.specs.Tree.{Tree, node, Forest, none, more, Head}
use Rattle.fx_typing.specs.Meaning.{Place}
use Rattle.fx_typing.specs.Parts.{JudgedPart, Setting, part_count}
use Rattle.fx_typing.specs.Plans.{setting_at}
use Rattle.fx_typing.specs.Typing.{admit, onward, at_node, judge, judge_parts}
use Rattle.fx_typing.specs.Details.{IsToldBroken, HasToldBroken}

mutual
  pub told_broken : (p : Place) (s : Setting) (e : Tree) (w rule : ℕ) (said : List ℕ) → IsToldBroken p s e w rule said → judge p s e ≡ Err (w, rule)
  told_broken p s (node at h ts) w rule said x =
      elim x [
        | inl a ↦ ap (λ r. onward r (λ qs. at_node at (admit p s h qs))) a.2 ∙ ap (at_node at) a.3 ∙ ap (λ v. Err (v, rule)) (sym a.0)
        | inr b ↦ ap (λ r. onward r (λ qs. at_node at (admit p s h qs))) (told_parts p s h (part_count ts) [] ts w rule said b)
      ]

  pub told_parts : (p : Place) (s : Setting) (h : Head) (n : ℕ) (done : List JudgedPart) (ts : Forest) (w rule : ℕ) (said : List ℕ) →
      HasToldBroken p s h n done ts w rule said → judge_parts p s h n done ts ≡ Err (w, rule)
  told_parts p s h n done none w rule said x = absurd x
  told_parts p s h n done (more k ks) w rule said x =
      elim x [
        | inl a ↦ ap (λ r. onward r (λ q. judge_parts p s h n (done ++ q ∷ []) ks)) (told_broken p (setting_at p.names s h n done) k w rule said a)
        | inr b ↦ ap (λ r. onward r (λ q. judge_parts p s h n (done ++ q ∷ []) ks)) b.1 ∙ told_parts p s h n (done ++ b.0 ∷ []) ks w rule said b.2
      ]
