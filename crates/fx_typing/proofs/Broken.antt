-- What the judgement calls broken is broken.
use Rattle.std.proofs.Common.{◌≡◌, ℕ, ◌++◌, List, [], ◌∷◌, Bool, Option, Result, Ok, Err, refl, ap, sym, inl, inr, ◌⊎◌}
use Rattle.fx_types.specs.Types.{Shape}
use Rattle.fx_core.specs.Tree.{Tree, node, Forest, none, more, Head}
use Rattle.fx_typing.specs.Meaning.{Place}
use Rattle.fx_typing.specs.Parts.{JudgedPart, Setting, part_count}
use Rattle.fx_typing.specs.Plans.{setting_at}
use Rattle.fx_typing.specs.Typing.{admit, onward, at_node, judge, judge_parts, outermost_setting, whole_argument, position, judge_whole}
use Rattle.fx_typing.specs.Details.{detail_of, wanted_detail, IsToldBroken, HasToldBroken, IsToldBrokenWhole}

at_node_err : {A : Type 0} (at w rule : ℕ) (r : Result A ℕ) → at_node at r ≡ Err (w, rule) → (w ≡ at) × (r ≡ Err rule)
at_node_err at w rule (Ok x) e = absurd cc
at_node_err at w rule (Err q) e = let k : (w, rule) ≡ (at, q) = cc in (ap (λ (z : ℕ × ℕ). z.0) k, ap (λ (z : ℕ × ℕ). Err z.1) (sym k))

pub onward_err : {A B : Type 0} (r : Result A (ℕ × ℕ)) (go : A → Result B (ℕ × ℕ)) (b : ℕ × ℕ) → onward r go ≡ Err b →
    (r ≡ Err b) ⊎ ((a : A) × (r ≡ Ok a) × (go a ≡ Err b))
onward_err (Ok a) go b e = inr (a, refl, e)
onward_err (Err c) go b e = let k : c ≡ b = cc in inl (ap Err k)

mutual
  pub broken_of : (p : Place) (s : Setting) (e : Tree) (w rule : ℕ) → judge p s e ≡ Err (w, rule) →
      (said : List ℕ) × IsToldBroken p s e w rule said
  broken_of p s (node at h ts) w rule e =
      elim (onward_err (judge_parts p s h (part_count ts) [] ts) (λ qs. at_node at (admit p s h qs)) (w, rule) e) [
        | inl a ↦ (let b = broken_in p s h (part_count ts) [] ts w rule a in (b.0, inr b.1))
        | inr b ↦ (let k = at_node_err at w rule (admit p s h b.0) b.2 in (detail_of p s h b.0 rule, inl (k.0, b.0, b.1, k.1, refl)))
      ]

  pub broken_in : (p : Place) (s : Setting) (h : Head) (n : ℕ) (done : List JudgedPart) (ts : Forest) (w rule : ℕ) →
      judge_parts p s h n done ts ≡ Err (w, rule) → (said : List ℕ) × HasToldBroken p s h n done ts w rule said
  broken_in p s h n done none w rule e = absurd cc
  broken_in p s h n done (more k ks) w rule e =
      elim (onward_err (judge p (setting_at p.names s h n done) k) (λ q. judge_parts p s h n (done ++ q ∷ []) ks) (w, rule) e) [
        | inl a ↦ (let c = broken_of p (setting_at p.names s h n done) k w rule a in (c.0, inl c.1))
        | inr b ↦ (let c = broken_in p s h n (done ++ b.0 ∷ []) ks w rule b.2 in (c.0, inr (b.0, b.1, c.1)))
      ]

-- and so for a whole formula
pub whole_broken : (p : Place) (acts : Bool) (wanted : Option Shape) (e : Tree) (w rule : ℕ) →
    judge_whole p acts wanted e ≡ Err (w, rule) → (said : List ℕ) × IsToldBrokenWhole p acts wanted e w rule said
whole_broken p acts wanted e w rule h =
    elim (onward_err (judge p (outermost_setting acts) e) (λ q. at_node (position e) (whole_argument wanted q)) (w, rule) h) [
      | inl a ↦ (let c = broken_of p (outermost_setting acts) e w rule a in (c.0, inl c.1))
      | inr b ↦ (let k = at_node_err (position e) w rule (whole_argument wanted b.0) b.2 in (wanted_detail p.names b.0, inr (k.0, b.0, b.1, k.1, refl)))
    ]
