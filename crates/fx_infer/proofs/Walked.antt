-- The parts of a node, from the left.
use Rattle.std.proofs.Common.{◌≡◌, ℕ, suc, List, [], ◌∷◌, ◌++◌, length, refl, ap, sym, subst, ◌∙◌, append_assoc, append-nil, arith, length-append}
use Rattle.fx_core.specs.Tree.{Tree, node, Forest, none, more, Head}
use Rattle.fx_typing.specs.Meaning.{Place}
use Rattle.fx_typing.specs.Parts.{JudgedPart, Setting, part_count}
use Rattle.fx_typing.specs.Plans.{setting_at}
use Rattle.fx_typing.specs.Rounds.{GivenType, node_gives, given_in, given_in_parts, or_unknown, seen_parts}
use Rattle.fx_typing.specs.Typing.{judge}
use Rattle.fx_resolve.specs.PlanView.{tree_head}
use Rattle.fx_infer.specs.Below.{forest_of, forest_from}

-- what is left, behind what is done, is the whole: of the parts, and of what they give
pub record Walked (p : Place) (s : Setting) (h : Head) (n : ℕ) (ts : Forest) (done : List JudgedPart) (below : List GivenType) : Type 0 where
  pub seen : seen_parts p s h n done (forest_from (length done) ts) ≡ seen_parts p s h n [] ts
  pub given : below ++ given_in_parts p s h n done (forest_from (length done) ts) ≡ given_in_parts p s h n [] ts

pub walked_on : (p : Place) (s : Setting) (h : Head) (n : ℕ) (ts : Forest) (done : List JudgedPart) (below more_below : List GivenType) (k : Tree) (q : JudgedPart) →
    Walked p s h n ts done below → forest_from (length done) ts ≡ more k (forest_from (suc (length done)) ts) →
    q ≡ or_unknown (judge p (setting_at p.names s h n done) k) →
    more_below ≡ below ++ given_in p (setting_at p.names s h n done) k → Walked p s h n ts (done ++ q ∷ []) more_below
walked_on p s h n ts done below more_below k q w e j g =
    let at = setting_at p.names s h n done in
    let rest = forest_from (suc (length done)) ts in
    let len : length (done ++ q ∷ []) ≡ suc (length done) = length-append done (q ∷ []) ∙ omega arith in
    record {
      seen = ap (λ i. seen_parts p s h n (done ++ q ∷ []) (forest_from i ts)) len
          ∙ ap (λ x. seen_parts p s h n (done ++ x ∷ []) rest) j
          ∙ sym (ap (seen_parts p s h n done) e) ∙ w.seen;
      given = ap (λ i. more_below ++ given_in_parts p s h n (done ++ q ∷ []) (forest_from i ts)) len
          ∙ ap (λ x. more_below ++ given_in_parts p s h n (done ++ x ∷ []) rest) j
          ∙ ap (λ x. x ++ given_in_parts p s h n (done ++ or_unknown (judge p at k) ∷ []) rest) g
          ∙ append_assoc below (given_in p at k) (given_in_parts p s h n (done ++ or_unknown (judge p at k) ∷ []) rest)
          ∙ sym (ap (λ f. below ++ given_in_parts p s h n done f) e) ∙ w.given;
    }

pub walked_next : (p : Place) (s t : Setting) (h : Head) (n m : ℕ) (ts : Forest) (done known all : List JudgedPart) (below under : List GivenType) (k : Tree) (q : JudgedPart) →
    t ≡ s → m ≡ n → known ≡ done → Walked p s h n ts done below → forest_from (length done) ts ≡ more k (forest_from (suc (length done)) ts) →
    q ≡ or_unknown (judge p (setting_at p.names t h m known) k) →
    under ≡ below ++ given_in p (setting_at p.names t h m known) k → all ≡ done ++ q ∷ [] → Walked p s h n ts all under
walked_next p s t h n m ts done known all below under k q same as_many here w e j g a =
    let there : setting_at p.names t h m known ≡ setting_at p.names s h n done =
    ap (λ u. setting_at p.names u h m known) same ∙ ap (λ i. setting_at p.names s h i known) as_many ∙ ap (setting_at p.names s h n) here in
    subst (λ ds. Walked p s h n ts ds under) (sym a)
    (walked_on p s h n ts done below under k q w e (subst (λ u. q ≡ or_unknown (judge p u k)) there j)
    (subst (λ u. under ≡ below ++ given_in p u k) there g))

-- at the end all are seen, and all that is given is there
given_at : (p : Place) (s : Setting) (e : Tree) → given_in p s e
    ≡ node_gives p s (tree_head e) (seen_parts p s (tree_head e) (part_count (forest_of e)) [] (forest_of e))
    ++ given_in_parts p s (tree_head e) (part_count (forest_of e)) [] (forest_of e)
given_at p s (node at h ts) = refl

pub walked_all : (p : Place) (s : Setting) (e : Tree) (done : List JudgedPart) (old own new below : List GivenType) →
    Walked p s (tree_head e) (part_count (forest_of e)) (forest_of e) done below → forest_from (length done) (forest_of e) ≡ none →
    own ≡ old ++ node_gives p s (tree_head e) done → new ≡ own ++ below → new ≡ old ++ given_in p s e
walked_all p s e done old own new below w z o m =
    let h = tree_head e in
    let n = part_count (forest_of e) in
    let seen : done ≡ seen_parts p s h n [] (forest_of e) = sym (ap (seen_parts p s h n done) z) ∙ w.seen in
    let under : below ≡ given_in_parts p s h n [] (forest_of e) =
    sym (append-nil below) ∙ sym (ap (λ f. below ++ given_in_parts p s h n done f) z) ∙ w.given in
    m ∙ ap (λ x. x ++ below) o ∙ append_assoc old (node_gives p s h done) below
    ∙ ap (λ x. old ++ (node_gives p s h x ++ below)) seen
    ∙ ap (λ x. old ++ (node_gives p s h (seen_parts p s h n [] (forest_of e)) ++ x)) under
    ∙ ap (λ x. old ++ x) (sym (given_at p s e))
