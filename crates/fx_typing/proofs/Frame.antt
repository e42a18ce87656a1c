-- The recursion of the law that what is admitted is well typed: from the local rule to whole trees.
use Rattle.std.proofs.Common.{◌≡◌, ℕ, suc, ◌++◌, List, [], ◌∷◌, length, slice_get, Some, Result, Ok, Err, refl, ap, sym, subst, ◌∙◌}
use Rattle.fx_types.specs.Types.{Shape}
use Rattle.fx_core.specs.Tree.{Tree, node, Forest, none, more, Head}
use Rattle.fx_core.specs.Term.{Term}
use Rattle.fx_typing.proofs.Rules.{PieceTyped, Typed}
use Rattle.fx_core.specs.declared.names.Names.{Names}
use Rattle.fx_typing.specs.Meaning.{Place, valued, controlled}
use Rattle.fx_typing.specs.WellTyped.{Context}
use Rattle.fx_typing.specs.Parts.{JudgedPart, piece, meant, assigned, Setting, part_count}
use Rattle.fx_typing.specs.Plans.{setting_at}
use Rattle.fx_typing.specs.Typing.{admit, onward, at_node, judge, judge_parts, context_of}

-- trees of their types
abbrev pub AllTyped : Context → List (Term × Shape) → Type 0
AllTyped c [] = Unit {0}
AllTyped c (x ∷ xs) = Typed c x × AllTyped c xs

-- a part, where it was judged
abbrev pub PartTyped : Context → JudgedPart → Type 0
PartTyped c (piece k) = PieceTyped c k
PartTyped c (assigned ns xs) = AllTyped c xs
PartTyped c q = Unit {0}

-- parts, each where the ones before put it
abbrev pub PartsTypedAt : Place → Setting → Head → ℕ → List JudgedPart → List JudgedPart → Type 0
PartsTypedAt p s h n done [] = Unit {0}
PartsTypedAt p s h n done (q ∷ qs) =
    PartTyped (context_of p (setting_at p.names s h n done)) q × PartsTypedAt p s h n (done ++ q ∷ []) qs

-- a name that is no value is that of a control with this number, or of no control
abbrev pub IsMeant : Names → JudgedPart → Type 0
IsMeant n (meant (controlled k c)) = slice_get n.controls k ≡ Some c
IsMeant n (meant (valued c t)) = ⊥
IsMeant n q = Unit {0}

abbrev pub AreMeant : Names → List JudgedPart → Type 0
AreMeant n [] = Unit {0}
AreMeant n (q ∷ qs) = IsMeant n q × AreMeant n qs

-- what the local rule makes of well typed parts is well typed
abbrev pub IsSoundLocally : Place → Type 0
IsSoundLocally p =
    (s : Setting) (h : Head) (qs : List JudgedPart) (q : JudgedPart) → admit p s h qs ≡ Ok q → PartsTypedAt p s h (length qs) [] qs →
    AreMeant p.names qs → PartTyped (context_of p s) q × IsMeant p.names q

pub onward_ok : {A B : Type 0} (r : Result A (ℕ × ℕ)) (go : A → Result B (ℕ × ℕ)) (b : B) → onward r go ≡ Ok b → (a : A) × (r ≡ Ok a) × (go a ≡ Ok b)
onward_ok (Ok a) go b e = (a, refl, e)
onward_ok (Err w) go b e = absurd cc

pub at_node_ok : {A : Type 0} (at : ℕ) (r : Result A ℕ) (a : A) → at_node at r ≡ Ok a → r ≡ Ok a
at_node_ok at (Ok x) a e = let k : x ≡ a = cc in ap Ok k
at_node_ok at (Err n) a e = absurd cc

put_back : {A : Type 0} (xs : List A) → xs ≡ xs ++ []
put_back [] = refl
put_back (x ∷ xs) = ap (λ ys. x ∷ ys) (put_back xs)

pub put_one : {A : Type 0} (xs : List A) (x : A) (ys : List A) → (xs ++ x ∷ []) ++ ys ≡ xs ++ x ∷ ys
put_one [] x ys = refl
put_one (z ∷ xs) x ys = ap (λ zs. z ∷ zs) (put_one xs x ys)

-- the parts that are judged behind the done ones
abbrev Behind : Place → Setting → Head → ℕ → List JudgedPart → Forest → List JudgedPart → Type 0
Behind p s h n done ts whole =
    (qs : List JudgedPart) × (whole ≡ done ++ qs) × (length qs ≡ part_count ts) × PartsTypedAt p s h n done qs × AreMeant p.names qs

mutual
  pub judged_typed : (p : Place) → IsSoundLocally p → (s : Setting) (e : Tree) (q : JudgedPart) → judge p s e ≡ Ok q →
      PartTyped (context_of p s) q × IsMeant p.names q
  judged_typed p local s (node at h ts) q e =
      let a = onward_ok (judge_parts p s h (part_count ts) [] ts) (λ qs. at_node at (admit p s h qs)) q e in
      let b = parts_behind p local s h (part_count ts) [] ts a.0 a.1 in
      local s h a.0 q (at_node_ok at (admit p s h a.0) q a.2) (
      subst (λ xs. PartsTypedAt p s h (length xs) [] xs) (sym b.1) (subst (λ m. PartsTypedAt p s h m [] b.0) (sym b.2) b.3)
      ) (subst (AreMeant p.names) (sym b.1) b.4)

  pub parts_behind : (p : Place) → IsSoundLocally p → (s : Setting) (h : Head) (n : ℕ) (done : List JudgedPart) (ts : Forest) (whole : List JudgedPart) →
      judge_parts p s h n done ts ≡ Ok whole → Behind p s h n done ts whole
  parts_behind p local s h n done none whole e = let k : done ≡ whole = cc in ([], sym k ∙ put_back done, refl, tt, tt)
  parts_behind p local s h n done (more t ts) whole e =
      let a = onward_ok (judge p (setting_at p.names s h n done) t) (λ q. judge_parts p s h n (done ++ q ∷ []) ts) whole e in
      let b = parts_behind p local s h n (done ++ a.0 ∷ []) ts whole a.2 in
      let c = judged_typed p local (setting_at p.names s h n done) t a.0 a.1 in
      (a.0 ∷ b.0, b.1 ∙ put_one done a.0 b.0, ap suc b.2, (c.0, b.3), (c.1, b.4))
