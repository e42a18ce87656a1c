-- Of a broken formula one thing is said, wherever the table of functions stands.
use Rattle.std.proofs.Common.{inl, inr, ◌≡◌, ◌++◌, ℕ, List, [], ◌∷◌, Bool, true, map, length, ◌==◌, suc, codes, Option, Result, Ok, Err, refl, ap, sym, subst, ◌∙◌, if◌then◌else◌}
use Rattle.std.specs.Borrow.{Bor}
use Rattle.app_loader.proofs.JudgedAlike.{admit_alike, as_called, deep_alike, node_alike, part_alike, parts_alike, setting_alike}
use Rattle.fx_types.specs.Types.{Shape}
use Rattle.fx_core.specs.declared.signatures.Signature.{Signature}
use Rattle.fx_infer.proofs.Breaks.{told_broken, told_parts}
use Rattle.fx_typing.specs.Details.{HasToldBroken, IsToldBroken, IsToldBrokenWhole, call_limit, call_names, column_in, comma_separated, word_with_number, detail_of, head_name, no_variable, taken_in, takes_table, unjoined, wanted_detail}
use Rattle.fx_typing.specs.Parts.{JudgedPart, Setting, part_count}
use Rattle.fx_typing.specs.Plans.{depth_of, setting_at}
use Rattle.fx_typing.specs.Typing.{judge, judge_parts, outermost_setting}
use Rattle.fx_core.specs.declared.names.Names.{Names}
use Rattle.fx_sig.specs.Entries.{entry}
use Rattle.fx_core.specs.Tree.{Tree, node, Forest, none, more, Head}
use Rattle.fx_core.specs.Tree as tree
use Rattle.fx_typing.specs.Meaning.{Place}

-- ---- one thing is said
module _ (p : Place) where
  one_or_other : {A B : Type 0} (a : A) (b : B) (r : Result A B) → r ≡ Ok a → r ≡ Err b → ⊥
  one_or_other a b r e k = let both : Ok a ≡ Err b = sym e ∙ k in cc

  one_value : {A B : Type 0} (a b : A) (r : Result A B) → r ≡ Ok a → r ≡ Ok b → a ≡ b
  one_value {A = A} {B = B} a b r e k = let both : ◌≡◌ {A = Result A B} (Ok a) (Ok b) = sym e ∙ k in cc

  mutual
    told_once : (u : Setting) (e : Tree) (w r : ℕ) (said other : List ℕ) → IsToldBroken p u e w r said → IsToldBroken p u e w r other → said ≡ other
    told_once u (node at h ts) w r said other (inl x) (inl y) =
        let parts : x.1 ≡ y.1 = one_value x.1 y.1 (judge_parts p u h (part_count ts) [] ts) x.2 y.2 in
        x.4 ∙ ap (λ qs. detail_of p u h qs r) parts ∙ sym y.4
    told_once u (node at h ts) w r said other (inl x) (inr y) =
        absurd (one_or_other x.1 (w, r) (judge_parts p u h (part_count ts) [] ts) x.2 (told_parts p u h (part_count ts) [] ts w r other y))
    told_once u (node at h ts) w r said other (inr x) (inl y) =
        absurd (one_or_other y.1 (w, r) (judge_parts p u h (part_count ts) [] ts) y.2 (told_parts p u h (part_count ts) [] ts w r said x))
    told_once u (node at h ts) w r said other (inr x) (inr y) = among_once u h (part_count ts) [] ts w r said other x y

    among_once : (u : Setting) (h : Head) (n : ℕ) (done : List JudgedPart) (ts : Forest) (w r : ℕ) (said other : List ℕ) → HasToldBroken p u h n done ts w r said → HasToldBroken p u h n done ts w r other → said ≡ other
    among_once u h n done none w r said other x y = absurd x
    among_once u h n done (more k ks) w r said other (inl x) (inl y) = told_once (setting_at p.names u h n done) k w r said other x y
    among_once u h n done (more k ks) w r said other (inl x) (inr y) =
        absurd (one_or_other y.0 (w, r) (judge p (setting_at p.names u h n done) k) y.1 (told_broken p (setting_at p.names u h n done) k w r said x))
    among_once u h n done (more k ks) w r said other (inr x) (inl y) =
        absurd (one_or_other x.0 (w, r) (judge p (setting_at p.names u h n done) k) x.1 (told_broken p (setting_at p.names u h n done) k w r other y))
    among_once u h n done (more k ks) w r said other (inr x) (inr y) =
        let part : x.0 ≡ y.0 = one_value x.0 y.0 (judge p (setting_at p.names u h n done) k) x.1 y.1 in
        among_once u h n (done ++ y.0 ∷ []) ks w r said other (subst (λ q. HasToldBroken p u h n (done ++ q ∷ []) ks w r said) part x.2) y.2

  pub whole_once : (acts : Bool) (wanted : Option Shape) (e : Tree) (w r : ℕ) (said other : List ℕ) → IsToldBrokenWhole p acts wanted e w r said → IsToldBrokenWhole p acts wanted e w r other → said ≡ other
  whole_once acts wanted e w r said other (inl x) (inl y) = told_once (outermost_setting acts) e w r said other x y
  whole_once acts wanted e w r said other (inl x) (inr y) = absurd (one_or_other y.1 (w, r) (judge p (outermost_setting acts) e) y.2 (told_broken p (outermost_setting acts) e w r said x))
  whole_once acts wanted e w r said other (inr x) (inl y) = absurd (one_or_other x.1 (w, r) (judge p (outermost_setting acts) e) x.2 (told_broken p (outermost_setting acts) e w r other y))
  whole_once acts wanted e w r said other (inr x) (inr y) =
      let part : x.1 ≡ y.1 = one_value x.1 y.1 (judge p (outermost_setting acts) e) x.2 y.2 in
      x.4 ∙ ap (wanted_detail p.names) part ∙ sym y.4

-- ---- where the table of functions stands
module _ (m : Names) (s t : Bor (List Signature)) (same : map entry s.now ≡ map entry t.now) where
  abbrev one : Names
  one = record m { signatures = s }

  abbrev other : Names
  other = record m { signatures = t }

  module _ (screen gallery : Option ℕ) (settled : Bool) where
    abbrev here : Place
    here = record { names = one; screen = screen; gallery = gallery; settled = settled }

    abbrev there : Place
    there = record { names = other; screen = screen; gallery = gallery; settled = settled }

    detail_alike : (u : Setting) (h : Head) (qs : List JudgedPart) (r : ℕ) → detail_of here u h qs r ≡ detail_of there u h qs r
    detail_alike u (tree.call x) qs r = λ i.
        let k = as_called m s t same x i in
        if r == 5 then taken_in k qs
        else (if r == 6 then comma_separated (call_names one (takes_table k qs) qs)
        else (if r == 7 then word_with_number (head_name (tree.call x)) (length qs)
        else (if r == 11 then unjoined here k qs
        else (if r == 12 then column_in one k qs
        else (if r == 13 then (if deep_alike m s t same screen gallery settled u (tree.call x) qs i then word_with_number (codes "nested") (suc (depth_of u.scopes)) else call_limit here u k qs)
        else (if r == 15 then no_variable (head_name (tree.call x)) qs
        else head_name (tree.call x)))))))
    detail_alike u h qs r = refl

    mutual
      told_alike : (u : Setting) (e : Tree) (w r : ℕ) (said : List ℕ) → IsToldBroken here u e w r said → IsToldBroken there u e w r said
      told_alike u (node at h ts) w r said (inl x) =
          inl (
            x.0,
            x.1,
            sym (parts_alike m s t same screen gallery settled u h (part_count ts) [] ts) ∙ x.2,
            sym (admit_alike m s t same screen gallery settled u h x.1) ∙ x.3,
            x.4 ∙ detail_alike u h x.1 r,
          )
      told_alike u (node at h ts) w r said (inr x) = inr (among_alike u h (part_count ts) [] ts w r said x)

      among_alike : (u : Setting) (h : Head) (n : ℕ) (done : List JudgedPart) (ts : Forest) (w r : ℕ) (said : List ℕ) → HasToldBroken here u h n done ts w r said → HasToldBroken there u h n done ts w r said
      among_alike u h n done none w r said x = absurd x
      among_alike u h n done (more k ks) w r said (inl x) =
          inl (subst (λ z. IsToldBroken there z k w r said) (setting_alike m s t same u h n done) (told_alike (setting_at one u h n done) k w r said x))
      among_alike u h n done (more k ks) w r said (inr x) =
          inr (x.0, sym (part_alike m s t same screen gallery settled u h n done k) ∙ x.1, among_alike u h n (done ++ x.0 ∷ []) ks w r said x.2)

  pub whole_told_alike : (screen gallery : Option ℕ) (acts : Bool) (wanted : Option Shape) (e : Tree) (w r : ℕ) (said : List ℕ) →
      IsToldBrokenWhole (record { names = one; screen = screen; gallery = gallery; settled = true }) acts wanted e w r said → IsToldBrokenWhole (record { names = other; screen = screen; gallery = gallery; settled = true }) acts wanted e w r said
  whole_told_alike screen gallery acts wanted e w r said (inl x) = inl (told_alike screen gallery true (outermost_setting acts) e w r said x)
  whole_told_alike screen gallery acts wanted e w r said (inr x) = inr (x.0, x.1, sym (node_alike m s t same screen gallery true (outermost_setting acts) e) ∙ x.2, x.3, x.4)
