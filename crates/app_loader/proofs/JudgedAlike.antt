-- Formulas are judged alike under names that differ in the place of their table of functions alone.
use Rattle.std.proofs.Common.{◌≡◌, ◌++◌, ℕ, suc, List, [], ◌∷◌, Bool, true, false, nat_lt, length, encode_utf8_all, slice_get, nat_eq, bytes_eq, codes, Option, Some, None, map, option_map, Err, refl, ap, ◌∙◌, if◌then◌else◌}
use Rattle.std.specs.Prelude.{◌&&◌, ◌||◌}
use Rattle.std.specs.Borrow.{Bor}
use Rattle.app_loader.proofs.Functions.{found_alike, shape_alike}
use Rattle.fx_types.specs.Types.{Shape, blanks}
use Rattle.fx_core.specs.Rows.{is_arity}
use Rattle.fx_core.specs.Signatures.{signature_in}
use Rattle.fx_core.specs.declared.signatures.SigShape.{SigShape}
use Rattle.fx_core.specs.declared.signatures.Signature.{Signature}
use Rattle.fx_typing.specs.Builds.{bounded}
use Rattle.fx_typing.specs.Calls.{called_by, called_with}
use Rattle.fx_typing.specs.Parts.{Grant, JudgedPart, Setting, as_part, may_act, part_count, unless_rule}
use Rattle.fx_typing.specs.Plans.{ArgumentRule, called_as, depth_of, is_inside, opens_rows, plan_at, plan_call, setting_at, setting_by}
use Rattle.fx_typing.specs.Rounds.{Cell, all_given, call_gives, items_formula, cell_type, collection_join, given_in, given_in_parts, node_gives, items_types, next_types, or_unknown, round_types, seen_parts, type_or_blank, variable_join}
use Rattle.fx_typing.specs.Typing.{admit, at_node, is_too_deep, judge, judge_parts, judge_whole, onward, outermost_setting, position, whole_argument}
use Rattle.fx_core.specs.declared.names.Collection.{Collection}
use Rattle.fx_core.specs.declared.names.ControlName.{ControlName}
use Rattle.fx_core.specs.declared.names.FormulaName.{FormulaName}
use Rattle.fx_core.specs.declared.names.Names.{Names}
use Rattle.fx_core.specs.declared.names.Property.{Property}
use Rattle.fx_core.specs.declared.names.Variable.{Variable}
use Rattle.fx_sig.specs.Entries.{Entry, entry}
use Rattle.fx_core.specs.Tree.{Tree, node, Forest, none, more, Head}
use Rattle.fx_core.specs.Tree as tree
use Rattle.fx_typing.specs.Meaning.{Place, first_match}

module _ (m : Names) (s t : Bor (List Signature)) (same : map entry s.now ≡ map entry t.now) where
  abbrev one : Names
  one = record m { signatures = s }

  abbrev other : Names
  other = record m { signatures = t }

  pub as_called : (x : List ℕ) → called_as one x ≡ called_as other x
  as_called x =
      let f = encode_utf8_all x in
      shape_alike (signature_in s.now f) (signature_in t.now f) (found_alike s.now t.now f same)

  -- ---- where parts stand
  plan_alike : (g : Grant) (h : Head) (n : ℕ) (done : List JudgedPart) → plan_at one g h n done ≡ plan_at other g h n done
  plan_alike g (tree.call x) n done = ap (λ (o : Option SigShape). plan_call (may_act g) o n done) (as_called x)
  plan_alike g h n done = refl

  pub setting_alike : (u : Setting) (h : Head) (n : ℕ) (done : List JudgedPart) → setting_at one u h n done ≡ setting_at other u h n done
  setting_alike u h n done = ap (λ (p : ArgumentRule). setting_by one u p done) (plan_alike u.grant h n done)

  opens_alike : (g : Grant) (h : Head) (n : ℕ) (done qs : List JudgedPart) → opens_rows one g h n done qs ≡ opens_rows other g h n done qs
  opens_alike g h n done [] = refl
  opens_alike g h n done (q ∷ qs) = λ i. is_inside (plan_alike g h n done i).standing || opens_alike g h n (done ++ q ∷ []) qs i

  module _ (screen gallery : Option ℕ) (settled : Bool) where
    abbrev here : Place
    here = record { names = one; screen = screen; gallery = gallery; settled = settled }

    abbrev there : Place
    there = record { names = other; screen = screen; gallery = gallery; settled = settled }

    -- ---- the local rule
    pub deep_alike : (u : Setting) (h : Head) (qs : List JudgedPart) → is_too_deep here u h qs ≡ is_too_deep there u h qs
    deep_alike u h qs = ap (λ b. b && nat_lt 2 (depth_of u.scopes)) (opens_alike u.grant h (length qs) [] qs)

    called_alike : (u : Setting) (o r : Option Signature) (qs : List JudgedPart) → option_map entry o ≡ option_map entry r → called_with here u o qs ≡ called_with there u r qs
    called_alike u None None qs e = refl
    called_alike u None (Some g) qs e = absurd cc
    called_alike u (Some f) None qs e = absurd cc
    called_alike u (Some f) (Some g) qs e =
        let first : entry f ≡ entry g = cc in
        ap (λ (z : Entry). if is_arity z.least z.most (length qs) then bounded (called_by here u z.shape qs) else Err 7) first

    pub admit_alike : (u : Setting) (h : Head) (qs : List JudgedPart) → admit here u h qs ≡ admit there u h qs
    admit_alike u (tree.call x) qs =
        let f = encode_utf8_all x in
        λ i. as_part (unless_rule (deep_alike u (tree.call x) qs i) 13 (called_alike u (signature_in s.now f) (signature_in t.now f) qs (found_alike s.now t.now f same) i))
    admit_alike u h qs = refl

    mutual
      pub node_alike : (u : Setting) (e : Tree) → judge here u e ≡ judge there u e
      node_alike u (node at h ts) = λ i. onward (parts_alike u h (part_count ts) [] ts i) (λ qs. at_node at (admit_alike u h qs i))

      pub parts_alike : (u : Setting) (h : Head) (n : ℕ) (done : List JudgedPart) (ts : Forest) → judge_parts here u h n done ts ≡ judge_parts there u h n done ts
      parts_alike u h n done none = refl
      parts_alike u h n done (more k ks) =
          ap (λ z. onward (judge here z k) (λ q. judge_parts here u h n (done ++ q ∷ []) ks)) (setting_alike u h n done)
          ∙ (λ i. onward (node_alike (setting_at other u h n done) k i) (λ q. parts_alike u h n (done ++ q ∷ []) ks i))

    whole_alike : (acts : Bool) (w : Option Shape) (e : Tree) → judge_whole here acts w e ≡ judge_whole there acts w e
    whole_alike acts w e = ap (λ r. onward r (λ q. at_node (position e) (whole_argument w q))) (node_alike (outermost_setting acts) e)

    -- ---- the types that formulas give to names
    gives_alike : (u : Setting) (h : Head) (qs : List JudgedPart) → node_gives here u h qs ≡ node_gives there u h qs
    gives_alike u (tree.call x) qs = ap (λ (o : Option SigShape). call_gives o qs) (as_called x)
    gives_alike u h qs = refl

    pub part_alike : (u : Setting) (h : Head) (n : ℕ) (done : List JudgedPart) (k : Tree) → judge here (setting_at one u h n done) k ≡ judge there (setting_at other u h n done) k
    part_alike u h n done k = ap (λ z. judge here z k) (setting_alike u h n done) ∙ node_alike (setting_at other u h n done) k

    seen_alike : (u : Setting) (h : Head) (n : ℕ) (done : List JudgedPart) (ts : Forest) → seen_parts here u h n done ts ≡ seen_parts there u h n done ts
    seen_alike u h n done none = refl
    seen_alike u h n done (more k ks) =
        ap (λ r. seen_parts here u h n (done ++ or_unknown r ∷ []) ks) (part_alike u h n done k)
        ∙ seen_alike u h n (done ++ or_unknown (judge there (setting_at other u h n done) k) ∷ []) ks

    mutual
      given_alike : (u : Setting) (e : Tree) → given_in here u e ≡ given_in there u e
      given_alike u (node at h ts) =
          (λ i. node_gives here u h (seen_alike u h (part_count ts) [] ts i) ++ among_alike u h (part_count ts) [] ts i)
          ∙ ap (λ gs. gs ++ given_in_parts there u h (part_count ts) [] ts) (gives_alike u h (seen_parts there u h (part_count ts) [] ts))

      among_alike : (u : Setting) (h : Head) (n : ℕ) (done : List JudgedPart) (ts : Forest) → given_in_parts here u h n done ts ≡ given_in_parts there u h n done ts
      among_alike u h n done none = refl
      among_alike u h n done (more k ks) =
          (λ i. given_in here (setting_alike u h n done i) k ++ given_in_parts here u h n (done ++ or_unknown (part_alike u h n done k i) ∷ []) ks)
          ∙ (λ i. given_alike (setting_at other u h n done) k i ++ among_alike u h n (done ++ or_unknown (judge there (setting_at other u h n done) k) ∷ []) ks i)

  -- ---- a round
  all_alike : (cs : List Cell) → all_given one cs ≡ all_given other cs
  all_alike [] = refl
  all_alike (c ∷ cs) = λ i. given_alike c.screen c.gallery false (outermost_setting c.acts) c.formula i ++ all_alike cs i

  cell_alike : (o : Option Cell) → cell_type one o ≡ cell_type other o
  cell_alike None = refl
  cell_alike (Some c) = ap type_or_blank (whole_alike c.screen c.gallery true c.acts None c.formula)

  items_alike : (cs : List Cell) (k : ℕ) (ws : List ControlName) → items_types one cs k ws ≡ items_types other cs k ws
  items_alike cs k [] = refl
  items_alike cs k (w ∷ ws) =
      let at = first_match (λ (p : Property). nat_eq p.control k && bytes_eq p.name (codes "Items")) 0 m.properties in
      λ i. cell_alike (items_formula cs at) i ∷ items_alike cs (suc k) ws i

  pub round_alike : (cs : List Cell) → next_types cs one ≡ next_types cs other
  round_alike cs = λ i.
      round_types (map (λ (v : Variable). variable_join v blanks (all_alike cs i)) m.variables)
      (map (λ (c : Collection). collection_join c blanks (all_alike cs i)) m.collections)
      (map (λ (f : FormulaName). cell_alike (slice_get cs f.cell) i) m.formulas)
      (items_alike cs 0 m.controls i)

  pub judged_alike : (screen gallery : Option ℕ) (acts : Bool) (w : Option Shape) (e : Tree) →
      judge_whole (record { names = one; screen = screen; gallery = gallery; settled = true }) acts w e ≡ judge_whole (record { names = other; screen = screen; gallery = gallery; settled = true }) acts w e
  judged_alike screen gallery acts w e = whole_alike screen gallery true acts w e
