-- The definition that judges and the relation are one, by induction on trees and on what relates them.
use Rattle.std.proofs.Common.{◌≡◌, ℕ, suc, ◌++◌, List, [], ◌∷◌, Bool, true, false, length, Option, Some, None, Result, Ok, Err, refl, ap, sym, subst, ◌∙◌, inl, inr, ◌⊎◌}
use Rattle.std.proofs.lemmas.List.{append-nil}
use Rattle.fx_types.specs.Types.{Shape, blanks, numbers, texts, booleans, dates, records, tables, no_columns, column}
use Rattle.fx_core.specs.Tree.{Tree, node, Forest, none, more, Head}
use Rattle.fx_core.specs.Term.{Term}
use Rattle.fx_typing.specs.Local.{value, by_way}
use Rattle.fx_typing.specs.Meaning.{Place, or_else}
use Rattle.fx_typing.specs.Ways.{way}
use Rattle.fx_typing.specs.Parts.{JudgedPart, piece, Setting, part_count}
use Rattle.fx_typing.specs.Plans.{setting_at}
use Rattle.fx_typing.specs.Typing.{judge_whole, admit, onward, at_node, judge, judge_parts, outermost_setting, to_wanted, whole_argument, position}
use Rattle.fx_typing.specs.Elaborates.{Elaborates, a_node, PartsElaborate, no_more, one_more, IsNothing, here, among_parts, HasNothing, this_part, later_part, IsOneOfAll, MeetsWanted, anything, any_table, this_type, whole_setting, FormulaElaborates, a_formula, formula_begin, FormulaIsNothing, at_a_node, as_wanted}
use Rattle.fx_typing.specs.RelationLaws.{AdmittedElaborates, ElaboratedIsAdmitted, BrokenIsNothing, WholeElaborates, WholeIsAdmitted, WholeIsNothing}
use Rattle.fx_typing.specs.Places.{first_part, part_setting}
use Rattle.fx_typing.proofs.RelatedFunctions.{becomes_ok, becomes_goes}
use Rattle.fx_typing.proofs.PartsOfCalls.{parts_may}
use Rattle.fx_typing.proofs.Nodes.{node_ok, node_goes}
use Rattle.fx_typing.proofs.RelatedPlaces.{length_one, first_one, setting_is}
use Rattle.fx_typing.proofs.RelatedSteps.{ok_is}
use Rattle.fx_typing.proofs.Broken.{onward_err}
use Rattle.fx_typing.proofs.Frame.{onward_ok, at_node_ok, put_one}

onward_goes : {A B : Type 0} (r : Result A (ℕ × ℕ)) (go : A → Result B (ℕ × ℕ)) (a : A) (b : B) → r ≡ Ok a → go a ≡ Ok b → onward r go ≡ Ok b
onward_goes r go a b e f = ap (λ z. onward z go) e ∙ f

at_node_err : {A : Type 0} (at w rule : ℕ) (r : Result A ℕ) → at_node at r ≡ Err (w, rule) → (at ≡ w) × (r ≡ Err rule)
at_node_err at w rule (Ok x) e = absurd cc
at_node_err at w rule (Err q) e = let k : (at, q) ≡ (w, rule) = cc in (ap (λ (z : ℕ × ℕ). z.0) k, ap (λ (z : ℕ × ℕ). Err z.1) k)

never_both : {A B : Type 0} (r : Result A B) (a : A) (b : B) → r ≡ Ok a → r ≡ Err b → ⊥
never_both r a b e f = absurd cc

module _ (p : Place) (st : p.settled ≡ true) where
  -- parts behind the ones that are judged, as they stand there
  abbrev Behind : Setting → Head → ℕ → List JudgedPart → Forest → List JudgedPart → Type 0
  Behind s h n done ts qs = PartsElaborate p s h n (length done) (first_part done) ts qs

  stand_here : (s : Setting) (h : Head) (n : ℕ) (done : List JudgedPart) (k : Tree) (q : JudgedPart) → Elaborates p (setting_at p.names s h n done) k q →
      Elaborates p (part_setting p.names s h n (length done) (first_part done)) k q
  stand_here s h n done k q e = subst (λ z. Elaborates p z k q) (setting_is p.names s h n done) e

  mutual
    relates : (s : Setting) (e : Tree) (q : JudgedPart) → judge p s e ≡ Ok q → Elaborates p s e q
    relates s (node at h ts) q e =
        let a = onward_ok (judge_parts p s h (part_count ts) [] ts) (λ qs. at_node at (admit p s h qs)) q e in
        let b = relates_parts s h (part_count ts) [] ts a.0 a.1 in
        a_node (subst (PartsElaborate p s h (part_count ts) 0 None ts) b.1 b.2) (node_ok p s st h a.0 q (at_node_ok at (admit p s h a.0) q a.2))

    relates_parts : (s : Setting) (h : Head) (n : ℕ) (done : List JudgedPart) (ts : Forest) (whole : List JudgedPart) → judge_parts p s h n done ts ≡ Ok whole →
        (qs : List JudgedPart) × (done ++ qs ≡ whole) × Behind s h n done ts qs
    relates_parts s h n done none whole e = let k : done ≡ whole = cc in ([], append-nil done ∙ k, no_more)
    relates_parts s h n done (more t ts) whole e =
        let a = onward_ok (judge p (setting_at p.names s h n done) t) (λ q. judge_parts p s h n (done ++ q ∷ []) ts) whole e in
        let b = relates_parts s h n (done ++ a.0 ∷ []) ts whole a.2 in
        let here_first = stand_here s h n done t a.0 (relates (setting_at p.names s h n done) t a.0 a.1) in
        let counted = subst (λ i. PartsElaborate p s h n i (first_part (done ++ a.0 ∷ [])) ts b.0) (length_one done a.0) b.2 in
        let behind = subst (λ f. PartsElaborate p s h n (suc (length done)) f ts b.0) (first_one done a.0) counted in
        (a.0 ∷ b.0, sym (put_one done a.0 b.0) ∙ b.1, one_more here_first behind)

  -- what is related where the done parts put it is judged there
  mutual
    judged : (s : Setting) (e : Tree) (q : JudgedPart) → Elaborates p s e q → judge p s e ≡ Ok q
    judged s e q (a_node {at = at} {h = h} {ts = ts} {qs = qs} parts whole) =
        onward_goes (judge_parts p s h (part_count ts) [] ts) (λ qs. at_node at (admit p s h qs)) qs q
        (judged_parts s h (part_count ts) 0 None ts qs [] refl refl parts) (ap (at_node at) (node_goes p s st h qs q (part_count ts) (parts_may p s h (part_count ts) 0 None ts qs parts) whole))

    judged_parts : (s : Setting) (h : Head) (n i : ℕ) (first : Option JudgedPart) (ts : Forest) (qs done : List JudgedPart) → length done ≡ i → first_part done ≡ first →
        PartsElaborate p s h n i first ts qs → judge_parts p s h n done ts ≡ Ok (done ++ qs)
    judged_parts s h n i first ts qs done l f no_more = ap Ok (sym (append-nil done))
    judged_parts s h n i first ts qs done l f (one_more {k = k} {ks = ks} {q = q} {qs = others} one rest) =
        let there : setting_at p.names s h n done ≡ part_setting p.names s h n i first =
        setting_is p.names s h n done ∙ (λ j. part_setting p.names s h n (l j) (f j)) in
        onward_goes (judge p (setting_at p.names s h n done) k) (λ z. judge_parts p s h n (done ++ z ∷ []) ks) q (done ++ q ∷ others)
        (ap (λ z. judge p z k) there ∙ judged (part_setting p.names s h n i first) k q one)
        (judged_parts s h n (suc i) (or_else first (Some q)) ks others (done ++ q ∷ []) (length_one done q ∙ ap suc l) (first_one done q ∙ ap (λ z. or_else z (Some q)) f) rest
        ∙ ap Ok (put_one done q others))

  -- a broken node
  mutual
    nothing_at : (s : Setting) (e : Tree) (w rule : ℕ) → judge p s e ≡ Err (w, rule) → IsNothing p s e w
    nothing_at s (node at h ts) w rule e =
        elim (onward_err (judge_parts p s h (part_count ts) [] ts) (λ qs. at_node at (admit p s h qs)) (w, rule) e) [
          | inl a ↦ among_parts (nothing_in s h (part_count ts) [] ts w rule a)
          | inr b ↦ (let k = at_node_err at w rule (admit p s h b.0) b.2 in
              let parts = relates_parts s h (part_count ts) [] ts b.0 b.1 in
              subst (IsNothing p s (node at h ts)) k.0 (here parts.2 (λ q r. never_both (judge p s (node at h ts)) q (w, rule) (judged s (node at h ts) q r) e)))
        ]

    nothing_in : (s : Setting) (h : Head) (n : ℕ) (done : List JudgedPart) (ts : Forest) (w rule : ℕ) → judge_parts p s h n done ts ≡ Err (w, rule) →
        HasNothing p s h n (length done) (first_part done) ts w
    nothing_in s h n done none w rule e = absurd cc
    nothing_in s h n done (more t ts) w rule e =
        elim (onward_err (judge p (setting_at p.names s h n done) t) (λ q. judge_parts p s h n (done ++ q ∷ []) ts) (w, rule) e) [
          | inl a ↦ this_part (subst (λ z. IsNothing p z t w) (setting_is p.names s h n done) (nothing_at (setting_at p.names s h n done) t w rule a))
          | inr b ↦ (let rest = nothing_in s h n (done ++ b.0 ∷ []) ts w rule b.2 in
              let counted = subst (λ i. HasNothing p s h n i (first_part (done ++ b.0 ∷ [])) ts w) (length_one done b.0) rest in
              later_part (stand_here s h n done t b.0 (relates (setting_at p.names s h n done) t b.0 b.1))
              (subst (λ f. HasNothing p s h n (suc (length done)) f ts w) (first_one done b.0) counted))
        ]

-- ---- whole formulas
whole_is : (b : Bool) → outermost_setting b ≡ whole_setting b
whole_is true = refl
whole_is false = refl

this_is_wanted : (t : Shape) (c : Term) (u : Shape) (x : Term × Shape) → (IsOneOfAll t u → ⊥) → by_way (way u t) c t ≡ Ok x → MeetsWanted (Some t) (c, u) x
this_is_wanted t c u x i e = let b = becomes_ok (way u t) c t x e in subst (MeetsWanted (Some t) (c, u)) b.2 (this_type i b.1)

wanted_ok : (w : Option Shape) (c : Term) (t : Shape) (x : Term × Shape) → to_wanted w (c, t) ≡ Ok x → MeetsWanted w (c, t) x
wanted_ok None c t x e = subst (MeetsWanted None (c, t)) (ok_is (c, t) x e) anything
wanted_ok (Some (tables no_columns)) c (tables cs) x e = subst (MeetsWanted (Some (tables no_columns)) (c, tables cs)) (ok_is (c, tables cs) x e) any_table
wanted_ok (Some (tables no_columns)) c blanks x e = this_is_wanted (tables no_columns) c blanks x (λ i. absurd i) e
wanted_ok (Some (tables no_columns)) c numbers x e = this_is_wanted (tables no_columns) c numbers x (λ i. absurd i) e
wanted_ok (Some (tables no_columns)) c texts x e = this_is_wanted (tables no_columns) c texts x (λ i. absurd i) e
wanted_ok (Some (tables no_columns)) c booleans x e = this_is_wanted (tables no_columns) c booleans x (λ i. absurd i) e
wanted_ok (Some (tables no_columns)) c dates x e = this_is_wanted (tables no_columns) c dates x (λ i. absurd i) e
wanted_ok (Some (tables no_columns)) c (records cs) x e = this_is_wanted (tables no_columns) c (records cs) x (λ i. absurd i) e
wanted_ok (Some (tables (column n v cs))) c t x e = this_is_wanted (tables (column n v cs)) c t x (λ i. absurd i) e
wanted_ok (Some blanks) c t x e = this_is_wanted blanks c t x (λ i. absurd i) e
wanted_ok (Some numbers) c t x e = this_is_wanted numbers c t x (λ i. absurd i) e
wanted_ok (Some texts) c t x e = this_is_wanted texts c t x (λ i. absurd i) e
wanted_ok (Some booleans) c t x e = this_is_wanted booleans c t x (λ i. absurd i) e
wanted_ok (Some dates) c t x e = this_is_wanted dates c t x (λ i. absurd i) e
wanted_ok (Some (records cs)) c t x e = this_is_wanted (records cs) c t x (λ i. absurd i) e

by_just_this : (t u : Shape) (c : Term) → (IsOneOfAll t u → ⊥) → to_wanted (Some t) (c, u) ≡ by_way (way u t) c t
by_just_this (tables no_columns) (tables cs) c i = absurd (i tt)
by_just_this (tables no_columns) blanks c i = refl
by_just_this (tables no_columns) numbers c i = refl
by_just_this (tables no_columns) texts c i = refl
by_just_this (tables no_columns) booleans c i = refl
by_just_this (tables no_columns) dates c i = refl
by_just_this (tables no_columns) (records cs) c i = refl
by_just_this (tables (column n v cs)) u c i = refl
by_just_this blanks u c i = refl
by_just_this numbers u c i = refl
by_just_this texts u c i = refl
by_just_this booleans u c i = refl
by_just_this dates u c i = refl
by_just_this (records cs) u c i = refl

wanted_goes : (w : Option Shape) (z x : Term × Shape) → MeetsWanted w z x → to_wanted w z ≡ Ok x
wanted_goes w z x anything = refl
wanted_goes w z x any_table = refl
wanted_goes w z x (this_type {c = c} {d = d} {t = t} {u = u} i b) = by_just_this t u c i ∙ becomes_goes (way u t) c t d b

whole_part : (w : Option Shape) (q : JudgedPart) (x : Term × Shape) → whole_argument w q ≡ Ok x →
    (a : Option (List ℕ)) × (c : Term) × (t : Shape) × (q ≡ piece (value a c t)) × MeetsWanted w (c, t) x
whole_part w (piece (value a c t)) x e = (a, c, t, refl, wanted_ok w c t x e)
whole_part w q x e = absurd cc

pub admitted_elaborates : AdmittedElaborates
admitted_elaborates p s e q st h = relates p st s e q h

pub elaborated_is_admitted : ElaboratedIsAdmitted
elaborated_is_admitted p s e q st h = judged p st s e q h

pub broken_is_nothing : BrokenIsNothing
broken_is_nothing p s e w rule st h = nothing_at p st s e w rule h

pub whole_elaborates : WholeElaborates
whole_elaborates p b wanted e x st h =
    let a = onward_ok (judge p (outermost_setting b) e) (λ q. at_node (position e) (whole_argument wanted q)) x h in
    let k = whole_part wanted a.0 x (at_node_ok (position e) (whole_argument wanted a.0) x a.2) in
    let r = relates p st (outermost_setting b) e a.0 a.1 in
    let stood : Elaborates p (whole_setting b) e a.0 = subst (λ s. Elaborates p s e a.0) (whole_is b) r in
    a_formula (subst (Elaborates p (whole_setting b) e) k.3 stood) k.4

pub whole_is_admitted : WholeIsAdmitted
whole_is_admitted p b wanted e x st (a_formula {a = a} {c = c} {t = t} r w) =
    onward_goes (judge p (outermost_setting b) e) (λ q. at_node (position e) (whole_argument wanted q)) (piece (value a c t)) x
    (ap (λ s. judge p s e) (whole_is b) ∙ judged p st (whole_setting b) e (piece (value a c t)) r)
    (ap (at_node (position e)) (wanted_goes wanted (c, t) x w))

begins_there : (e : Tree) → formula_begin e ≡ position e
begins_there (node at h ts) = refl

pub whole_is_nothing : WholeIsNothing
whole_is_nothing p b wanted e w rule st h =
    let never = λ (x : Term × Shape) (r : FormulaElaborates p b wanted e x). never_both (judge_whole p b wanted e) x (w, rule) (whole_is_admitted p b wanted e x st r) h in
    (where_nothing (λ x r. never x r) (onward_err (judge p (outermost_setting b) e) (λ q. at_node (position e) (whole_argument wanted q)) (w, rule) h), never)
  where
    where_nothing : ((x : Term × Shape) → FormulaElaborates p b wanted e x → ⊥) →
        (judge p (outermost_setting b) e ≡ Err (w, rule)) ⊎ ((q : JudgedPart) × (judge p (outermost_setting b) e ≡ Ok q) × (at_node (position e) (whole_argument wanted q) ≡ Err (w, rule))) →
        FormulaIsNothing p b wanted e w
    where_nothing never (inl a) = at_a_node (subst (λ s. IsNothing p s e w) (whole_is b) (nothing_at p st (outermost_setting b) e w rule a))
    where_nothing never (inr (q, a, f)) =
        let k = at_node_err (position e) w rule (whole_argument wanted q) f in
        let r = subst (λ s. Elaborates p s e q) (whole_is b) (relates p st (outermost_setting b) e q a) in
        subst (FormulaIsNothing p b wanted e) (begins_there e ∙ k.0) (as_wanted r never)
