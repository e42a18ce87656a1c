-- Parts, limited one after another.
use Rattle.std.proofs.Common.{◌≡◌, ℕ, suc, ◌+◌, ◌<◌, Bool, false, List, [], ◌∷◌, ◌++◌, length, get_or, drop, refl, sym, ap, ◌∙◌, subst, arith, append_assoc}
use Rattle.std.proofs.Math.Seq.{drop-cons}
use Rattle.std.proofs.Math.Bool.{and-false, and-true}
use Rattle.fx_plan.specs.declared.site_list.Scoped.{Scoped}
use Rattle.fx_plan.specs.declared.site_list.Scoped.TheVariants.{Nothing, Others, Formulas}
use Rattle.fx_plan.specs.Sites.{terms_count, deeper, is_formula, is_update, opens_row_scope}
use Rattle.fx_types.specs.Types.{Shape}
use Rattle.fx_core.specs.declared.deeds.Deed.{Deed}
use Rattle.fx_core.specs.declared.functions.Form.{Form}
use Rattle.fx_core.specs.declared.functions.Fun.{Fun}
use Rattle.fx_core.specs.Rows.{row_of, takes_at}
use Rattle.fx_core.specs.declared.schema.TableShape.{TableShape}
use Rattle.fx_core.specs.Term.{Term, of, nil, cons, all, term_field_names, field_terms, Top}
use Rattle.fx_core.specs.Term as top
use Rattle.fx_plan.specs.Limited.{limited, parts_limited, takes_first_whole}
use Rattle.fx_plan.specs.Limits.{depth_at, each_limited, fields_limited, with_limited_parts}

module _ (ts : List TableShape) (n k : ℕ) (h : Top) (m : ℕ) (depth : ℕ → ℕ) where
  -- the parts behind the first
  pub parts_behind : (whole : Bool) → ((i : ℕ) → deeper (opens_row_scope h m (suc i)) k ≡ depth i) → (i : ℕ) (cs : List Term) →
      parts_limited ts n k h m whole (suc i) (all cs) ≡ all (each_limited ts n depth i cs)
  parts_behind whole same i [] = refl
  parts_behind whole same i (c ∷ cs) =
      ap (λ b. cons (limited ts n (deeper (opens_row_scope h m (suc i)) k) b c) (parts_limited ts n k h m whole (suc (suc i)) (all cs))) (and-false whole)
      ∙ ap (λ j. cons (limited ts n j false c) (parts_limited ts n k h m whole (suc (suc i)) (all cs))) (same i)
      ∙ ap (λ rest. cons (limited ts n (depth i) false c) rest) (parts_behind whole same (suc i) cs)

  -- parts of which none is taken whole
  pub parts_each : ((i : ℕ) → deeper (opens_row_scope h m i) k ≡ depth i) → (i : ℕ) (cs : List Term) →
      parts_limited ts n k h m false i (all cs) ≡ all (each_limited ts n depth i cs)
  parts_each same i [] = refl
  parts_each same i (c ∷ cs) =
      ap (λ j. cons (limited ts n j false c) (parts_limited ts n k h m false (suc i) (all cs))) (same i)
      ∙ ap (λ rest. cons (limited ts n (depth i) false c) rest) (parts_each same (suc i) cs)

-- the fields of a record
pub fields_each : (ts : List TableShape) (n k : ℕ) (ns : List (List ℕ)) (m i : ℕ) (fs : List (List ℕ × Term)) →
    parts_limited ts n k (top.rec ns) m false i (field_terms fs) ≡ field_terms (fields_limited ts n k fs)
fields_each ts n k ns m i [] = refl
fields_each ts n k ns m i (f ∷ fs) = ap (λ rest. cons (limited ts n k false f.1) rest) (fields_each ts n k ns m (suc i) fs)

pub names_stay : (ts : List TableShape) (n k : ℕ) (fs : List (List ℕ × Term)) → term_field_names (fields_limited ts n k fs) ≡ term_field_names fs
names_stay ts n k [] = refl
names_stay ts n k (f ∷ fs) = ap (λ rest. f.0 ∷ rest) (names_stay ts n k fs)

count_is : (cs : List Term) → terms_count (all cs) ≡ length cs
count_is [] = refl
count_is (c ∷ cs) = ap suc (count_is cs)

-- ---- one tree

module _ (ts : List TableShape) (n k : ℕ) where
  -- a tree without parts
  pub leaf_limited : (t : Term) (h : Top) → of h nil ≡ t → t ≡ with_limited_parts ts n k t
  leaf_limited t h e = subst (λ (z : Term). z ≡ with_limited_parts ts n k z) e refl

  pub over_limited : (f : Fun) (q : Term) (cs : List Term) (x : Term) (xs : List Term) (first : Bool) (scoped : Scoped) →
      x ≡ limited ts n k first q → first ≡ takes_first_whole ts k (of (top.over f) (cons q (all cs))) → xs ≡ each_limited ts n (depth_at scoped k) 0 cs → scoped ≡ Formulas f (length cs + 1) →
      of (top.over f) (cons x (all xs)) ≡ with_limited_parts ts n k (of (top.over f) (cons q (all cs)))
  over_limited f q cs x xs first scoped a b c d =
      let h = count_is cs in
      let many : suc (terms_count (all cs)) ≡ length cs + 1 = omega (arith, h) in
      let whole : Bool = takes_first_whole ts k (of (top.over f) (cons q (all cs))) in
      let table : x ≡ limited ts n k whole q = a ∙ ap (λ z. limited ts n k z q) b in
      let behind : all xs ≡ parts_limited ts n k (top.over f) (suc (terms_count (all cs))) whole 1 (all cs) =
      ap all (c ∙ ap (λ z. each_limited ts n (depth_at z k) 0 cs) d)
      ∙ sym (parts_behind ts n k (top.over f) (suc (terms_count (all cs))) (depth_at (Formulas f (length cs + 1)) k) whole
      (λ i. ap (λ m. deeper (is_formula (takes_at (row_of f) m (suc i))) k) many) 0 cs) in
      ap (λ z. of (top.over f) (cons z (all xs))) table ∙ ap (λ z. of (top.over f) (cons (limited ts n k whole q) z)) behind
      ∙ ap (λ z. of (top.over f) (cons (limited ts n k z q) (parts_limited ts n k (top.over f) (suc (terms_count (all cs))) whole 1 (all cs)))) (sym (and-true whole))

  pub rec_limited : (fs gs : List (List ℕ × Term)) → gs ≡ fields_limited ts n k fs →
      of (top.rec (term_field_names gs)) (field_terms gs) ≡ with_limited_parts ts n k (of (top.rec (term_field_names fs)) (field_terms fs))
  rec_limited fs gs a =
      ap (λ z. of (top.rec (term_field_names z)) (field_terms z)) a ∙ ap (λ z. of (top.rec z) (field_terms (fields_limited ts n k fs))) (names_stay ts n k fs)
      ∙ ap (of (top.rec (term_field_names fs))) (sym (fields_each ts n k (term_field_names fs) (terms_count (field_terms fs)) 0 fs))

  pub act_limited : (d : Deed) (b : Bool) (cs xs : List Term) → xs ≡ each_limited ts n (depth_at (Others b) k) 0 cs → b ≡ is_update d →
      of (top.act d) (all xs) ≡ with_limited_parts ts n k (of (top.act d) (all cs))
  act_limited d b cs xs a f =
      ap (λ z. of (top.act d) (all z)) (a ∙ ap (λ z. each_limited ts n (depth_at (Others z) k) 0 cs) f)
      ∙ ap (of (top.act d)) (sym (parts_each ts n k (top.act d) (terms_count (all cs)) (depth_at (Others (is_update d)) k) (λ i. refl) 0 cs))

  pub call_limited : (f : Fun) (cs xs : List Term) → xs ≡ each_limited ts n (depth_at Nothing k) 0 cs → of (top.call f) (all xs) ≡ with_limited_parts ts n k (of (top.call f) (all cs))
  call_limited f cs xs a = ap (λ z. of (top.call f) (all z)) a ∙ ap (of (top.call f)) (sym (parts_each ts n k (top.call f) (terms_count (all cs)) (depth_at Nothing k) (λ i. refl) 0 cs))

  pub user_limited : (f : ℕ) (cs xs : List Term) → xs ≡ each_limited ts n (depth_at Nothing k) 0 cs → of (top.user f) (all xs) ≡ with_limited_parts ts n k (of (top.user f) (all cs))
  user_limited f cs xs a = ap (λ z. of (top.user f) (all z)) a ∙ ap (of (top.user f)) (sym (parts_each ts n k (top.user f) (terms_count (all cs)) (depth_at Nothing k) (λ i. refl) 0 cs))

  pub list_limited : (u : Shape) (cs xs : List Term) → xs ≡ each_limited ts n (depth_at Nothing k) 0 cs → of (top.list u) (all xs) ≡ with_limited_parts ts n k (of (top.list u) (all cs))
  list_limited u cs xs a = ap (λ z. of (top.list u) (all z)) a ∙ ap (of (top.list u)) (sym (parts_each ts n k (top.list u) (terms_count (all cs)) (depth_at Nothing k) (λ i. refl) 0 cs))

  pub chain_limited : (cs xs : List Term) → xs ≡ each_limited ts n (depth_at Nothing k) 0 cs → of top.chain (all xs) ≡ with_limited_parts ts n k (of top.chain (all cs))
  chain_limited cs xs a = ap (λ z. of top.chain (all z)) a ∙ ap (of top.chain) (sym (parts_each ts n k top.chain (terms_count (all cs)) (depth_at Nothing k) (λ i. refl) 0 cs))

  pub form_limited : (f : Form) (cs xs : List Term) → xs ≡ each_limited ts n (depth_at Nothing k) 0 cs → of (top.form f) (all xs) ≡ with_limited_parts ts n k (of (top.form f) (all cs))
  form_limited f cs xs a = ap (λ z. of (top.form f) (all z)) a ∙ ap (of (top.form f)) (sym (parts_each ts n k (top.form f) (terms_count (all cs)) (depth_at Nothing k) (λ i. refl) 0 cs))

-- ---- one part more

module _ (ts : List TableShape) (n : ℕ) where
  pub next_part : (depth : ℕ → ℕ) (i : ℕ) (now next whole : List Term) (cs : List Term) (c x : Term) → i < length cs → c ≡ get_or cs i c → x ≡ limited ts n (depth i) false c →
      next ≡ now ++ x ∷ [] → now ++ each_limited ts n depth i (drop i cs) ≡ whole → next ++ each_limited ts n depth (i + 1) (drop (i + 1) cs) ≡ whole
  next_part depth i now next whole cs c x l e f g h =
      let more : i + 1 ≡ suc i = omega arith in
      let split : drop i cs ≡ c ∷ drop (suc i) cs = drop-cons cs i c l ∙ ap (λ z. z ∷ drop (suc i) cs) (sym e) in
      let rest : List Term = each_limited ts n depth (suc i) (drop (suc i) cs) in
      subst (λ j. next ++ each_limited ts n depth j (drop j cs) ≡ whole) (sym more)
      (ap (λ z. z ++ rest) g ∙ append_assoc now (x ∷ []) rest ∙ ap (λ z. now ++ (z ∷ rest)) f ∙ ap (λ z. now ++ each_limited ts n depth i z) (sym split) ∙ h)
