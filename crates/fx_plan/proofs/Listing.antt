-- Sites, one after another.
use Rattle.std.proofs.Common.{◌≡◌, ℕ, suc, ◌+◌, ◌<◌, ◌≤◌, Bool, true, false, ◌&&◌, List, [], ◌∷◌, ◌++◌, length, get_or, drop, refl, sym, ap, ◌∙◌, subst, arith, append_assoc, length-append}
use Rattle.std.proofs.Math.Seq.{drop-cons}
use Rattle.std.proofs.lemmas.List.{append-nil}
use Rattle.std.specs.Prelude.{Some, codes, unwrap_or}
use Rattle.std.proofs.Math.Bool.{and-false, and-true}
use Rattle.fx_core.specs.declared.functions.Fun.{Fun}
use Rattle.fx_core.specs.declared.schema.TableShape.{TableShape}
use Rattle.fx_core.specs.Term.{Term, Terms, of, nil, cons, all, over, field_terms}
use Rattle.fx_core.specs.Term as top
use Rattle.fx_plan.specs.CallNames.{function_name}
use Rattle.fx_plan.specs.declared.site_list.Scoped.{Scoped}
use Rattle.fx_plan.specs.declared.site_list.Scoped.TheVariants.{Formulas}
use Rattle.fx_core.specs.declared.sites.Site.{Site}
use Rattle.fx_plan.specs.SitePlaces.{scope_opened, parts_in, stand_at, within_call}
use Rattle.fx_plan.specs.Sites.{Position, Use, deeper, is_asked, listed, opens_row_scope, own_use, part_at, site, sites_numbered, takes_whole, terms_count, totals, uses_among, uses_in}

numbered_length : (n : ℕ) (us : List Use) → length (sites_numbered n us) ≡ length us
numbered_length n [] = refl
numbered_length n (u ∷ us) = ap suc (numbered_length (suc n) us)

numbered_more : (n m : ℕ) (us vs : List Use) → m ≡ n + length us → sites_numbered n (us ++ vs) ≡ sites_numbered n us ++ sites_numbered m vs
numbered_more n m [] vs e = let same : n ≡ m = omega (arith, e) in ap (λ k. sites_numbered k vs) same
numbered_more n m (u ∷ us) vs e =
    let next : m ≡ suc n + length us = omega (arith, e) in ap (λ ss. site n u ∷ ss) (numbered_more (suc n) m us vs next)

pub listed_more : (ss : List Site) (us vs : List Use) → listed (listed ss us) vs ≡ listed ss (us ++ vs)
listed_more ss us vs =
    let many : suc (length (ss ++ sites_numbered (suc (length ss)) us)) ≡ suc (length ss) + length us =
    omega (arith, length-append ss (sites_numbered (suc (length ss)) us), numbered_length (suc (length ss)) us) in
    append_assoc ss (sites_numbered (suc (length ss)) us) (sites_numbered (suc (length (listed ss us))) vs)
    ∙ ap (λ x. ss ++ x) (sym (numbered_more (suc (length ss)) (suc (length (listed ss us))) us vs many))

-- one list and then another
pub listed_then : (ss mid next : List Site) (us vs : List Use) → mid ≡ listed ss us → next ≡ listed mid vs → next ≡ listed ss (us ++ vs)
listed_then ss mid next us vs e f = f ∙ ap (λ x. listed x vs) e ∙ listed_more ss us vs

-- a tree: itself, and then its parts
pub uses_split : (ts : List TableShape) (p : Position) (c : Term) → uses_in ts p c ≡ own_use ts p c ++ uses_among ts (part_at ts p c) 0 (parts_in c)
uses_split ts p (of h cs) = refl

module _ (ts : List TableShape) (at : ℕ → Position) (i : ℕ) (now next whole : List Site) where
  step : (c : Term) (rest : Terms) → next ≡ listed now (uses_in ts (at i) c) → listed now (uses_among ts at i (cons c rest)) ≡ whole →
      listed next (uses_among ts at (suc i) rest) ≡ whole
  step c rest e h = ap (λ x. listed x (uses_among ts at (suc i) rest)) e ∙ listed_more now (uses_in ts (at i) c) (uses_among ts at (suc i) rest) ∙ h

  -- a part of a list, and a field of a record
  pub next_part : (cs : List Term) (c : Term) → i < length cs → c ≡ get_or cs i c → next ≡ listed now (uses_in ts (at i) c) →
      listed now (uses_among ts at i (all (drop i cs))) ≡ whole → listed next (uses_among ts at (i + 1) (all (drop (i + 1) cs))) ≡ whole
  next_part cs c l e f h =
      let more : i + 1 ≡ suc i = omega arith in
      let split : drop i cs ≡ c ∷ drop (suc i) cs = drop-cons cs i c l ∙ ap (λ x. x ∷ drop (suc i) cs) (sym e) in
      subst (λ j. listed next (uses_among ts at j (all (drop j cs))) ≡ whole) (sym more)
      (step c (all (drop (suc i) cs)) f (ap (λ xs. listed now (uses_among ts at i (all xs))) (sym split) ∙ h))

  pub next_field : (fs : List (List ℕ × Term)) (f : List ℕ × Term) → i < length fs → f ≡ get_or fs i f → next ≡ listed now (uses_in ts (at i) f.1) →
      listed now (uses_among ts at i (field_terms (drop i fs))) ≡ whole → listed next (uses_among ts at (i + 1) (field_terms (drop (i + 1) fs))) ≡ whole
  next_field fs f l e g h =
      let more : i + 1 ≡ suc i = omega arith in
      let split : drop i fs ≡ f ∷ drop (suc i) fs = drop-cons fs i f l ∙ ap (λ x. x ∷ drop (suc i) fs) (sym e) in
      subst (λ j. listed next (uses_among ts at j (field_terms (drop j fs))) ≡ whole) (sym more)
      (step f.1 (field_terms (drop (suc i) fs)) g (ap (λ xs. listed now (uses_among ts at i (field_terms xs))) (sym split) ∙ h))

-- parts that stand at the places of others behind one
uses_behind : (ts : List TableShape) (at bt : ℕ → Position) → ((n : ℕ) → at (suc n) ≡ bt n) → (i : ℕ) (cs : Terms) →
    uses_among ts at (suc i) cs ≡ uses_among ts bt i cs
uses_behind ts at bt same i nil = refl
uses_behind ts at bt same i (cons c cs) =
    ap (λ p. uses_in ts p c ++ uses_among ts at (suc (suc i)) cs) (same i) ∙ ap (λ us. uses_in ts (bt i) c ++ us) (uses_behind ts at bt same (suc i) cs)

count_is : (cs : List Term) → terms_count (all cs) ≡ length cs
count_is [] = refl
count_is (c ∷ cs) = ap suc (count_is cs)

-- a call over a table: the table, and then the parts behind it
module _ (ts : List TableShape) (p : Position) (f : Fun) (rows : Term) (parts : List Term) where
  placed : ℕ → Bool → Bool → Position
  placed k d e = record { depth = k; by = unwrap_or (function_name f) p.by; delegated = d; inner = e }

  others : (n : ℕ) → part_at ts p (of (over f) (cons rows (all parts))) (suc n) ≡ stand_at (Formulas f (length parts + 1)) (within_call (function_name f) p) n
  unfolding placed
  others n =
      let h = count_is parts in
      let many : suc (terms_count (all parts)) ≡ length parts + 1 = omega (arith, h) in
      let whole : Bool = takes_whole ts p.depth (of (over f) (cons rows (all parts))) in
      let query : Bool = is_asked ts p.depth (of (over f) (cons rows (all parts))) in
      ap (λ b. placed (deeper (opens_row_scope (over f) (suc (terms_count (all parts))) (suc n)) p.depth) b (query && false)) (and-false whole)
      ∙ ap (λ b. placed (deeper (opens_row_scope (over f) (suc (terms_count (all parts))) (suc n)) p.depth) false b) (and-false query)
      ∙ ap (λ m. placed (deeper (opens_row_scope (over f) m (suc n)) p.depth) false false) many

  over_uses :
      uses_among ts (part_at ts p (of (over f) (cons rows (all parts)))) 0 (cons rows (all parts))
      ≡ uses_in ts (record (within_call (function_name f) p) { delegated = takes_whole ts p.depth (of (over f) (cons rows (all parts))); inner = is_asked ts p.depth (of (over f) (cons rows (all parts))) }) rows
      ++ uses_among ts (stand_at (Formulas f (length parts + 1)) (within_call (function_name f) p)) 0 (all parts)
  unfolding placed
  over_uses =
      let whole : Bool = takes_whole ts p.depth (of (over f) (cons rows (all parts))) in
      let query : Bool = is_asked ts p.depth (of (over f) (cons rows (all parts))) in
      let first : placed p.depth (whole && true) (query && true) ≡ placed p.depth whole query =
      ap (λ b. placed p.depth b (query && true)) (and-true whole) ∙ ap (λ b. placed p.depth whole b) (and-true query) in
      ap (λ q. uses_in ts q rows ++ uses_among ts (part_at ts p (of (over f) (cons rows (all parts)))) 1 (all parts)) first
      ∙ ap (λ us. uses_in ts (placed p.depth whole query) rows ++ us)
      (uses_behind ts (part_at ts p (of (over f) (cons rows (all parts)))) (stand_at (Formulas f (length parts + 1)) (within_call (function_name f) p)) others 0 (all parts))

  -- the sites of the call, from those of the table and of the parts behind it
  pub over_listed : (c : Term) (scoped : Scoped) (around first : Position) (ss mid next : List Site) → of (over f) (cons rows (all parts)) ≡ c → around ≡ within_call (function_name f) p →
      first ≡ record around { delegated = takes_whole ts p.depth c; inner = is_asked ts p.depth c } → mid ≡ listed ss (uses_in ts first rows) →
      scoped ≡ Formulas f (length parts + 1) → next ≡ listed mid (uses_among ts (stand_at scoped around) 0 (all parts)) →
      next ≡ listed ss (uses_among ts (part_at ts p c) 0 (parts_in c))
  over_listed c scoped around first ss mid next is_call is_around is_first e is_scoped h =
      let table : first ≡ record (within_call (function_name f) p) { delegated = takes_whole ts p.depth (of (over f) (cons rows (all parts))); inner = is_asked ts p.depth (of (over f) (cons rows (all parts))) } =
      is_first
      ∙ ap (λ (q : Position). record q { delegated = takes_whole ts p.depth c; inner = is_asked ts p.depth c }) is_around
      ∙ ap (λ k. record (within_call (function_name f) p) { delegated = takes_whole ts p.depth k; inner = is_asked ts p.depth k }) (sym is_call) in
      listed_then ss mid next _ _ (e ∙ ap (λ q. listed ss (uses_in ts q rows)) table)
      (h ∙ ap (λ s. listed mid (uses_among ts (stand_at s around) 0 (all parts))) is_scoped
      ∙ ap (λ q. listed mid (uses_among ts (stand_at (Formulas f (length parts + 1)) q) 0 (all parts))) is_around)
      ∙ ap (λ us. listed ss us) (sym over_uses)
      ∙ ap (λ k. listed ss (uses_among ts (part_at ts p k) 0 (parts_in k))) is_call

-- the sites of `With`, from those of the record and of the formula in its scope
pub with_listed : (ts : List TableShape) (p : Position) (scope formula c : Term) (around behind : Position) (ss mid next : List Site) →
    of top.within (cons scope (cons formula nil)) ≡ c → around ≡ within_call (Some (codes "With")) p → behind ≡ scope_opened true around →
    mid ≡ listed ss (uses_in ts around scope) → next ≡ listed mid (uses_in ts behind formula) →
    next ≡ listed ss (uses_among ts (part_at ts p c) 0 (parts_in c))
with_listed ts p scope formula c around behind ss mid next is_call is_around is_behind e h =
    let named : Position = within_call (Some (codes "With")) p in
    listed_then ss mid next (uses_in ts named scope) (uses_in ts (scope_opened true named) formula ++ []) (e ∙ ap (λ q. listed ss (uses_in ts q scope)) is_around)
    (h ∙ ap (λ q. listed mid (uses_in ts q formula)) (is_behind ∙ ap (scope_opened true) is_around)
    ∙ ap (λ us. listed mid us) (sym (append-nil (uses_in ts (scope_opened true named) formula))))
    ∙ ap (λ k. listed ss (uses_among ts (part_at ts p k) 0 (parts_in k))) is_call

-- a total has one formula
pub totals_none : (ts : List TableShape) (k : ℕ) (q : Term) (cs : List Term) → 2 ≤ length cs → false ≡ totals ts k q (all cs)
totals_none ts k q [] h = absurd (omega (arith, h))
totals_none ts k q (a ∷ []) h = absurd (omega (arith, h))
totals_none ts k q (a ∷ b ∷ cs) h = refl
