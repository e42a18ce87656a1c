-- Settled parts one after another.
use Rattle.std.proofs.Common.{◌≡◌, ℕ, zero, suc, ◌+◌, ◌<◌, ◌≤◌, List, [], ◌∷◌, ◌++◌, length, drop, get_or, Bool, true, false, refl, sym, ap, ◌∙◌, arith}
use Rattle.std.specs.Prelude.{if◌then◌else◌}
use Rattle.std.proofs.lemmas.List.{drop_all}
use Rattle.fx_types.specs.Values.{Data}
use Rattle.fx_plan.specs.Outlines.{constant_at}
use Rattle.fx_plan.specs.QueryExpressions.{is_constant}
use Rattle.fx_core.specs.declared.functions.Fun.{Fun}
use Rattle.fx_core.specs.Term.{Term, Terms, of, nil, cons, all}
use Rattle.fx_core.specs.Term as top
use Rattle.fx_plan.specs.Settled.{as_value, by_head, condition_settled, conditions_settled, in_front, query_settled, search_settled, with_first}

-- parts in front of others
abbrev pub before : List Term → Terms × ℕ → Terms × ℕ
before [] p = p
before (x ∷ xs) p = in_front x (before xs p)

before_none : (xs : List Term) (n : ℕ) → before xs (nil, n) ≡ (all xs, n)
before_none [] n = refl
before_none (x ∷ xs) n = ap (in_front x) (before_none xs n)

before_one : (xs : List Term) (x : Term) (p : Terms × ℕ) → before (xs ++ x ∷ []) p ≡ before xs (in_front x p)
before_one [] x p = refl
before_one (y ∷ ys) x p = ap (in_front y) (before_one ys x p)

split : (cs : List Term) (i : ℕ) (c : Term) → i < length cs → c ≡ get_or cs i c → drop i cs ≡ c ∷ drop (i + 1) cs
split [] i c l e = absurd (omega (arith, l))
split (x ∷ cs) zero c l e = ap (λ y. y ∷ cs) (sym e)
split (x ∷ cs) (suc i) c l e =
    let same : suc i + 1 ≡ suc (i + 1) = omega arith in
    split cs i c (omega (arith, l)) e ∙ ap (λ n. c ∷ drop n (x ∷ cs)) (sym same)

-- one more part is settled
pub one_settled : (k : ℕ) (ds : List Data) (xs ys cs : List Term) (i n m : ℕ) (c y : Term) (r : Terms × ℕ) → i < length cs → c ≡ get_or cs i c → ys ≡ xs ++ y ∷ [] →
    (y, m) ≡ condition_settled k ds c n → before xs (conditions_settled k ds (all (drop i cs)) n) ≡ r → before ys (conditions_settled k ds (all (drop (i + 1) cs)) m) ≡ r
one_settled k ds xs ys cs i n m c y r l e f one h =
    let rest : List Term = drop (i + 1) cs in
    let Next : Term × ℕ → Terms × ℕ = λ p. in_front (p.0) (conditions_settled k ds (all rest) (p.1)) in
    ap (λ (zs : List Term). before zs (conditions_settled k ds (all rest) m)) f
    ∙ before_one xs y (conditions_settled k ds (all rest) m)
    ∙ ap (λ (p : Term × ℕ). before xs (Next p)) one
    ∙ ap (λ (zs : List Term). before xs (conditions_settled k ds (all zs) n)) (sym (split cs i c l e))
    ∙ h

-- none is left
pub all_settled : (k : ℕ) (ds : List Data) (xs cs : List Term) (i n : ℕ) (r : Terms × ℕ) → length cs ≤ i → before xs (conditions_settled k ds (all (drop i cs)) n) ≡ r → (all xs, n) ≡ r
all_settled k ds xs cs i n r l h =
    sym (before_none xs n) ∙ ap (λ (zs : List Term). before xs (conditions_settled k ds (all zs) n)) (sym (drop_all i cs l)) ∙ h

-- a constant gives way to its value
pub constant_settled : (k : ℕ) (ds : List Data) (x y : Term) (n m : ℕ) → is_constant k x ≡ true → y ≡ as_value (constant_at ds n) → m ≡ suc n → (y, m) ≡ condition_settled k ds x n
constant_settled k ds (of h cs) y n m e f g =
    ap (λ (z : Term). (z, m)) f ∙ ap (λ (i : ℕ). (as_value (constant_at ds n), i)) g ∙ sym (by (is_constant k (of h cs)) e)
  where
    by : (b : Bool) → b ≡ true → (if b then (as_value (constant_at ds n), suc n) else by_head h cs n (conditions_settled k ds cs n)) ≡ (as_value (constant_at ds n), suc n)
    by true q = refl
    by false q = absurd cc

-- a search, of which the first part behind the table is settled
pub search_there : (k : ℕ) (ds : List Data) (f : Fun) (t q x y z : Term) (ps qs xs : List Term) (n : ℕ) → of (top.over f) (cons q (all ps)) ≡ t → x ≡ q → qs ≡ ps → (y, n) ≡ query_settled k ds x →
    z ≡ y → xs ≡ with_first k ds qs n → of (top.over f) (cons z (all xs)) ≡ search_settled k ds t
search_there k ds f t q x y z ps qs xs n e same parts table own first =
    ap (λ (w : Term). of (top.over f) (cons w (all xs))) own
    ∙ ap (λ (zs : List Term). of (top.over f) (cons y (all zs))) first
    ∙ ap (λ (zs : List Term). of (top.over f) (cons y (all (with_first k ds zs n)))) parts
    ∙ ap (λ (p : Term × ℕ). of (top.over f) (cons (p.0) (all (with_first k ds ps (p.1))))) (table ∙ ap (query_settled k ds) same)
    ∙ shape ps
    ∙ ap (search_settled k ds) e
  where
    shape : (cs : List Term) → of (top.over f) (cons ((query_settled k ds q).0) (all (with_first k ds cs ((query_settled k ds q).1)))) ≡ search_settled k ds (of (top.over f) (cons q (all cs)))
    shape [] = refl
    shape (c ∷ cs) = refl
