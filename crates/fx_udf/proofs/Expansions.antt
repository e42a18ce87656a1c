-- A tree with calls becomes one tree without, where functions have an order.
use Rattle.std.proofs.Common.{◌≡◌, ◌⊎◌, inl, inr, ℕ, zero, suc, ◌+◌, ◌<◌, ◌≤◌, List, [], ◌∷◌, ◌++◌, length, take, get_or, slice_get, Some, refl, sym, ap, ap₂, subst, ◌∙◌, arith}
use Rattle.std.specs.Prelude.{slice_index}
use Rattle.std.specs.List.{Contains}
use Rattle.std.proofs.lemmas.Grind.{get_or_default_zero}
use Rattle.std.proofs.lemmas.List.{get_or-take, length-take-le}
use Rattle.std.proofs.lemmas.List.Elements.{Contains-append_left, Contains-append_right, Contains-push}
use Rattle.std.proofs.lemmas.Option.{get_or_from_slice_get, same_Some}
use Rattle.depend_graph.specs.Order.{IsOrder}
use Rattle.fx_core.specs.Term.{Term, Terms, of, nil, cons, Top}
use Rattle.fx_core.specs.Term as top
use Rattle.fx_typing.specs.WellTyped.{parts_count, standing_at}
use Rattle.fx_udf.specs.Calling.{called_among, called_by, called_in, calls_from, calls_in, calls_of}
use Rattle.fx_udf.specs.Expanding.{AllCallable, AllExpand, AreCallable, CallsNone, Expands, IsCallable, IsHeadCallable, arranged, call, deeper, in_record, listed, more, moved, node, none}
use Rattle.fx_udf.specs.Laws.{AllHaveExpansions, OneExpansion}

-- ---- at most one

-- what a tree becomes, by its head
record IsNode (A : List (List (List ℕ))) (B : List Term) (b d : ℕ) (h : Top) (ts : Terms) (c : Term) : Type 0 where
  calls : CallsNone h
  parts : Terms
  become : AllExpand A B b d h (parts_count ts) 0 ts parts
  is : c ≡ of (moved b h) parts

record IsCall (A : List (List (List ℕ))) (B : List Term) (b d : ℕ) (h : Top) (ts : Terms) (c : Term) : Type 0 where
  function : ℕ
  names : List (List ℕ)
  body : Term
  inner : Term
  parts : Terms
  head : h ≡ top.user function
  named : slice_get A function ≡ Some names
  bodied : slice_get B function ≡ Some body
  become : AllExpand A B b d h (parts_count ts) 0 ts parts
  becomes : Expands A B d (suc d) body inner
  is : c ≡ in_record (arranged names (listed parts)) inner

abbrev Shape : List (List (List ℕ)) → List Term → ℕ → ℕ → Term → Term → Type 0
Shape A B b d (of h ts) c = IsNode A B b d h ts c ⊎ IsCall A B b d h ts c

shape : {A : List (List (List ℕ))} {B : List Term} {b d : ℕ} {t c : Term} → Expands A B b d t c → Shape A B b d t c
shape (node b d h ts us k p) = inl (record { calls = k; parts = us; become = p; is = refl })
shape (call b d f names body e ts us x y l p q) = inr (record { function = f; names = names; body = body; inner = e; parts = us; head = refl; named = x; bodied = y; become = p; becomes = q; is = refl })

record IsMore (A : List (List (List ℕ))) (B : List Term) (b d : ℕ) (h : Top) (n i : ℕ) (t : Term) (ts us : Terms) : Type 0 where
  first : Term
  rest : Terms
  becomes : Expands A B b (deeper (standing_at h n i) d) t first
  become : AllExpand A B b d h n (suc i) ts rest
  is : us ≡ cons first rest

abbrev Shapes : List (List (List ℕ)) → List Term → ℕ → ℕ → Top → ℕ → ℕ → Terms → Terms → Type 0
Shapes A B b d h n i nil us = us ≡ nil
Shapes A B b d h n i (cons t ts) us = IsMore A B b d h n i t ts us

shapes : {A : List (List (List ℕ))} {B : List Term} {b d : ℕ} {h : Top} {n i : ℕ} {ts us : Terms} → AllExpand A B b d h n i ts us → Shapes A B b d h n i ts us
shapes (none b d h n i) = refl
shapes (more b d h n i t u ts us p q) = record { first = u; rest = us; becomes = p; become = q; is = refl }

abbrev number_of : Top → ℕ
number_of (top.user f) = f
number_of h = 0

mutual
  one : {A : List (List (List ℕ))} {B : List Term} {b d : ℕ} {t c : Term} → Expands A B b d t c → (e : Term) → Expands A B b d t e → c ≡ e
  one (node b d h ts us k p) e r = elim (shape r) [
    | inl s ↦ ap (of (moved b h)) (all_one p s.parts s.become) ∙ sym s.is
    | inr s ↦ absurd (subst CallsNone s.head k)
  ]
  one (call b d f names body i ts us x y l p q) e r = elim (shape r) [
    | inl s ↦ absurd s.calls
    | inr s ↦
        let same : f ≡ s.function = ap number_of s.head in
        let its_names : names ≡ s.names = same_Some names s.names (sym x ∙ ap (slice_get _) same ∙ s.named) in
        let its_body : s.body ≡ body = same_Some s.body body (sym s.bodied ∙ ap (slice_get _) (sym same) ∙ y) in
        let inner : i ≡ s.inner = one q s.inner (subst (λ (z : Term). Expands _ _ d (suc d) z s.inner) its_body s.becomes) in
        (λ j. in_record (arranged (its_names j) (listed (all_one p s.parts s.become j))) (inner j)) ∙ sym s.is
  ]

  all_one : {A : List (List (List ℕ))} {B : List Term} {b d : ℕ} {h : Top} {n i : ℕ} {ts us : Terms} → AllExpand A B b d h n i ts us → (vs : Terms) → AllExpand A B b d h n i ts vs → us ≡ vs
  all_one (none b d h n i) vs r = sym (shapes r)
  all_one (more b d h n i t u ts us p q) vs r =
      let s = shapes r in
      ap₂ cons (one p s.first s.becomes) (all_one q s.rest s.become) ∙ sym s.is

pub expansions_are_one : OneExpansion
expansions_are_one A B b d t c e p q = one p e q

-- ---- what a body calls is among the calls

calls_length : (a : ℕ) (xs : List ℕ) → length (calls_of a xs) ≡ length xs
calls_length a [] = refl
calls_length a (x ∷ xs) = ap suc (calls_length a xs)

calls_at : (a : ℕ) (xs : List ℕ) (k : ℕ) (d : ℕ × ℕ) (e : ℕ) → k < length xs → get_or (calls_of a xs) k d ≡ (a, get_or xs k e)
calls_at a [] k d e l = absurd (omega (arith, l))
calls_at a (x ∷ xs) zero d e l = refl
calls_at a (x ∷ xs) (suc k) d e l = calls_at a xs k d e (omega (arith, l))

calls_has : (a : ℕ) (xs : List ℕ) (f : ℕ) → Contains xs f → Contains (calls_of a xs) (a, f)
calls_has a xs f h = (h.0, (let e = calls_length a xs in let l = h.1 in omega (arith, e, l)), calls_at a xs h.0 (a, f) f h.1 ∙ ap (λ g. (a, g)) h.2)

same_number : (k : ℕ) → k ≡ k + 0
same_number k = omega arith

next_number : (k j : ℕ) → suc k + j ≡ k + suc j
next_number k j = omega arith

none_before : (k : ℕ) → 0 + k ≡ k
none_before k = omega arith

first_is : (c b : Term) (bs : List Term) → slice_get (c ∷ bs) 0 ≡ Some b → b ≡ c
first_is c b bs e = sym (get_or_from_slice_get (c ∷ bs) 0 b c e)

from_has : (n : ℕ) (bs : List Term) (g : ℕ) (b : Term) → slice_get bs g ≡ Some b → (f : ℕ) → Contains (called_in b) f → Contains (calls_from n bs) (n + g, f)
from_has n [] g b e f h = absurd cc
from_has n (c ∷ bs) zero b e f h =
    subst (λ (k : ℕ). Contains (calls_from n (c ∷ bs)) (k, f)) (same_number n)
    (Contains-append_left (calls_of n (called_in c)) (calls_from (suc n) bs) (n, f) (calls_has n (called_in c) f (subst (λ (t : Term). Contains (called_in t) f) (first_is c b bs e) h)))
from_has n (c ∷ bs) (suc g) b e f h =
    subst (λ (k : ℕ). Contains (calls_from n (c ∷ bs)) (k, f)) (next_number n g)
    (Contains-append_right (calls_of n (called_in c)) (calls_from (suc n) bs) (suc n + g, f) (from_has (suc n) bs g b e f h))

body_calls : (bs : List Term) (g : ℕ) (b : Term) → slice_get bs g ≡ Some b → (f : ℕ) → Contains (called_in b) f → Contains (calls_in bs) (g, f)
body_calls bs g b e f h = subst (λ (k : ℕ). Contains (calls_in bs) (k, f)) (none_before g) (from_has 0 bs g b e f h)

-- ---- at least one

-- the body of a function becomes a tree in the scope of its parameters
abbrev BodyBecomes : List (List (List ℕ)) → List Term → ℕ → Type 0
BodyBecomes A B f = (body : Term) → slice_get B f ≡ Some body → (d : ℕ) → (e : Term) × Expands A B d (suc d) body e

head_becomes : (A : List (List (List ℕ))) (B : List Term) (b d : ℕ) (h : Top) (ts us : Terms) → IsHeadCallable A B h ts → ((f : ℕ) → Contains (called_by h) f → BodyBecomes A B f) → AllExpand A B b d h (parts_count ts) 0 ts us → (c : Term) × Expands A B b d (of h ts) c
head_becomes A B b d (top.user f) ts us k go p =
    let e = go f (Contains-push [] f) k.1 k.3 d in
    (in_record (arranged k.0 (listed us)) e.0, call b d f k.0 k.1 e.0 ts us k.2 k.3 k.4 p e.1)
head_becomes A B b d h ts us k go p = (of (moved b h) us, node b d h ts us tt p)

mutual
  becomes : (A : List (List (List ℕ))) (B : List Term) (t : Term) → IsCallable A B t → ((f : ℕ) → Contains (called_in t) f → BodyBecomes A B f) → (b d : ℕ) → (c : Term) × Expands A B b d t c
  becomes A B (of h ts) k go b d =
      let r = all_become A B ts k.1 (λ f c. go f (Contains-append_right (called_by h) (called_among ts) f c)) b d h (parts_count ts) 0 in
      head_becomes A B b d h ts r.0 k.0 (λ f c. go f (Contains-append_left (called_by h) (called_among ts) f c)) r.1

  all_become : (A : List (List (List ℕ))) (B : List Term) (ts : Terms) → AreCallable A B ts → ((f : ℕ) → Contains (called_among ts) f → BodyBecomes A B f) → (b d : ℕ) (h : Top) (n i : ℕ) → (us : Terms) × AllExpand A B b d h n i ts us
  all_become A B nil k go b d h n i = (nil, none b d h n i)
  all_become A B (cons t ts) k go b d h n i =
      let p = becomes A B t k.0 (λ f c. go f (Contains-append_left (called_in t) (called_among ts) f c)) b (deeper (standing_at h n i) d) in
      let q = all_become A B ts k.1 (λ f c. go f (Contains-append_right (called_in t) (called_among ts) f c)) b d h n (suc i) in
      (cons p.0 q.0, more b d h n i t p.0 ts q.0 p.1 q.1)

-- the first functions of an order have bodies that become trees
first_become : (A : List (List (List ℕ))) (B : List Term) (order : List ℕ) → IsOrder (length B) (calls_in B) order → AllCallable A B → (i : ℕ) → i ≤ length order → (f : ℕ) → Contains (take i order) f → BodyBecomes A B f
first_become A B order o k zero l f c body e d = absurd (let h = c.1 in omega (arith, h))
first_become A B order o k (suc i) l f c body e d =
    let long : length (take (suc i) order) ≡ suc i = length-take-le (suc i) order l in
    let n : c.0 < length (take (suc i) order) = c.1 in
    let within : c.0 < length order = omega (arith, n, long, l) in
    let is : slice_index order c.0 ≡ f = sym (get_or_default_zero order c.0 f within) ∙ sym (get_or-take (suc i) order c.0 f (omega (arith, n, long))) ∙ c.2 in
    let its : slice_get B (slice_index order c.0) ≡ Some body = subst (λ (z : ℕ). slice_get B z ≡ Some body) (sym is) e in
    becomes A B body (k f body e)
    (λ g h. before_become A B order o k i (omega (arith, l)) c.0 (omega (arith, n, long)) g (o.behind c.0 g within (body_calls B (slice_index order c.0) body its g h)) (first_become A B order o k i (omega (arith, l)) g)) d (suc d)
  where
    before_become : (A : List (List (List ℕ))) (B : List Term) (order : List ℕ) → IsOrder (length B) (calls_in B) order → AllCallable A B → (i : ℕ) → i ≤ length order → (j : ℕ) → j < suc i → (g : ℕ) → Contains (take j order) g → (Contains (take i order) g → BodyBecomes A B g) → BodyBecomes A B g
    before_become A B order o k i l j m g c go =
        let short : length (take j order) ≡ j = length-take-le j order (omega (arith, l, m)) in
        let long : length (take i order) ≡ i = length-take-le i order l in
        let n : c.0 < length (take j order) = c.1 in
        go (c.0, omega (arith, n, short, long, m), get_or-take i order c.0 g (omega (arith, n, short, m)) ∙ sym (get_or-take j order c.0 g (omega (arith, n, short))) ∙ c.2)

whole : (xs : List ℕ) → take (length xs) xs ≡ xs
whole [] = refl
whole (x ∷ xs) = ap (λ ys. x ∷ ys) (whole xs)

found_within : (B : List Term) (i : ℕ) (t : Term) → slice_get B i ≡ Some t → i < length B
found_within [] i t e = absurd cc
found_within (y ∷ B) zero t e = omega arith
found_within (y ∷ B) (suc i) t e = let h = found_within B i t e in omega (arith, h)

same_length : (n : ℕ) → n ≤ n
same_length n = omega arith

pub all_have_expansions : AllHaveExpansions
all_have_expansions A B order o k b d t c =
    becomes A B t c
    (λ f h body e. first_become A B order o k (length order) (same_length (length order)) f (subst (λ (xs : List ℕ). Contains xs f) (sym (whole order)) ((o.all f).1 (found_within B f body e))) body e) b d
