-- Trees in which each call of a function of the app's own is replaced by the function's body.
use Rattle.std.specs.Prelude.{◌≡◌, ℕ, suc, ◌+◌, List, [], ◌∷◌, map, length, Some, slice_get, Vec}
use Rattle.std.specs.Ordering.{match_ordering, nat_cmp}
use Rattle.std.specs.Cmp.Lexicographic.{slice_cmp}
use Rattle.std.specs.declared.alloc.Global.{Global}
use Rattle.fx_core.specs.Term.{Term, Terms, of, nil, cons, Top, term_field_names, field_terms}
use Rattle.fx_core.specs.Term as top
use Rattle.fx_typing.specs.WellTyped.{PartScope, bound, inside, parts_count, standing_at}

-- the parts in order
abbrev pub listed : Terms → List Term
listed nil = []
listed (cons t ts) = t ∷ listed ts

-- the names of the parameters of each function, by their positions
abbrev pub names_of : List (Vec (List ℕ) Global) → List (List (List ℕ))
names_of arity = map (λ v. v.items) arity

-- ---- things by rising names

-- a thing in its place among others by rising names
abbrev pub among : {A : Type 0} → List ℕ → A → List (List ℕ × A) → List (List ℕ × A)
among n x [] = (n, x) ∷ []
among n x (p ∷ ps) = match_ordering (slice_cmp nat_cmp n p.0) ((n, x) ∷ p ∷ ps) ((n, x) ∷ p ∷ ps)
    (p ∷ among n x ps)

-- things under these names, put one after another among others
abbrev pub put_each : {A : Type 0} → List (List ℕ) → List A → List (List ℕ × A)
    → List (List ℕ × A)
put_each [] xs ps = ps
put_each (n ∷ ns) [] ps = ps
put_each (n ∷ ns) (x ∷ xs) ps = put_each ns xs (among n x ps)

abbrev pub arranged : {A : Type 0} → List (List ℕ) → List A → List (List ℕ × A)
arranged ns xs = put_each ns xs []

-- ---- calls

-- a body in the scope of the record of a call's arguments
abbrev pub in_record : List (List ℕ × Term) → Term → Term
in_record fs body = of top.within (cons (of (top.rec (term_field_names fs)) (field_terms fs))
    (cons body nil))

-- under how many scopes a part stands: in that of a row or a record there is one more
abbrev pub deeper : PartScope → ℕ → ℕ
deeper inside d = suc d
deeper bound d = suc d
deeper s d = d

-- a head where so many scopes stand around the tree, of which it knows nothing
abbrev pub moved : ℕ → Top → Top
moved b (top.row k) = top.row (b + k)
moved b h = h

-- a head that calls no function of the app's own
abbrev pub CallsNone : Top → Type 0
CallsNone (top.user f) = ⊥
CallsNone h = Unit {0}

-- There are functions with these names of parameters and these bodies. A tree that stands under d
-- scopes, and sees all but the first b of them, becomes one without calls: a call of it is its
-- function's body in the scope of the record of its arguments, and the body sees this scope alone.
mutual
  pub data Expands (A : List (List (List ℕ))) (bodies : List Term) : ℕ → ℕ → Term → Term → Type 0
    where
      node : (b d : ℕ) (h : Top) (ts us : Terms) → CallsNone h
          → AllExpand A bodies b d h (parts_count ts) 0 ts us
          → Expands A bodies b d (of h ts) (of (moved b h) us)
      call : (b d f : ℕ) (names : List (List ℕ)) (body e : Term) (ts us : Terms)
          → slice_get A f ≡ Some names → slice_get bodies f ≡ Some body
          → length (listed ts) ≡ length names
          → AllExpand A bodies b d (top.user f) (parts_count ts) 0 ts us
          → Expands A bodies d (suc d) body e
          → Expands A bodies b d (of (top.user f) ts) (in_record (arranged names (listed us)) e)

  -- the parts of a head from a place on, of which there are so many, each under its scopes
  pub data AllExpand (A : List (List (List ℕ))) (bodies : List Term)
      : ℕ → ℕ → Top → ℕ → ℕ → Terms → Terms → Type 0 where
    none : (b d : ℕ) (h : Top) (n i : ℕ) → AllExpand A bodies b d h n i nil nil
    more : (b d : ℕ) (h : Top) (n i : ℕ) (t u : Term) (ts us : Terms)
        → Expands A bodies b (deeper (standing_at h n i) d) t u
        → AllExpand A bodies b d h n (suc i) ts us
        → AllExpand A bodies b d h n i (cons t ts) (cons u us)

-- the calls of a tree have an argument for each parameter
abbrev pub IsHeadCallable : List (List (List ℕ)) → List Term → Top → Terms → Type 0
IsHeadCallable A bodies (top.user f) ts = (names : List (List ℕ)) × (body : Term)
    × (slice_get A f ≡ Some names) × (slice_get bodies f ≡ Some body)
    × (length (listed ts) ≡ length names)
IsHeadCallable A bodies h ts = Unit {0}

abbrev mutual
  pub IsCallable : List (List (List ℕ)) → List Term → Term → Type 0
  IsCallable A bodies (of h ts) = IsHeadCallable A bodies h ts × AreCallable A bodies ts

  pub AreCallable : List (List (List ℕ)) → List Term → Terms → Type 0
  AreCallable A bodies nil = Unit {0}
  AreCallable A bodies (cons t ts) = IsCallable A bodies t × AreCallable A bodies ts

-- so do those of the bodies
abbrev pub AllCallable : List (List (List ℕ)) → List Term → Type 0
AllCallable A bodies = (f : ℕ) (body : Term) → slice_get bodies f ≡ Some body
    → IsCallable A bodies body
