-- Lists that get items.
use Rattle.std.proofs.Common.{◌≡◌, ◌⊎◌, ◌↔◌, ℕ, ◌+◌, ◌<◌, ◌≤◌, List, [], ◌∷◌, ◌++◌, length, get_or, set, take, refl, ap, sym, ◌∙◌, subst, inl, inr, arith, get_or-set_same, get_or-set_other}
use Rattle.std.proofs.lemmas.List.{take_more, get_or_past}
use Rattle.std.proofs.lemmas.List.Elements.{Contains-push, Contains-push_cases, Contains-append_left}
use Rattle.std.proofs.lemmas.Bool.{cases_eq, cases_lt}
use Rattle.std.specs.List.{Contains}
use Rattle.std.specs.Prelude.{Vec}
use Rattle.std.specs.declared.alloc.Global.{Global}
use Rattle.std.proofs.lemmas.List.{map-set, get_or-map}
use Rattle.depend_graph.specs.Lists.{nth_list, lists_of, AddsEach, AreReaders, AreTurned}

-- what a read of one list gives
pub list_at : (ls : List (Vec ℕ Global)) (i : ℕ) (v : Vec ℕ Global) → i < length ls → v ≡ get_or ls i v → nth_list (lists_of ls) i ≡ v.items
list_at ls i v lt e = get_or-map (λ (w : Vec ℕ Global). w.items) ls i v [] lt ∙ ap (λ (w : Vec ℕ Global). w.items) (sym e)

-- the lists with one item more
abbrev pub with_item : List (List ℕ) → ℕ → ℕ → List (List ℕ)
with_item ls place item = set ls place (nth_list ls place ++ item ∷ [])

-- a push to one list
pub pushed : (ls : List (Vec ℕ Global)) (i item : ℕ) (v w : Vec ℕ Global) → i < length ls → v ≡ get_or ls i v → w.items ≡ v.items ++ item ∷ [] → lists_of (set ls i w) ≡ with_item (lists_of ls) i item
pushed ls i item v w lt read e =
    map-set (λ (x : Vec ℕ Global). x.items) ls i w ∙ ap (set (lists_of ls) i) (e ∙ ap (λ (xs : List ℕ). xs ++ item ∷ []) (sym (list_at ls i v lt read)))

abbrev pub GotItem : List (List ℕ) → List (List ℕ) → ℕ → ℕ → ℕ → ℕ → Type 0
GotItem old new place item k n = Contains (nth_list new k) n ↔ (Contains (nth_list old k) n ⊎ ((k ≡ place) × (n ≡ item)))

contains_along : (xs ys : List ℕ) (n : ℕ) → xs ≡ ys → Contains xs n → Contains ys n
contains_along xs ys n e h = let P : List ℕ → Type 0 = λ zs. Contains zs n in subst P e h

got_here : (xs ys : List ℕ) (place item n : ℕ) → ys ≡ xs ++ item ∷ [] → Contains ys n ↔ (Contains xs n ⊎ ((place ≡ place) × (n ≡ item)))
got_here xs ys place item n e =
    let to : Contains ys n → Contains xs n ⊎ ((place ≡ place) × (n ≡ item)) = λ h.
    elim (Contains-push_cases xs item n (contains_along _ _ n e h)) [ inl a ↦ inl a | inr b ↦ inr (refl, sym b) ] in
    let from : Contains xs n ⊎ ((place ≡ place) × (n ≡ item)) → Contains ys n = λ h.
    elim h [
      | inl a ↦ contains_along _ _ n (sym e) (Contains-append_left xs (item ∷ []) n a)
      | inr p ↦ let P : ℕ → Type 0 = λ m. Contains ys m in subst P (sym p.1) (contains_along _ _ item (sym e) (Contains-push xs item))
    ] in
    (to, from)

got_elsewhere : (xs ys : List ℕ) (k place item n : ℕ) → (k ≡ place → ⊥) → ys ≡ xs → Contains ys n ↔ (Contains xs n ⊎ ((k ≡ place) × (n ≡ item)))
got_elsewhere xs ys k place item n ne e =
    let from : Contains xs n ⊎ ((k ≡ place) × (n ≡ item)) → Contains ys n = λ h.
    elim h [ inl a ↦ contains_along _ _ n (sym e) a | inr p ↦ absurd (ne p.0) ] in
    (λ h. inl (contains_along _ _ n e h), from)

pub got : (ls : List (List ℕ)) (place item k n : ℕ) → place < length ls → GotItem ls (with_item ls place item) place item k n
got ls place item k n lt = elim (cases_eq k place) [
  | inl e ↦ let P : ℕ → Type 0 = λ j. GotItem ls (with_item ls place item) place item j n in
      subst P (sym e) (got_here (nth_list ls place) _ place item n (get_or-set_same ls place _ [] lt))
  | inr ne ↦ got_elsewhere (nth_list ls k) _ k place item n ne (get_or-set_other ls place k _ [] ne)
]

-- one place more
pub adds_more : (places : List ℕ) (i item : ℕ) (old mid new : List (List ℕ)) → i < length places → get_or places i 0 < length mid → AddsEach (take i places) item old mid → new ≡ with_item mid (get_or places i 0) item → AddsEach (take (i + 1) places) item old new
adds_more places i item old mid new lt within h e place n =
    let g : GotItem mid new (get_or places i 0) item place n =
    let P : List (List ℕ) → Type 0 = λ ls. GotItem mid ls (get_or places i 0) item place n in
    subst P (sym e) (got mid (get_or places i 0) item place n within) in
    let more : take (i + 1) places ≡ take i places ++ get_or places i 0 ∷ [] = take_more places i 0 lt in
    let to : Contains (nth_list new place) n → Contains (nth_list old place) n ⊎ (Contains (take (i + 1) places) place × (n ≡ item)) = λ k.
    elim (g.0 k) [
      | inl a ↦ elim ((h place n).0 a) [
        | inl b ↦ inl b
        | inr p ↦ inr (contains_along _ _ place (sym more) (Contains-append_left (take i places) (get_or places i 0 ∷ []) place p.0), p.1)
      ]
      | inr p ↦ inr (contains_along _ _ place (sym more) (let P : ℕ → Type 0 = λ m. Contains (take i places ++ get_or places i 0 ∷ []) m in subst P (sym p.0) (Contains-push (take i places) (get_or places i 0))), p.1)
    ] in
    let from : Contains (nth_list old place) n ⊎ (Contains (take (i + 1) places) place × (n ≡ item)) → Contains (nth_list new place) n = λ k.
    elim k [
      | inl a ↦ g.1 (inl ((h place n).1 (inl a)))
      | inr p ↦ elim (Contains-push_cases (take i places) (get_or places i 0) place (contains_along _ _ place more p.0)) [
        | inl b ↦ g.1 (inl ((h place n).1 (inr (b, p.1))))
        | inr b ↦ g.1 (inr (sym b, p.1))
      ]
    ] in
    (to, from)

-- no edge, no reader
pub reads_none : (ls : List (List ℕ)) → ((k : ℕ) → nth_list ls k ≡ []) → AreReaders [] ls
reads_none ls none a b =
    (λ h. let k : Contains [] a = contains_along _ _ a (none b) h in let lt = k.1 in absurd (omega arith), λ h. let lt = h.1 in absurd (omega arith))

same_pair : (e : ℕ × ℕ) (a b : ℕ) → e.0 ≡ a → e.1 ≡ b → e ≡ (a, b)
same_pair e a b first second =
    let P : ℕ → Type 0 = λ x. e ≡ (x, e.1) in
    let Q : ℕ → Type 0 = λ y. e ≡ (a, y) in
    subst Q second (subst P first refl)

-- one edge more
pub reads_more : (edges : List (ℕ × ℕ)) (i : ℕ) (e : ℕ × ℕ) (old new : List (List ℕ)) → take (i + 1) edges ≡ take i edges ++ e ∷ [] → e.1 < length old → AreReaders (take i edges) old → new ≡ with_item old e.1 e.0 → AreReaders (take (i + 1) edges) new
reads_more edges i e old new more within h made a b =
    let g : GotItem old new e.1 e.0 b a =
    let P : List (List ℕ) → Type 0 = λ ls. GotItem old ls e.1 e.0 b a in
    subst P (sym made) (got old e.1 e.0 b a within) in
    let before : List (ℕ × ℕ) = take i edges in
    let P : List (ℕ × ℕ) → Type 0 = λ es. Contains es (a, b) in
    let to : Contains (nth_list new b) a → Contains (take (i + 1) edges) (a, b) = λ k.
    elim (g.0 k) [
      | inl x ↦ subst P (sym more) (Contains-append_left before (e ∷ []) (a, b) ((h a b).0 x))
      | inr p ↦ let same : e ≡ (a, b) = same_pair e a b (sym p.1) (sym p.0) in subst P (sym more) (let Q : (ℕ × ℕ) → Type 0 = λ m. Contains (before ++ e ∷ []) m in subst Q same (Contains-push before e))
    ] in
    let from : Contains (take (i + 1) edges) (a, b) → Contains (nth_list new b) a = λ k.
    elim (Contains-push_cases before e (a, b) (subst P more k)) [
      | inl x ↦ g.1 (inl ((h a b).1 x))
      | inr same ↦ g.1 (inr (sym (ap (λ (x : ℕ × ℕ). x.1) same), sym (ap (λ (x : ℕ × ℕ). x.0) same)))
    ] in
    (to, from)

-- what the numbers below i tell of their readers
abbrev pub AreTurnedBelow : ℕ → List (List ℕ) → List (List ℕ) → Type 0
AreTurnedBelow i readers reads = (a b : ℕ) → Contains (nth_list reads a) b ↔ ((b < i) × Contains (nth_list readers b) a)

pub turned_none : (readers ls : List (List ℕ)) → ((k : ℕ) → nth_list ls k ≡ []) → AreTurnedBelow 0 readers ls
turned_none readers ls none a b =
    (λ h. let k : Contains [] b = contains_along _ _ b (none a) h in let lt = k.1 in absurd (omega arith), λ h. let lt = h.0 in absurd (omega arith))

pub turned_more : (readers old new : List (List ℕ)) (i : ℕ) → AreTurnedBelow i readers old → AddsEach (nth_list readers i) i old new → AreTurnedBelow (i + 1) readers new
turned_more readers old new i h k a b =
    let to : Contains (nth_list new a) b → (b < i + 1) × Contains (nth_list readers b) a = λ x.
    elim ((k a b).0 x) [
      | inl y ↦ let z = (h a b).0 y in let lt = z.0 in (omega arith, z.1)
      | inr p ↦ let e = p.1 in (omega arith, let P : ℕ → Type 0 = λ m. Contains (nth_list readers m) a in subst P (sym e) p.0)
    ] in
    let from : (b < i + 1) × Contains (nth_list readers b) a → Contains (nth_list new a) b = λ x.
    elim (cases_eq b i) [
      | inl e ↦ (k a b).1 (inr (let P : ℕ → Type 0 = λ m. Contains (nth_list readers m) a in subst P e x.1, e))
      | inr ne ↦ let lt = x.0 in (k a b).1 (inl ((h a b).1 (omega arith, x.1)))
    ] in
    (to, from)

pub turned_all : (readers reads : List (List ℕ)) (n : ℕ) → length readers ≤ n → AreTurnedBelow n readers reads → AreTurned readers reads
turned_all readers reads n long h a b =
    let within : Contains (nth_list readers b) a → b < n = λ x.
    elim (cases_lt b n) [
      | inl lt ↦ lt
      | inr le ↦ let y : Contains [] a = contains_along _ _ a (get_or_past readers b [] (omega arith)) x in let lt = y.1 in absurd (omega arith)
    ] in
    (λ x. ((h a b).0 x).1, λ x. (h a b).1 (within x, x))
