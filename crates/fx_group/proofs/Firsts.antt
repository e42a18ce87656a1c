-- Things put into groups one after another: the first of each that are the same, and behind it those that are the same as it.
use Rattle.std.proofs.Common.{◌≡◌, ℕ, zero, suc, ◌<◌, List, [], ◌∷◌, ◌++◌, length, map, Bool, true, false, not, Option, Some, None, option_map, refl, sym, ap, ◌∙◌, arith, cond, if◌then◌else◌, append-nil}
use Rattle.std.specs.Prelude.{◌||◌}
use Rattle.std.specs.List.{All, filter, list_any}
use Rattle.std.proofs.lemmas.List.Elements.{All-nil, All-cons, All-head, All-tail, All-filter, filter-append}
use Rattle.fx_group.specs.Buckets.{firsts_by, group_by, place_by, with_behind}

-- whether one of these is the same as another
abbrev pub is_among : {A : Type 0} → (A → A → Bool) → A → List A → Bool
is_among same r xs = list_any (λ x. same x r) xs

-- ---- one more

pub firsts_more : {A : Type 0} (same : A → A → Bool) (xs : List A) (r : A) →
    firsts_by same (xs ++ r ∷ []) ≡ (if is_among same r xs then firsts_by same xs else firsts_by same xs ++ r ∷ [])
firsts_more same [] r = refl
firsts_more same (x ∷ xs) r =
    ap (λ zs. x ∷ filter (λ y. not (same x y)) zs) (firsts_more same xs r) ∙ by (same x r) refl (is_among same r xs)
  where
    one : (b : Bool) → same x r ≡ b → filter (λ y. not (same x y)) (r ∷ []) ≡ (if b then [] else r ∷ [])
    one true q = rw q refl
    one false q = rw q refl

    by : (b : Bool) → same x r ≡ b → (k : Bool) → x ∷ filter (λ y. not (same x y)) (if k then firsts_by same xs else firsts_by same xs ++ r ∷ [])
        ≡ (if b || k then x ∷ filter (λ y. not (same x y)) (firsts_by same xs) else (x ∷ filter (λ y. not (same x y)) (firsts_by same xs)) ++ r ∷ [])
    by true q true = refl
    by true q false = ap (λ zs. x ∷ zs) (filter-append (λ y. not (same x y)) (firsts_by same xs) (r ∷ []) ∙ ap (λ zs. filter (λ y. not (same x y)) (firsts_by same xs) ++ zs) (one true q) ∙ append-nil (filter (λ y. not (same x y)) (firsts_by same xs)))
    by false q true = refl
    by false q false = ap (λ zs. x ∷ zs) (filter-append (λ y. not (same x y)) (firsts_by same xs) (r ∷ []) ∙ ap (λ zs. filter (λ y. not (same x y)) (firsts_by same xs) ++ zs) (one false q))

pub group_more : {A : Type 0} (same : A → A → Bool) (xs : List A) (r f : A) (b : Bool) → same f r ≡ b →
    group_by same (xs ++ r ∷ []) f ≡ (if b then group_by same xs f ++ r ∷ [] else group_by same xs f)
group_more same xs r f true e = filter-append (λ y. same f y) xs (r ∷ []) ∙ ap (λ b. group_by same xs f ++ cond b (r ∷ []) []) e
group_more same xs r f false e = filter-append (λ y. same f y) xs (r ∷ []) ∙ ap (λ b. group_by same xs f ++ cond b (r ∷ []) []) e ∙ append-nil (group_by same xs f)

-- ---- what holds of all holds of the firsts, and one of all passes where one of the firsts does

pub all_firsts : {A : Type 0} (P : A → Type 0) (same : A → A → Bool) (xs : List A) → All P xs → All P (firsts_by same xs)
all_firsts P same [] h = h
all_firsts P same (x ∷ xs) h = All-cons P x (filter (λ y. not (same x y)) (firsts_by same xs)) (All-head P x xs h) (All-filter (λ y. not (same x y)) P (firsts_by same xs) (all_firsts P same xs (All-tail P x xs h)))

any_kept : {A : Type 0} (same : A → A → Bool) (p : A → Bool) → ((x y : A) → same x y ≡ true → p x ≡ p y) → (x : A) → p x ≡ false → (ys : List A) →
    list_any p (filter (λ y. not (same x y)) ys) ≡ list_any p ys
any_kept same p meets x e [] = refl
any_kept same p meets x e (y ∷ ys) = by (same x y) refl (any_kept same p meets x e ys)
  where
    by : (b : Bool) → same x y ≡ b → list_any p (filter (λ z. not (same x z)) ys) ≡ list_any p ys →
        list_any p (cond (not b) (y ∷ filter (λ z. not (same x z)) ys) (filter (λ z. not (same x z)) ys)) ≡ (p y || list_any p ys)
    by true q k = k ∙ ap (λ b. b || list_any p ys) (sym (sym (meets x y q) ∙ e))
    by false q k = ap (λ b. p y || b) k

pub any_firsts : {A : Type 0} (same : A → A → Bool) (p : A → Bool) → ((x y : A) → same x y ≡ true → p x ≡ p y) → (xs : List A) → list_any p (firsts_by same xs) ≡ list_any p xs
any_firsts same p meets [] = refl
any_firsts same p meets (x ∷ xs) = by (p x) refl (any_firsts same p meets xs)
  where
    by : (b : Bool) → p x ≡ b → list_any p (firsts_by same xs) ≡ list_any p xs → (b || list_any p (filter (λ y. not (same x y)) (firsts_by same xs))) ≡ (b || list_any p xs)
    by true e k = refl
    by false e k = any_kept same p meets x e (firsts_by same xs) ∙ k

-- ---- firsts are apart

abbrev pub AreApart : {A : Type 0} → (A → A → Bool) → List A → Type 0
AreApart same [] = Unit {0}
AreApart same (x ∷ xs) = All (λ y. same x y ≡ false) xs × AreApart same xs

apart_kept : {A : Type 0} (same : A → A → Bool) (p : A → Bool) (xs : List A) → AreApart same xs → AreApart same (filter p xs)
apart_kept same p [] h = tt
apart_kept same p (x ∷ xs) h = by (p x) (apart_kept same p xs h.1)
  where
    by : (b : Bool) → AreApart same (filter p xs) → AreApart same (cond b (x ∷ filter p xs) (filter p xs))
    by true k = (All-filter p (λ y. same x y ≡ false) xs h.0, k)
    by false k = k

kept_apart : {A : Type 0} (same : A → A → Bool) (x : A) (xs : List A) → All (λ y. same x y ≡ false) (filter (λ y. not (same x y)) xs)
kept_apart same x [] = All-nil (λ y. same x y ≡ false)
kept_apart same x (y ∷ xs) = by (same x y) refl (kept_apart same x xs)
  where
    by : (b : Bool) → same x y ≡ b → All (λ z. same x z ≡ false) (filter (λ z. not (same x z)) xs) →
        All (λ z. same x z ≡ false) (cond (not b) (y ∷ filter (λ z. not (same x z)) xs) (filter (λ z. not (same x z)) xs))
    by true e k = k
    by false e k = All-cons (λ z. same x z ≡ false) y (filter (λ z. not (same x z)) xs) e k

pub firsts_apart : {A : Type 0} (same : A → A → Bool) (xs : List A) → AreApart same (firsts_by same xs)
firsts_apart same [] = tt
firsts_apart same (x ∷ xs) = (kept_apart same x (firsts_by same xs), apart_kept same (λ y. not (same x y)) (firsts_by same xs) (firsts_apart same xs))

-- ---- places

behind_first : (o : Option ℕ) → option_map suc o ≡ None → o ≡ None
behind_first None e = refl
behind_first (Some i) e = absurd cc

later_place : (o : Option ℕ) (i : ℕ) → option_map suc o ≡ Some i → (j : ℕ) × (o ≡ Some j) × (suc j ≡ i)
later_place None i e = absurd cc
later_place (Some j) i e = (j, refl, cc)

pub place_none : {A : Type 0} (p : A → Bool) (xs : List A) → place_by p xs ≡ None → list_any p xs ≡ false
place_none p [] e = refl
place_none p (x ∷ xs) e = by (p x) e (place_none p xs)
  where
    by : (b : Bool) → (if b then Some 0 else option_map suc (place_by p xs)) ≡ None → (place_by p xs ≡ None → list_any p xs ≡ false) → (b || list_any p xs) ≡ false
    by true q k = absurd cc
    by false q k = k (behind_first (place_by p xs) q)

pub place_some : {A : Type 0} (p : A → Bool) (xs : List A) (i : ℕ) → place_by p xs ≡ Some i → (list_any p xs ≡ true) × (i < length xs)
place_some p [] i e = absurd cc
place_some p (x ∷ xs) i e = by (p x) e (place_some p xs)
  where
    by : (b : Bool) → (if b then Some 0 else option_map suc (place_by p xs)) ≡ Some i → ((j : ℕ) → place_by p xs ≡ Some j → (list_any p xs ≡ true) × (j < length xs)) →
        ((b || list_any p xs) ≡ true) × (i < suc (length xs))
    by true q k = let first : 0 ≡ i = cc in (refl, omega arith)
    by false q k =
        let later = later_place (place_by p xs) i q in
        let rest = k later.0 later.1 in
        let behind : suc later.0 ≡ i = later.2 in
        let within : later.0 < length xs = rest.1 in
        (rest.0, omega arith)

-- this place, and where there is none the other
abbrev pub or_place : Option ℕ → Option ℕ → Option ℕ
or_place (Some i) o = Some i
or_place None o = o

pub place_more : {A : Type 0} (p : A → Bool) (xs : List A) (y : A) → place_by p (xs ++ y ∷ []) ≡ or_place (place_by p xs) (if p y then Some (length xs) else None)
place_more p [] y = refl
place_more p (x ∷ xs) y = by (p x) (place_more p xs y)
  where
    later : (o : Option ℕ) (b : Bool) → option_map suc (or_place o (if b then Some (length xs) else None)) ≡ or_place (option_map suc o) (if b then Some (suc (length xs)) else None)
    later (Some i) b = refl
    later None true = refl
    later None false = refl

    by : (b : Bool) → place_by p (xs ++ y ∷ []) ≡ or_place (place_by p xs) (if p y then Some (length xs) else None) →
        (if b then Some 0 else option_map suc (place_by p (xs ++ y ∷ []))) ≡ or_place (if b then Some 0 else option_map suc (place_by p xs)) (if p y then Some (suc (length xs)) else None)
    by true k = refl
    by false k = ap (option_map suc) k ∙ later (place_by p xs) (p y)

pub place_alike : {A : Type 0} (p q : A → Bool) → ((x : A) → p x ≡ q x) → (xs : List A) → place_by p xs ≡ place_by q xs
place_alike p q h [] = refl
place_alike p q h (x ∷ xs) = λ i. if h x i then Some 0 else option_map suc (place_alike p q h xs i)

-- ---- groups

-- where no first is the same as one more, no group changes
pub groups_stay : {A : Type 0} (same : A → A → Bool) (xs : List A) (r : A) (fs : List A) → place_by (λ f. same f r) fs ≡ None →
    map (group_by same (xs ++ r ∷ [])) fs ≡ map (group_by same xs) fs
groups_stay same xs r [] e = refl
groups_stay same xs r (f ∷ fs) e = by (same f r) refl e (groups_stay same xs r fs)
  where
    by : (b : Bool) → same f r ≡ b → (if b then Some 0 else option_map suc (place_by (λ g. same g r) fs)) ≡ None →
        (place_by (λ g. same g r) fs ≡ None → map (group_by same (xs ++ r ∷ [])) fs ≡ map (group_by same xs) fs) →
        group_by same (xs ++ r ∷ []) f ∷ map (group_by same (xs ++ r ∷ [])) fs ≡ group_by same xs f ∷ map (group_by same xs) fs
    by true q i k = absurd cc
    by false q i k = let rest = k (behind_first (place_by (λ g. same g r) fs) i) in λ j. group_more same xs r f false q j ∷ rest j

-- no other first is the same as one more
others_apart : {A : Type 0} (same : A → A → Bool) → ((f g r : A) → same f r ≡ true → same g r ≡ true → same f g ≡ true) → (f r : A) (fs : List A) →
    same f r ≡ true → All (λ g. same f g ≡ false) fs → place_by (λ g. same g r) fs ≡ None
others_apart same meets f r [] e h = refl
others_apart same meets f r (g ∷ fs) e h = by (same g r) refl (others_apart same meets f r fs e (All-tail (λ k. same f k ≡ false) g fs h))
  where
    by : (b : Bool) → same g r ≡ b → place_by (λ k. same k r) fs ≡ None → (if b then Some 0 else option_map suc (place_by (λ k. same k r) fs)) ≡ None
    by true q k = let met = meets f g r e q in let other = All-head (λ z. same f z ≡ false) g fs h in absurd cc
    by false q k = ap (option_map suc) k

-- the place of one that is the same as one more
pub groups_grow : {A : Type 0} (same : A → A → Bool) → ((f g r : A) → same f r ≡ true → same g r ≡ true → same f g ≡ true) → (xs : List A) (r : A) (fs : List A) (i : ℕ) →
    AreApart same fs → place_by (λ f. same f r) fs ≡ Some i →
    map (group_by same (xs ++ r ∷ [])) fs ≡ with_behind i r (map (group_by same xs) fs)
groups_grow same meets xs r [] i h e = absurd cc
groups_grow same meets xs r (f ∷ fs) i h e = by (same f r) refl e (λ j k. groups_grow same meets xs r fs j h.1 k)
  where
    by : (b : Bool) → same f r ≡ b → (if b then Some 0 else option_map suc (place_by (λ g. same g r) fs)) ≡ Some i →
        ((j : ℕ) → place_by (λ g. same g r) fs ≡ Some j → map (group_by same (xs ++ r ∷ [])) fs ≡ with_behind j r (map (group_by same xs) fs)) →
        group_by same (xs ++ r ∷ []) f ∷ map (group_by same (xs ++ r ∷ [])) fs ≡ with_behind i r (group_by same xs f ∷ map (group_by same xs) fs)
    by true q e k =
        let first : 0 ≡ i = cc in
        let rest = groups_stay same xs r fs (others_apart same meets f r fs q h.0) in
        (λ j. group_more same xs r f true q j ∷ rest j)
        ∙ ap (λ n. with_behind n r (group_by same xs f ∷ map (group_by same xs) fs)) first
    by false q e k =
        let later = later_place (place_by (λ g. same g r) fs) i e in
        let rest = k later.0 later.1 in
        (λ j. group_more same xs r f false q j ∷ rest j)
        ∙ ap (λ n. with_behind n r (group_by same xs f ∷ map (group_by same xs) fs)) later.2

-- ---- one that is the same as none before it is a group of its own

or_none : (a b : Bool) → (a || b) ≡ false → (a ≡ false) × (b ≡ false)
or_none true b e = absurd cc
or_none false b e = (refl, e)

none_same : {A : Type 0} (same : A → A → Bool) → ((x y : A) → same x y ≡ same y x) → (r : A) (xs : List A) → is_among same r xs ≡ false → filter (λ y. same r y) xs ≡ []
none_same same turns r [] e = refl
none_same same turns r (x ∷ xs) e =
    let parts = or_none (same x r) (is_among same r xs) e in
    ap (λ b. cond b (x ∷ filter (λ y. same r y) xs) (filter (λ y. same r y) xs)) (turns r x ∙ parts.0) ∙ none_same same turns r xs parts.1

pub alone : {A : Type 0} (same : A → A → Bool) → ((x y : A) → same x y ≡ same y x) → (xs : List A) (r : A) → same r r ≡ true → is_among same r xs ≡ false →
    group_by same (xs ++ r ∷ []) r ≡ r ∷ []
alone same turns xs r own e =
    filter-append (λ y. same r y) xs (r ∷ []) ∙ (λ i. none_same same turns r xs e i ++ cond (own i) (r ∷ []) [])
