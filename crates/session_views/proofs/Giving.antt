-- Lists that grow by what each thing gives.
use Rattle.std.proofs.Common.{◌≡◌, ℕ, zero, suc, ◌+◌, ◌<◌, ◌≤◌, List, [], ◌∷◌, ◌++◌, length, get_or, drop, Option, Some, None, refl, sym, subst, ap, ◌∙◌, arith}
use Rattle.std.proofs.Math.ListN.{drop_of_length-le}
use Rattle.std.proofs.lemmas.List.{append_assoc, append-nil}
use Rattle.std.proofs.lemmas.Option.{slice_get_read}
use Rattle.std.specs.List.{slice_get}
use Rattle.session_views.specs.Views.{AreEachGiven, put_if_some}

-- what the things up to a place gave, and whatever the others give, is what all give
abbrev pub GivenUpTo : {C A : Type 0} → (ℕ → C → Option A → Type 0) → ℕ → List C → ℕ → List A → Type 0
GivenUpTo {C} {A} P k cs i given = (rest : List A) → AreEachGiven P (k + i) (drop i cs) rest → AreEachGiven P k cs (given ++ rest)

none : {C A : Type 0} (P : ℕ → C → Option A → Type 0) (k : ℕ) (cs : List C) → GivenUpTo P k cs 0 []
none P k cs rest h = let same : k + 0 ≡ k = omega arith in subst (λ n. AreEachGiven P n cs rest) same h

-- before the first nothing was given
pub none_given : {C A : Type 0} (P : ℕ → C → Option A → Type 0) (k i : ℕ) (cs : List C) (given : List A) → i ≡ 0 → given ≡ [] → GivenUpTo P k cs i given
none_given {C} {A} P k i cs given first e =
    subst (λ (n : ℕ). GivenUpTo P k cs n given) (sym first) (subst (λ (xs : List A). GivenUpTo P k cs 0 xs) (sym e) (none P k cs))

pub split : {C : Type 0} (cs : List C) (i : ℕ) (c : C) → i < length cs → c ≡ get_or cs i c → drop i cs ≡ c ∷ drop (i + 1) cs
split [] i c l e = absurd (omega (arith, l))
split (x ∷ cs) zero c l e = ap (λ y. y ∷ cs) (sym e)
split (x ∷ cs) (suc i) c l e =
    let same : suc i + 1 ≡ suc (i + 1) = omega arith in
    split cs i c (omega (arith, l)) e ∙ ap (λ n. c ∷ drop n (x ∷ cs)) (sym same)

pub put_more : {A : Type 0} (o : Option A) (rest : List A) → put_if_some o rest ≡ put_if_some o [] ++ rest
put_more (Some x) rest = refl
put_more None rest = refl

one : {C A : Type 0} (P : ℕ → C → Option A → Type 0) (k : ℕ) (cs : List C) (i : ℕ) (c : C) (o : Option A) (given : List A) → i < length cs → c ≡ get_or cs i c → P (k + i) c o →
    GivenUpTo P k cs i given → GivenUpTo P k cs (i + 1) (given ++ put_if_some o [])
one {C} {A} P k cs i c o given l e p before rest h =
    let next : suc (k + i) ≡ k + (i + 1) = omega arith in
    let others : AreEachGiven P (suc (k + i)) (drop (i + 1) cs) rest = subst (λ n. AreEachGiven P n (drop (i + 1) cs) rest) (sym next) h in
    let here : AreEachGiven P (k + i) (drop i cs) (put_if_some o rest) = subst (λ ds. AreEachGiven P (k + i) ds (put_if_some o rest)) (sym (split cs i c l e)) (o, rest, p, others, refl) in
    subst (λ xs. AreEachGiven P k cs xs) (ap (λ xs. given ++ xs) (put_more o rest) ∙ sym (append_assoc given (put_if_some o []) rest)) (before (put_if_some o rest) here)

-- one more gives what it gives
pub one_given : {C A : Type 0} (P : ℕ → C → Option A → Type 0) (k at i : ℕ) (list cs : List C) (c : C) (o : Option A) (given more : List A) →
    at ≡ k + i → list ≡ cs → i < length list → c ≡ get_or list i c → P at c o → more ≡ given ++ put_if_some o [] → GivenUpTo P k cs i given → GivenUpTo P k cs (i + 1) more
one_given {C} {A} P k at i list cs c o given more place same l e p grown before =
    subst (λ (xs : List A). GivenUpTo P k cs (i + 1) xs) (sym grown)
    (one P k cs i c o given (subst (λ (ds : List C). i < length ds) same l) (subst (λ (ds : List C). c ≡ get_or ds i c) same e) (subst (λ (n : ℕ). P n c o) place p) before)

-- after the last all is given
pub all_given : {C A : Type 0} (P : ℕ → C → Option A → Type 0) (k i : ℕ) (list cs : List C) (given : List A) → list ≡ cs → length list ≤ i → GivenUpTo P k cs i given → AreEachGiven P k cs given
all_given {C} {A} P k i list cs given same l h =
    subst (λ (xs : List A). AreEachGiven P k cs xs) (append-nil given)
    (h [] (subst (λ (ds : List C). AreEachGiven P (k + i) ds []) (sym (drop_of_length-le cs (subst (λ (ds : List C). length ds ≤ i) same l))) refl))

-- the thing whose turn it is stands at its place
pub at_place : {C : Type 0} (list cs : List C) (n i : ℕ) (c : C) → list ≡ cs → n ≡ i → i < length list → c ≡ get_or list i c → slice_get cs n ≡ Some c
at_place {C} list cs n i c same place l e =
    subst (λ (ds : List C). slice_get ds n ≡ Some c) same (subst (λ (m : ℕ). slice_get list m ≡ Some c) (sym place) (slice_get_read list (length list) i c refl l e))
