-- The items that a page has.
use Rattle.std.proofs.Common.{◌≡◌, ℕ, zero, suc, ◌≤◌, ◌-◌, max, min, List, [], ◌∷◌, length, take, drop, Option, Some, None, refl, sym, subst, ap, ◌∙◌, arith}
use native.Mathlib.Numerals.{unary_clauses}
use Rattle.std.proofs.Math.Seq.{take-nil}
use Rattle.std.proofs.lemmas.List.{drop_min, length-take, take_rest}
use Rattle.std.specs.List.{slice_get}
use Rattle.recalc.specs.app_semantics.Present.{Present}
use Rattle.session_views.specs.Views.{AreEachGiven, AreItemsIn, AreItemsUnless, AreRowItems, fault_in}
use Rattle.fx_types.specs.Values.{Data}
use Rattle.fx_types.specs.declared.faults.Fault.{Fault}
use Rattle.recalc.specs.fx_semantics.Rows.{rows_in}
use Rattle.fx_value.specs.Columns.{Row}
use Rattle.view_text.specs.declared.views.Items.{Items}

-- ---- items of a value

-- an error stands in their place
pub by_fault : (p : Present) (values : ℕ → Data) (g from : ℕ) (d e : Data) (o : Option Fault) (f : Fault) (i : Items) → d ≡ e → o ≡ fault_in d → o ≡ Some f → i ≡ record { total = 0; fault = Some f; list = [] } →
    AreItemsIn p values g from e i
by_fault p values g from d e o f i same is some made =
    subst (λ (x : Data). AreItemsIn p values g from x i) same
    (subst (λ (q : Option Fault). AreItemsUnless p values g from q (rows_in d) i) (sym some ∙ is)
    (subst (λ (x : Items). AreItemsUnless p values g from (Some f) (rows_in d) x) (sym made) (refl, refl, refl)))

-- they are those of its rows
pub by_rows : (p : Present) (values : ℕ → Data) (g from : ℕ) (d e : Data) (o : Option Fault) (rows : List Row) (i : Items) → d ≡ e → o ≡ fault_in d → o ≡ None → rows ≡ rows_in d →
    AreRowItems p values g from rows i → AreItemsIn p values g from e i
by_rows p values g from d e o rows i same is none all h =
    subst (λ (x : Data). AreItemsIn p values g from x i) same
    (subst (λ (q : Option Fault). AreItemsUnless p values g from q (rows_in d) i) (sym none ∙ is)
    (subst (λ (rs : List Row). AreRowItems p values g from rs i) all h))

-- ---- pages

take_least : {A : Type 0} (n : ℕ) (xs : List A) → take (min (length xs) n) xs ≡ take n xs
take_least n [] = take-nil (min 0 n) ∙ sym (take-nil n)
take_least zero (x ∷ xs) = simp unary_clauses refl
take_least (suc n) (x ∷ xs) = simp unary_clauses (ap (λ ys. x ∷ ys) (take_least n xs))

-- a slice from a place on, cut at a hundred
pub page_is : {A : Type 0} (behind start end : ℕ) (rows : List A) → start ≡ min behind (length rows) → end ≡ min (length (take (length rows - start) (drop start rows))) 100 →
    take end (take (length rows - start) (drop start rows)) ≡ take 100 (drop behind rows)
page_is {A} behind start end rows begins ends =
    let same : drop start rows ≡ drop behind rows = ap (λ (n : ℕ). drop n rows) begins ∙ drop_min behind rows in
    let cut : end ≡ min (length (drop start rows)) 100 = ends ∙ ap (λ (xs : List A). min (length xs) 100) (take_rest rows start) in
    ap (λ (xs : List A). take end xs) (take_rest rows start)
    ∙ ap (λ (n : ℕ). take n (drop start rows)) cut ∙ take_least 100 (drop start rows) ∙ ap (λ (xs : List A). take 100 xs) same

-- a page has a hundred rows at most
pub page_short : {A : Type 0} (n : ℕ) (shown rows : List A) → shown ≡ take 100 (drop n rows) → length shown ≤ 100
page_short {A} n shown rows same =
    let count : length shown ≡ min 100 (length (drop n rows)) = ap (λ (xs : List A). length xs) same ∙ length-take 100 (drop n rows) in
    omega (arith, count)

-- and each is one of the rows
taken : {A : Type 0} (m : ℕ) (xs : List A) (i : ℕ) (x : A) → slice_get (take m xs) i ≡ Some x → slice_get xs i ≡ Some x
taken zero xs i x h = absurd cc
taken (suc m) [] i x h = absurd cc
taken (suc m) (y ∷ ys) zero x h = h
taken (suc m) (y ∷ ys) (suc i) x h = taken m ys i x h

behind_some : {A : Type 0} (n : ℕ) (xs : List A) (i : ℕ) (x : A) → slice_get (drop n xs) i ≡ Some x → (j : ℕ) × (slice_get xs j ≡ Some x)
behind_some zero xs i x h = (i, h)
behind_some (suc n) [] i x h = absurd cc
behind_some (suc n) (y ∷ ys) i x h = let more = behind_some n ys i x h in (suc more.0, more.1)

pub page_row : {A : Type 0} (n : ℕ) (xs shown : List A) (i : ℕ) (x : A) → shown ≡ take 100 (drop n xs) → slice_get shown i ≡ Some x → (j : ℕ) × (slice_get xs j ≡ Some x)
page_row {A} n xs shown i x same h = behind_some n xs i x (taken 100 (drop n xs) i x (subst (λ (ys : List A). slice_get ys i ≡ Some x) same h))

-- what is given for a page from a position on
pub paged : {A B : Type 0} (P : ℕ → A → Option B → Type 0) (from first at : ℕ) (shown rows : List A) (list : List B) → first ≡ max from 1 → at ≡ first → shown ≡ take 100 (drop (first - 1) rows) → AreEachGiven P at shown list →
    AreEachGiven P (max from 1) (take 100 (drop (max from 1 - 1) rows)) list
paged {A} P from first at shown rows list begins place same h =
    subst (λ (n : ℕ). AreEachGiven P n (take 100 (drop (n - 1) rows)) list) begins (subst (λ (xs : List A). AreEachGiven P first xs list) same (subst (λ (n : ℕ). AreEachGiven P n shown list) place h))
