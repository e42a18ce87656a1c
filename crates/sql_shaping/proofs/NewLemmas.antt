-- The tables of a schema, put one after another.
use Rattle.std.proofs.Common.{◌≡◌, ◌∙◌, ℕ, zero, suc, ◌+◌, ◌<◌, true, List, [], ◌∷◌, filter, map, Some, Result, Ok, Err, OnOk, IsPermutation, ap, arith, option_to_list, subst, sym}
use Rattle.std.specs.List.{AllByRecursion}
use Rattle.std.proofs.lemmas.List.Sorted.{IsPermutation-refl}
use Rattle.sqlite.specs.Order.{Row}
use Rattle.sqlite.specs.State.{State, HasCleanDisk}
use Rattle.sqlite.specs.Tree.{Trees}
use Rattle.sqlite.proofs.InsideLemmas.{keeps_then}
use Rattle.sqlite.proofs.StateLemmas.{survives_then}
use Rattle.sql_meanings.specs.Body.{InsertsBody, body_at, is_one, shown_body}
use Rattle.sql_meanings.specs.Calls.{RunsInside}
use Rattle.sql_meanings.specs.Lasts.{AreLasts, InsertsLast, last_at, shown_last, with_table}
use Rattle.sql_meanings.specs.UnderWay.{IsEmptied}
use Rattle.sql_shaping.specs.NewTables.{IsAtNew, PutsLasts, StaysIn, new_lasts}

-- ---- the last numbers

abbrev none_given : ℕ → ℕ × ℕ
none_given tab = (tab, 0)

lasts_below : (tab n : ℕ) → AllByRecursion (λ (m : ℕ × ℕ). m.0 < tab + n) (new_lasts tab n)
lasts_below tab zero = tt
lasts_below tab (suc n) =
    let same : suc tab + n ≡ tab + suc n = omega arith in
    (omega arith, subst (λ k. AllByRecursion (λ (m : ℕ × ℕ). m.0 < k) (new_lasts (suc tab) n)) same (lasts_below (suc tab) n))

one_more : (tab n : ℕ) → with_table (tab + n) 0 (new_lasts tab n) ≡ new_lasts tab (suc n)
one_more tab zero = (let same : tab + 0 ≡ tab = omega arith in ap (λ k. none_given k ∷ []) same)
one_more tab (suc n) =
    let same : tab + suc n ≡ suc tab + n = omega arith in
    ap (λ l. none_given tab ∷ l) (ap (λ k. with_table k 0 (new_lasts (suc tab) n)) same ∙ one_more (suc tab) n)

lasts_more : (n : ℕ) → with_table n 0 (new_lasts 0 n) ≡ new_lasts 0 (n + 1)
lasts_more n =
    let here : n ≡ 0 + n = omega arith in
    let next : suc n ≡ n + 1 = omega arith in
    ap (λ k. with_table k 0 (new_lasts 0 n)) here ∙ one_more 0 n ∙ ap (λ k. new_lasts 0 k) next

all_below : (n : ℕ) → AllByRecursion (λ (m : ℕ × ℕ). m.0 < n) (new_lasts 0 n)
all_below n = (let here : 0 + n ≡ n = omega arith in subst (λ k. AllByRecursion (λ (m : ℕ × ℕ). m.0 < k) (new_lasts 0 n)) here (lasts_below 0 n))

pub puts_more : (old mid new : State) (n count : ℕ) → PutsLasts old mid n → InsertsLast mid new n 0 count → PutsLasts old new (n + 1)
puts_more old mid new n count so_far one = record {
  goes_on = one.goes_on;
  lasts = subst (AreLasts new.now.trees) (lasts_more n) (one.here (new_lasts 0 n) so_far.lasts (all_below n));
  shape = one.shape ∙ so_far.shape;
  lines = one.lines ∙ so_far.lines;
  marks = one.marks ∙ so_far.marks;
}

-- ---- the body, and then they

pub no_lasts : (trees : Trees) → trees 1 ≡ [] → AreLasts trees []
no_lasts trees none = record { lasts = subst (λ (rs : List Row). IsPermutation (map last_at []) (map shown_last rs)) (sym none) (IsPermutation-refl []); order = tt }

pub new_at : (old mid new : State) (bytes : List ℕ) (count k : ℕ) → IsEmptied old → InsertsBody old mid bytes k → PutsLasts mid new count → IsAtNew new bytes count
new_at old mid new bytes count k empty one then = record {
  goes_on = then.goes_on;
  holds = record {
    body = record { stored = subst (λ (rs : List Row). IsPermutation (map body_at (option_to_list (Some bytes))) (map shown_body (filter is_one rs))) (sym then.shape) one.here.stored };
    lasts = then.lasts;
    lines = then.lines ∙ one.lines ∙ empty.empty.lines;
    marks = then.marks ∙ one.marks ∙ empty.empty.marks;
  };
}

-- ---- one call more inside the transaction

pub inside_more : (old mid new : State) → (HasCleanDisk mid → old.in_transaction ≡ true → StaysIn old mid) → RunsInside old mid → RunsInside mid new → RunsInside old new
inside_more old mid new on first second = record {
  kept = λ clean begun.
      let early : HasCleanDisk mid = omega (arith, clean, second.survives.clean) in
      keeps_then old mid new (first.kept early begun) (second.kept clean (on early begun).0);
  survives = survives_then old mid new (λ _. ⊥) (λ _. ⊥) (λ _. ⊥) (λ _ db none. none) (λ _ db none. none) first.survives second.survives;
}

pub on_ok : {A E P Q : Type 0} (r : Result A E) → (P → Q) → OnOk r P → OnOk r Q
on_ok (Ok x) f p = f p
on_ok (Err e) f p = tt
