-- How the parts of calls over tables stand, and how many there are.
use Rattle.std.proofs.Common.{◌≡◌, ◌≤◌, ℕ, suc, ◌%◌, List, [], ◌∷◌, length, Bool, true, false, refl, ap, sym, subst, arith}
use Rattle.std.specs.Prelude.{nat_eq, nat_le, ◌||◌, ◌&&◌, if◌then◌else◌}
use Rattle.std.proofs.lemmas.Bool.{leb-true, eqb-true, eq-eqb}
use Rattle.fx_core.specs.Rows.{row_of, inner_at, ended_at, takes_count, is_ended, is_arity}
use Rattle.fx_core.specs.declared.functions.Fun.{Fun}
use Rattle.fx_core.specs.declared.rows.Ending.{Ending}
use Rattle.fx_core.specs.declared.rows.Ending.TheVariants as ending
use Rattle.fx_core.specs.declared.rows.Row.{Row}
use Rattle.fx_core.specs.declared.rows.Takes.{Takes}
use Rattle.fx_core.specs.declared.rows.Takes.TheVariants as takes
use Rattle.fx_semantics.proofs.Branches.{differs}
use Rattle.fx_typing.specs.WellTyped.{head_by, head_of, inside, plain, standing_at, standing_of}
use Rattle.fx_core.specs.Term.{over}
use Rattle.fx_eval.specs.Given.{is_inner}
use Rattle.fx_types.proofs.Utf8Order.{and_second, and_first}

-- ---- places
pub by_choice : (P : Takes → Type 0) (b : Bool) (p q : Takes) → P p → P q → P (if b then p else q)
by_choice P true p q e f = e
by_choice P false p q e f = f

pub inner_behind : (P : Takes → Type 0) (r : Row) (i : ℕ) → P r.second → P r.third → P r.fourth → P (inner_at r (suc i))
inner_behind P r i b c d =
    let Q : Bool → Type 0 = λ z. P (if z then r.first else (if nat_eq (suc i) 1 then r.second else (if nat_eq (suc i % 2) 0 then r.third else r.fourth))) in
    subst Q (sym (differs (suc i) 0 (λ e. omega (arith, e))))
    (by_choice P (nat_eq (suc i) 1) r.second (if nat_eq (suc i % 2) 0 then r.third else r.fourth) b
    (by_choice P (nat_eq (suc i % 2) 0) r.third r.fourth c d))

abbrev IsSettled : Takes → Type 0
IsSettled k = standing_of k ≡ (if is_inner k then inside else plain)

-- ---- how many parts
or_second : (a b : Bool) → a ≡ false → (a || b) ≡ true → b ≡ true
or_second true b e h = absurd cc
or_second false b e h = h

-- there are no more than most, which is no free number
within : (least most n : ℕ) (e : Ending) → nat_eq most 255 ≡ false → (is_arity least most n && is_ended e n) ≡ true → n ≤ most
within least most n e q h =
    let w = and_first (is_arity least most n) (is_ended e n) h in
    leb-true n most (or_second (nat_eq most 255) (nat_le n most) q (and_second (nat_le least n) (nat_eq most 255 || nat_le n most) w))

pub at_least : (r : Row) (n : ℕ) → takes_count r n ≡ true → r.least ≤ n
at_least r n h =
    let w = and_first (is_arity r.least r.most n) (is_ended r.ending n) h in
    leb-true r.least n (and_first (nat_le r.least n) (nat_eq r.most 255 || nat_le n r.most) w)

pub at_most : (r : Row) (n : ℕ) → nat_eq r.most 255 ≡ false → takes_count r n ≡ true → n ≤ r.most
at_most r n q h = within r.least r.most n r.ending q h

-- pairs behind the first part are whole
pub whole : (r : Row) (n : ℕ) → r.ending ≡ ending.Whole → takes_count r n ≡ true → n % 2 ≡ 1
whole r n e h =
    let P : Ending → Type 0 = λ x. is_ended x n ≡ true in
    eqb-true (n % 2) 1 (subst P e (and_second (is_arity r.least r.most n) (is_ended r.ending n) h))

abbrev pub ArePaired : {A : Type 0} → List A → Type 0
ArePaired [] = Unit {0}
ArePaired (x ∷ []) = ⊥
ArePaired (x ∷ y ∷ zs) = ArePaired zs

pub paired_by : {A : Type 0} (xs : List A) → length xs % 2 ≡ 0 → ArePaired xs
paired_by [] e = tt
paired_by (x ∷ []) e = absurd cc
paired_by (x ∷ y ∷ zs) e = paired_by zs (omega arith)

-- a new column's formula stands in the scope of a row
pub formula_behind : (r : Row) (i : ℕ) → i % 2 ≡ 1 → inner_at r (suc i) ≡ r.third
formula_behind r i e =
    let even : nat_eq (suc i % 2) 0 ≡ true = eq-eqb (suc i % 2) 0 (omega (arith, e)) in
    let first : nat_eq (suc i) 0 ≡ false = differs (suc i) 0 (λ q. omega (arith, q)) in
    let second : nat_eq (suc i) 1 ≡ false = differs (suc i) 1 (λ q. let z : i ≡ 0 = omega (arith, q) in let w : 0 % 2 ≡ 1 = subst (λ k. k % 2 ≡ 1) z e in omega (arith, w)) in
    rw (even, first, second) refl

-- and its name where the whole stands
pub name_at : (r : Row) (i : ℕ) → i % 2 ≡ 1 → r.second ≡ r.fourth → inner_at r i ≡ r.fourth
name_at r i e q =
    let odd : nat_eq (i % 2) 0 ≡ false = differs (i % 2) 0 (λ z. omega (arith, e, z)) in
    let first : nat_eq i 0 ≡ false = differs i 0 (λ z. let w : 0 % 2 ≡ 1 = subst (λ k. k % 2 ≡ 1) z e in omega (arith, w)) in
    rw (odd, first) (by (nat_eq i 1))
  where
    by : (b : Bool) → (if b then r.second else r.fourth) ≡ r.fourth
    by true = q
    by false = refl

-- ---- the table
first_takes : (k : Takes) (f : Fun) → head_by k f ≡ over f → k ≡ takes.Table
first_takes takes.Table f e = refl
first_takes k f e = absurd cc

-- the table of a call over it stands where the whole stands
pub table_plain : (f : Fun) (n : ℕ) → head_of f ≡ over f → standing_at (over f) n 0 ≡ plain
table_plain f n e = by (row_of f).ending
  where
    first : standing_of (row_of f).first ≡ plain
    first = ap standing_of (first_takes (row_of f).first f e)

    by : (x : Ending) → standing_of (ended_at x (row_of f) n 0) ≡ plain
    by ending.Branch = by_choice (λ k. standing_of k ≡ plain) (nat_eq 1 n) takes.Branch (row_of f).first refl first
    by ending.Open = first
    by ending.Whole = first
