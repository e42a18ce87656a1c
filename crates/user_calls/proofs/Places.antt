-- How the parts of heads stand.
use Rattle.std.proofs.Common.{◌≡◌, ℕ, suc, Bool, true, false, refl, ap, sym, subst, ◌∙◌, arith}
use Rattle.std.specs.Prelude.{nat_eq, ◌%◌, if◌then◌else◌}
use Rattle.std.proofs.lemmas.Bool.{eq-eqb}
use Rattle.fx_core.specs.declared.functions.Form.{Form}
use Rattle.fx_core.specs.declared.functions.Form.TheVariants as form
use Rattle.fx_core.specs.declared.functions.Fun.{Fun}
use Rattle.fx_core.specs.declared.functions.Fun.TheVariants as fun
use Rattle.fx_core.specs.declared.rows.Takes.{Takes}
use Rattle.fx_core.specs.declared.rows.Takes.TheVariants as takes
use Rattle.fx_core.specs.Rows.{form_row, row_of}
use Rattle.fx_core.specs.Term as top
use Rattle.fx_typing.specs.WellTyped.{PartScope, catching, head_of, inside, plain, standing_at, standing_of}
use Rattle.fx_semantics.proofs.Branches.{differs}
use Rattle.fx_semantics.proofs.Forms.{each_take}

abbrev IsPlain : Takes → Type 0
IsPlain k = standing_of k ≡ plain

pub all_plain : (n i : ℕ) → standing_at (top.form form.All) n i ≡ plain
all_plain n i = each_take IsPlain (form_row form.All) n i refl refl refl refl refl

pub any_plain : (n i : ℕ) → standing_at (top.form form.Any) n i ≡ plain
any_plain n i = each_take IsPlain (form_row form.Any) n i refl refl refl refl refl

pub if_plain : (n i : ℕ) → standing_at (top.form form.If) n i ≡ plain
if_plain n i = each_take IsPlain (form_row form.If) n i refl refl refl refl refl

pub switch_plain : (n i : ℕ) → standing_at (top.form form.Switch) n i ≡ plain
switch_plain n i = each_take IsPlain (form_row form.Switch) n i refl refl refl refl refl

-- a value of `IfError` stands plain, and a fallback where an error is caught
pub value_plain : (n i : ℕ) → i % 2 ≡ 0 → standing_at (top.form form.IfError) n i ≡ plain
value_plain n i e =
    by (nat_eq i 0) (nat_eq i 1) (nat_eq (i % 2) 0) (differs i 1 (λ q. let w : 1 % 2 ≡ 0 = subst (λ k. k % 2 ≡ 0) q e in omega (arith, w))) (eq-eqb (i % 2) 0 e)
  where
    by : (a b d : Bool) → b ≡ false → d ≡ true → standing_of (if a then takes.Branch else (if b then takes.Fallback else (if d then takes.Branch else takes.Fallback))) ≡ plain
    by true b d x y = refl
    by false true d x y = absurd cc
    by false false true x y = refl
    by false false false x y = absurd cc

pub fallback_catches : (n i : ℕ) → i % 2 ≡ 1 → standing_at (top.form form.IfError) n i ≡ catching
fallback_catches n i e =
    by (nat_eq i 0) (nat_eq i 1) (nat_eq (i % 2) 0) (differs i 0 (λ q. let w : 0 % 2 ≡ 1 = subst (λ k. k % 2 ≡ 1) q e in omega (arith, w))) (differs (i % 2) 0 (λ z. omega (arith, e, z)))
  where
    by : (a b d : Bool) → a ≡ false → d ≡ false → standing_of (if a then takes.Branch else (if b then takes.Fallback else (if d then takes.Branch else takes.Fallback))) ≡ catching
    by true b d x y = absurd cc
    by false true d x y = refl
    by false false true x y = absurd cc
    by false false false x y = refl

-- a name of `AddColumns` stands plain, and a formula in the scope of a row
pub name_plain : (n i : ℕ) → i % 2 ≡ 1 → standing_at (top.over fun.AddColumns) n i ≡ plain
name_plain n i e =
    by (nat_eq i 0) (nat_eq i 1) (nat_eq (i % 2) 0) (differs (i % 2) 0 (λ z. omega (arith, e, z)))
  where
    by : (a b d : Bool) → d ≡ false → standing_of (if a then takes.Table else (if b then takes.NewColumn else (if d then takes.AnyFormula else takes.NewColumn))) ≡ plain
    by true b d y = refl
    by false true d y = refl
    by false false true y = absurd cc
    by false false false y = refl

pub formula_inside : (n i : ℕ) → i % 2 ≡ 1 → standing_at (top.over fun.AddColumns) n (suc i) ≡ inside
formula_inside n i e =
    let even : nat_eq (suc i % 2) 0 ≡ true = eq-eqb (suc i % 2) 0 (omega (arith, e)) in
    let first : nat_eq (suc i) 0 ≡ false = differs (suc i) 0 (λ q. omega (arith, q)) in
    let second : nat_eq (suc i) 1 ≡ false = differs (suc i) 1 (λ q. let z : i ≡ 0 = omega (arith, q) in let w : 0 % 2 ≡ 1 = subst (λ k. k % 2 ≡ 1) z e in omega (arith, w)) in
    rw (even, first, second) refl

-- conditions stand in the scope of a row
condition_by : (a b d : Bool) (k : Takes) → standing_of k ≡ inside → a ≡ false → standing_of (if a then takes.Table else (if b then k else (if d then k else k))) ≡ inside
condition_by true b d k s e = absurd cc
condition_by false true d k s e = s
condition_by false false true k s e = s
condition_by false false false k s e = s

pub filter_inside : (n i : ℕ) → standing_at (top.over fun.Filter) n (suc i) ≡ inside
filter_inside n i = condition_by (nat_eq (suc i) 0) (nat_eq (suc i) 1) (nat_eq (suc i % 2) 0) _ refl (differs (suc i) 0 (λ q. omega (arith, q)))

pub count_inside : (n i : ℕ) → standing_at (top.over fun.CountIf) n (suc i) ≡ inside
count_inside n i = condition_by (nat_eq (suc i) 0) (nat_eq (suc i) 1) (nat_eq (suc i % 2) 0) _ refl (differs (suc i) 0 (λ q. omega (arith, q)))

pub dropped_plain : (n i : ℕ) → standing_at (top.over fun.DropColumns) n i ≡ plain
dropped_plain n i = each_take IsPlain (row_of fun.DropColumns) n i refl refl refl refl refl

pub shown_plain : (n i : ℕ) → standing_at (top.over fun.ShowColumns) n i ≡ plain
shown_plain n i = each_take IsPlain (row_of fun.ShowColumns) n i refl refl refl refl refl

pub renamed_plain : (n i : ℕ) → standing_at (top.over fun.RenameColumns) n i ≡ plain
renamed_plain n i = each_take IsPlain (row_of fun.RenameColumns) n i refl refl refl refl refl

pub grouped_plain : (n i : ℕ) → standing_at (top.over fun.GroupBy) n i ≡ plain
grouped_plain n i = each_take IsPlain (row_of fun.GroupBy) n i refl refl refl refl refl

pub ungrouped_plain : (n i : ℕ) → standing_at (top.over fun.Ungroup) n i ≡ plain
ungrouped_plain n i = each_take IsPlain (row_of fun.Ungroup) n i refl refl refl refl refl

-- arguments of other calls stand where the call stands
pub call_plain : (f : Fun) → head_of f ≡ top.call f → (n i : ℕ) → standing_at (top.call f) n i ≡ plain
call_plain fun.Filter e n i = absurd cc
call_plain fun.LookUp e n i = absurd cc
call_plain (fun.Sort o) e n i = absurd cc
call_plain fun.First e n i = absurd cc
call_plain fun.Last e n i = absurd cc
call_plain fun.FirstN e n i = absurd cc
call_plain fun.LastN e n i = absurd cc
call_plain fun.CountRows e n i = absurd cc
call_plain fun.CountIf e n i = absurd cc
call_plain fun.IsEmpty e n i = absurd cc
call_plain fun.SumRows e n i = absurd cc
call_plain fun.MinRows e n i = absurd cc
call_plain fun.MaxRows e n i = absurd cc
call_plain fun.AverageRows e n i = absurd cc
call_plain fun.AddColumns e n i = absurd cc
call_plain fun.DropColumns e n i = absurd cc
call_plain fun.ShowColumns e n i = absurd cc
call_plain fun.RenameColumns e n i = absurd cc
call_plain fun.GroupBy e n i = absurd cc
call_plain fun.Ungroup e n i = absurd cc
call_plain fun.Distinct e n i = absurd cc
call_plain fun.ForAll e n i = absurd cc
call_plain fun.Concat e n i = absurd cc
call_plain f e n i = each_take IsPlain (row_of f) n i refl refl refl refl refl

-- the table of a call stands where the call stands
pub first_plain : (f : Fun) (n : ℕ) → standing_at (top.over f) n 0 ≡ plain
first_plain fun.Filter n = refl
first_plain f n = refl
