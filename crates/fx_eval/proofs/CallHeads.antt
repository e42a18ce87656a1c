-- Where the parts of calls stand.
use Rattle.std.proofs.Common.{◌≡◌, ℕ, refl}
use Rattle.std.specs.Prelude.{IsTrue}
use Rattle.fx_semantics.proofs.Forms.{each_take}
use Rattle.fx_core.specs.declared.functions.Fun.{Fun}
use Rattle.fx_core.specs.declared.functions.Fun.TheVariants as fun
use Rattle.fx_core.specs.declared.rows.Takes.{Takes}
use Rattle.fx_core.specs.declared.rows.Takes.TheVariants as takes
use Rattle.fx_core.specs.Rows.{row_of, takes_at}
use Rattle.fx_scalar.specs.ScalarFunctions.{is_value}
use Rattle.fx_core.specs.Term.{call, over}
use Rattle.fx_typing.specs.WellTyped.{head_of, plain, standing_at, standing_of}

abbrev pub IsPlain : Takes → Type 0
IsPlain k = standing_of k ≡ plain

-- those of a call of values stand where the whole stands
pub call_plain : (f : Fun) → head_of f ≡ call f → (n i : ℕ) → standing_at (call f) n i ≡ plain
call_plain fun.Filter e n i = absurd cc
call_plain fun.LookUp e n i = absurd cc
call_plain (fun.Sort o) e n i = absurd cc
call_plain fun.First e n i = absurd cc
call_plain fun.Last e n i = absurd cc
call_plain fun.FirstN e n i = absurd cc
call_plain fun.LastN e n i = absurd cc
call_plain fun.CountRows e n i = absurd cc
call_plain fun.CountIf e n i = absurd cc
call_plain fun.IsEmpty e n i = absurd cc
call_plain fun.SumRows e n i = absurd cc
call_plain fun.MinRows e n i = absurd cc
call_plain fun.MaxRows e n i = absurd cc
call_plain fun.AverageRows e n i = absurd cc
call_plain fun.AddColumns e n i = absurd cc
call_plain fun.DropColumns e n i = absurd cc
call_plain fun.ShowColumns e n i = absurd cc
call_plain fun.RenameColumns e n i = absurd cc
call_plain fun.GroupBy e n i = absurd cc
call_plain fun.Ungroup e n i = absurd cc
call_plain fun.Distinct e n i = absurd cc
call_plain fun.ForAll e n i = absurd cc
call_plain fun.Concat e n i = absurd cc
call_plain f e n i = each_take IsPlain (row_of f) n i refl refl refl refl refl

-- a call over a table has it first
pub table_first : (f : Fun) → head_of f ≡ over f → (n : ℕ) → takes_at (row_of f) n 0 ≡ takes.Table
table_first fun.Filter e n = refl
table_first fun.LookUp e n = refl
table_first (fun.Sort o) e n = refl
table_first fun.First e n = refl
table_first fun.Last e n = refl
table_first fun.FirstN e n = refl
table_first fun.LastN e n = refl
table_first fun.CountRows e n = refl
table_first fun.CountIf e n = refl
table_first fun.IsEmpty e n = refl
table_first fun.SumRows e n = refl
table_first fun.MinRows e n = refl
table_first fun.MaxRows e n = refl
table_first fun.AverageRows e n = refl
table_first fun.AddColumns e n = refl
table_first fun.DropColumns e n = refl
table_first fun.ShowColumns e n = refl
table_first fun.RenameColumns e n = refl
table_first fun.GroupBy e n = refl
table_first fun.Ungroup e n = refl
table_first fun.Distinct e n = refl
table_first fun.ForAll e n = refl
table_first fun.Concat e n = refl
table_first f e n = absurd cc

-- a call of values has one first
pub of_values : (f : Fun) → head_of f ≡ call f → IsTrue (is_value (row_of f).first)
of_values fun.Filter e = absurd cc
of_values fun.LookUp e = absurd cc
of_values (fun.Sort o) e = absurd cc
of_values fun.First e = absurd cc
of_values fun.Last e = absurd cc
of_values fun.FirstN e = absurd cc
of_values fun.LastN e = absurd cc
of_values fun.CountRows e = absurd cc
of_values fun.CountIf e = absurd cc
of_values fun.IsEmpty e = absurd cc
of_values fun.SumRows e = absurd cc
of_values fun.MinRows e = absurd cc
of_values fun.MaxRows e = absurd cc
of_values fun.AverageRows e = absurd cc
of_values fun.AddColumns e = absurd cc
of_values fun.DropColumns e = absurd cc
of_values fun.ShowColumns e = absurd cc
of_values fun.RenameColumns e = absurd cc
of_values fun.GroupBy e = absurd cc
of_values fun.Ungroup e = absurd cc
of_values fun.Distinct e = absurd cc
of_values fun.ForAll e = absurd cc
of_values fun.Concat e = absurd cc
of_values f e = refl
