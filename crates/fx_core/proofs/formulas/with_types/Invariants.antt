use Rattle.std.proofs.Common.{◌≡◌, ◌++◌, length}
use Rattle.fx_core.specs.Formulas.{retyped}
use Rattle.fx_core.proofs.formulas.with_types.Given as goal

-- what is done, before what is left with its types, is the whole
abbrev pub invariant-loop-formula : goal.invariant-loop-formula
invariant-loop-formula l = record {
  whole : l.all.items ++ retyped l.formula-iterator.a.rest.items l.formula-iterator.b.rest.items ≡ retyped l.fn.formulas.items l.fn.types.items;
  each : length l.formula-iterator.b.rest.items ≡ length l.formula-iterator.a.rest.items;
}
