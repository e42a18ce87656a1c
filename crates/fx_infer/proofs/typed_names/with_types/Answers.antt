use Rattle.std.proofs.Common.{◌≡◌, List, map, refl, sym, ap, subst, ◌∙◌}
use Rattle.fx_types.specs.TypeView.{shape}
use Rattle.fx_types.specs.Types.{Shape}
use Rattle.fx_typing.specs.Rounds.{AllSame, SameFormula}
use Rattle.fx_core.specs.declared.names.FormulaName.{FormulaName}
use Rattle.fx_infer.proofs.Same.{formulas_same, formulas_typed}
use Rattle.fx_infer.proofs.typed_names.with_types.Goals as goal

pub returns-clause-same : goal.returns-clause-same
returns-clause-same c = record {
  signatures = refl;
  schema = refl;
  screens = refl;
  functions = refl;
  properties = refl;
  controls = c.in_ok-retype_all.ensures.same;
  formulas = subst (AllSame SameFormula c.args.names.formulas) (sym c.in_ok-retype.ensures) (formulas_same c.args.names.formulas c.args.types.formulas.items c.requires.formulas);
  variables = c.in_ok-retype_all-2.ensures.same;
  collections = c.in_ok-retype_all-3.ensures.same;
}

pub returns-clause-types : goal.returns-clause-types
returns-clause-types c =
    let typed : map (λ (f : FormulaName). shape f.ty) c.in_ok-retype.field-0 ≡ map shape c.args.types.formulas.items =
    ap (map (λ (f : FormulaName). shape f.ty)) c.in_ok-retype.ensures
    ∙ formulas_typed c.args.names.formulas c.args.types.formulas.items c.requires.formulas in
    λ i. record {
      variables = c.in_ok-retype_all-2.ensures.types i;
      collections = c.in_ok-retype_all-3.ensures.types i;
      formulas = typed i;
      items = c.in_ok-retype_all.ensures.types i;
    }
