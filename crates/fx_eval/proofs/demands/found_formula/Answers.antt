use Rattle.std.proofs.Common.{◌∙◌, ap, sym}
use Rattle.fx_eval.proofs.Demanding.{search_formula_is, search_parts}
use Rattle.fx_core.specs.TermView.{core_branch}
use Rattle.fx_eval.proofs.demands.found_formula.Goals as goal

pub second-requires : goal.second-requires
second-requires c = search_parts c.in-Over.field-0 _ _ c.in-Over.parts _ (sym (ap core_branch c.in-Over.is) ∙ c.core.view_is) c.as_slice.ensures c.requires

pub returns : goal.returns
returns c = search_formula_is c.in-Over.field-0 _ _ c.in-Over.parts _ _ (sym (ap core_branch c.in-Over.is) ∙ c.core.view_is) c.as_slice.ensures c.requires c.second.ensures
