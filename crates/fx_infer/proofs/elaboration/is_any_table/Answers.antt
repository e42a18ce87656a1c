use Rattle.std.proofs.Common.{◌∙◌, ap, nat_eq, sym}
use Rattle.fx_types.specs.TypeView.{shape}
use Rattle.fx_types.specs.declared.types.Ty.{Ty}
use Rattle.fx_infer.specs.Written.{is_any_table}
use Rattle.fx_infer.proofs.Wholes.{any_is}
use Rattle.fx_infer.proofs.elaboration.is_any_table.Goals as goal

pub returns-in-Tab : goal.returns-in-Tab
returns-in-Tab c =
    ap (λ k. nat_eq k 0) c.len.ensures ∙ any_is c.in-Tab.columns ∙ ap (λ (t : Ty). is_any_table (shape t)) (sym c.in-Tab.is)
