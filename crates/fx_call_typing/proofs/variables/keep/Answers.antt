use Rattle.std.proofs.Common.{◌∷◌, ◌++◌, [], Vec, Global}
use Rattle.std.proofs.lemmas.Result.{err_from_is_err_and}
use Rattle.fx_core.specs.declared.sources.Source.{Source}
use Rattle.fx_core.specs.declared.trees.Core.{Core}
use Rattle.fx_node_typing.proofs.Kept.{both_err}
use Rattle.fx_call_typing.proofs.variables.keep.Goals as goal

pub returns-in_err-all : goal.returns-in_err-all
returns-in_err-all c p q h k =
    let r = err_from_is_err_and c.from_residual.result c.from_residual.ensures.1 in
    rw (r.1, r.2)
    (both_err (λ (gs : Vec (Source × Core) Global). gs.items) (λ (g : Source × Core). g) (λ (gs : Vec (Source × Core) Global). gs.items) (λ gs g. gs ++ g ∷ []) p q c.args.kept c.args.next
    c.in_err-all.field-0.0 h k c.in_err-all.ensures)
