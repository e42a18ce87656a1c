use Rattle.std.proofs.Common.{◌∷◌, ◌++◌, [], map, Vec, Global}
use Rattle.std.proofs.lemmas.Result.{err_from_is_err_and}
use Rattle.fx_typing.specs.declared.typed.Typed.{Typed}
use Rattle.fx_typing.specs.TypedView.{typed}
use Rattle.fx_node_typing.proofs.Kept.{both_err}
use Rattle.fx_node_typing.proofs.first_break.keep.Goals as goal

pub returns-in_err-all : goal.returns-in_err-all
returns-in_err-all c p q h k =
    let r = err_from_is_err_and c.from_residual.result c.from_residual.ensures.1 in
    rw (r.1, r.2)
    (both_err (λ (xs : Vec Typed Global). map typed xs.items) typed (λ (xs : Vec Typed Global). map typed xs.items) (λ xs x. xs ++ x ∷ []) p q c.args.kept c.args.next
    c.in_err-all.field-0.0 h k c.in_err-all.ensures)
