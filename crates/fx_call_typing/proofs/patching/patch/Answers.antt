use Rattle.std.proofs.Common.{◌∷◌, List, map, Vec, Global}
use Rattle.std.proofs.lemmas.Result.{err_from_is_err_and}
use Rattle.fx_types.specs.Types.{column_list}
use Rattle.fx_typing.specs.Deeds.{row_typed, changes_of}
use Rattle.fx_typing.specs.declared.typed.Typed.{Typed}
use Rattle.fx_typing.specs.TypedView.{typed}
use Rattle.fx_core.specs.Term.{Term}
use Rattle.fx_typing.specs.Local.{firsts}
use Rattle.fx_node_typing.proofs.Kept.{both_err}
use Rattle.fx_call_typing.proofs.patching.patch.Goals as goal

pub returns-in_err-base : goal.returns-in_err-base
returns-in_err-base c =
    let p = err_from_is_err_and c.from_residual.result c.from_residual.ensures.1 in
    let t = c.args.rows.now.target in
    let cs = column_list c.args.rows.now.columns in
    rw (p.1, p.2)
    (both_err typed (λ (xs : Vec Typed Global). map typed xs.items) (λ (ts : List Term). ts) (λ b ys. b.0 ∷ firsts ys) (row_typed t cs (typed c.args.base))
    (changes_of t cs (map typed c.args.changes.items)) c.identify_row-base.result c.changes_of-changes.result c.in_err-base.field-0.0 c.identify_row-base.ensures
    c.changes_of-changes.ensures c.in_err-base.ensures)
