use Rattle.std.proofs.Common.{◌≡◌, List, Some, subst, sym}
use Rattle.fx_core.specs.declared.schema.TableShape.{TableShape}
use Rattle.app_moves.specs.Refusals.{rows_refusal}
use Rattle.std.proofs.lemmas.Result.{IfOk-weaker}
use Rattle.office.proofs.MoveReplies.{rows_fit_reply}
use Rattle.office.proofs.replacing.refuse_rows.Goals as goal

pub refuse-requires : goal.refuse-requires
refuse-requires c = rows_fit_reply c.as_slice-tables.result.now c.args.table c.args.broken c.in_ok-refusal.refusal c.in_ok-refusal.ensures

pub returns-clause-said : goal.returns-clause-said
returns-clause-said c =
    let is = subst (λ (l : List TableShape). Some c.in_ok-refusal.refusal ≡ rows_refusal l c.args.table c.args.broken) c.as_slice-tables.ensures c.in_ok-refusal.ensures in
    IfOk-weaker c.refuse.result _ _ (λ r said. (c.in_ok-refusal.refusal, sym is, said)) c.refuse.ensures.said
