use Rattle.std.proofs.Common.{◌≡◌, ◌∙◌, List, None, Some, ap, map, subst, sym}
use Rattle.fx_typing.specs.Calls.{made_if}
use Rattle.fx_typing.specs.Parts.{pieces, values}
use Rattle.fx_typing.specs.Typing.{paired_by}
use Rattle.fx_typing.specs.Answers.{IsAnswerOf}
use Rattle.fx_typing.specs.TypedView.{typed}
use Rattle.fx_resolve.specs.PartView.{judged_part}
use Rattle.fx_resolve.specs.declared.parts.Part.{Part}
use Rattle.fx_core.specs.ColumnLists.{and_then}
use Rattle.fx_typing.specs.Local.{node_made}
use Rattle.fx_node_typing.proofs.Exits.{as_same}
use Rattle.fx_infer.specs.Operands.{operator_of}
use Rattle.fx_infer.proofs.Admits.{paired_is}
use Rattle.fx_infer.proofs.admitting.pair.Goals as goal

pub returns-in_ok-pieces-in-Some : goal.returns-in_ok-pieces-in-Some
returns-in_ok-pieces-in-Some c =
    let o = c.args.op in
    let qs = map judged_part c.args.all.items in
    let f = c.in-Some.fun in
    let e : operator_of o qs ≡ Some f =
    ap (λ (ys : List Part). operator_of o (map judged_part ys)) (sym c.deref.ensures.value) ∙ sym c.operator_of.ensures ∙ c.in-Some.is in
    as_same typed (and_then (values qs) (λ xs. paired_by o xs (pieces qs))) (node_made f (pieces qs)) c.make.result
    (sym (paired_is o qs (pieces qs)) ∙ ap (λ g. made_if g (pieces qs)) e)
    (subst (λ ps. IsAnswerOf typed (node_made f ps) c.make.result) c.in_ok-pieces-in-Some.ensures c.make.ensures)

pub returns-in-None : goal.returns-in-None
returns-in-None c =
    let o = c.args.op in
    let qs = map judged_part c.args.all.items in
    let e : operator_of o qs ≡ None =
    ap (λ (ys : List Part). operator_of o (map judged_part ys)) (sym c.deref.ensures.value) ∙ sym c.operator_of.ensures ∙ c.in-None.is in
    sym (paired_is o qs (pieces qs)) ∙ ap (λ g. made_if g (pieces qs)) e
