use Rattle.std.proofs.Common.{◌≡◌, ◌∷◌, map, rules, Vec, Global}
use Rattle.std.proofs.lemmas.Result.{err_from_is_err_and}
use Rattle.fx_typing.specs.Parts.{values}
use Rattle.fx_typing.specs.declared.typed.Typed.{Typed}
use Rattle.fx_typing.specs.TypedView.{typed}
use Rattle.fx_resolve.specs.PartView.{judged_part}
use Rattle.fx_node_typing.specs.Lists.{value_part}
use Rattle.fx_node_typing.proofs.Walks.{walk, halts, values_step}
use Rattle.fx_call_typing.proofs.values.values.Goals as goal

pub loop-one-preserved : goal.loop-one-preserved
loop-one-preserved c =
    let s : c.loop-one.one-iterator.rest.items ≡ c.in-Some.one ∷ c.next.new.self.rest.items = search rules in
    walk values value_part values_step judged_part typed c.loop-one.found.items _ c.in-Some.one c.in_ok-value.value _ c.next.new.self.rest.items _
    s c.in_ok-value.ensures c.in_ok-push.ensures.items c.loop-one.invariant

pub returns-in_err-value : goal.returns-in_err-value
returns-in_err-value c =
    let p = err_from_is_err_and c.from_residual.result c.from_residual.ensures.1 in
    let s : c.loop-one.one-iterator.rest.items ≡ c.in-Some.one ∷ c.next.new.self.rest.items = search rules in
    rw (p.1, p.2)
    (halts values value_part values_step judged_part typed (λ (x : Vec Typed Global). map typed x.items) c.loop-one.found.items c.in-Some.one _ c.next.new.self.rest.items _ c.in_err-value.field-0.0
    s c.loop-one.invariant c.in_err-value.ensures)
