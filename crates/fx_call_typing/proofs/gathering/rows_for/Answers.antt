use Rattle.std.proofs.Common.{◌≡◌, ◌∷◌, map, rules, Vec, Global}
use Rattle.std.proofs.lemmas.Result.{err_from_is_err_and}
use Rattle.fx_types.specs.Types.{Shape}
use Rattle.fx_types.specs.TypeView.{shape}
use Rattle.fx_typing.specs.Deeds.{given_variable, rows_collected, rows_given}
use Rattle.fx_typing.specs.declared.typed.Typed.{Typed}
use Rattle.fx_typing.specs.TypedView.{typed}
use Rattle.fx_node_typing.proofs.Walks.{Steps, walk, halts, after_first}
use Rattle.fx_call_typing.proofs.gathering.rows_for.Goals as goal

steps : (t : Shape) → Steps (rows_given t) (λ x. given_variable t (rows_collected x))
steps t x xs = after_first (given_variable t (rows_collected x)) (rows_given t xs)

pub loop-value-preserved : goal.loop-value-preserved
loop-value-preserved c =
    let t = shape c.args.ty.now in
    let s : c.loop-value.value-iterator.rest.items ≡ c.in-Some.value ∷ c.next.new.self.rest.items = search rules in
    walk (rows_given t) (λ x. given_variable t (rows_collected x)) (steps t) typed typed c.loop-value.rows.items _ c.in-Some.value c.in_ok-next.next _
    c.next.new.self.rest.items _ s c.in_ok-next.ensures c.in_ok-push.ensures.items c.loop-value.invariant

pub returns-in_err-next : goal.returns-in_err-next
returns-in_err-next c =
    let p = err_from_is_err_and c.from_residual.result c.from_residual.ensures.1 in
    let t = shape c.args.ty.now in
    let s : c.loop-value.value-iterator.rest.items ≡ c.in-Some.value ∷ c.next.new.self.rest.items = search rules in
    rw (p.1, p.2)
    (halts (rows_given t) (λ x. given_variable t (rows_collected x)) (steps t) typed typed (λ (x : Vec Typed Global). map typed x.items) c.loop-value.rows.items c.in-Some.value _
    c.next.new.self.rest.items _ c.in_err-next.field-0.0 s c.loop-value.invariant c.in_err-next.ensures)
