use Rattle.std.proofs.Common.{◌≡◌, ◌+◌, ◌∷◌, suc, length, rules, arith, sym, ◌∙◌, ap, map, List, Vec, Global, length-append}
use Rattle.std.proofs.lemmas.Result.{err_from_is_err_and}
use Rattle.fx_types.specs.TypeView.{shape}
use Rattle.fx_typing.specs.declared.typed.Typed.{Typed}
use Rattle.fx_typing.specs.TypedView.{typed}
use Rattle.fx_node_typing.proofs.StandSteps.{next_stands, next_breaks, next}
use Rattle.fx_typing.proofs.Stops.{stops}
use Rattle.fx_node_typing.proofs.argument_scopes.stand_all.Goals as goal

pub returns-in_err-next : goal.returns-in_err-next
returns-in_err-next c =
    let p = err_from_is_err_and c.from_residual.result c.from_residual.ensures.1 in
    let i = c.loop-part.invariant in
    let s : c.loop-part.part-iterator.rest.items ≡ c.in-Some.part ∷ c.next.new.self.rest.items = search rules in
    let n : c.len-count.result ≡ length c.loop-part.done.items + suc (length c.next.new.self.rest.items) = rw s at i.count in
    let v = rw s at i.value in
    let slice = λ (d : List Typed). next c.args.row c.len-count.result (shape c.args.common.now) d c.in-Some.part in
    rw (p.1, p.2) (stops typed (λ (x : Vec Typed Global). map typed x.items) (slice c.as_slice.result.now) _ c.in_err-next.field-0.0
    (λ k h. sym v ∙ next_breaks c.args.row c.len-count.result (shape c.args.common.now) c.loop-part.done.items c.in-Some.part c.next.new.self.rest.items k n
    (ap slice (sym c.as_slice.ensures.value) ∙ h)) c.in_err-next.ensures)

pub loop-part-preserved : goal.loop-part-preserved
loop-part-preserved c =
    let i = c.loop-part.invariant in
    let s : c.loop-part.part-iterator.rest.items ≡ c.in-Some.part ∷ c.next.new.self.rest.items = search rules in
    let n : c.len-count.result ≡ length c.loop-part.done.items + suc (length c.next.new.self.rest.items) = rw s at i.count in
    let e = rw c.as_slice.ensures.value at c.in_ok-next.ensures in
    record {
      count = rw c.in_ok-push.ensures.items (simp length-append (omega (arith, n)));
      value =
          rw c.in_ok-push.ensures.items
          (next_stands c.args.row c.len-count.result (shape c.args.common.now) c.loop-part.done.items c.in-Some.part c.next.new.self.rest.items c.in_ok-next.next n e
          ∙ rw s at i.value);
    }
