use Rattle.std.proofs.Common.{◌≡◌, [], rules, subst}
use Rattle.app_texts.specs.Steps.{ArePutBehind}
use Rattle.app_texts.proofs.ReadSteps.{AreNamedOnward, named_end, named_step, no_items}
use Rattle.app_texts.proofs.reading.put_named.Goals as goal

pub loop-named-preserved : goal.loop-named-preserved
loop-named-preserved c =
    let f = c.args.frame.now in
    let all = c.args.all.items in
    let old = c.args.cells.now.items in
    let now = c.loop-named.cells.items in
    named_step f all c.next.new.self.rest.items c.in-Some.named old now c.push.new.self.items c.in_ok-named_cell.field-0
    (subst (λ xs. ArePutBehind (AreNamedOnward f all xs) old now) c.in-Some.ensures.steps.0 c.loop-named.invariant) c.in_ok-push.ensures.items c.in_ok-named_cell.ensures

pub returns : goal.returns
returns c =
    let f = c.args.frame.now in
    let all = c.args.all.items in
    let old = c.args.cells.now.items in
    let now = c.loop-named.cells.items in
    let none : c.loop-named.named-iterator.rest.items ≡ [] = no_items c.loop-named.named-iterator.rest.items c.loop-named.named-iterator.rest.len c.loop-named.named-iterator.rest.ok.0 c.in-None.ensures.steps.0 in
    named_end f all old now (subst (λ xs. ArePutBehind (AreNamedOnward f all xs) old now) none c.loop-named.invariant)
