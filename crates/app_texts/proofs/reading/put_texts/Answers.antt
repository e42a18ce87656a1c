use Rattle.std.proofs.Common.{◌≡◌, [], All, rules, subst, sym}
use Rattle.std.proofs.lemmas.List.Elements.{All-tail}
use Rattle.app_texts.specs.Steps.{IsPutBehind, IsReadable}
use Rattle.app_texts.proofs.ReadSteps.{AreReadOnward, no_items, texts_begin, texts_end, texts_step}
use Rattle.app_texts.proofs.reading.put_texts.Goals as goal

pub loop-text-init : goal.loop-text-init
loop-text-init c =
    let f = c.args.frame.now in
    let all = c.args.texts.items in
    let cs = c.args.cells.now.items in
    let bs = c.args.breaks.now.items in
    let e : c.into_iter-text-iterator.result.rest.items ≡ all = search rules in (
      subst (All (IsReadable f)) (sym e) c.requires,
      subst (λ xs. IsPutBehind (AreReadOnward f all xs) cs cs bs bs) (sym e) (texts_begin f all cs bs),
    )

pub loop-text-preserved : goal.loop-text-preserved
loop-text-preserved c =
    let f = c.args.frame.now in
    let all = c.args.texts.items in
    let old = c.args.cells.now.items in
    let former = c.args.breaks.now.items in
    let now = c.loop-text.cells.items in
    let here = c.loop-text.breaks.items in
    let rest = c.next.new.self.rest.items in
    let t = c.in-Some.text in (
      All-tail (IsReadable f) t rest (subst (All (IsReadable f)) c.in-Some.ensures.steps.0 c.loop-text.invariant.0),
      texts_step f all rest t old now c.put_text.new.cells.items former here c.put_text.new.breaks.items
          (subst (λ xs. IsPutBehind (AreReadOnward f all xs) old now former here) c.in-Some.ensures.steps.0 c.loop-text.invariant.1) c.in_ok-put_text.ensures,
    )

pub returns : goal.returns
returns c =
    let f = c.args.frame.now in
    let all = c.args.texts.items in
    let old = c.args.cells.now.items in
    let former = c.args.breaks.now.items in
    let now = c.loop-text.cells.items in
    let here = c.loop-text.breaks.items in
    let none : c.loop-text.text-iterator.rest.items ≡ [] = no_items c.loop-text.text-iterator.rest.items c.loop-text.text-iterator.rest.len c.loop-text.text-iterator.rest.ok.0 c.in-None.ensures.steps.0 in
    texts_end f all old now former here (subst (λ xs. IsPutBehind (AreReadOnward f all xs) old now former here) none c.loop-text.invariant.1)
