use Rattle.std.proofs.Common.{sym, ap, ◌∙◌, reverse}
use Rattle.fx_parser.specs.Machine.{top, with_stack, ends}
use Rattle.fx_parser.proofs.Runs.{taken, stops, whole_run, ends_open}
use Rattle.fx_parser.proofs.recognize.recognize.Goals as goal

pub returns-in_default : goal.returns-in_default
returns-in_default c =
    let t = taken c.args.whole c.args.start c.args.items.now c.loop-i.i c.index-items-i.result c.loop-i.state (reverse c.loop-i.opened.items) c.innermost_of-innermost.result c.turn_at-turn.result c.loop-i.invariant c.loop-i-test.true c.index-items-i.is (c.innermost_of-innermost.ensures ∙ ap (λ fs. top (reverse fs)) c.as_slice.ensures.value) c.turn_at-turn.ensures in
    stops c.args.whole c.args.start c.args.items.now c.loop-i.i (c.loop-i.state, reverse c.loop-i.opened.items) c.loop-i-test.true c.loop-i.invariant (t ∙ sym (c.in_ok-next.ensures {u = tt}) ∙ ap (λ o. with_stack o (reverse c.perform.new.opened.items)) c.in_default.is)

pub loop-i-preserved : goal.loop-i-preserved
loop-i-preserved c =
    let t = taken c.args.whole c.args.start c.args.items.now c.loop-i.i c.index-items-i.result c.loop-i.state (reverse c.loop-i.opened.items) c.innermost_of-innermost.result c.turn_at-turn.result c.loop-i.invariant c.loop-i-test.true c.index-items-i.is (c.innermost_of-innermost.ensures ∙ ap (λ fs. top (reverse fs)) c.as_slice.ensures.value) c.turn_at-turn.ensures in
    t ∙ sym (c.in_ok-next.ensures {u = tt}) ∙ ap (λ o. with_stack o (reverse c.perform.new.opened.items)) c.in-Some.is

pub returns : goal.returns
returns c = ends_open _ _ _ (c.loop-i.state, reverse c.loop-i.opened.items) (whole_run _ _ _ _ _ c.loop-i.invariant c.loop-i-test.false c.loop-i.auto.i-end) (ap (λ fs. ends c.args.whole c.loop-i.state (reverse fs)) (sym c.as_slice-2.ensures.value) ∙ sym c.may_end.ensures ∙ c.if-may_end.false)
