use Rattle.std.proofs.Common.{◌≡◌, subst, sym}
use Rattle.std.proofs.lemmas.Result.{IfOk-weaker}
use Rattle.app_loader.specs.Supports.{IsJoined}
use Rattle.app_loader.proofs.Supporting.{all_done, nothing_done, one_done}
use Rattle.app_loader.proofs.supports.support_of.Goals as goal

pub with_behind-requires-clause-sources : goal.with_behind-requires-clause-sources
with_behind-requires-clause-sources c = c.loop-source.invariant.once

pub loop-source-init : goal.loop-source-init
loop-source-init c = nothing_done c.args.names.now c.args.reads.now c.args.supports.now c.in_ok-support.support.items c.requires.reads c.in_ok-support.ensures

pub loop-source-preserved : goal.loop-source-preserved
loop-source-preserved c =
    one_done c.args.names.now c.args.reads.now c.args.supports.now c.loop-source.support.items c.in_ok-support-2.support.items c.loop-source.source-index _ c.loop-source-test.true c.loop-source.invariant c.in_ok-support-2.ensures.once
    c.in_ok-support-2.ensures.exact

pub returns : goal.returns
returns c =
    IfOk-weaker c.in_order.result (λ l. l ≡ c.loop-source.support.items) (IsJoined c.args.names.now c.args.reads.now c.args.supports.now)
    (λ l e. subst (IsJoined c.args.names.now c.args.reads.now c.args.supports.now) (sym e)
    (all_done c.args.names.now c.args.reads.now c.args.supports.now c.loop-source.support.items c.loop-source.source-index c.loop-source-test.false c.loop-source.invariant))
    c.in_order.ensures
