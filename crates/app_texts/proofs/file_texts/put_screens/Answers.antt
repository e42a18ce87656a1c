use Rattle.std.proofs.Common.{arith, length, ap}
use Rattle.app_texts.proofs.TextSteps.{within}
use Rattle.app_texts.proofs.file_texts.put_screens.Goals as goal

pub put_controls-requires : goal.put_controls-requires
put_controls-requires c =
    let w = within c.args.screens.now c.loop-screen.screen-index c.loop-screen.first c.screen-item.result c.loop-screen-test.true c.screen-item.is c.loop-screen.invariant.1 c.requires.few_controls in
    let e = ap length c.as_slice.ensures in
    omega (arith, w, e)

pub overflow_cast-first : goal.overflow_cast-first
overflow_cast-first c =
    let w = within c.args.screens.now c.loop-screen.screen-index c.loop-screen.first c.screen-item.result c.loop-screen-test.true c.screen-item.is c.loop-screen.invariant.1 c.requires.few_controls in
    let e = c.len.ensures in
    omega (arith, w, e)

pub overflow_add-first : goal.overflow_add-first
overflow_add-first c =
    let w = within c.args.screens.now c.loop-screen.screen-index c.loop-screen.first c.screen-item.result c.loop-screen-test.true c.screen-item.is c.loop-screen.invariant.1 c.requires.few_controls in
    let e = c.len.ensures in
    omega (arith, w, e)
