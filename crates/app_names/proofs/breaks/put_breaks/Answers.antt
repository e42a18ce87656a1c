use Rattle.std.proofs.Common.{◌≡◌, ◌++◌, ◌+◌, [], List, ap, drop, ◌∙◌}
use Rattle.app_names.specs.Declarations.{declared_of, new_behind, own_names}
use Rattle.app_names.specs.NameRules.{breaks_behind, name_break, put_break}
use Rattle.app_names.specs.Tops.{is_name_in_set}
use Rattle.app_names.specs.declared.declarations.Declared.{Declared}
use Rattle.app_names.proofs.BreakSteps.{breaks_step, grown}
use Rattle.app_names.proofs.breaks.put_breaks.Goals as goal

pub loop-cell-preserved : goal.loop-cell-preserved
loop-cell-preserved c =
    let fs = c.args.functions.now in
    let f = is_name_in_set c.args.given.now in
    let cs = c.args.cells.now in
    let i = c.loop-cell.cell-index in
    let n = c.cell-item.result in
    let given = is_name_in_set c.loop-cell.before in
    let things = c.loop-cell.things.items in
    let new = c.in_ok-new.new.items in
    let o = c.in_ok-broken.broken in
    let xs = c.loop-cell.invariant.0 in
    let fresh : new ≡ new_behind things (declared_of fs f n) =
    c.in_ok-new.ensures ∙ ap (λ (ds : List Declared). new_behind ds c.in_ok-declared.declared.items) c.deref.ensures.value ∙ ap (new_behind things) c.in_ok-declared.ensures in
    let broken : o ≡ name_break given things new n =
    c.in_ok-broken.ensures ∙ ap (λ (ds : List Declared). name_break given ds c.deref-in-loop-cell-2.result.now n) c.deref-in-loop-cell.ensures.value
    ∙ ap (λ (ds : List Declared). name_break given things ds n) c.deref-in-loop-cell-2.ensures.value in
    let step = breaks_step fs f xs cs things new i n o given c.loop-cell-test.true c.cell-item.is c.loop-cell.invariant.1 fresh broken in
    let parts = ap (λ (ds : List Declared). put_break o [] ++ breaks_behind fs f (xs ++ own_names n.spot) ds (drop (i + 1) cs)) c.in_ok-put_behind.ensures ∙ step in (
      xs ++ own_names n.spot,
      c.in_ok-put_own_name.ensures xs c.loop-cell.invariant.1,
      grown c.loop-cell.breaks.items c.put_break.new.breaks.items (put_break o []) _ c.args.breaks.now.items _ _ c.in_ok-put_break.ensures parts c.loop-cell.invariant.2,
    )
