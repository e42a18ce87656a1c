use Rattle.std.proofs.Common.{◌∷◌, [], ap, refl, sym, ◌∙◌}
use Rattle.fx_core.specs.declared.deeds.Deed.TheVariants as deed
use Rattle.fx_deeds.proofs.Doing.{can_as, deed_is, none_cleared, none_reset, none_shown, one_filter, one_given, one_text, truth}
use Rattle.fx_deeds.proofs.acts.do_deed.Goals as goal

pub only-requires : goal.only-requires
only-requires g c = one_given (g.W.Env.fixed c.args.world.now).types c.in-Set.variable c.args.values.items (can_as (g.W.Env.fixed c.args.world.now).types c.args.deed.now (deed.Set c.in-Set.variable) c.args.values.items c.args.values.items c.in-Set.is refl c.requires)

pub set-requires : goal.set-requires
set-requires g c = can_as (g.W.Env.fixed c.args.world.now).types c.args.deed.now (deed.Set c.in-Set.variable) c.args.values.items (c.only.result ∷ []) c.in-Set.is c.only.ensures c.requires

pub returns-in-Set : goal.returns-in-Set
returns-in-Set g c =
    deed_is _ _ c.set.result c.args.deed.now (deed.Set c.in-Set.variable) c.args.values.items (c.only.result ∷ []) c.in-Set.is c.only.ensures
    (record { attempt = c.set.ensures.attempt; keeper = c.set.ensures.keeper; done = c.set.ensures.done; cut = c.set.ensures.cut; fits = truth c.set.result c.set.ensures.fits })

pub set_all-requires : goal.set_all-requires
set_all-requires g c = can_as (g.W.Env.fixed c.args.world.now).types c.args.deed.now (deed.UpdateContext c.as_slice.result.now) c.args.values.items c.as_slice-in-UpdateContext.result.now (c.in-UpdateContext.is ∙ ap deed.UpdateContext (sym c.as_slice.ensures)) (sym c.as_slice-in-UpdateContext.ensures.value) c.requires

pub returns-in-UpdateContext : goal.returns-in-UpdateContext
returns-in-UpdateContext g c =
    deed_is _ _ c.set_all.result c.args.deed.now (deed.UpdateContext c.as_slice.result.now) c.args.values.items c.as_slice-in-UpdateContext.result.now (c.in-UpdateContext.is ∙ ap deed.UpdateContext (sym c.as_slice.ensures)) (sym c.as_slice-in-UpdateContext.ensures.value)
    (record { attempt = c.set_all.ensures.attempt; keeper = c.set_all.ensures.keeper; done = c.set_all.ensures.done; cut = c.set_all.ensures.cut; fits = truth c.set_all.result c.set_all.ensures.fits })

pub collect-requires : goal.collect-requires
collect-requires g c = can_as (g.W.Env.fixed c.args.world.now).types c.args.deed.now (deed.Collect c.in-Collect.collection) c.args.values.items c.as_slice-in-Collect.result.now c.in-Collect.is (sym c.as_slice-in-Collect.ensures.value) c.requires

pub returns-in-Collect : goal.returns-in-Collect
returns-in-Collect g c =
    deed_is _ _ c.collect.result c.args.deed.now (deed.Collect c.in-Collect.collection) c.args.values.items c.as_slice-in-Collect.result.now c.in-Collect.is (sym c.as_slice-in-Collect.ensures.value)
    (record { attempt = c.collect.ensures.attempt; keeper = c.collect.ensures.keeper; done = c.collect.ensures.done; cut = c.collect.ensures.cut; fits = truth c.collect.result c.collect.ensures.fits })

pub clear-requires : goal.clear-requires
clear-requires g c = can_as (g.W.Env.fixed c.args.world.now).types c.args.deed.now (deed.Clear c.in-Clear.collection) c.args.values.items [] c.in-Clear.is (none_cleared (g.W.Env.fixed c.args.world.now).types c.in-Clear.collection c.args.values.items (can_as (g.W.Env.fixed c.args.world.now).types c.args.deed.now (deed.Clear c.in-Clear.collection) c.args.values.items c.args.values.items c.in-Clear.is refl c.requires)) c.requires

pub returns-in-Clear : goal.returns-in-Clear
returns-in-Clear g c =
    deed_is _ _ c.clear.result c.args.deed.now (deed.Clear c.in-Clear.collection) c.args.values.items [] c.in-Clear.is (none_cleared (g.W.Env.fixed c.args.world.now).types c.in-Clear.collection c.args.values.items (can_as (g.W.Env.fixed c.args.world.now).types c.args.deed.now (deed.Clear c.in-Clear.collection) c.args.values.items c.args.values.items c.in-Clear.is refl c.requires))
    (record { attempt = c.clear.ensures.attempt; keeper = c.clear.ensures.keeper; done = c.clear.ensures.done; cut = c.clear.ensures.cut; fits = truth c.clear.result c.clear.ensures.fits })

pub clear_collect-requires : goal.clear_collect-requires
clear_collect-requires g c = can_as (g.W.Env.fixed c.args.world.now).types c.args.deed.now (deed.ClearCollect c.in-ClearCollect.collection) c.args.values.items c.as_slice-in-ClearCollect.result.now c.in-ClearCollect.is (sym c.as_slice-in-ClearCollect.ensures.value) c.requires

pub returns-in-ClearCollect : goal.returns-in-ClearCollect
returns-in-ClearCollect g c =
    deed_is _ _ c.clear_collect.result c.args.deed.now (deed.ClearCollect c.in-ClearCollect.collection) c.args.values.items c.as_slice-in-ClearCollect.result.now c.in-ClearCollect.is (sym c.as_slice-in-ClearCollect.ensures.value)
    (record { attempt = c.clear_collect.ensures.attempt; keeper = c.clear_collect.ensures.keeper; done = c.clear_collect.ensures.done; cut = c.clear_collect.ensures.cut; fits = truth c.clear_collect.result c.clear_collect.ensures.fits })

pub patch-requires : goal.patch-requires
patch-requires g c = can_as (g.W.Env.fixed c.args.world.now).types c.args.deed.now (deed.Patch c.in-Patch.target) c.args.values.items c.as_slice-in-Patch.result.now c.in-Patch.is (sym c.as_slice-in-Patch.ensures.value) c.requires

pub returns-in-Patch : goal.returns-in-Patch
returns-in-Patch g c =
    deed_is _ _ c.patch.result c.args.deed.now (deed.Patch c.in-Patch.target) c.args.values.items c.as_slice-in-Patch.result.now c.in-Patch.is (sym c.as_slice-in-Patch.ensures.value)
    (record { attempt = c.patch.ensures.attempt; keeper = c.patch.ensures.keeper; done = c.patch.ensures.done; cut = c.patch.ensures.cut; fits = c.patch.ensures.fits })

pub remove-requires : goal.remove-requires
remove-requires g c = can_as (g.W.Env.fixed c.args.world.now).types c.args.deed.now (deed.Remove c.in-Remove.target) c.args.values.items c.as_slice-in-Remove.result.now c.in-Remove.is (sym c.as_slice-in-Remove.ensures.value) c.requires

pub returns-in-Remove : goal.returns-in-Remove
returns-in-Remove g c =
    deed_is _ _ c.remove.result c.args.deed.now (deed.Remove c.in-Remove.target) c.args.values.items c.as_slice-in-Remove.result.now c.in-Remove.is (sym c.as_slice-in-Remove.ensures.value)
    (record { attempt = c.remove.ensures.attempt; keeper = c.remove.ensures.keeper; done = c.remove.ensures.done; cut = c.remove.ensures.cut; fits = truth c.remove.result c.remove.ensures.fits })

pub only-requires-in-RemoveIf : goal.only-requires-in-RemoveIf
only-requires-in-RemoveIf g c = one_filter (g.W.Env.fixed c.args.world.now).types c.in-RemoveIf.target c.args.values.items (can_as (g.W.Env.fixed c.args.world.now).types c.args.deed.now (deed.RemoveIf c.in-RemoveIf.target) c.args.values.items c.args.values.items c.in-RemoveIf.is refl c.requires)

pub remove_if-requires : goal.remove_if-requires
remove_if-requires g c = can_as (g.W.Env.fixed c.args.world.now).types c.args.deed.now (deed.RemoveIf c.in-RemoveIf.target) c.args.values.items (c.only-in-RemoveIf.result ∷ []) c.in-RemoveIf.is c.only-in-RemoveIf.ensures c.requires

pub returns-in-RemoveIf : goal.returns-in-RemoveIf
returns-in-RemoveIf g c =
    deed_is _ _ c.remove_if.result c.args.deed.now (deed.RemoveIf c.in-RemoveIf.target) c.args.values.items (c.only-in-RemoveIf.result ∷ []) c.in-RemoveIf.is c.only-in-RemoveIf.ensures
    (record { attempt = c.remove_if.ensures.attempt; keeper = c.remove_if.ensures.keeper; done = c.remove_if.ensures.done; cut = c.remove_if.ensures.cut; fits = truth c.remove_if.result c.remove_if.ensures.fits })

pub unreachable-requires : goal.unreachable-requires
unreachable-requires g c = absurd (can_as (g.W.Env.fixed c.args.world.now).types c.args.deed.now _ c.args.values.items c.args.values.items c.in-UpdateIf.is refl c.requires)

pub returns-in-Navigate : goal.returns-in-Navigate
returns-in-Navigate g c =
    deed_is _ _ c.navigate.result c.args.deed.now (deed.Navigate c.in-Navigate.screen) c.args.values.items [] c.in-Navigate.is (none_shown (g.W.Env.fixed c.args.world.now).types c.in-Navigate.screen c.args.values.items (can_as (g.W.Env.fixed c.args.world.now).types c.args.deed.now (deed.Navigate c.in-Navigate.screen) c.args.values.items c.args.values.items c.in-Navigate.is refl c.requires))
    (record { attempt = c.navigate.ensures.attempt; keeper = c.navigate.ensures.keeper; done = c.navigate.ensures.done; cut = c.navigate.ensures.cut; fits = truth c.navigate.result c.navigate.ensures.fits })

pub only-requires-in-Notify : goal.only-requires-in-Notify
only-requires-in-Notify g c = one_text (g.W.Env.fixed c.args.world.now).types c.args.values.items (can_as (g.W.Env.fixed c.args.world.now).types c.args.deed.now deed.Notify c.args.values.items c.args.values.items c.in-Notify.is refl c.requires)

pub returns-in-Notify : goal.returns-in-Notify
returns-in-Notify g c =
    deed_is _ _ c.notify.result c.args.deed.now deed.Notify c.args.values.items (c.only-in-Notify.result ∷ []) c.in-Notify.is c.only-in-Notify.ensures
    (record { attempt = c.notify.ensures.attempt; keeper = c.notify.ensures.keeper; done = c.notify.ensures.done; cut = c.notify.ensures.cut; fits = truth c.notify.result c.notify.ensures.fits })

pub reset-requires : goal.reset-requires
reset-requires g c = can_as (g.W.Env.fixed c.args.world.now).types c.args.deed.now (deed.Reset c.in-Reset.control) c.args.values.items [] c.in-Reset.is (none_reset (g.W.Env.fixed c.args.world.now).types c.in-Reset.control c.args.values.items (can_as (g.W.Env.fixed c.args.world.now).types c.args.deed.now (deed.Reset c.in-Reset.control) c.args.values.items c.args.values.items c.in-Reset.is refl c.requires)) c.requires

pub returns-in-Reset : goal.returns-in-Reset
returns-in-Reset g c =
    deed_is _ _ c.reset.result c.args.deed.now (deed.Reset c.in-Reset.control) c.args.values.items [] c.in-Reset.is (none_reset (g.W.Env.fixed c.args.world.now).types c.in-Reset.control c.args.values.items (can_as (g.W.Env.fixed c.args.world.now).types c.args.deed.now (deed.Reset c.in-Reset.control) c.args.values.items c.args.values.items c.in-Reset.is refl c.requires))
    (record { attempt = c.reset.ensures.attempt; keeper = c.reset.ensures.keeper; done = c.reset.ensures.done; cut = c.reset.ensures.cut; fits = truth c.reset.result c.reset.ensures.fits })
