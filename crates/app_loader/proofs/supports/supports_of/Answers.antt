use Rattle.std.proofs.Common.{◌≡◌, List, Some, get_or, length, slice_get, ap, refl, subst, sym, ◌∙◌, arith}
use Rattle.std.proofs.lemmas.Option.{slice_get_read}
use Rattle.app_cells.specs.declared.app.CellInfo.{CellInfo}
use Rattle.app_cells.specs.Leaning.{edges_of}
use Rattle.fx_core.specs.Reads.{AreSourcesRising}
use Rattle.fx_core.specs.declared.sources.Source.{Source}
use Rattle.app_loader.specs.Supports.{AllRise, IsJoined}
use Rattle.app_loader.proofs.Supporting.{all_told, none_told, numbered, one_told}
use Rattle.app_loader.proofs.supports.supports_of.Goals as goal

pub bounds-infos-place : goal.bounds-infos-place
bounds-infos-place c = numbered (length c.args.infos.now) c.loop-number.number-index (edges_of c.args.names.now c.args.infos.now) c.args.order.now c.requires.order c.loop-number-test.true

pub index_mut-requires : goal.index_mut-requires
index_mut-requires c =
    let low = numbered (length c.args.infos.now) c.loop-number.number-index (edges_of c.args.names.now c.args.infos.now) c.args.order.now c.requires.order c.loop-number-test.true in
    let many = c.loop-number.invariant.many in
    omega (arith, low, many)

pub support_of-requires-clause-reads : goal.support_of-requires-clause-reads
support_of-requires-clause-reads c =
    let k = get_or c.args.order.now c.loop-number.number-index 0 in
    let low = numbered (length c.args.infos.now) c.loop-number.number-index (edges_of c.args.names.now c.args.infos.now) c.args.order.now c.requires.order c.loop-number-test.true in
    let there : slice_get c.args.infos.now k ≡ Some c.index-infos-place.result = slice_get_read c.args.infos.now (length c.args.infos.now) k c.index-infos-place.result refl low c.index-infos-place.is in
    subst AreSourcesRising (ap (λ (i : CellInfo). i.reads) c.index-infos-place.is ∙ sym c.as_slice.ensures) (c.requires.reads k c.index-infos-place.result there)

pub support_of-requires-clause-supports : goal.support_of-requires-clause-supports
support_of-requires-clause-supports c = subst AllRise (sym c.deref.ensures.value) c.loop-number.invariant.rising

pub loop-number-init : goal.loop-number-init
loop-number-init c = none_told c.args.names.now c.args.infos.now c.args.order.now c.in_ok-supports.supports.items (length c.args.infos.now) refl c.in_ok-supports.ensures

pub loop-number-preserved : goal.loop-number-preserved
loop-number-preserved c =
    let k = get_or c.args.order.now c.loop-number.number-index 0 in
    let low = numbered (length c.args.infos.now) c.loop-number.number-index (edges_of c.args.names.now c.args.infos.now) c.args.order.now c.requires.order c.loop-number-test.true in
    let there : slice_get c.args.infos.now k ≡ Some c.index-infos-place.result = slice_get_read c.args.infos.now (length c.args.infos.now) k c.index-infos-place.result refl low c.index-infos-place.is in
    let joined : IsJoined c.args.names.now c.index-infos-place.result.reads c.loop-number.supports.items c.in_ok-support.support =
    subst (λ (reads : List Source). IsJoined c.args.names.now reads c.loop-number.supports.items c.in_ok-support.support) (c.as_slice.ensures ∙ sym (ap (λ (i : CellInfo). i.reads) c.index-infos-place.is))
    (subst (λ (supports : List (List Source)). IsJoined c.args.names.now c.as_slice.result.now supports c.in_ok-support.support) c.deref.ensures.value c.in_ok-support.ensures) in
    one_told c.args.names.now c.args.infos.now c.args.order.now c.requires.order c.loop-number.number-index k c.index-infos-place.result c.loop-number-test.true refl there c.loop-number.supports.items c.loop-number.invariant _ c.in_ok-support.support
    joined refl

pub returns : goal.returns
returns c = all_told c.args.names.now c.args.infos.now c.args.order.now c.loop-number.number-index c.loop-number.supports.items c.requires.order c.loop-number-test.false c.loop-number.invariant
