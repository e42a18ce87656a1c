use Rattle.std.proofs.Common.{All, List, arith, subst}
use Rattle.std.proofs.lemmas.List.{take_all}
use Rattle.std.proofs.lemmas.List.Elements.{All-more}
use Rattle.fx_types.specs.TypeView.{shape}
use Rattle.fx_semantics.specs.Sound.{IsLawfulType}
use Rattle.fx_core.specs.declared.names.Collection.{Collection}
use Rattle.app_loader.proofs.types.look_at_collections.Goals as goal

pub loop-collection-preserved : goal.loop-collection-preserved
loop-collection-preserved c =
    All-more (λ (x : Collection). IsLawfulType (shape x.ty)) c.args.collections.now c.loop-collection.collection-index c.collection-item.result c.loop-collection-test.true c.loop-collection.invariant
    (subst (λ (x : Collection). IsLawfulType (shape x.ty)) c.collection-item.is c.look_at_type.ensures)

pub returns : goal.returns
returns c =
    subst (λ (xs : List Collection). All (λ (x : Collection). IsLawfulType (shape x.ty)) xs) (take_all c.loop-collection.collection-index c.args.collections.now (omega arith)) c.loop-collection.invariant
