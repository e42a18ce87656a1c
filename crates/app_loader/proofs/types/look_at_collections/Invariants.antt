use Rattle.std.proofs.Common.{All, take}
use Rattle.fx_types.specs.TypeView.{shape}
use Rattle.fx_semantics.specs.Sound.{IsLawfulType}
use Rattle.fx_core.specs.declared.names.Collection.{Collection}
use Rattle.app_loader.proofs.types.look_at_collections.Given as goal

abbrev pub invariant-loop-collection : goal.invariant-loop-collection
invariant-loop-collection l = All (λ (x : Collection). IsLawfulType (shape x.ty)) (take l.collection-index l.collections)
