use Rattle.std.proofs.Common.{map, Vec, Global}
use Rattle.fx_core.specs.declared.sources.Source.{Source}
use Rattle.fx_typing.specs.Deeds.{give_all}
use Rattle.fx_typing.specs.TypedView.{typed}
use Rattle.fx_core.specs.declared.trees.Core.{Core}
use Rattle.fx_call_typing.proofs.Gives.{Gives}
use Rattle.fx_call_typing.proofs.variables.give_all.Given as goal

abbrev pub invariant-loop-name : goal.invariant-loop-name
invariant-loop-name l =
    Gives l.names l.screen (λ (gs : Vec (Source × Core) Global). gs.items) l.given l.name-iterator.rest.items (map typed l.left.rest.items)
    (give_all l.names l.screen l.fn.variables.items (map typed l.fn.values.items))
