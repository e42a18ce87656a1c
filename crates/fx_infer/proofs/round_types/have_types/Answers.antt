use Rattle.std.proofs.Common.{sym, ◌∙◌}
use Rattle.fx_infer.proofs.After.{ended}
use Rattle.fx_infer.proofs.round_types.have_types.Goals as goal

pub returns-then-is_empty : goal.returns-then-is_empty
returns-then-is_empty g c =
    c.is_empty-then-is_empty.ensures
    ∙ ended g.T.TypedName.type_of c.loop-things.types.now c.loop-things.things.now (sym c.is_empty.ensures ∙ c.if-is_empty.true)
    ∙ c.loop-things.invariant
