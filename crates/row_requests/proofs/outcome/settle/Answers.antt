use Rattle.std.proofs.Common.{refl, subst, sym}
use Rattle.std.specs.Prelude.{IsSome}
use Rattle.row_keeper.specs.Shaped.{Shaped}
use Rattle.row_keeper.proofs.ShapeLemmas.{still_back, still_ended}
use Rattle.row_requests.proofs.outcome.settle.Goals as goal

pub commit-requires-clause-shaped : goal.commit-requires-clause-shaped
commit-requires-clause-shaped g c = subst (λ (o : Shaped). IsSome o.now) (sym c.requires.shaped.1) refl

pub returns-then-accepted-clause-shaped : goal.returns-then-accepted-clause-shaped
returns-then-accepted-clause-shaped g c = still_ended c.commit.result _ _ c.requires.shaped.0 c.requires.shaped.1 c.commit.ensures.shaped c.commit.ensures.err_shaped

pub returns-else-accepted-clause-shaped : goal.returns-else-accepted-clause-shaped
returns-else-accepted-clause-shaped g c = still_back _ _ c.requires.shaped.0 c.requires.shaped.1 c.back.ensures.shaped
