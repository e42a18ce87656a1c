use Rattle.std.proofs.Common.{◌≡◌, ◌∙◌, ap, false, subst, sym, true}
use Rattle.sqlite.specs.Held.{state}
use Rattle.store_model.specs.Model.{Kept}
use Rattle.store_model.specs.Steady.{IsKept}
use Rattle.store_keeper.specs.Calls.{Begins}
use Rattle.store_keeper.specs.Kept.{kept}
use Rattle.store_keeper.proofs.EndCalls.{begins}
use Rattle.store_keeper.proofs.keeper.StoreKeeper.begin_changes.Goals as goal

pub invariant_of-self : goal.invariant_of-self
invariant_of-self g c =
    let k = c.self.inside in
    let idle : k.is_begun ≡ false = ap (λ (w : Kept g.row.S.Denot). w.is_begun) c.self.view_is ∙ c.requires in
    let was = subst (λ b. IsKept (state g.S.Store) (kept k.seat k.knows k.schema k.tables.items k.counts.items b k.visited k.faults)) idle c.self.invariant.kept in
    record { lawful = c.self.invariant.lawful; kept = (begins (state g.S.Store) k.seat k.knows k.schema k.tables.items k.counts.items k.visited k.faults was).0 }

pub returns : goal.returns
returns g c =
    let k = c.self.inside in
    let idle : k.is_begun ≡ false = ap (λ (w : Kept g.row.S.Denot). w.is_begun) c.self.view_is ∙ c.requires in
    let was = subst (λ b. IsKept (state g.S.Store) (kept k.seat k.knows k.schema k.tables.items k.counts.items b k.visited k.faults)) idle c.self.invariant.kept in
    let path = ap (λ b. kept k.seat k.knows k.schema k.tables.items k.counts.items b k.visited k.faults) (sym idle) ∙ c.self.view_is in
    subst (λ (w : Kept g.row.S.Denot). Begins (state g.S.Store) w (kept k.seat k.knows k.schema k.tables.items k.counts.items true k.visited k.faults)) path
    (begins (state g.S.Store) k.seat k.knows k.schema k.tables.items k.counts.items k.visited k.faults was).1
