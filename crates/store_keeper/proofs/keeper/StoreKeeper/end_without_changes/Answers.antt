use Rattle.std.proofs.Common.{◌≡◌, ◌∙◌, ap, false, subst, sym, true}
use Rattle.sqlite.specs.Held.{state}
use Rattle.store_model.specs.Model.{Kept}
use Rattle.store_model.specs.Steady.{IsKept}
use Rattle.store_keeper.specs.Calls.{GoesBack}
use Rattle.store_keeper.specs.Kept.{kept}
use Rattle.store_keeper.proofs.EndCalls.{goes_back}
use Rattle.store_keeper.proofs.keeper.StoreKeeper.end_without_changes.Goals as goal

pub invariant_of-self : goal.invariant_of-self
invariant_of-self g c =
    let k = c.self.inside in
    let begun : k.is_begun ≡ true = ap (λ (w : Kept g.row.S.Denot). w.is_begun) c.self.view_is ∙ c.requires in
    let was = subst (λ b. IsKept (state g.S.Store) (kept k.seat k.knows k.schema k.tables.items k.counts.items b k.visited k.faults)) begun c.self.invariant.kept in
    record {
      lawful = c.self.invariant.lawful;
      kept = (goes_back (state g.S.Store) k.seat k.knows k.schema k.tables.items c.end_all.new.tables.items k.counts.items c.end_counts.new.counts.items k.visited k.faults c.end_all.ensures c.end_counts.ensures was).0;
    }

pub returns : goal.returns
returns g c =
    let k = c.self.inside in
    let begun : k.is_begun ≡ true = ap (λ (w : Kept g.row.S.Denot). w.is_begun) c.self.view_is ∙ c.requires in
    let was = subst (λ b. IsKept (state g.S.Store) (kept k.seat k.knows k.schema k.tables.items k.counts.items b k.visited k.faults)) begun c.self.invariant.kept in
    let path = ap (λ b. kept k.seat k.knows k.schema k.tables.items k.counts.items b k.visited k.faults) (sym begun) ∙ c.self.view_is in
    subst (λ (w : Kept g.row.S.Denot). GoesBack (state g.S.Store) w (kept k.seat k.knows k.schema c.end_all.new.tables.items c.end_counts.new.counts.items false k.visited k.faults)) path
    (goes_back (state g.S.Store) k.seat k.knows k.schema k.tables.items c.end_all.new.tables.items k.counts.items c.end_counts.new.counts.items k.visited k.faults c.end_all.ensures c.end_counts.ensures was).1
