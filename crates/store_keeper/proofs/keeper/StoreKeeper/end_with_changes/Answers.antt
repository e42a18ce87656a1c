use Rattle.std.proofs.Common.{◌≡◌, ◌∙◌, ap, false, subst, sym, true}
use Rattle.std.specs.Prelude.{IsSome}
use Rattle.sqlite.specs.Held.{state}
use Rattle.store_model.specs.Model.{Kept, shape_of}
use Rattle.store_model.specs.Steady.{IsKept}
use Rattle.store_keeper.specs.Calls.{Commits}
use Rattle.store_keeper.specs.Kept.{kept}
use Rattle.store_keeper.specs.Seats.{SeatWrites}
use Rattle.store_keeper.proofs.EndCalls.{commits}
use Rattle.store_keeper.proofs.keeper.StoreKeeper.end_with_changes.Goals as goal

pub invariant_of-self : goal.invariant_of-self
invariant_of-self g c =
    let k = c.self.inside in
    let r = c.write_seat-given.result in
    let f = c.count_fault.ensures in
    let a = c.has_answer-with_changes.ensures in
    let begun : k.is_begun ≡ true = ap (λ (w : Kept g.row.S.Denot). w.is_begun) c.self.view_is ∙ c.requires.begun in
    let there = subst (λ (w : Kept g.row.S.Denot). IsSome (shape_of w).now) (sym c.self.view_is) c.requires.shaped in
    let was = subst (λ b. IsKept (state g.S.Store) (kept k.seat k.knows k.schema k.tables.items k.counts.items b k.visited k.faults)) begun c.self.invariant.kept in
    let wrote = subst (λ cs. SeatWrites (state g.S.Store) k.seat c.write_seat-given.new.seat k.schema cs r) c.deref.ensures.value c.write_seat-given.ensures in
    record {
      lawful = c.self.invariant.lawful;
      kept = (commits (state g.S.Store) k.tables.items c.end_all.new.tables.items k.counts.items c.end_counts.new.counts.items k.knows c.count_fault.new.knows k.visited k.faults c.count_fault.new.faults
          c.has_answer-with_changes.result r f.knows f.silent f.later f.rose a.ok a.err c.end_all.ensures c.end_counts.ensures k.seat c.write_seat-given.new.seat k.schema wrote there was).0;
    }

pub returns : goal.returns
returns g c =
    let k = c.self.inside in
    let r = c.write_seat-given.result in
    let f = c.count_fault.ensures in
    let a = c.has_answer-with_changes.ensures in
    let begun : k.is_begun ≡ true = ap (λ (w : Kept g.row.S.Denot). w.is_begun) c.self.view_is ∙ c.requires.begun in
    let there = subst (λ (w : Kept g.row.S.Denot). IsSome (shape_of w).now) (sym c.self.view_is) c.requires.shaped in
    let was = subst (λ b. IsKept (state g.S.Store) (kept k.seat k.knows k.schema k.tables.items k.counts.items b k.visited k.faults)) begun c.self.invariant.kept in
    let wrote = subst (λ cs. SeatWrites (state g.S.Store) k.seat c.write_seat-given.new.seat k.schema cs r) c.deref.ensures.value c.write_seat-given.ensures in
    let path = ap (λ b. kept k.seat k.knows k.schema k.tables.items k.counts.items b k.visited k.faults) (sym begun) ∙ c.self.view_is in
    subst (λ (w : Kept g.row.S.Denot). Commits (state g.S.Store) w (kept c.write_seat-given.new.seat c.count_fault.new.knows k.schema c.end_all.new.tables.items c.end_counts.new.counts.items false k.visited c.count_fault.new.faults) r) path
    (commits (state g.S.Store) k.tables.items c.end_all.new.tables.items k.counts.items c.end_counts.new.counts.items k.knows c.count_fault.new.knows k.visited k.faults c.count_fault.new.faults
    c.has_answer-with_changes.result r f.knows f.silent f.later f.rose a.ok a.err c.end_all.ensures c.end_counts.ensures k.seat c.write_seat-given.new.seat k.schema wrote there was).1
