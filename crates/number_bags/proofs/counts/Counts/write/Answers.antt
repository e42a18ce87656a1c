use Rattle.std.proofs.Common.{ℤ, sym}
use Rattle.number_bags.proofs.CountLemmas.{written_now, written_then, some_stays, stand_written}
use Rattle.number_bags.proofs.counts.Counts.write.Goals as goal

pub returns-in-Some-clause-now : goal.returns-in-Some-clause-now
returns-in-Some-clause-now c q =
    written_now _ _ c.args.number.now c.in-Some.count.now c.args.is q (((c.get_mut.follows.holds (record { was = c.in-Some.count.now.was; is = c.args.is })).3 c.requires.1).0 q)

pub returns-in-Some-clause-then : goal.returns-in-Some-clause-then
returns-in-Some-clause-then c q =
    written_then _ _ c.args.number.now c.in-Some.count.now c.args.is (sym c.in-Some.ensures.value) q (((c.get_mut.follows.holds (record { was = c.in-Some.count.now.was; is = c.args.is })).3 c.requires.1).0 q)

pub returns-in-Some-clause-room : goal.returns-in-Some-clause-room
returns-in-Some-clause-room c q there =
    (there.0, some_stays _ _ _ _ (((c.get_mut.follows.holds (record { was = c.in-Some.count.now.was; is = c.args.is })).3 c.requires.1).0 q) there.1)

pub invariant_of-self : goal.invariant_of-self
invariant_of-self c =
    let there = λ (q : ℤ). ((c.get_mut.follows.holds (record { was = c.in-Some.count.now.was; is = c.args.is })).3 c.requires.1).0 q in
    record {
      kept = stand_written c.args.self.now.touched.items c.args.self.now.entries.entries _ c.args.number.now c.args.is c.requires.0 c.args.self.now.kept
          (λ q. written_now _ _ c.args.number.now c.in-Some.count.now c.args.is q (there q))
          (λ q. written_then _ _ c.args.number.now c.in-Some.count.now c.args.is (sym c.in-Some.ensures.value) q (there q));
    }
