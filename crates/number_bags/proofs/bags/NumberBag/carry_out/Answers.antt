use Rattle.number_bags.specs.Entries.{spread_now, spread_then}
use Rattle.number_bags.proofs.KeptLemmas.{kept_carried}
use Rattle.number_bags.proofs.bags.NumberBag.carry_out.Goals as goal

pub invariant_of-self : goal.invariant_of-self
invariant_of-self c =
    let b = c.args.self.now in
    record {
      kept = kept_carried b.sums b.sums_then c.changed-self.result b.late b.late_then c.args.old c.args.new c.take-gone.result
          (spread_now b.counts.entries.entries) (spread_then b.counts.entries.entries) (spread_now c.take-gone.new.counts.entries.entries) (spread_then c.take-gone.new.counts.entries.entries)
          c.requires.free c.in_range.ensures c.take-gone.ensures.gone c.changed-self.ensures.count c.changed-self.ensures.sum c.take-gone.ensures.now c.take-gone.ensures.then b.kept;
    }
