use Rattle.std.proofs.Common.{◌≡◌, false, refl, rules, true}
use Rattle.number_bags.specs.Entries.{spread_now}
use Rattle.number_bags.proofs.KeptLemmas.{late_not, late_there}
use Rattle.number_bags.proofs.bags.NumberBag.has.Goals as goal

pub returns-then-is_late : goal.returns-then-is_late
returns-then-is_late c =
    let yes : c.is_late.result ≡ true = search rules in
    (λ e. late_there c.args.self.now.late c.args.number (spread_now c.args.self.now.counts.entries.entries) (c.is_late.ensures.0 yes), λ l. refl)

pub returns : goal.returns
returns c =
    let no : c.is_late.result ≡ false = search rules in
    late_not c.args.self.now.late c.args.number (spread_now c.args.self.now.counts.entries.entries) c.is_counted.result (λ e. let k = c.is_late.ensures.1 e in cc) c.is_counted.ensures.there
