use Rattle.std.proofs.Common.{◌≡◌, false, rules, sym}
use Rattle.number_bags.specs.Entries.{spread_now}
use Rattle.number_bags.specs.Rising.{times}
use Rattle.number_bags.proofs.RisingLemmas.{none_there, without_none}
use Rattle.number_bags.proofs.changes.take_one.Goals as goal

pub returns-then-not-is_counted-clause-now : goal.returns-then-not-is_counted-clause-now
returns-then-not-is_counted-clause-now c =
    let zs = spread_now c.args.counts.now.entries.entries in
    let out : c.is_counted.result ≡ false = search rules in
    sym (without_none c.args.number zs (none_there c.is_counted.result (times c.args.number zs) out c.is_counted.ensures.there))
