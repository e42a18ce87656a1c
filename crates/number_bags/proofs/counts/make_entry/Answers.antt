use Rattle.std.proofs.Common.{refl}
use Rattle.number_bags.specs.Entries.{is_now, was_then}
use Rattle.number_bags.proofs.CountLemmas.{room_made, none_there, some_stays}
use Rattle.number_bags.proofs.counts.make_entry.Goals as goal

pub returns-clause-now : goal.returns-clause-now
returns-clause-now c q =
    room_made is_now (record { was = 0; is = 0 }) refl refl c.args.entries.now.entries _ c.args.number.now
    (none_there _ c.if-contains_key.ensures) q (c.in_ok-insert.ensures.updates.0 q)

pub returns-clause-then : goal.returns-clause-then
returns-clause-then c q =
    room_made was_then (record { was = 0; is = 0 }) refl refl c.args.entries.now.entries _ c.args.number.now
    (none_there _ c.if-contains_key.ensures) q (c.in_ok-insert.ensures.updates.0 q)

pub returns-clause-more : goal.returns-clause-more
returns-clause-more c q there = some_stays _ _ _ _ (c.in_ok-insert.ensures.updates.0 q) there
